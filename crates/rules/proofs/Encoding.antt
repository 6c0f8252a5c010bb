-- The bytes of lists that pass 3 and 4: the reader finds in them what the lists say, and judges them as the lists are judged.
use mathlib.Core.Path.{◌≡◌, refl, ap, sym, ◌∙◌}
use mathlib.Core.Bool.{Bool, true, false, cond, ◌&&◌}
use mathlib.Core.List.{List, [], ◌∷◌, ◌++◌, map}
use Prim.Native.Nat.{ℕ, zero, suc, ◌+◌, ◌*◌, ◌/◌, ◌%◌, ◌^◌, ◌≤◌}
use native.Mathlib.Omega.{arith}
use lib.Dec.{eqb, leb}
use lib.ListN.{length, get_or, take, drop, length-append, length-drop, take-append-drop}
use lib.Seq.{take_at, drop_at}
use borrow.Author.Tests.{eqb-true, eq-eqb, leb-true, le-leb}
use Rattle.facts.specs.Tests.{all_of, and_left, and_right, and_both}
use Rattle.backup.specs.Limits.{pc_most}
use Rattle.rules.specs.Sizes.{table_most, with_limits, limit_bytes, record_head}
use Rattle.rules.specs.Bytes.{byte_at, number16, sixes, all_bytes}
use Rattle.rules.specs.Format.{version_in, pairs, record_bytes, program_length, rests, instruction, limit_said, placement_in, decode_table, or_number, length_ok, version_ok, counts_fit, counts_ok, records_ok, extent_ok, table_number, validate_table}
use Rattle.rules.specs.Encode.{Lists, threes, length_given, placed_by, table_of, program_bytes, if_limits, records_for, body_of, encode, program_lengths, total, lists_ok, validate_lists, program_in, placements_in, limits_in, instructions_in, apart, ReadsAs}
use Rattle.rules.proofs.Valid.{test_passed, further-passed, counts-fit}
use Rattle.rules.proofs.ReadBack.{word_back}

-- ---- numbers 5 to 8 and 47, where those before them pass

passed4 : (a b c d : Bool) (n : ℕ) → a ≡ true → b ≡ true → c ≡ true → d ≡ true → or_number a 1 (or_number b 2 (or_number c 3 (or_number d 4 n))) ≡ n
passed4 a b c d n ha hb hc hd = rw (ha, hb, hc, hd)

pub table-number : (bytes : List ℕ) → length_ok bytes ≡ true → version_ok (version_in bytes) ≡ true → counts_ok bytes ≡ true → extent_ok bytes ≡ true
    → validate_table bytes ≡ table_number (decode_table bytes)
unfolding validate_table
table-number bytes = passed4 (length_ok bytes) (version_ok (version_in bytes)) (counts_ok bytes) (extent_ok bytes) (table_number (decode_table bytes))

passed3 : (b c d : Bool) (n : ℕ) → b ≡ true → c ≡ true → d ≡ true → or_number b 2 (or_number c 3 (or_number d 4 n)) ≡ n
passed3 b c d n hb hc hd = rw (hb, hc, hd)

pub lists_number : (l : Lists) → version_ok l.version ≡ true → counts_fit l.boards l.processes l.channels ≡ true → lists_ok l ≡ true
    → validate_lists l ≡ table_number (table_of l)
unfolding validate_lists
lists_number l = passed3 (version_ok l.version) (counts_fit l.boards l.processes l.channels) (lists_ok l) (table_number (table_of l))

-- ---- one record

pub length-program_bytes : (n : ℕ) (l : List ℕ) → length (program_bytes n l) ≡ 6 * n
length-program_bytes zero l = refl
length-program_bytes (suc n) l = let h = length-program_bytes n (drop 3 l) in omega arith

-- six bytes hold the three numbers, whatever follows
sixes-program_bytes : {A : Type 0} (make : ℕ → ℕ → ℕ → A) (n : ℕ) (l tail : List ℕ) → sixes make n (program_bytes n l ++ tail) ≡ threes make n l
sixes-program_bytes make zero l tail = refl
sixes-program_bytes make (suc n) l tail = rw (word_back (get_or l 2 0), sixes-program_bytes make n (drop 3 l) tail)

-- boards, the limit where the version has it, n and a program, and what follows the record
abbrev recorded : (version primary standby limit n : ℕ) (program tail : List ℕ) → List ℕ
recorded version primary standby limit n program tail = primary ∷ standby ∷ if_limits version limit ++ (n ∷ program_bytes n program ++ tail)

-- what the reader finds there
record Recorded (version primary standby limit n : ℕ) (program tail : List ℕ) : Type 0 where
  length-is : program_length version (recorded version primary standby limit n program tail) ≡ n
  limit_is : limit_said version (byte_at (recorded version primary standby limit n program tail) 2) ≡ limit_said version limit
  limit_back : if_limits version (byte_at (recorded version primary standby limit n program tail) 2) ≡ if_limits version limit
  program_is : drop (record_head version) (recorded version primary standby limit n program tail) ≡ program_bytes n program ++ tail
  tail_is : drop (record_head version + 6 * n) (recorded version primary standby limit n program tail) ≡ tail
  long-is : length (recorded version primary standby limit n program tail) ≡ record_head version + 6 * n + length tail

reads_record : (version primary standby limit n : ℕ) (program tail : List ℕ) → Recorded version primary standby limit n program tail
reads_record version a b x n program tail = go (with_limits version) refl
  where
    go : (w : Bool) → with_limits version ≡ w → Recorded version a b x n program tail
    go true e =
        let h = length-program_bytes n program in
        let k = length-append (program_bytes n program) tail in
        record {
          length-is = rw e;
          limit_is = rw e;
          limit_back = rw e;
          program_is = rw e;
          tail_is = rw e (drop_at (a ∷ b ∷ x ∷ n ∷ program_bytes n program) tail (4 + 6 * n) (omega arith));
          long-is = rw e (omega arith);
        }
    go false e =
        let h = length-program_bytes n program in
        let k = length-append (program_bytes n program) tail in
        record {
          length-is = rw e;
          limit_is = rw e;
          limit_back = rw e;
          program_is = rw e;
          tail_is = rw e (drop_at (a ∷ b ∷ n ∷ program_bytes n program) tail (3 + 6 * n) (omega arith));
          long-is = rw e (omega arith);
        }

-- ---- all of them

-- the records behind the first
abbrev later : ℕ → ℕ → List ℕ → List ℕ → List ℕ → List ℕ
later v n ps ls is = records_for v n (drop 3 ps) (drop (limit_bytes v) ls) (drop (3 * length_given ps) is)

first_record : (v n : ℕ) (ps ls is : List ℕ) → Recorded v (get_or ps 0 0) (get_or ps 1 0) (get_or ls 0 0) (length_given ps) is (later v n ps ls is)
first_record v n ps ls is = reads_record v (get_or ps 0 0) (get_or ps 1 0) (get_or ls 0 0) (length_given ps) is (later v n ps ls is)

placed-records_for : (v n : ℕ) (ps ls is : List ℕ) → map (placement_in v) (rests v n (records_for v n ps ls is)) ≡ placed_by v n ps ls is
placed-records_for v zero ps ls is = refl
placed-records_for v (suc n) ps ls is =
    let k = length_given ps in
    let r = first_record v n ps ls is in
    rw (
      r.length-is,
      r.limit_is,
      r.program_is,
      r.tail_is,
      sixes-program_bytes instruction k is (later v n ps ls is),
      placed-records_for v n (drop 3 ps) (drop (limit_bytes v) ls) (drop (3 * k) is),
    )

records_ok-records_for : (v n : ℕ) (ps ls is : List ℕ) → all_of (λ k. leb k pc_most) (program_lengths n ps) ≡ true
    → records_ok v n (records_for v n ps ls is) ≡ true
records_ok-records_for v zero ps ls is h = refl
records_ok-records_for v (suc n) ps ls is h =
    let k = length_given ps in
    let r = first_record v n ps ls is in
    let whole = records_for v (suc n) ps ls is in
    let long = r.long-is in
    rw (r.length-is, r.tail_is)
    (and_both (leb k pc_most) _ (and_left (leb k pc_most) _ h)
    (and_both (leb (record_head v + 6 * k) (length whole)) _
    (le-leb (record_head v + 6 * k) (length whole) (omega arith))
    (records_ok-records_for v n (drop 3 ps) (drop (limit_bytes v) ls) (drop (3 * k) is) (and_right (leb k pc_most) _ h))))

length-records_for : (v n : ℕ) (ps ls is : List ℕ)
    → length (records_for v n ps ls is) ≡ 3 * n + limit_bytes v * n + 6 * total (program_lengths n ps)
length-records_for v zero ps ls is = omega arith
length-records_for v (suc n) ps ls is =
    let h = length-records_for v n (drop 3 ps) (drop (limit_bytes v) ls) (drop (3 * length_given ps) is) in
    let r = (first_record v n ps ls is).long-is in
    omega arith

-- at most 64 instructions each
total-few : (l : List ℕ) → all_of (λ k. leb k pc_most) l ≡ true → total l ≤ 64 * length l
total-few [] h = omega arith
total-few (k ∷ l) h = let a = leb-true k pc_most (and_left (leb k pc_most) _ h) in let b = total-few l (and_right (leb k pc_most) _ h) in omega arith

-- one each, or none
few-limits : (v n : ℕ) → limit_bytes v * n ≤ n
few-limits v n = go (with_limits v)
  where
    go : (w : Bool) → cond w 1 0 * n ≤ n
    go true = omega arith
    go false = omega arith

pub length-threes : {A : Type 0} (make : ℕ → ℕ → ℕ → A) (n : ℕ) (l : List ℕ) → length (threes make n l) ≡ n
length-threes make zero l = refl
length-threes make (suc n) l = ap suc (length-threes make n (drop 3 l))

-- ---- the pairs

-- of 2 n numbers, whatever follows
pairs_append : (n : ℕ) (l tail : List ℕ) → length l ≡ 2 * n → pairs n (l ++ tail) ≡ pairs n l
pairs_append zero l tail h = refl
pairs_append (suc n) [] tail h = absurd (omega arith)
pairs_append (suc n) (s ∷ []) tail h = absurd (omega arith)
pairs_append (suc n) (s ∷ r ∷ l) tail h = rw (pairs_append n l tail (omega arith))

-- ---- the whole table

-- what 4 asks
pub record Long (l : Lists) : Type 0 where
  pub ends-long : length l.ends ≡ 2 * l.channels
  pub placements-long : length l.placements ≡ 3 * l.processes
  pub limits-long : length l.limits ≡ limit_bytes l.version * l.processes
  pub programs-few : all_of (λ k. leb k pc_most) (program_lengths l.processes l.placements) ≡ true
  pub instructions-long : length l.instructions ≡ 3 * total (program_lengths l.processes l.placements)

pub long : (l : Lists) → lists_ok l ≡ true → Long l
unfolding lists_ok
long l h =
    let lengths = program_lengths l.processes l.placements in
    let ends = eqb (length l.ends) (2 * l.channels) in
    let placements = eqb (length l.placements) (3 * l.processes) in
    let limits = eqb (length l.limits) (limit_bytes l.version * l.processes) in
    let a = and_left (ends && (placements && limits)) _ h in
    let b = and_right (ends && (placements && limits)) _ h in
    let c = and_right ends (placements && limits) a in
    record {
      ends-long = eqb-true _ _ (and_left ends _ a);
      placements-long = eqb-true _ _ (and_left placements _ c);
      limits-long = eqb-true _ _ (and_right placements _ c);
      programs-few = and_left (all_of (λ k. leb k pc_most) lengths) _ b;
      instructions-long = eqb-true _ _ (and_right (all_of (λ k. leb k pc_most) lengths) _ b);
    }

pub long_ok : (l : Lists) → Long l → lists_ok l ≡ true
unfolding lists_ok
long_ok l h =
    let ends = eqb (length l.ends) (2 * l.channels) in
    let placements = eqb (length l.placements) (3 * l.processes) in
    let limits = eqb (length l.limits) (limit_bytes l.version * l.processes) in
    and_both (ends && (placements && limits)) _
    (and_both ends _ (eq-eqb _ _ h.ends-long) (and_both placements _ (eq-eqb _ _ h.placements-long) (eq-eqb _ _ h.limits-long)))
    (and_both (all_of (λ k. leb k pc_most) (program_lengths l.processes l.placements)) _ h.programs-few (eq-eqb _ _ h.instructions-long))

module _ (l : Lists) (h : Long l) where
  abbrev records : List ℕ
  records = records_for l.version l.processes l.placements l.limits l.instructions

  record_bytes-encode : record_bytes (encode l) ≡ records
  unfolding encode
  record_bytes-encode =
      let body = length (body_of l) in
      drop_at (body / 2 ^ 8 ∷ body % 2 ^ 8 ∷ l.version ∷ l.boards ∷ l.processes ∷ l.channels ∷ l.ends)
      records (6 + 2 * l.channels) (let e = h.ends-long in omega arith)

  -- the reader finds what the lists say
  pub decode_encode : decode_table (encode l) ≡ table_of l
  unfolding decode_table table_of encode
  decode_encode =
      rw (
        pairs_append l.channels l.ends records h.ends-long,
        record_bytes-encode,
        placed-records_for l.version l.processes l.placements l.limits l.instructions,
      )

  -- the head, two numbers for each channel, three for each process, the limits, and six for each instruction
  pub length-encode : length (encode l)
      ≡ 6 + 2 * l.channels + 3 * l.processes + length l.limits + 6 * total (program_lengths l.processes l.placements)
  unfolding encode
  length-encode =
      let e = h.ends-long in
      let a = length-append l.ends records in
      let b = length-records_for l.version l.processes l.placements l.limits l.instructions in
      let c = h.limits-long in
      omega arith

  extent_ok-encode : extent_ok (encode l) ≡ true
  unfolding extent_ok encode
  extent_ok-encode =
      let n = length-encode in
      and_both (leb (6 + 2 * l.channels) (length (encode l))) _
      (le-leb (6 + 2 * l.channels) (length (encode l)) (omega arith))
      (rw record_bytes-encode (records_ok-records_for l.version l.processes l.placements l.limits l.instructions h.programs-few))

  -- a version that is one, and counts in range, make it at most 6,278 bytes
  module _ (counts : counts_fit l.boards l.processes l.channels ≡ true) where
    pub encode-short : length (encode l) ≤ 2 + table_most
    encode-short =
        let lengths = program_lengths l.processes l.placements in
        let n = counts-fit l.boards l.processes l.channels counts in
        let a = length-encode in
        let b = total-few lengths h.programs-few in
        let d = few-limits l.version l.processes in
        let e = h.limits-long in
        let c : length lengths ≡ l.processes = length-threes (λ primary standby k. k) l.processes l.placements in
        omega arith

    length_ok-encode : length_ok (encode l) ≡ true
    unfolding length_ok encode
    length_ok-encode =
        let body = length (body_of l) in
        let s : suc (suc body) ≤ 2 + table_most = encode-short in
        and_both (leb 6 (suc (suc body))) _ (le-leb 6 (suc (suc body)) (omega arith))
        (and_both (leb (number16 (body / 2 ^ 8) (body % 2 ^ 8)) table_most) _
        (le-leb (number16 (body / 2 ^ 8) (body % 2 ^ 8)) table_most (omega arith))
        (eq-eqb (2 + number16 (body / 2 ^ 8) (body % 2 ^ 8)) (suc (suc body)) (omega arith)))

    -- and judges it as the lists are judged
    pub validate_encode : version_ok l.version ≡ true → validate_table (encode l) ≡ validate_lists l
    unfolding counts_ok encode
    validate_encode version =
        table-number (encode l) length_ok-encode version counts extent_ok-encode ∙ ap table_number decode_encode
        ∙ sym (lists_number l version counts (long_ok l h))

-- ---- taken apart again

threes-take : (n : ℕ) (l : List ℕ) → 3 * n ≤ length l → all_bytes (λ m. m) (threes (λ a b c. a ∷ b ∷ c ∷ []) n l) ≡ take (3 * n) l
threes-take zero l h = refl
threes-take (suc n) [] h = absurd (omega arith)
threes-take (suc n) (a ∷ []) h = absurd (omega arith)
threes-take (suc n) (a ∷ b ∷ []) h = absurd (omega arith)
threes-take (suc n) (a ∷ b ∷ c ∷ l) h = let e : 3 * suc n ≡ suc (suc (suc (3 * n))) = omega arith in rw (e, threes-take n l (omega arith))

placements-records_for : (v n : ℕ) (ps ls is : List ℕ) → length ps ≡ 3 * n
    → all_bytes (λ rest. get_or rest 0 0 ∷ get_or rest 1 0 ∷ program_length v rest ∷ []) (rests v n (records_for v n ps ls is)) ≡ ps
placements-records_for v zero [] ls is h = refl
placements-records_for v zero (a ∷ ps) ls is h = absurd (omega arith)
placements-records_for v (suc n) [] ls is h = absurd (omega arith)
placements-records_for v (suc n) (a ∷ []) ls is h = absurd (omega arith)
placements-records_for v (suc n) (a ∷ b ∷ []) ls is h = absurd (omega arith)
placements-records_for v (suc n) (a ∷ b ∷ k ∷ ps) ls is h =
    let r = first_record v n (a ∷ b ∷ k ∷ ps) ls is in
    rw (r.length-is, r.tail_is, placements-records_for v n ps (drop (limit_bytes v) ls) (drop (3 * k) is) (omega arith))

-- the limits, of which the version has one for each process or none
limits-records_for : (v n : ℕ) (ps ls is : List ℕ) → length ls ≡ limit_bytes v * n
    → all_bytes (λ rest. if_limits v (byte_at rest 2)) (rests v n (records_for v n ps ls is)) ≡ ls
limits-records_for v zero ps [] is h = refl
limits-records_for v zero ps (x ∷ ls) is h = absurd (omega arith)
limits-records_for v (suc n) ps ls is h =
    let k = length_given ps in
    let r = first_record v n ps ls is in
    rw (
      r.length-is,
      r.limit_back,
      r.tail_is,
      limits-records_for v n (drop 3 ps) (drop (limit_bytes v) ls) (drop (3 * k) is) (rw (length-drop (limit_bytes v) ls) (omega arith)),
    ) (joined (with_limits v) ls h)
  where
    joined : (w : Bool) (l : List ℕ) → length l ≡ cond w 1 0 * suc n → cond w (get_or l 0 0 ∷ []) [] ++ drop (cond w 1 0) l ≡ l
    joined true [] e = absurd (omega arith)
    joined true (x ∷ l) e = refl
    joined false l e = refl

instructions-records_for : (v n : ℕ) (ps ls is : List ℕ) → length is ≡ 3 * total (program_lengths n ps)
    → all_bytes (λ rest. program_in (program_length v rest) (drop (record_head v) rest)) (rests v n (records_for v n ps ls is)) ≡ is
instructions-records_for v zero ps ls [] h = refl
instructions-records_for v zero ps ls (x ∷ is) h = absurd (omega arith)
instructions-records_for v (suc n) ps ls is h =
    let k = length_given ps in
    let r = first_record v n ps ls is in
    let rest : length (drop (3 * k) is) ≡ 3 * total (program_lengths n (drop 3 ps)) = rw (length-drop (3 * k) is) (omega arith) in
    rw (
      r.length-is,
      r.program_is,
      r.tail_is,
      sixes-program_bytes (λ code a operand. code ∷ a ∷ operand ∷ []) k is (later v n ps ls is),
      threes-take k is (omega arith),
      instructions-records_for v n (drop 3 ps) (drop (limit_bytes v) ls) (drop (3 * k) is) rest,
    ) (take-append-drop (3 * k) is)

pub apart-encode : (l : Lists) → Long l → apart (encode l) ≡ l
unfolding apart placements_in limits_in instructions_in encode
apart-encode l h =
    rw (
      record_bytes-encode l h,
      placements-records_for l.version l.processes l.placements l.limits l.instructions h.placements-long,
      limits-records_for l.version l.processes l.placements l.limits l.instructions h.limits-long,
      instructions-records_for l.version l.processes l.placements l.limits l.instructions h.instructions-long,
      take_at l.ends (records l h) (2 * l.channels) h.ends-long,
    )

-- ---- theorem: what is written reads back

module _ (l : Lists) (h : validate_lists l ≡ 0) where
  pub version-accepted : version_ok l.version ≡ true
  unfolding validate_lists
  version-accepted = test_passed (version_ok l.version) 1 _ h

  from_3 : or_number (counts_fit l.boards l.processes l.channels) 3 (or_number (lists_ok l) 4 (table_number (table_of l))) ≡ 0
  unfolding validate_lists
  from_3 = further-passed (version_ok l.version) 1 _ h

  pub counts-accepted : counts_fit l.boards l.processes l.channels ≡ true
  counts-accepted = test_passed (counts_fit l.boards l.processes l.channels) 2 (or_number (lists_ok l) 4 (table_number (table_of l))) from_3

  pub lists_accepted : lists_ok l ≡ true
  lists_accepted =
      test_passed (lists_ok l) 3 (table_number (table_of l))
      (further-passed (counts_fit l.boards l.processes l.channels) 2 (or_number (lists_ok l) 4 (table_number (table_of l))) from_3)

  -- "What it writes is accepted by the reader with the same contents."
  pub encode-reads : ReadsAs l (encode l)
  encode-reads =
      let o = long l lists_accepted in
      record {
        accepted = validate_encode l o counts-accepted version-accepted ∙ h;
        says = decode_encode l o;
        lists_back = apart-encode l o;
      }
