-- An accepted table, taken apart and written again, is the same bytes; and the lists are accepted.
use mathlib.Core.Path.{◌≡◌, refl, ap, sym, ◌∙◌}
use mathlib.Core.Bool.{Bool, true, false, cond}
use mathlib.Core.List.{List, [], ◌∷◌, ◌++◌}
use Prim.Native.Nat.{ℕ, zero, suc, ◌+◌, ◌*◌, ◌-◌, ◌/◌, ◌%◌, ◌^◌, ◌≤◌, ◌<◌}
use native.Mathlib.Omega.{arith}
use lib.Dec.{eqb, leb}
use lib.ListN.{length, get_or, take, drop, length-append, length-drop, take-append-drop}
use lib.Seq.{drop_at, get_or-drop, drop-drop, length-take-le}
use borrow.Author.Tests.{eqb-true, leb-true}
use Rattle.facts.specs.Tests.{all_of, no_way, and_left, and_right, and_both}
use Rattle.backup.specs.Limits.{pc_most}
use Rattle.rules.specs.Sizes.{table_most, with_limits, limit_bytes, record_head}
use Rattle.rules.specs.Bytes.{byte_at, number16, number32, word_bytes}
use Rattle.rules.specs.Format.{length_field, version_in, boards_in, processes_in, channels_in, records_start, record_bytes, program_length, record_length, decode_table, length_ok, counts_ok, records_ok, extent_ok, validate_table}
use Rattle.rules.specs.Encode.{program_bytes, if_limits, records_for, body_of, encode, program_lengths, total, validate_lists, program_in, placements_in, limits_in, instructions_in, apart, WritesAs}
use Rattle.rules.proofs.Valid.{valid}
use Rattle.rules.proofs.Encoding.{Long, decode_encode, validate_encode}

-- a list of bytes
pub record Bytes (l : List ℕ) : Type 0 where
  pub at : (i : ℕ) → byte_at l i < 256

bytes_drop : {l : List ℕ} (n : ℕ) → Bytes l → Bytes (drop n l)
bytes_drop {l} n h = record { at = λ i. rw (get_or-drop n l i 0) (h.at (n + i)) }

-- a list from its first numbers on
front6 : (l : List ℕ) → 6 ≤ length l → l ≡ get_or l 0 0 ∷ get_or l 1 0 ∷ get_or l 2 0 ∷ get_or l 3 0 ∷ get_or l 4 0 ∷ get_or l 5 0 ∷ drop 6 l
front6 [] h = absurd (omega arith)
front6 (a ∷ []) h = absurd (omega arith)
front6 (a ∷ b ∷ []) h = absurd (omega arith)
front6 (a ∷ b ∷ c ∷ []) h = absurd (omega arith)
front6 (a ∷ b ∷ c ∷ d ∷ []) h = absurd (omega arith)
front6 (a ∷ b ∷ c ∷ d ∷ e ∷ []) h = absurd (omega arith)
front6 (a ∷ b ∷ c ∷ d ∷ e ∷ f ∷ l) h = refl

front3 : (l : List ℕ) → 3 ≤ length l → l ≡ get_or l 0 0 ∷ get_or l 1 0 ∷ get_or l 2 0 ∷ drop 3 l
front3 [] h = absurd (omega arith)
front3 (a ∷ []) h = absurd (omega arith)
front3 (a ∷ b ∷ []) h = absurd (omega arith)
front3 (a ∷ b ∷ c ∷ l) h = refl

front4 : (l : List ℕ) → 4 ≤ length l → l ≡ get_or l 0 0 ∷ get_or l 1 0 ∷ get_or l 2 0 ∷ get_or l 3 0 ∷ drop 4 l
front4 [] h = absurd (omega arith)
front4 (a ∷ []) h = absurd (omega arith)
front4 (a ∷ b ∷ []) h = absurd (omega arith)
front4 (a ∷ b ∷ c ∷ []) h = absurd (omega arith)
front4 (a ∷ b ∷ c ∷ d ∷ l) h = refl

-- a record: its boards, its limit where the version has it, n, and what follows
front_record : (v : ℕ) (l : List ℕ) → record_head v ≤ length l
    → l ≡ get_or l 0 0 ∷ get_or l 1 0 ∷ if_limits v (get_or l 2 0) ++ (program_length v l ∷ drop (record_head v) l)
front_record v l = go (with_limits v)
  where
    go : (w : Bool) → 1 + (2 + cond w 1 0) ≤ length l
        → l ≡ get_or l 0 0 ∷ get_or l 1 0 ∷ cond w (get_or l 2 0 ∷ []) [] ++ (get_or l (2 + cond w 1 0) 0 ∷ drop (1 + (2 + cond w 1 0)) l)
    go true h = front4 l h
    go false h = front3 l h

-- the limit that begins a list of limits
limit-first : (v x : ℕ) (l : List ℕ) → if_limits v (get_or (if_limits v x ++ l) 0 0) ≡ if_limits v x
limit-first v x l = go (with_limits v)
  where
    go : (w : Bool) → cond w (get_or (cond w (x ∷ []) [] ++ l) 0 0 ∷ []) [] ≡ cond w (x ∷ []) []
    go true = refl
    go false = refl

limits_later : (v x : ℕ) (l : List ℕ) → drop (limit_bytes v) (if_limits v x ++ l) ≡ l
limits_later v x l = go (with_limits v)
  where
    go : (w : Bool) → drop (cond w 1 0) (cond w (x ∷ []) [] ++ l) ≡ l
    go true = refl
    go false = refl

-- four bytes give a word that gives the four bytes
bytes_back : (b3 b2 b1 b0 : ℕ) → b2 < 256 → b1 < 256 → b0 < 256 → word_bytes (number32 b3 b2 b1 b0) ≡ b3 ∷ b2 ∷ b1 ∷ b0 ∷ []
bytes_back b3 b2 b1 b0 h2 h1 h0 =
    let w = number32 b3 b2 b1 b0 in
    let e3 : w / 2 ^ 24 ≡ b3 = omega arith in
    let e2 : w / 2 ^ 16 % 2 ^ 8 ≡ b2 = omega arith in
    let e1 : w / 2 ^ 8 % 2 ^ 8 ≡ b1 = omega arith in
    let e0 : w % 2 ^ 8 ≡ b0 = omega arith in
    λ i. e3 i ∷ e2 i ∷ e1 i ∷ e0 i ∷ []

-- ---- one program

pub length-program_in : (n : ℕ) (l : List ℕ) → length (program_in n l) ≡ 3 * n
length-program_in zero l = refl
length-program_in (suc n) l = let h = length-program_in n (drop 6 l) in omega arith

program_bytes-program_in : (n : ℕ) (l tail : List ℕ) → 6 * n ≤ length l → Bytes l → program_bytes n (program_in n l ++ tail) ≡ take (6 * n) l
program_bytes-program_in zero l tail h b = refl
program_bytes-program_in (suc n) l tail h b =
    let e : 6 * suc n ≡ suc (suc (suc (suc (suc (suc (6 * n)))))) = omega arith in
    let d = length-drop 6 l in
    let rest = program_bytes n (program_in n (drop 6 l) ++ tail) in
    ap (λ (w : List ℕ). get_or l 0 0 ∷ get_or l 1 0 ∷ w ++ rest) (bytes_back (get_or l 2 0) (get_or l 3 0) (get_or l 4 0) (get_or l 5 0) (b.at 3) (b.at 4) (b.at 5))
    ∙ ap (λ (r : List ℕ). get_or l 0 0 ∷ get_or l 1 0 ∷ get_or l 2 0 ∷ get_or l 3 0 ∷ get_or l 4 0 ∷ get_or l 5 0 ∷ r)
    (program_bytes-program_in n (drop 6 l) tail (omega arith) (bytes_drop 6 b))
    ∙ sym (rw e (ap (λ (m : List ℕ). take (suc (suc (suc (suc (suc (suc (6 * n))))))) m) (front6 l (omega arith))))

-- ---- all records

module _ (v n : ℕ) (rest : List ℕ) (h : records_ok v (suc n) rest ≡ true) where
  record_few : program_length v rest ≤ pc_most
  record_few = leb-true (program_length v rest) pc_most (and_left (leb (program_length v rest) pc_most) _ h)

  record_within : record_length v rest ≤ length rest
  record_within =
      leb-true (record_length v rest) (length rest)
      (and_left (leb (record_length v rest) (length rest)) _ (and_right (leb (program_length v rest) pc_most) _ h))

  records_later : records_ok v n (drop (record_length v rest) rest) ≡ true
  records_later = and_right (leb (record_length v rest) (length rest)) _ (and_right (leb (program_length v rest) pc_most) _ h)

records_back : (v n : ℕ) (rest : List ℕ) → records_ok v n rest ≡ true → Bytes rest
    → records_for v n (placements_in v n rest) (limits_in v n rest) (instructions_in v n rest) ≡ rest
unfolding placements_in limits_in instructions_in
records_back v zero [] h b = refl
records_back v zero (x ∷ rest) h b = absurd (no_way (cc))
records_back v (suc n) rest h b =
    let k = program_length v rest in
    let head = record_head v in
    let within : head + 6 * k ≤ length rest = record_within v n rest h in
    let later = drop (record_length v rest) rest in
    let behind = drop head rest in
    let d : length behind ≡ length rest - head = length-drop head rest in
    let program : program_bytes k (program_in k behind ++ instructions_in v n later) ≡ take (6 * k) behind =
    program_bytes-program_in k behind (instructions_in v n later) (omega arith) (bytes_drop head b) in
    let tail : drop (3 * k) (program_in k behind ++ instructions_in v n later) ≡ instructions_in v n later =
    drop_at (program_in k behind) (instructions_in v n later) (3 * k) (length-program_in k behind) in
    let back : records_for v n (placements_in v n later) (limits_in v n later) (instructions_in v n later) ≡ later =
    records_back v n later (records_later v n rest h) (bytes_drop (record_length v rest) b) in
    let whole : take (6 * k) behind ++ later ≡ behind =
    ap (λ (l : List ℕ). take (6 * k) behind ++ l) (sym (drop-drop (6 * k) head rest)) ∙ take-append-drop (6 * k) behind in
    rw (limit-first v (get_or rest 2 0) (limits_in v n later), limits_later v (get_or rest 2 0) (limits_in v n later), program, tail, back, whole)
    (sym (front_record v rest (omega arith)))

-- ---- the lists are as long as they say

length-placements_in : (v n : ℕ) (rest : List ℕ) → length (placements_in v n rest) ≡ 3 * n
unfolding placements_in
length-placements_in v zero rest = refl
length-placements_in v (suc n) rest = let h = length-placements_in v n (drop (record_length v rest) rest) in omega arith

length-limits_in : (v n : ℕ) (rest : List ℕ) → length (limits_in v n rest) ≡ limit_bytes v * n
unfolding limits_in
length-limits_in v zero rest = omega arith
length-limits_in v (suc n) rest =
    let later = limits_in v n (drop (record_length v rest) rest) in
    let h = length-limits_in v n (drop (record_length v rest) rest) in
    let a = length-append (if_limits v (get_or rest 2 0)) later in
    let b = one (with_limits v) in
    omega arith
  where
    one : (w : Bool) → length (cond w (get_or rest 2 0 ∷ []) []) ≡ cond w 1 0
    one true = refl
    one false = refl

few-placements_in : (v n : ℕ) (rest : List ℕ) → records_ok v n rest ≡ true → all_of (λ k. leb k pc_most) (program_lengths n (placements_in v n rest)) ≡ true
unfolding placements_in
few-placements_in v zero rest h = refl
few-placements_in v (suc n) rest h =
    and_both (leb (program_length v rest) pc_most) _ (and_left (leb (program_length v rest) pc_most) _ h)
    (few-placements_in v n (drop (record_length v rest) rest) (records_later v n rest h))

length-instructions_in : (v n : ℕ) (rest : List ℕ) → length (instructions_in v n rest) ≡ 3 * total (program_lengths n (placements_in v n rest))
unfolding placements_in instructions_in
length-instructions_in v zero rest = refl
length-instructions_in v (suc n) rest =
    let k = program_length v rest in
    let behind = drop (record_head v) rest in
    let h = length-instructions_in v n (drop (record_length v rest) rest) in
    let p = length-program_in k behind in
    rw (length-append (program_in k behind) (instructions_in v n (drop (record_length v rest) rest))) (omega arith)

-- three bytes a record, the limits, and six an instruction
length-records : (v n : ℕ) (rest : List ℕ) → records_ok v n rest ≡ true
    → length rest ≡ 3 * n + limit_bytes v * n + 6 * total (program_lengths n (placements_in v n rest))
unfolding placements_in
length-records v zero [] h = omega arith
length-records v zero (x ∷ rest) h = absurd (no_way (cc))
length-records v (suc n) rest h =
    let later = drop (record_length v rest) rest in
    let within = record_within v n rest h in
    let a = length-records v n later (records_later v n rest h) in
    let d = length-drop (record_length v rest) rest in
    omega arith

-- ---- the whole table

module _ (bytes : List ℕ) (h : validate_table bytes ≡ 0) where
  pub records_ok_lem : records_ok (version_in bytes) (processes_in bytes) (record_bytes bytes) ≡ true
  unfolding extent_ok
  records_ok_lem = and_right (leb (records_start bytes) (length bytes)) _ (valid bytes h).extent_ok_lem

  pub pairs-within : records_start bytes ≤ length bytes
  unfolding extent_ok
  pairs-within =
      leb-true (records_start bytes) (length bytes)
      (and_left (leb (records_start bytes) (length bytes)) (records_ok (version_in bytes) (processes_in bytes) (record_bytes bytes)) (valid bytes h).extent_ok_lem)

  pub field_true : (6 ≤ length bytes) × (2 + length_field bytes ≡ length bytes)
  unfolding length_ok
  field_true =
      let l = (valid bytes h).length_ok_lem in
      let others = and_right (leb 6 (length bytes)) _ l in
      (leb-true 6 (length bytes) (and_left (leb 6 (length bytes)) _ l), eqb-true _ _ (and_right (leb (length_field bytes) table_most) (eqb (2 + length_field bytes) (length bytes)) others))

  pub apart-long : Long (apart bytes)
  unfolding apart placements_in limits_in instructions_in
  apart-long =
      let v = version_in bytes in
      let n = processes_in bytes in
      let rest = record_bytes bytes in
      let d = length-drop 6 bytes in
      let w = pairs-within in
      record {
        ends-long = length-take-le (2 * channels_in bytes) (drop 6 bytes) (omega arith);
        placements-long = length-placements_in v n rest;
        limits-long = length-limits_in v n rest;
        programs-few = few-placements_in v n rest records_ok_lem;
        instructions-long = length-instructions_in v n rest;
      }

  -- so the table's length says how many instructions there are
  pub length-apart : length bytes
      ≡ 6 + 2 * channels_in bytes + 3 * processes_in bytes + length (apart bytes).limits + 2 * length (apart bytes).instructions
  unfolding apart
  length-apart =
      let d = length-drop (records_start bytes) bytes in
      let r = length-records (version_in bytes) (processes_in bytes) (record_bytes bytes) records_ok_lem in
      let s = length-limits_in (version_in bytes) (processes_in bytes) (record_bytes bytes) in
      let w = pairs-within in
      let i = length-instructions_in (version_in bytes) (processes_in bytes) (record_bytes bytes) in
      omega arith

  module _ (b : Bytes bytes) where
    body_back : body_of (apart bytes) ≡ version_in bytes ∷ boards_in bytes ∷ processes_in bytes ∷ channels_in bytes ∷ drop 6 bytes
    unfolding apart placements_in limits_in instructions_in
    body_back =
        let pairs = 2 * channels_in bytes in
        let records = records_back (version_in bytes) (processes_in bytes) (record_bytes bytes) records_ok_lem (bytes_drop (records_start bytes) b) in
        let whole : take pairs (drop 6 bytes) ++ record_bytes bytes ≡ drop 6 bytes =
        ap (λ (l : List ℕ). take pairs (drop 6 bytes) ++ l) (sym (drop-drop pairs 6 bytes)) ∙ take-append-drop pairs (drop 6 bytes) in
        ap (λ (l : List ℕ). version_in bytes ∷ boards_in bytes ∷ processes_in bytes ∷ channels_in bytes ∷ take pairs (drop 6 bytes) ++ l) records
        ∙ ap (λ (l : List ℕ). version_in bytes ∷ boards_in bytes ∷ processes_in bytes ∷ channels_in bytes ∷ l) whole

    -- "An accepted table, taken apart and written again, comes out byte for byte."
    pub encode-apart : encode (apart bytes) ≡ bytes
    unfolding encode
    encode-apart =
        let body = body_of (apart bytes) in
        let f = field_true in
        let d = length-drop 6 bytes in
        let small : byte_at bytes 1 < 256 = b.at 1 in
        let long : length body ≡ number16 (byte_at bytes 0) (byte_at bytes 1) = ap length body_back ∙ omega arith in
        let high : length body / 2 ^ 8 ≡ byte_at bytes 0 = omega arith in
        let low : length body % 2 ^ 8 ≡ byte_at bytes 1 = omega arith in
        (λ i. high i ∷ low i ∷ body_back i) ∙ sym (front6 bytes f.0)

    pub validate_apart_lem : validate_lists (apart bytes) ≡ 0
    unfolding apart counts_ok
    validate_apart_lem = sym (validate_encode (apart bytes) apart-long (valid bytes h).counts_ok_lem (valid bytes h).version_ok_lem) ∙ ap validate_table encode-apart ∙ h

    pub apart-writes : WritesAs bytes (apart bytes)
    apart-writes = record {
      accepted = validate_apart_lem;
      says = sym (decode_encode (apart bytes) apart-long) ∙ ap decode_table encode-apart;
      bytes_back = encode-apart;
    }
