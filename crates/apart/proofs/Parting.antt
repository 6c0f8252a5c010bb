-- A table taken apart: the room that its lists want, what goes into them, and the promise.
use Rattle.std.specs.Prelude.{Result, Ok, Err, IfOk}
use mathlib.Core.Path.{◌≡◌, refl, ap, sym, subst, ◌∙◌}
use mathlib.Core.Bool.{Bool, true, false, ◌&&◌}
use mathlib.Core.List.{List}
use Prim.Native.Nat.{ℕ, ◌+◌, ◌-◌, ◌*◌, ◌/◌, ◌^◌, ◌≤◌, ◌<◌}
use native.Mathlib.Omega.{arith}
use lib.Dec.{eqb, leb}
use lib.ListN.{length, take, drop}
use lib.Seq.{sets, take_at}
use borrow.Author.Tests.{leb-true, le-leb, lt-leb, eqb-true, ne_eqb}
use Rattle.facts.specs.Tests.{by_eq, and_left, and_right}
use Rattle.numbers.specs.Runs.{number_of, refuses}
use Rattle.numbers.specs.declared.runs.Refusal.{Refusal}
use Rattle.rules.specs.Bytes.{written}
use Rattle.rules.specs.Sizes.{table_most, limit_bytes}
use Rattle.rules.specs.Format.{length_field, version_in, boards_in, processes_in, channels_in, length_ok, records_ok, or_number, validate_table}
use Rattle.rules.specs.Encode.{program_lengths, total, placements_in, limits_in, instructions_in, apart, validate_apart, WritesAs}
use Rattle.rules.proofs.Apart.{Bytes, apart-long, length-apart, records_ok_lem, apart-writes}
use Rattle.rules.proofs.Valid.{valid, counted}
use Rattle.apart.specs.declared.Taken.{Taken}
use Rattle.apart.specs.Taken.{Lent, lists_in, TakesApart}
use Rattle.apart.specs.Taking.{Records, Room, room_for, ListsTaken}
use Rattle.facts.specs.Laying.{sets-front}

module _ (table : List ℕ) (h : validate_table table ≡ 0) where
  -- ---- the lengths of its lists

  pub ends-long : length (apart table).ends ≡ 2 * channels_in table
  unfolding apart
  ends-long = (apart-long table h).ends-long

  pub placements-long : length (apart table).placements ≡ 3 * processes_in table
  unfolding apart
  placements-long = (apart-long table h).placements-long

  pub limits-long : length (apart table).limits ≡ limit_bytes (version_in table) * processes_in table
  unfolding apart
  limits-long = (apart-long table h).limits-long

  pub few-counts : (channels_in table ≤ 32) × (processes_in table ≤ 16)
  few-counts = let n = counted table (valid table h).counts_ok_lem in (n.channels_high, n.processes_high)

  -- ---- what goes into lists that have room

  module _ (m : Lent) (r : Room table m) where
    pub ends-room : length (apart table).ends ≤ length m.ends
    ends-room = leb-true _ _ (and_left (leb (length (apart table).ends) (length m.ends)) _ r.room)

    others : (leb (length (apart table).placements) (length m.placements)
        && (leb (length (apart table).limits) (length m.limits) && leb (length (apart table).instructions) (length m.instructions))) ≡ true
    others = and_right (leb (length (apart table).ends) (length m.ends)) _ r.room

    last : (leb (length (apart table).limits) (length m.limits) && leb (length (apart table).instructions) (length m.instructions)) ≡ true
    last = and_right (leb (length (apart table).placements) (length m.placements)) _ others

    pub placements-room : length (apart table).placements ≤ length m.placements
    placements-room = leb-true _ _ (and_left (leb (length (apart table).placements) (length m.placements)) _ others)

    pub limits-room : length (apart table).limits ≤ length m.limits
    limits-room = leb-true _ _ (and_left (leb (length (apart table).limits) (length m.limits)) _ last)

    pub instructions-room : length (apart table).instructions ≤ length m.instructions
    instructions-room = leb-true _ _ (and_right (leb (length (apart table).limits) (length m.limits)) _ last)

    -- the version, where the records begin, and how many they are
    module _ (v pairs n : ℕ) (ev : v ≡ version_in table) (ep : pairs ≡ 2 * channels_in table) (en : n ≡ processes_in table) where
      pub whole-records : Records v n (drop (6 + pairs) table)
      whole-records = record { records_ok_lem = (λ i. records_ok (ev i) (en i) (drop (6 + ep i) table)) ∙ records_ok_lem table h }

      pub placements-fit : length (placements_in v n (drop (6 + pairs) table)) ≤ length m.placements
      unfolding apart
      placements-fit = subst (λ (k : ℕ). k ≤ length m.placements) (λ i. length (placements_in (sym ev i) (sym en i) (drop (6 + sym ep i) table))) placements-room

      pub limits-fit : length (limits_in v n (drop (6 + pairs) table)) ≤ length m.limits
      unfolding apart
      limits-fit = subst (λ (k : ℕ). k ≤ length m.limits) (λ i. length (limits_in (sym ev i) (sym en i) (drop (6 + sym ep i) table))) limits-room

      pub instructions-fit : length (instructions_in v n (drop (6 + pairs) table)) ≤ length m.instructions
      unfolding apart
      instructions-fit = subst (λ (k : ℕ). k ≤ length m.instructions) (λ i. length (instructions_in (sym ev i) (sym en i) (drop (6 + sym ep i) table))) instructions-room

      pub lists_taken : (after : Lent) → after.ends ≡ sets m.ends 0 (take pairs (drop 6 table))
          → after.placements ≡ sets m.placements 0 (placements_in v n (drop (6 + pairs) table))
          → after.limits ≡ sets m.limits 0 (limits_in v n (drop (6 + pairs) table))
          → after.instructions ≡ sets m.instructions 0 (instructions_in v n (drop (6 + pairs) table))
          → ListsTaken table m after
      unfolding apart
      lists_taken after e1 e2 e3 e4 = record {
        taken = λ j. record {
          ends = (e1 ∙ ap (λ (k : ℕ). sets m.ends 0 (take k (drop 6 table))) ep ∙ sets-front m.ends (apart table).ends ends-room) j;
          placements = (e2 ∙ (λ i. sets m.placements 0 (placements_in (ev i) (en i) (drop (6 + ep i) table))) ∙ sets-front m.placements (apart table).placements placements-room) j;
          limits = (e3 ∙ (λ i. sets m.limits 0 (limits_in (ev i) (en i) (drop (6 + ep i) table))) ∙ sets-front m.limits (apart table).limits limits-room) j;
          instructions = (e4 ∙ (λ i. sets m.instructions 0 (instructions_in (ev i) (en i) (drop (6 + ep i) table))) ∙ sets-front m.instructions (apart table).instructions instructions-room) j;
        };
      }

  -- ---- the promise

  -- the front of a list that was written
  front : (new old l : List ℕ) (n : ℕ) → l ≡ written new old → length new ≡ n → take n l ≡ new
  front new old l n e s = ap (take n) e ∙ take_at new (drop (length new) old) n s

  pub taken-whole : Bytes table → (m after : Lent) (v b p c n : ℕ) → v ≡ version_in table → b ≡ boards_in table → p ≡ processes_in table → c ≡ channels_in table
      → 3 * n ≡ length (apart table).instructions → Room table m → ListsTaken table m after
      → TakesApart table m (Ok (record { version = v; boards = b; processes = p; channels = c; instructions = n })) after
  unfolding validate_apart apart
  taken-whole y m after v b p c n ev eb ep ec en r t =
      let w = t.taken in
      let e : lists_in (record { version = v; boards = b; processes = p; channels = c; instructions = n }) after ≡ apart table =
      λ i. record {
        version = ev i;
        boards = eb i;
        processes = ep i;
        channels = ec i;
        ends = (ap (λ (k : ℕ). take (2 * k) after.ends) ec ∙ front (apart table).ends m.ends after.ends (2 * channels_in table) (ap (λ (x : Lent). x.ends) w) ends-long) i;
        placements = (ap (λ (k : ℕ). take (3 * k) after.placements) ep ∙ front (apart table).placements m.placements after.placements (3 * processes_in table) (ap (λ (x : Lent). x.placements) w) placements-long) i;
        limits = ((λ j. take (limit_bytes (ev j) * ep j) after.limits) ∙ front (apart table).limits m.limits after.limits (limit_bytes (version_in table) * processes_in table) (ap (λ (x : Lent). x.limits) w) limits-long) i;
        instructions = front (apart table).instructions m.instructions after.instructions (3 * n) (ap (λ (x : Lent). x.instructions) w) (sym en) i;
      } in
      record {
        number_is = sym ((λ i. or_number (eqb (h i) 0) (h i) (or_number (room_for table (length m.ends) (length m.placements) (length m.limits) (length m.instructions)) 45 0)) ∙ ap (λ (x : Bool). or_number x 45 0) r.room);
        lists_written = w;
        counted = en;
        lists_are = e;
        written_back = subst (WritesAs table) (sym e) (apart-writes table h y);
      }

pub taken-nothing : (table : List ℕ) (m : Lent) (r : Refusal)
    → number_of r ≡ validate_apart table (length m.ends) (length m.placements) (length m.limits) (length m.instructions) → TakesApart table m (Err r) m
taken-nothing table m r e = record { number_is = e; lists_written = refl; counted = tt; lists_are = tt; written_back = tt }

module _ (table : List ℕ) (e p m i : ℕ) where
  pub reader_refuses : (r : Refusal) → number_of r ≡ validate_table table → number_of r ≡ validate_apart table e p m i
  unfolding validate_apart
  reader_refuses r s = s ∙ sym (ap (λ (b : Bool). or_number b (validate_table table) (or_number (room_for table e p m i) 45 0)) (ne_eqb (validate_table table) 0 (λ z. refuses r (s ∙ z))))

  pub room_refuses : validate_table table ≡ 0 → room_for table e p m i ≡ false → 45 ≡ validate_apart table e p m i
  unfolding validate_apart
  room_refuses h r = sym ((λ j. or_number (eqb (h j) 0) (h j) (or_number (room_for table e p m i) 45 0)) ∙ ap (λ (x : Bool). or_number x 45 0) r)

pub table-short : (table : List ℕ) → validate_table table ≡ 0 → length table ≤ 2 + table_most
unfolding length_ok
table-short table h =
    let l = and_right (leb 6 (length table)) _ (valid table h).length_ok_lem in
    let a = leb-true (length_field table) table_most (and_left (leb (length_field table) table_most) _ l) in
    let b = eqb-true (2 + length_field table) (length table) (and_right (leb (length_field table) table_most) _ l) in
    omega arith

-- as many instructions as the length says
pub counted-instructions : (table : List ℕ) (n c p l : ℕ) → validate_table table ≡ 0 → c ≡ channels_in table → p ≡ processes_in table
    → l ≡ limit_bytes (version_in table) * processes_in table
    → n ≡ (length table - 6 - 2 * c - 3 * p - l) / 6 → (3 * n ≡ length (apart table).instructions) × (n ≤ 2 + table_most)
unfolding apart
counted-instructions table n c p l h ec ep el e =
    let k = length-apart table h in
    let t = total (program_lengths (apart table).processes (apart table).placements) in
    let i : length (apart table).instructions ≡ 3 * t = (apart-long table h).instructions-long in
    let m : length (apart table).limits ≡ l = limits-long table h ∙ sym el in
    let s = table-short table h in
    let z : length table - 6 - 2 * c - 3 * p - l ≡ 6 * t = omega arith in
    let y : n ≡ 6 * t / 6 = e ∙ ap (λ (x : ℕ). x / 6) z in
    let w : n ≡ t = omega arith in
    (omega arith, omega arith)

-- the room, test by test
module _ (table : List ℕ) (h : validate_table table ≡ 0) (n e p m i c q l : ℕ) (s : 3 * n ≡ length (apart table).instructions) (ec : c ≡ channels_in table)
    (eq : q ≡ processes_in table) (el : l ≡ limit_bytes (version_in table) * processes_in table) where
  tests : (leb (2 * c) e && (leb (3 * q) p && (leb l m && leb (3 * n) i))) ≡ room_for table e p m i
  tests =
      let a = ap (λ (x : ℕ). 2 * x) ec ∙ sym (ends-long table h) in
      let b = ap (λ (x : ℕ). 3 * x) eq ∙ sym (placements-long table h) in
      let d = el ∙ sym (limits-long table h) in
      λ j. leb (a j) e && (leb (b j) p && (leb (d j) m && leb (s j) i))

  pub room_fourth : 2 * c ≤ e → 3 * q ≤ p → l ≤ m → leb (3 * n) i ≡ room_for table e p m i
  room_fourth a b d = sym (λ j. le-leb (2 * c) e a j && (le-leb (3 * q) p b j && (le-leb l m d j && leb (3 * n) i))) ∙ tests

  pub room_third : 2 * c ≤ e → 3 * q ≤ p → m < l → leb l m ≡ room_for table e p m i
  room_third a b d = lt-leb l m d ∙ sym (λ j. le-leb (2 * c) e a j && (le-leb (3 * q) p b j && (lt-leb l m d j && leb (3 * n) i))) ∙ tests

  pub room-second : 2 * c ≤ e → p < 3 * q → leb (3 * q) p ≡ room_for table e p m i
  room-second a b = lt-leb (3 * q) p b ∙ sym (λ j. le-leb (2 * c) e a j && (lt-leb (3 * q) p b j && (leb l m && leb (3 * n) i))) ∙ tests

  pub room-first : e < 2 * c → leb (2 * c) e ≡ room_for table e p m i
  room-first a = lt-leb (2 * c) e a ∙ sym (λ j. lt-leb (2 * c) e a j && (leb (3 * q) p && (leb l m && leb (3 * n) i))) ∙ tests

-- ---- what is returned is small

module _ (table : List ℕ) (before after : Lent) where
  accepted-table : (x : Taken) → TakesApart table before (Ok x) after → validate_table table ≡ 0
  unfolding validate_apart
  accepted-table x t =
      by_eq (validate_table table) 0
      (λ e. e)
      (λ n. absurd (n (sym
      (ap (λ (b : Bool). or_number b (validate_table table) (or_number (room_for table (length before.ends) (length before.placements) (length before.limits) (length before.instructions)) 45 0))
      (ne_eqb (validate_table table) 0 n))
      ∙ sym t.number_is)))

  pub few-instructions : (r : Result Taken Refusal) → TakesApart table before r after → IfOk r (λ x. x.instructions < 2 ^ 16)
  few-instructions (Err r) t = tt
  few-instructions (Ok x) t =
      let h = accepted-table x t in
      let a : 3 * x.instructions ≡ length (apart table).instructions = t.counted in
      let b = length-apart table h in
      let d = table-short table h in
      omega arith
