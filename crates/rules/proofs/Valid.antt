-- A table that passes numbers 1 to 8 and 47 is one of which `Accepted` holds.
use mathlib.Core.Path.{◌≡◌, refl, ap, ◌∙◌}
use mathlib.Core.Bool.{Bool, true, false, ◌&&◌}
use mathlib.Core.List.{List, map}
use Prim.Native.Nat.{ℕ, zero, suc, ◌≤◌, ◌<◌}
use native.Mathlib.Omega.{arith}
use native.Mathlib.Nat.{not-suc-le-zero, le_of_suc-le-suc}
use lib.Dec.{leb}
use lib.ListN.{length, get_or, drop, length-map}
use borrow.Author.Tests.{leb-true}
use Rattle.facts.specs.Tests.{and_left, and_right}
use Rattle.backup.specs.Limits.{pc_most}
use Rattle.rules.specs.Table.{Placement, code_of}
use Rattle.rules.specs.Judge.{ends_ok, inputs_ok, boards_ok, instructions_ok, limits_ok, Accepted}
use Rattle.rules.specs.Bytes.{sixes}
use Rattle.rules.specs.Format.{boards_in, processes_in, channels_in, version_in, pairs, records_start, record_bytes, program_length, record_head, record_length, rests, placement_in, instruction, decode_table, or_number, length_ok, counts_fit, counts_ok, records_ok, extent_ok, validate_table, version_ok}

-- ---- one test of a list of them

pub test_passed : (test : Bool) (n further : ℕ) → or_number test (suc n) further ≡ 0 → test ≡ true
test_passed true n further h = refl
test_passed false n further h = absurd (omega arith)

pub further-passed : (test : Bool) (n further : ℕ) → or_number test (suc n) further ≡ 0 → further ≡ 0
further-passed true n further h = h
further-passed false n further h = absurd (omega arith)

-- ---- all of them

pub record Valid (bytes : List ℕ) : Type 0 where
  pub length_ok_lem : length_ok bytes ≡ true
  pub version_ok_lem : version_ok (version_in bytes) ≡ true
  pub counts_ok_lem : counts_ok bytes ≡ true
  pub extent_ok_lem : extent_ok bytes ≡ true
  pub ends_ok_lem : ends_ok (decode_table bytes) ≡ true
  pub inputs_ok_lem : inputs_ok (decode_table bytes) ≡ true
  pub boards_ok_lem : boards_ok (decode_table bytes) ≡ true
  pub instructions_ok_lem : instructions_ok (decode_table bytes) ≡ true
  pub limits_ok_lem : limits_ok (decode_table bytes) ≡ true

-- of any nine tests
nine : (a b c d e f g h i : Bool)
    → or_number a 1 (or_number b 2 (or_number c 3 (or_number d 4 (or_number e 5 (or_number f 6 (or_number g 7 (or_number h 8 (or_number i 47 0)))))))) ≡ 0
    → (a ≡ true) × (b ≡ true) × (c ≡ true) × (d ≡ true) × (e ≡ true) × (f ≡ true) × (g ≡ true) × (h ≡ true) × (i ≡ true)
nine a b c d e f g h i n1 =
    let n2 = further-passed a 0 _ n1 in
    let n3 = further-passed b 1 _ n2 in
    let n4 = further-passed c 2 _ n3 in
    let n5 = further-passed d 3 _ n4 in
    let n6 = further-passed e 4 _ n5 in
    let n7 = further-passed f 5 _ n6 in
    let n8 = further-passed g 6 _ n7 in
    let n9 = further-passed h 7 _ n8 in (
      test_passed a 0 _ n1,
      test_passed b 1 _ n2,
      test_passed c 2 _ n3,
      test_passed d 3 _ n4,
      test_passed e 4 _ n5,
      test_passed f 5 _ n6,
      test_passed g 6 _ n7,
      test_passed h 7 _ n8,
      test_passed i 46 0 n9,
    )

pub valid : (bytes : List ℕ) → validate_table bytes ≡ 0 → Valid bytes
unfolding validate_table
valid bytes h =
    let t = decode_table bytes in
    let all = nine (length_ok bytes) (version_ok (version_in bytes)) (counts_ok bytes) (extent_ok bytes) (ends_ok t) (inputs_ok t) (boards_ok t) (instructions_ok t) (limits_ok t) h in
    record {
      length_ok_lem = all.0;
      version_ok_lem = all.1;
      counts_ok_lem = all.2;
      extent_ok_lem = all.3;
      ends_ok_lem = all.4;
      inputs_ok_lem = all.5;
      boards_ok_lem = all.6;
      instructions_ok_lem = all.7;
      limits_ok_lem = all.8;
    }

-- ---- the counts are the lists' lengths

pub length_pairs : (n : ℕ) (rest : List ℕ) → length (pairs n rest) ≡ n
length_pairs zero rest = refl
length_pairs (suc n) rest = ap suc (length_pairs n (drop 2 rest))

pub length-rests : (version n : ℕ) (rest : List ℕ) → length (rests version n rest) ≡ n
length-rests version zero rest = refl
length-rests version (suc n) rest = ap suc (length-rests version n (drop (record_length version rest) rest))

pub length-sixes : {A : Type 0} (make : ℕ → ℕ → ℕ → A) (n : ℕ) (bytes : List ℕ) → length (sixes make n bytes) ≡ n
length-sixes make zero bytes = refl
length-sixes make (suc n) bytes = ap suc (length-sixes make n (drop 6 bytes))

pub processes-counted : (bytes : List ℕ) → length (decode_table bytes).processes ≡ processes_in bytes
unfolding decode_table
processes-counted bytes =
    let version = version_in bytes in
    length-map (rests version (processes_in bytes) (record_bytes bytes)) (placement_in version) ∙ length-rests version (processes_in bytes) (record_bytes bytes)

pub channels-counted : (bytes : List ℕ) → length (decode_table bytes).channels ≡ channels_in bytes
unfolding decode_table
channels-counted bytes = length_pairs (channels_in bytes) (drop 6 bytes)

-- ---- a program is as long as its record says

short_from : (version n : ℕ) (rest : List ℕ) (d : Placement) → records_ok version n rest ≡ true → (p : ℕ) → p < n
    → length (get_or (map (placement_in version) (rests version n rest)) p d).code ≤ pc_most
short_from version zero rest d h p l = absurd (not-suc-le-zero l)
short_from version (suc n) rest d h zero l =
    let k = program_length version rest in
    let few : k ≤ pc_most = leb-true k pc_most (and_left (leb k pc_most) _ h) in
    rw (length-sixes instruction k (drop (record_head version) rest)) few
short_from version (suc n) rest d h (suc p) l =
    short_from version n (drop (record_length version rest) rest) d
    (and_right (leb (record_length version rest) (length rest)) _ (and_right (leb (program_length version rest) pc_most) _ h))
    p (le_of_suc-le-suc l)

pub short-programs : (bytes : List ℕ) → extent_ok bytes ≡ true → (p : ℕ) → p < processes_in bytes → length (code_of (decode_table bytes) p) ≤ pc_most
unfolding decode_table extent_ok
short-programs bytes h =
    short_from (version_in bytes) (processes_in bytes) (record_bytes bytes) _
    (and_right (leb (records_start bytes) (length bytes)) (records_ok (version_in bytes) (processes_in bytes) (record_bytes bytes)) h)

-- ---- together

-- what 3 asks
pub record Counts (boards processes channels : ℕ) : Type 0 where
  pub boards_low : 2 ≤ boards
  pub boards_high : boards ≤ 16
  pub processes_low : 1 ≤ processes
  pub processes_high : processes ≤ 16
  pub channels_low : 1 ≤ channels
  pub channels_high : channels ≤ 32

-- a number within two bounds
within : (low n high : ℕ) → (leb low n && leb n high) ≡ true → (low ≤ n) × (n ≤ high)
within low n high h = (leb-true low n (and_left (leb low n) (leb n high) h), leb-true n high (and_right (leb low n) (leb n high) h))

pub counts-fit : (boards processes channels : ℕ) → counts_fit boards processes channels ≡ true → Counts boards processes channels
counts-fit b p c h =
    let others = and_right (leb 2 b && leb b 16) _ h in
    let x = within 2 b 16 (and_left _ ((leb 1 p && leb p 16) && (leb 1 c && leb c 32)) h) in
    let y = within 1 p 16 (and_left _ (leb 1 c && leb c 32) others) in
    let z = within 1 c 32 (and_right (leb 1 p && leb p 16) _ others) in
    record { boards_low = x.0; boards_high = x.1; processes_low = y.0; processes_high = y.1; channels_low = z.0; channels_high = z.1 }

pub counted : (bytes : List ℕ) → counts_ok bytes ≡ true → Counts (boards_in bytes) (processes_in bytes) (channels_in bytes)
unfolding counts_ok
counted bytes = counts-fit (boards_in bytes) (processes_in bytes) (channels_in bytes)

pub decoded_accepted : (bytes : List ℕ) → validate_table bytes ≡ 0 → Accepted (decode_table bytes)
unfolding decode_table
decoded_accepted bytes h =
    let v = valid bytes h in
    let n = counted bytes v.counts_ok_lem in
    let ps = processes-counted bytes in
    let cs = channels-counted bytes in
    record {
      boards_low = n.boards_low;
      boards_high = n.boards_high;
      processes_low = omega arith;
      processes_high = omega arith;
      channels_low = omega arith;
      channels_high = omega arith;
      short = λ p l. short-programs bytes v.extent_ok_lem p (omega arith);
      ends = v.ends_ok_lem;
      few-inputs = v.inputs_ok_lem;
      on_boards = v.boards_ok_lem;
      instructions = v.instructions_ok_lem;
      limits = v.limits_ok_lem;
    }
