-- Where the programs stand: each record begins where the rules' rest for it does, and a fetched instruction is that of the process's program.
use mathlib.Core.Path.{◌≡◌, refl, ap, sym, ◌∙◌, subst}
use mathlib.Core.Bool.{true, ◌&&◌}
use mathlib.Core.List.{List, []}
use Prim.Native.Nat.{ℕ, zero, suc, ◌+◌, ◌-◌, ◌*◌, ◌/◌, ◌≤◌, ◌<◌}
use native.Mathlib.Omega.{arith}
use native.Mathlib.Nat.{not-suc-le-zero, le_of_suc-le-suc}
use lib.Dec.{leb}
use lib.ListN.{length, get_or, drop, length-drop}
use lib.Seq.{drop-drop}
use borrow.Author.Tests.{leb-true}
use Rattle.facts.specs.Tests.{and_left, and_right}
use Rattle.facts.specs.Indexing.{get_or_map}
use Rattle.backup.specs.Limits.{pc_most}
use Rattle.rules.specs.Table.{Instruction, SET, Placement, code_of}
use Rattle.rules.specs.Bytes.{sixes}
use Rattle.rules.specs.Format.{version_in, record_head, processes_in, records_start, record_bytes, program_length, record_length, rests, placement_in, instruction, decode_table, records_ok, extent_ok}
use Rattle.rules.proofs.Valid.{length-sixes, length-rests}
use Rattle.records.specs.Fetch.{numbered, fetched, instruction_of}
use Rattle.records.proofs.Sixes.{six_from}
use Rattle.table.specs.Records.{record_from, record_start, program_start}

-- ---- records

-- the records behind the first
later : (bytes : List ℕ) (at p : ℕ) → record_from bytes at (suc p) ≡ record_from bytes (at + record_length (version_in bytes) (drop at bytes)) p
later bytes at zero = refl
later bytes at (suc p) = ap (λ (start : ℕ). start + record_length (version_in bytes) (drop start bytes)) (later bytes at p)

rest_later : (bytes : List ℕ) (at : ℕ) → drop (record_length (version_in bytes) (drop at bytes)) (drop at bytes) ≡ drop (at + record_length (version_in bytes) (drop at bytes)) bytes
rest_later bytes at = drop-drop (record_length (version_in bytes) (drop at bytes)) at bytes

rest_from : (bytes : List ℕ) (n at p : ℕ) → p < n → get_or (rests (version_in bytes) n (drop at bytes)) p [] ≡ drop (record_from bytes at p) bytes
rest_from bytes zero at p h = absurd (not-suc-le-zero h)
rest_from bytes (suc n) at zero h = refl
rest_from bytes (suc n) at (suc p) h =
    ap (λ (l : List ℕ). get_or (rests (version_in bytes) n l) p []) (rest_later bytes at)
    ∙ rest_from bytes n (at + record_length (version_in bytes) (drop at bytes)) p (le_of_suc-le-suc h)
    ∙ ap (λ (start : ℕ). drop start bytes) (sym (later bytes at p))

-- the table's rest from the record of process p on
pub rest-is : (bytes : List ℕ) (p : ℕ) → p < processes_in bytes → get_or (rests (version_in bytes) (processes_in bytes) (record_bytes bytes)) p [] ≡ drop (record_start bytes p) bytes
rest-is bytes p h = rest_from bytes (processes_in bytes) (records_start bytes) p h

-- ---- a table that passes number 4

-- a record stands within the table, with n at most 64
pub record Within (bytes : List ℕ) (start : ℕ) : Type 0 where
  pub few : program_length (version_in bytes) (drop start bytes) ≤ pc_most
  pub fits : start + record_length (version_in bytes) (drop start bytes) ≤ length bytes

-- the record at `at` is within, and what is asked of those behind it
first-within : (bytes : List ℕ) (n at : ℕ) → at ≤ length bytes → records_ok (version_in bytes) (suc n) (drop at bytes) ≡ true
    → Within bytes at × (records_ok (version_in bytes) n (drop (at + record_length (version_in bytes) (drop at bytes)) bytes) ≡ true)
first-within bytes n at l h =
    let rest : List ℕ = drop at bytes in
    let others = and_right (leb (program_length (version_in bytes) rest) pc_most) (leb (record_length (version_in bytes) rest) (length rest) && records_ok (version_in bytes) n (drop (record_length (version_in bytes) rest) rest)) h in
    let fits = leb-true (record_length (version_in bytes) rest) (length rest) (and_left (leb (record_length (version_in bytes) rest) (length rest)) (records_ok (version_in bytes) n (drop (record_length (version_in bytes) rest) rest)) others) in
    let e = length-drop at bytes in (
      record {
        few = leb-true (program_length (version_in bytes) rest) pc_most (and_left (leb (program_length (version_in bytes) rest) pc_most) (leb (record_length (version_in bytes) rest) (length rest) && records_ok (version_in bytes) n (drop (record_length (version_in bytes) rest) rest)) h);
        fits = omega arith;
      },
      subst (λ (r : List ℕ). records_ok (version_in bytes) n r ≡ true) (rest_later bytes at) (and_right (leb (record_length (version_in bytes) rest) (length rest)) (records_ok (version_in bytes) n (drop (record_length (version_in bytes) rest) rest)) others),
    )

within_from : (bytes : List ℕ) (n at p : ℕ) → at ≤ length bytes → records_ok (version_in bytes) n (drop at bytes) ≡ true → p < n → Within bytes (record_from bytes at p)
within_from bytes zero at p l h k = absurd (not-suc-le-zero k)
within_from bytes (suc n) at zero l h k = (first-within bytes n at l h).0
within_from bytes (suc n) at (suc p) l h k =
    let f = first-within bytes n at l h in
    subst (Within bytes) (sym (later bytes at p)) (within_from bytes n (at + record_length (version_in bytes) (drop at bytes)) p f.0.fits f.1 (le_of_suc-le-suc k))

module _ (bytes : List ℕ) (ok : extent_ok bytes ≡ true) where
  pub starts_within : records_start bytes ≤ length bytes
  unfolding extent_ok
  starts_within = leb-true (records_start bytes) (length bytes) (and_left (leb (records_start bytes) (length bytes)) (records_ok (version_in bytes) (processes_in bytes) (record_bytes bytes)) ok)

  pub record_within : (p : ℕ) → p < processes_in bytes → Within bytes (record_start bytes p)
  unfolding extent_ok
  record_within p h =
      within_from bytes (processes_in bytes) (records_start bytes) p starts_within
      (and_right (leb (records_start bytes) (length bytes)) (records_ok (version_in bytes) (processes_in bytes) (record_bytes bytes)) ok) h

-- ---- programs

-- the program of process p
pub code_is : (bytes : List ℕ) (p : ℕ) → p < processes_in bytes
    → code_of (decode_table bytes) p ≡ sixes instruction (program_length (version_in bytes) (drop (record_start bytes p) bytes)) (drop (record_head (version_in bytes)) (drop (record_start bytes p) bytes))
unfolding decode_table
code_is bytes p h =
    let all = rests (version_in bytes) (processes_in bytes) (record_bytes bytes) in
    ap (λ (x : Placement). x.code) (get_or_map (placement_in (version_in bytes)) all p [] _ (rw (length-rests (version_in bytes) (processes_in bytes) (record_bytes bytes)) h))
    ∙ ap (λ (rest : List ℕ). (placement_in (version_in bytes) rest).code) (rest-is bytes p h)

-- an instruction fetched from among n that begin at `at`
pub fetched-is : (bytes : List ℕ) (at k n : ℕ) (d : Instruction) → k < n → at + 6 * n ≤ length bytes
    → instruction_of (fetched bytes at k) ≡ get_or (sixes instruction n (drop at bytes)) k d
unfolding fetched
fetched-is bytes at k n d h room =
    ap instruction_of (six_from numbered ((length bytes - at) / 6) bytes at k (numbered 0 0 0) (omega arith)) ∙ sym (six_from instruction n bytes at k d h)

-- the k-th instruction of process p is fetched from where its program begins
pub fetched-code : (bytes : List ℕ) → extent_ok bytes ≡ true → (p : ℕ) → p < processes_in bytes → (k : ℕ) → k < length (code_of (decode_table bytes) p)
    → instruction_of (fetched bytes (program_start bytes p) k) ≡ get_or (code_of (decode_table bytes) p) k (SET 0 0)
fetched-code bytes ok p h k l =
    let start = record_start bytes p in
    let n = program_length (version_in bytes) (drop start bytes) in
    let e : code_of (decode_table bytes) p ≡ sixes instruction n (drop (start + record_head (version_in bytes)) bytes) = code_is bytes p h ∙ ap (sixes instruction n) (drop-drop (record_head (version_in bytes)) start bytes) in
    let within : k < n = rw (ap length e ∙ length-sixes instruction n (drop (start + record_head (version_in bytes)) bytes)) at l in
    let room = (record_within bytes ok p h).fits in
    rw e (fetched-is bytes (start + record_head (version_in bytes)) k n (SET 0 0) within (omega arith))
