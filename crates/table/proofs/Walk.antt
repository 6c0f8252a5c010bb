-- Number 8 over programs and records: what the walk finds, place by place, is what the rules say of the whole table.
use mathlib.Core.Path.{◌≡◌, ap, ap₂, sym, ◌∙◌}
use mathlib.Core.Bool.{Bool, true, false, not}
use mathlib.Core.List.{List}
use Prim.Native.Nat.{ℕ, ◌+◌, ◌-◌, ◌*◌, ◌≤◌, ◌<◌}
use native.Mathlib.Omega.{arith}
use native.Mathlib.Numerals.{add-one}
use lib.ListN.{length, get_or, take, drop, length-drop}
use Rattle.facts.specs.Tests.{all_of, all_below}
use Rattle.facts.specs.Lists.{part-rest}
use Rattle.facts.specs.Walks.{Walked, walk_start, walk_on, walk_fails, walk_end}
use Rattle.facts.specs.Ranges.{all_same, all_listed}
use Rattle.rules.specs.Table.{Table, SET, code_of}
use Rattle.rules.specs.Bytes.{sixes}
use Rattle.rules.specs.Format.{version_in, record_head, processes_in, program_length, records_start, record_length, instruction, decode_table, extent_ok}
use Rattle.rules.specs.Judge.{instruction_ok, instructions_ok}
use Rattle.rules.proofs.Valid.{length-sixes, processes-counted}
use Rattle.records.specs.Fetch.{fetched}
use Rattle.table.specs.Judging.{passes, program_ok, record_ok}
use Rattle.table.specs.Records.{record_start}
use Rattle.table.proofs.Programs.{fetched-is, code_is, record_within}

-- ---- a program

-- the instruction at place k passes
abbrev pub place_passes : Table → ℕ → ℕ → List ℕ → ℕ → Bool
place_passes t p n program k = passes t p n (fetched program 0 k)

-- a test of n sixes by their places
by_place : {A : Type 0} (make : ℕ → ℕ → ℕ → A) (f : A → Bool) (n : ℕ) (l : List ℕ) (d : A)
    → all_of f (sixes make n l) ≡ all_below (λ k. f (get_or (sixes make n l) k d)) n
by_place make f n l d =
    all_listed f (sixes make n l) d ∙ ap (all_below (λ k. f (get_or (sixes make n l) k d))) (length-sixes make n l)

pub program_is : (t : Table) (p n : ℕ) (program : List ℕ) → 6 * n ≤ length program
    → program_ok t p n program ≡ all_of (instruction_ok t p n) (sixes instruction n program)
unfolding program_ok passes
program_is t p n program room =
    all_same (place_passes t p n program) (λ k. instruction_ok t p n (get_or (sixes instruction n program) k (SET 0 0))) n
    (λ k l. ap (instruction_ok t p n) (fetched-is program 0 k n (SET 0 0) l (omega arith)))
    ∙ sym (by_place instruction (instruction_ok t p n) n program (SET 0 0))

-- ---- the table

-- the record of process p passes
abbrev pub process_passes : List ℕ → ℕ → Bool
process_passes bytes p = record_ok (decode_table bytes) (version_in bytes) p (drop (record_start bytes p) bytes)

-- what the rules ask of the record of process p
abbrev instructions_pass : Table → ℕ → Bool
instructions_pass t p = all_of (instruction_ok t p (length (code_of t p))) (code_of t p)

pub record_is : (bytes : List ℕ) → extent_ok bytes ≡ true → (p : ℕ) → p < processes_in bytes
    → process_passes bytes p ≡ instructions_pass (decode_table bytes) p
unfolding record_ok
record_is bytes ok p h =
    let t = decode_table bytes in
    let rest = drop (record_start bytes p) bytes in
    let n = program_length (version_in bytes) rest in
    let room = (record_within bytes ok p h).fits in
    let a = length-drop (record_start bytes p) bytes in
    let b = length-drop (record_head (version_in bytes)) rest in
    let e = code_is bytes p h in
    program_is t p n (drop (record_head (version_in bytes)) rest) (omega arith)
    ∙ ap (λ (m : ℕ). all_of (instruction_ok t p m) (sixes instruction n (drop (record_head (version_in bytes)) rest))) (sym (ap length e ∙ length-sixes instruction n (drop (record_head (version_in bytes)) rest)))
    ∙ ap (all_of (instruction_ok t p (length (code_of t p)))) (sym e)

instructions_are : (bytes : List ℕ) → all_below (instructions_pass (decode_table bytes)) (processes_in bytes) ≡ instructions_ok (decode_table bytes)
unfolding instructions_ok
instructions_are bytes = ap (all_below (instructions_pass (decode_table bytes))) (sym (processes-counted bytes))

-- number 8, record by record
pub table_is : (bytes : List ℕ) → extent_ok bytes ≡ true → all_below (process_passes bytes) (processes_in bytes) ≡ instructions_ok (decode_table bytes)
table_is bytes ok =
    all_same (process_passes bytes) (instructions_pass (decode_table bytes)) (processes_in bytes) (record_is bytes ok) ∙ instructions_are bytes

-- ---- the walk over the records

-- the program that the code lends is that of the record
pub lent_program : (t : Table) (version p n head : ℕ) (rest : List ℕ) → n ≡ program_length version rest → head ≡ record_head version
    → program_ok t p n (take (length rest - head) (drop head rest)) ≡ record_ok t version p rest
unfolding record_ok
lent_program t version p n head rest e h = ap₂ (program_ok t p) e (part-rest rest head ∙ ap (λ (i : ℕ). drop i rest) h)

-- p records have passed, and the next begins at `at`
pub record Going (bytes : List ℕ) (at p : ℕ) : Type 0 where
  pub place : at ≡ record_start bytes p
  pub walked : Walked (process_passes bytes) (processes_in bytes) p

pub going_start : (bytes : List ℕ) (at : ℕ) → at ≡ records_start bytes → Going bytes at 0
going_start bytes at e = record { place = e; walked = walk_start (process_passes bytes) (processes_in bytes) }

module _ (bytes : List ℕ) (ok : extent_ok bytes ≡ true) where
  pub going_end : (at p : ℕ) → Going bytes at p → processes_in bytes ≤ p → true ≡ instructions_ok (decode_table bytes)
  going_end at p g h = walk_end (process_passes bytes) (processes_in bytes) p g.walked h ∙ table_is bytes ok

  module _ (at p version : ℕ) (told : version ≡ version_in bytes) (g : Going bytes at p) (h : p < processes_in bytes) where
    -- the table's rest that the code hands on
    abbrev lent : List ℕ
    lent = take (length bytes - at) (drop at bytes)

    -- its record's length
    lent_length : record_length version lent ≡ record_length (version_in bytes) (drop at bytes)
    lent_length = ap₂ record_length told (part-rest bytes at)

    pub going_within : at + record_length (version_in bytes) (drop at bytes) ≤ length bytes
    going_within = rw g.place (record_within bytes ok p h).fits

    pub lent_fits : record_length version lent ≤ length lent
    lent_fits =
        let a = going_within in let b = length-drop at bytes in let d : length lent ≡ length (drop at bytes) = ap length (part-rest bytes at) in
        let e = lent_length in omega arith

    pub lent_size : (size : ℕ) → size ≡ record_length version lent → at + size ≤ length bytes
    lent_size size s = let e = s ∙ lent_length in let a = going_within in omega arith

    module _ (r : Bool) (found : r ≡ record_ok (decode_table bytes) version p lent) where
      here : r ≡ process_passes bytes p
      here =
          found
          ∙ ap₂ (λ (v : ℕ) (rest : List ℕ). record_ok (decode_table bytes) v p rest) told (part-rest bytes at ∙ ap (λ (i : ℕ). drop i bytes) g.place)

      pub going_fails : not r ≡ true → false ≡ instructions_ok (decode_table bytes)
      going_fails n = walk_fails (process_passes bytes) (processes_in bytes) p r h here n ∙ table_is bytes ok

      pub going_on : not r ≡ false → (size : ℕ) → size ≡ record_length version lent → Going bytes (at + size) (p + 1)
      going_on n size s = record {
        place = rw add-one (ap₂ (λ (i m : ℕ). i + m) g.place (s ∙ lent_length ∙ ap (λ (i : ℕ). record_length (version_in bytes) (drop i bytes)) g.place));
        walked = walk_on (process_passes bytes) (processes_in bytes) p r g.walked h here n;
      }
