-- The run of a first serial: 46 and nothing touched, or the cabinet's run of its table, whose promise gives the labels.
use Rattle.std.specs.Prelude.{Result, Ok, Err}
use mathlib.Core.Path.{◌≡◌, refl, ap}
use mathlib.Core.Bool.{Bool, true, false, cond}
use mathlib.Core.List.{List}
use Prim.Native.Nat.{ℕ, ◌≤◌}
use native.Mathlib.Omega.{arith}
use lib.Dec.{leb}
use lib.ListN.{length}
use borrow.Author.Tests.{leb-true}
use Rattle.numbers.specs.Runs.{number_of, refuses}
use Rattle.numbers.specs.declared.runs.Refusal.{Refusal}
use Rattle.rules.specs.Moves.{numbered}
use Rattle.rules.specs.Schedule.{commands_most, decode_schedule}
use Rattle.rules.specs.Run.{Buffers, Ran, run, refused_with}
use Rattle.rules.specs.Transparency.{answers_in, origins_in}
use Rattle.rules.proofs.Valid.{length-sixes}
use Rattle.cabinet.specs.Runs.{ran_by, Runs}
use Rattle.cabinet.specs.declared.run.Ended.{Ended}
use Rattle.cabinet.proofs.Running.{run-few}
use Rattle.label_line.specs.Line.{serial_most, line_number, line_bytes}
use Rattle.label_line.specs.Labels.{MakesTable, line_run, RunsLine}
use Rattle.label_line.proofs.Labelling.{labelled}

module _ (first : ℕ) (schedule : List ℕ) (before : Buffers) where
  -- whether a table was made shows in the number
  pub refused : (r : Refusal) → number_of r ≡ line_number first → RunsLine first schedule before (Err r) before
  unfolding line_run
  refused r e = go (leb first serial_most) refl e
    where
      go : (b : Bool) → leb first serial_most ≡ b → number_of r ≡ cond {A = ℕ} b 0 46 → RunsLine first schedule before (Err r) before
      go true low n = absurd (refuses r n)
      go false high n = record { ran = rw (high, n); failure_transparent = λ z. absurd (refuses r z); labelled = λ z. absurd (refuses r z) }

  low : {table : List ℕ} → MakesTable first (Ok table) → leb first serial_most ≡ true
  low made = go (leb first serial_most) refl made.number_is
    where
      go : (b : Bool) → leb first serial_most ≡ b → 0 ≡ cond {A = ℕ} b 0 46 → leb first serial_most ≡ true
      go true e n = e
      go false e n = absurd (omega arith)

  pub ran_line : {table : List ℕ} → MakesTable first (Ok table) → (r : Result Ended Refusal) (after : Buffers) → Runs table schedule before r after
      → RunsLine first schedule before r after
  unfolding line_run
  ran_line {table} made r after runs =
      let within : leb first serial_most ≡ true = low made in
      let line = made.made in
      let ran : Ran = ran_by r after in
      let few : ran.records ≤ commands_most = rw (ap (λ (x : Ran). x.records) runs.ran) (run-few table schedule before) in
      let many : length (answers_in ran) ≡ ran.records = length-sixes numbered ran.records ran.buffers.answers in
      record {
        ran = rw within (rw (← line.bytes_are) runs.ran);
        failure_transparent = λ e. rw (← line.bytes_are) (runs.failure_transparent e);
        labelled = λ e.
            labelled first (leb-true first serial_most within) (decode_schedule schedule) (answers_in ran) (origins_in ran) ran.quiet (rw many few) _
            (rw line.says at (runs.failure_transparent e));
      }

-- ---- a run has at most 10,000 records

few_by : (b : Bool) (first : ℕ) (schedule : List ℕ) (before : Buffers)
    → (cond b (run (line_bytes first) schedule before) (refused_with 46 before)).records ≤ commands_most
unfolding refused_with
few_by true first schedule before = run-few (line_bytes first) schedule before
few_by false first schedule before = omega arith

pub line-few : (first : ℕ) (schedule : List ℕ) (before : Buffers) (r : Result Ended Refusal) (after : Buffers) → RunsLine first schedule before r after
    → (ran_by r after).records ≤ commands_most
unfolding line_run
line-few first schedule before r after h =
    rw (ap (λ (x : Ran). x.records) h.ran) (few_by (leb first serial_most) first schedule before)
