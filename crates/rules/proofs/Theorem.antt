-- Demand 3 of document 01: every accepted run is failure transparent, in the bytes that it writes. The statement is
-- specs/Transparency.antt; its one hypothesis is a test that computes, and the sample passes it.
use mathlib.Core.Path.{◌≡◌}
use mathlib.Core.Bool.{true}
use mathlib.Core.List.{List}
use Prim.Native.Nat.{ℕ}
use Rattle.rules.specs.Run.{Buffers, run, accepted}
use Rattle.rules.specs.Transparency.{FailureTransparency}
use Rattle.rules.proofs.Transparency.{transparent}
use Rattle.rules.proofs.AcceptedRun.{transparent_runs}
use Rattle.rules.proofs.Cases.{schedule_bytes}
use Rattle.rules.proofs.Marked.{sample, sample_page, sample_buffers, sample_accepted}

pub failure_transparency : (table schedule : List ℕ) (buffers : Buffers) → accepted table schedule buffers ≡ true
    → FailureTransparency table schedule (run table schedule buffers)
failure_transparency = transparent_runs transparent

pub sample_transparent : FailureTransparency sample (schedule_bytes sample_page) (run sample (schedule_bytes sample_page) sample_buffers)
sample_transparent = failure_transparency sample (schedule_bytes sample_page) sample_buffers sample_accepted
