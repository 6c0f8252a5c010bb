-- What W-211 says beside demand 3, which holds of every list of commands and so "with every accepted sequence of crashes, returns and resyncs".
-- Definitions only; proofs/Recovery.antt proves them.
use Rattle.std.specs.Prelude.{◌≡◌, Bool, true, false, ◌||◌, List, [], ◌∷◌, ◌++◌, map, ℕ, ◌<◌, length}
use Rattle.std.proofs.Math.Option.{some}
use Rattle.rules.specs.Table.{Table}
use Rattle.rules.specs.Reference.{Reference, Action, reference_start, reference_run, injections}
use Rattle.rules.specs.Cabinet.{Cabinet, process_at, protected}
use Rattle.rules.specs.Moves.{Command, Answer, step_done, issue_done, crash_done, rejoin_done, rebackup_done, received, queued, suppressed}
use Rattle.rules.specs.Moves.{transmitted, injected, sync_kept, sync_lost, transfer_kept, undo_done, refused, numbers, origin_of, run_from}
use Rattle.rules.specs.Transparent.{bus_of, fed_of, answered, originated, finished}
use Rattle.rules.specs.Rebackup.{any_completes}

-- ---- backed again

abbrev pub is_crash : Answer → Bool
is_crash crash_done = true
is_crash step_done = false
is_crash issue_done = false
is_crash rejoin_done = false
is_crash rebackup_done = false
is_crash undo_done = false
is_crash (received x) = false
is_crash (queued x) = false
is_crash (suppressed x) = false
is_crash (transmitted x) = false
is_crash (injected x) = false
is_crash (sync_kept p dropped) = false
is_crash (sync_lost p) = false
is_crash (transfer_kept p) = false
is_crash (refused why a) = false

abbrev pub any_crash : List Answer → Bool
any_crash [] = false
any_crash (a ∷ l) = is_crash a || any_crash l

-- From cabinet c a part of a run in which no board crashes, and the resync of each process that has no backup in c is carried.
pub record Repairs (t : Table) (c : Cabinet) (commands : List Command) : Type 0 where
  pub no_crash : any_crash (run_from t c commands).answers ≡ false
  pub each : (p : ℕ) → p < length t.processes → protected (process_at c p) || any_completes p (run_from t c commands).answers ≡ true

-- ---- nothing again

-- the answers of a part of a run that goes on from the end of another
abbrev pub answers_then : Table → List Command → List Command → List Answer
answers_then t before after = (run_from t (finished t before) after).answers

-- The plain run that explains the first part of a run goes on, and explains the rest: what is on the bus afterwards is put there by further
-- steps and feeds of the same plain cabinet, which does each of its steps once.
pub record Continues (t : Table) (before after : List Command) : Type 0 where
  pub actions : List Action
  pub mid : Reference
  pub ran : reference_run t (reference_start t) actions ≡ some mid
  pub traced : mid.trace ≡ bus_of (answered t before) (originated t before)
  pub fed : injections actions ≡ fed_of before (answered t before)
  -- and on
  pub more : List Action
  pub end : Reference
  pub ran_on : reference_run t mid more ≡ some end
  pub traced_on : end.trace ≡ mid.trace ++ bus_of (map numbers (answers_then t before after)) (map origin_of (answers_then t before after))
  pub fed_on : injections more ≡ fed_of after (map numbers (answers_then t before after))
