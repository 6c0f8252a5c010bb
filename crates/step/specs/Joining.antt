-- Moves 1 and 2 with the entry by which each joins a queue.
use Rattle.std.specs.Prelude.{◌≡◌, ℕ, ◌<◌, List}
use Rattle.plan.specs.declared.Plan as code
use Rattle.rules.specs.Sizes.{processes_most}
use Rattle.state.specs.declared.moved.Moved.{Moved}
use Rattle.state.specs.declared.store.Store.{Store}
use Rattle.state.specs.Moved.{MailsStay, BackupsStay}
use Rattle.step.specs.declared.joining.Joining.{Joining}
use Rattle.step.specs.Issues.{Issues, sync_entry}
use Rattle.step.specs.Parts.{word_entry}
use Rattle.step.specs.Steps.{Steps}

-- the move's answer and where it joins
abbrev pub moved_in : Joining → Moved
moved_in r = record { answer = r.answer; at = r.at }

-- a step, and the word that it queues
pub record StepJoins (table : List ℕ) (plan : code.Plan) (s : Store) (a : ℕ) (s' : Store) (r : Joining) : Type 0 where
  pub steps : Steps table plan s a s' (moved_in r)
  pub entry_is : a < processes_most → r.entry ≡ word_entry s a r.answer
  pub backups-stay : BackupsStay s s'

-- a sync, and the process as it was before
pub record IssueJoins (s : Store) (a : ℕ) (s' : Store) (r : Joining) : Type 0 where
  pub issues : Issues s a s' (moved_in r)
  pub entry_is : a < processes_most → r.entry ≡ sync_entry s a
  pub mails-stay : MailsStay s s'
  pub backups-stay : BackupsStay s s'
  pub totals-stay : s'.totals ≡ s.totals
