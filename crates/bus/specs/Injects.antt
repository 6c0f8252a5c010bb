-- Move 4 (document 01: "feed outside channel a with a word: to the inbox and the backup record").
use Rattle.std.specs.Prelude.{ℕ, List}
use Rattle.plan.specs.declared.Counts.{Counts}
use Rattle.plan.specs.declared.Plan.{Plan}
use Rattle.plan.specs.declared.Program.{Program}
use Rattle.plan.specs.Plan.{plan_of}
use Rattle.rules.specs.Moves.{inject}
use Rattle.state.specs.declared.moved.Answer.{Answer}
use Rattle.state.specs.declared.queue.Queue.{Queue}
use Rattle.state.specs.declared.store.Store.{Store}
use Rattle.state.specs.Moved.{MakesAlone, AChannel}

-- whatever the table's bytes are, which it isn't lent, and the plan's counts and programs and the queues, which it doesn't look at
abbrev pub Injects : Plan → Store → ℕ → ℕ → Store → Answer → Type 0
Injects l s a word s' r =
    (table : List ℕ) (counts : Counts) (programs : List Program) (queues : List Queue)
    → MakesAlone (λ t c k. inject t c (record { channel = k; word = word })) (AChannel a)
    (plan_of table (record l { counts = counts; programs = programs })) (record s { queues = queues }) a (record s' { queues = queues }) r
