-- What the carrying of a word makes of the store, once its entry has left its queue: the sender's half, and then the reader's.
use Rattle.std.specs.Prelude.{◌≡◌, ℕ, ◌+◌, ◌<◌, List, length, slice_index}
use Rattle.facts.specs.Counts.{same}
use Rattle.rules.specs.Table.{Table, channel_at}
use Rattle.rules.specs.Judge.{Accepted}
use Rattle.rules.specs.Cabinet.{Cabinet, process_at, occupancy}
use Rattle.rules.specs.Moves.{deliver, counts, with_process}
use Rattle.state.specs.declared.entry.Entry.{Entry}
use Rattle.state.specs.declared.moved.Answer.{Answer}
use Rattle.state.specs.declared.queue.Queue.{Queue}
use Rattle.state.specs.declared.store.Store.{Store}
use Rattle.state.specs.Store.{Holds}
use Rattle.state.specs.Moved.{SameLengths}
use Rattle.plan.specs.declared.Counts.{Counts}
use Rattle.plan.specs.declared.Plan.{Plan}
use Rattle.plan.specs.declared.Program.{Program}
use Rattle.plan.specs.Plan.{plan_of, Planned}
use Rattle.rules.specs.Sizes.{channels_most}
use Rattle.bus.specs.Delivers.{mail_of, Room}
use Rattle.bus.specs.Transmitted.{transmitted_of}

-- "the sender's backup record, which counts it and keeps no copy"
abbrev pub counted_at : Table → ℕ → Cabinet → Cabinet
counted_at t k c = with_process (channel_at t k).sender (counts (process_at c (channel_at t k).sender)) c

-- The totals while a word of a channel is on the bus: it has left its queue, nobody has it yet, and they count it still.
pub record OnBus (t : Table) (totals : List ℕ) (channel : ℕ) (c : Cabinet) : Type 0 where
  pub total-is : (k : ℕ) → k < length t.channels → slice_index totals k ≡ occupancy t c k + same k channel
  pub totals-length : length totals ≡ channels_most

-- Whatever the table's bytes are, which it isn't lent, and the plan's counts and programs and the queues, which it doesn't look at. The store holds
-- the cabinet but for its totals, which count the word still: `between` are those that don't.
pub record Carries (l : Plan) (s : Store) (channel word : ℕ) (s' : Store) (r : Answer) : Type 0 where
  pub answer-is : r ≡ transmitted_of channel word
  pub holds : (t : Table) (table : List ℕ) (counts : Counts) (programs : List Program) (queues : List Queue) (between : List ℕ)
      (entries : List Entry) (c : Cabinet)
      → Accepted t → Planned t (plan_of table (record l { counts = counts; programs = programs }))
      → Holds t (record s { queues = queues; totals = between }) entries c
      → OnBus t s.totals channel c → channel < length t.channels → (channel_at t channel).sender < length t.processes → Room t c channel
      → Holds t (record s' { queues = queues }) entries (deliver t (mail_of channel word) (counted_at t channel c))
  pub queues-is : s'.queues ≡ s.queues
  pub same_lengths : SameLengths s s'
