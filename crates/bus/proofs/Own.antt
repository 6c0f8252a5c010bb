-- What moves 3 and 4 and their parts promise of the plan and the store that they are lent. Its namesake in specs/ says it of every plan and store
-- that differ from these only where the call doesn't look.
use Rattle.std.proofs.Common.{◌≡◌, ℕ, ◌<◌, List, ◌∷◌, length, refl, sym, subst}
use Rattle.backup.specs.declared.place.Checkpoint as code
use Rattle.backup.specs.Place.{checkpoint_of}
use Rattle.plan.specs.declared.Counts.{Counts}
use Rattle.plan.specs.declared.Plan.{Plan}
use Rattle.plan.specs.declared.Program.{Program}
use Rattle.plan.specs.Plan.{plan_of, Planned}
use Rattle.rules.specs.Table.{Table, channel_at}
use Rattle.rules.specs.Judge.{Accepted}
use Rattle.rules.specs.Cabinet as rules
use Rattle.rules.specs.Cabinet.{Cabinet, outbox_at}
use Rattle.rules.specs.Moves.{Command, deliver, inject, transmit, transmit_item, with_outbox}
use Rattle.state.specs.declared.entry.Entry.{Entry}
use Rattle.state.specs.declared.moved.Answer.{Answer}
use Rattle.state.specs.declared.queue.Queue.{Queue}
use Rattle.state.specs.declared.store.Store.{Store}
use Rattle.state.specs.Store.{Totalled, Holds}
use Rattle.state.specs.Moved.{Reachable, Answered, Reasoned, SameLengths, MakesAlone, AChannel}
use Rattle.bus.specs.Parts.{with_totals, OnlyProcesses, Left}
use Rattle.bus.specs.Delivers.{mail_of, Room, Delivers}
use Rattle.bus.specs.Transmitted.{transmitted_of}
use Rattle.bus.specs.Carries.{counted_at, OnBus, Carries}
use Rattle.bus.specs.Transmits.{Oldest}

-- ---- the moves

abbrev pub InjectsOwn : Plan → Store → ℕ → ℕ → Store → Answer → Type 0
InjectsOwn l s a word s' r = (table : List ℕ) → MakesAlone (λ t c k. inject t c (mail_of k word)) (AChannel a) (plan_of table l) s a s' r

abbrev pub TransmitsOwn : Plan → Store → ℕ → Entry → Store → Answer → Type 0
TransmitsOwn l s a oldest s' r = (table : List ℕ) → MakesAlone transmit (Oldest s.queues a oldest) (plan_of table l) s a s' r

-- ---- a word

-- A delivery, whatever the totals are, which it doesn't look at; those that are true afterwards are its caller's matter.
pub record DeliversOwn (l : Plan) (s : Store) (channel word : ℕ) (s' : Store) : Type 0 where
  pub holds : (t : Table) (table totals totals' : List ℕ) (entries : List Entry) (c : Cabinet) → Accepted t → Planned t (plan_of table l)
      → Holds t (with_totals s totals) entries c
      → (channel_at t channel).reader < length t.processes → Room t c channel → Totalled t totals' (deliver t (mail_of channel word) c)
      → Holds t (with_totals s' totals') entries (deliver t (mail_of channel word) c)
  pub only : OnlyProcesses s s'

pub delivers_own : {l : Plan} {s : Store} {channel word : ℕ} {s' : Store} → Delivers l s channel word s' → (counts : Counts) (programs : List Program) (queues : List Queue)
    → DeliversOwn (record l { counts = counts; programs = programs }) (record s { queues = queues }) channel word (record s' { queues = queues })
delivers_own d counts programs queues = record {
  holds = λ t table totals totals' entries c. d.holds t table counts programs queues totals totals' entries c;
  only = record { processes-same = d.only.processes-same; queues-is = refl; totals-is = d.only.totals-is };
}

-- And a carry: the store holds the cabinet but for its totals, which count the word still; `between` are those that don't.
pub record CarriesOwn (l : Plan) (s : Store) (channel word : ℕ) (s' : Store) (r : Answer) : Type 0 where
  pub answer-is : r ≡ transmitted_of channel word
  pub holds : (t : Table) (table between : List ℕ) (entries : List Entry) (c : Cabinet) → Accepted t → Planned t (plan_of table l)
      → Holds t (with_totals s between) entries c
      → OnBus t s.totals channel c → channel < length t.channels → (channel_at t channel).sender < length t.processes → Room t c channel
      → Holds t s' entries (deliver t (mail_of channel word) (counted_at t channel c))
  pub queues-is : s'.queues ≡ s.queues
  pub same_lengths : SameLengths s s'

pub carries_own : {l : Plan} {s : Store} {channel word : ℕ} {s' : Store} {r : Answer} → Carries l s channel word s' r → (counts : Counts) (programs : List Program)
    → CarriesOwn (record l { counts = counts; programs = programs }) s channel word s' r
carries_own {s = s} {channel = channel} {word = word} {s' = s'} d counts programs = record {
  answer-is = d.answer-is;
  holds = λ t table between entries c ok planned h bus there inside room.
      subst (λ (q : List Queue). Holds t (record s' { queues = q }) entries (deliver t (mail_of channel word) (counted_at t channel c))) (sym d.queues-is)
      (d.holds t table counts programs s.queues between entries c ok planned h bus there inside room);
  queues-is = d.queues-is;
  same_lengths = d.same_lengths;
}

-- ---- a checkpoint and a transfer: of the cabinet that the store held before it, board b's oldest entry, left its queue

pub record SyncsOwn (s : Store) (process : ℕ) (checkpoint : code.Checkpoint) (s' : Store) (r : Answer) : Type 0 where
  pub answered : (t : Table) (before : Store) (entries : List Entry) (c : Cabinet) (command : Command) (b : ℕ) (rest : List rules.Item)
      → Reachable t c → Holds t before entries c → b < t.boards → Left before b s
      → outbox_at c b ≡ rules.checkpoint process (checkpoint_of checkpoint) ∷ rest
      → Answered t s' entries c command (transmit_item t (with_outbox b rest c) (rules.checkpoint process (checkpoint_of checkpoint))) r
  pub reasoned : Reasoned r
  pub done : r.code < 32
  pub only : OnlyProcesses s s'

pub record TransfersOwn (s : Store) (process : ℕ) (s' : Store) (r : Answer) : Type 0 where
  pub answered : (t : Table) (before : Store) (entries : List Entry) (c : Cabinet) (command : Command) (b : ℕ) (rest : List rules.Item)
      → Reachable t c → Holds t before entries c → b < t.boards → Left before b s → outbox_at c b ≡ rules.transfer process ∷ rest
      → Answered t s' entries c command (transmit_item t (with_outbox b rest c) (rules.transfer process)) r
  pub reasoned : Reasoned r
  pub done : r.code < 32
  pub only : OnlyProcesses s s'
