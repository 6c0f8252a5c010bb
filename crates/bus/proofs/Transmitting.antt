-- Move 3: the two refusals, and the oldest entry that leaves, a word, a checkpoint or a state transfer.
use Rattle.std.proofs.Common.{◌≡◌, ℕ, zero, suc, ◌+◌, ◌%◌, ◌<◌, true, false, ◌≢◌, List, [], ◌∷◌, map, length, get_or, set, sym, refl, ap, ◌∙◌, subst, arith, length-set, get_or-set_other, get_or-set_same, Some, None}
use Rattle.facts.specs.Tests.{by_eq}
use Rattle.facts.specs.Counts.{same}
use Rattle.facts.specs.Lists.{listed}
use Rattle.facts.specs.Rings.{ring, ring_pop}
use Rattle.numbers.specs.declared.answers.Reason.TheVariants as reasons
use Rattle.numbers.specs.declared.answers.Reason.TheVariants.{CarryOfDead, QueueEmpty}
use Rattle.backup.specs.declared.place.Checkpoint as code
use Rattle.backup.specs.Place.{checkpoint_of}
use Rattle.plan.specs.declared.Counts.{Counts}
use Rattle.plan.specs.declared.Plan as plan
use Rattle.plan.specs.declared.Program.{Program}
use Rattle.plan.specs.Plan.{plan_of, Planned}
use Rattle.rules.specs.Table.{Table, channel_at}
use Rattle.rules.specs.Cabinet as rules
use Rattle.rules.specs.Cabinet.{Cabinet, outbox_at, process_at, occupancy, waiting}
use Rattle.rules.specs.Moves.{Command, Result, refuse, guard, transmit_dead, outbox_empty, transmit, transmit_oldest, transmit_item, with_outbox, numbers}
use Rattle.rules.specs.Reasons.{cause_of}
use Rattle.rules.proofs.Counting.{flight_leave}
use Rattle.state.specs.declared.entry.Entry.{Entry}
use Rattle.state.specs.declared.entry.Item.{Item}
use Rattle.state.specs.declared.entry.Item.TheVariants.{Word, Sync, Transfer}
use Rattle.state.specs.declared.moved.Answer.{Answer}
use Rattle.state.specs.declared.queue.Queue.{Queue}
use Rattle.state.specs.declared.store.Store.{Store}
use Rattle.state.specs.Queue.{no_queue, first_in, count_in, dead_in, oldest_of, front_of, popped_in}
use Rattle.state.specs.Store.{flag, Holds, lists_at, item_of, blank_entry, outbox_in}
use Rattle.state.specs.Moved.{Reachable, Answered, Reasoned, SameLengths, refusal_for, alone_of}
use Rattle.state.proofs.Reading.{at_outbox, at_dead, how_many_boards}
use Rattle.state.proofs.Totals.{occupancy_outbox, totalled-afresh}
use Rattle.state.proofs.Flagging.{flagged_none}
use Rattle.state.proofs.Queueing.{entry_leaves}
use Rattle.state.proofs.Popping.{front-none, front-some, row_then}
use Rattle.state.proofs.Refusing.{turned_away_lem, makes-refused}
use Rattle.state.proofs.Making.{its_board, dead_so, makes_alone}
use Rattle.state.proofs.Ends.{sent-inside}
use Rattle.state.proofs.Owners.{word_owner}
use Rattle.state.proofs.Arrivals.{room_for_oldest}
use Rattle.bus.specs.Parts.{with_totals, Left}
use Rattle.bus.specs.Delivers.{mail_of}
use Rattle.bus.specs.Carries.{OnBus, Carries}
use Rattle.bus.specs.Syncs.{Syncs}
use Rattle.bus.specs.Transfers.{Transfers}
use Rattle.bus.specs.Transmits.{Transmits}
use Rattle.bus.proofs.Own.{TransmitsOwn, CarriesOwn, carries_own, SyncsOwn, TransfersOwn}
use Rattle.bus.proofs.Delivering.{lengths_only}
use Rattle.bus.proofs.Leaving.{oldest-is}
use Rattle.bus.proofs.Syncing.{syncs_own}
use Rattle.bus.proofs.Transferring.{transfers_own}

-- ---- what an entry is

-- what is no word, and no checkpoint, is a transfer
pub no_fourth : {A : Type 0} (i : Item) → ((channel word pc : ℕ) → i ≡ Word channel word pc → ⊥)
    → ((process : ℕ) (k : code.Checkpoint) → i ≡ Sync process k → ⊥) → ((process : ℕ) → i ≡ Transfer process → ⊥) → A
no_fourth (Word channel word pc) no_word no-checkpoint no_transfer = absurd (no_word channel word pc refl)
no_fourth (Sync process k) no_word no-checkpoint no_transfer = absurd (no-checkpoint process k refl)
no_fourth (Transfer process) no_word no-checkpoint no_transfer = absurd (no_transfer process refl)

-- ---- the queue

-- the oldest entry and the others
pub record Begins (c : Cabinet) (b count : ℕ) (i : rules.Item) : Type 0 where
  pub fewer : ℕ
  pub rest : List rules.Item
  pub is-count : count ≡ suc fewer
  pub is_queue : outbox_at c b ≡ i ∷ rest

module _ {t : Table} {s : Store} {entries : List Entry} {c : Cabinet} (h : Holds t s entries c) (b : ℕ) (hb : b < t.boards) where
  refused_34 : dead_in s.queues b ≡ true → transmit t c b ≡ refuse transmit_dead
  unfolding transmit guard
  refused_34 e = rw (at_dead h b hb, e)

  live : dead_in s.queues b ≡ false → transmit t c b ≡ transmit_oldest t c b (outbox_at c b)
  unfolding transmit guard
  live e = rw (at_dead h b hb, e)

  pub none-waits : count_in s.queues b ≡ 0 → outbox_at c b ≡ []
  unfolding outbox_in ring
  none-waits e =
      at_outbox h b hb ∙ ap (λ (n : ℕ). map (λ (x : Entry). item_of x.item) (ring blank_entry entries b (first_in s.queues b) n)) e

  refused_42 : dead_in s.queues b ≡ false → count_in s.queues b ≡ 0 → transmit t c b ≡ refuse outbox_empty
  unfolding transmit_oldest
  refused_42 z e = live z ∙ ap (transmit_oldest t c b) (none-waits e)

  pub begins : count_in s.queues b ≢ 0
      → Begins c b (count_in s.queues b) (item_of (get_or entries (oldest_of (get_or s.queues b no_queue) b) blank_entry).item)
  unfolding outbox_in
  begins n = go (count_in s.queues b) n (at_outbox h b hb)
    where
      go : (count : ℕ) → count ≢ 0 → outbox_at c b ≡ map (λ (x : Entry). item_of x.item) (ring blank_entry entries b (first_in s.queues b) count)
          → Begins c b count (item_of (get_or entries (oldest_of (get_or s.queues b no_queue) b) blank_entry).item)
      go zero k e = absurd (k refl)
      go (suc count) k e = record {
        fewer = count;
        rest = map (λ (x : Entry). item_of x.item) (ring blank_entry entries b ((first_in s.queues b + 1) % 32) count);
        is-count = refl;
        is_queue = e ∙ ap (map (λ (x : Entry). item_of x.item)) (ring_pop blank_entry entries b (first_in s.queues b) count);
      }

-- ---- a word leaves

module _ {t : Table} {s : Store} {entries : List Entry} {c : Cabinet} (reach : Reachable t c) (h : Holds t s entries c) (b : ℕ) (hb : b < t.boards)
    (channel word pc : ℕ) (q : Begins c b (count_in s.queues b) (rules.message (mail_of channel word) pc)) where
  its_end : (channel_at t channel).sender < length t.processes
  its_end = (word_owner reach b (mail_of channel word) pc q.rest q.is_queue).0

  abbrev left_cabinet : Cabinet
  left_cabinet = with_outbox b q.rest c

  -- the totals count the word still
  on_bus_lem : OnBus t s.totals channel left_cabinet
  on_bus_lem = record {
    total-is = λ k l.
        let a = flight_leave k c.outboxes b (rules.message (mail_of channel word) pc) q.rest q.is_queue in
        let d = occupancy_outbox t c b q.rest k (same k channel) 0 (omega arith) in
        h.totalled.total-is k l ∙ omega arith;
    totals-length = h.totalled.totals-length;
  }

  -- no checkpoint waits less
  waits_still : (p : ℕ) → p < length t.processes
      → (lists_at s p).waits ≡ flag (waiting p (get_or (set c.outboxes b q.rest) (process_at c p).board []))
  waits_still p l =
      by_eq (process_at c p).board b
      (λ e. h.waits-is p l
      ∙ ap (λ (l : List rules.Item). flag (waiting p l)) (ap (outbox_at c) e ∙ q.is_queue)
      ∙ ap (λ (l : List rules.Item). flag (waiting p l))
      (sym (ap (λ (i : ℕ). get_or (set c.outboxes b q.rest) i []) e ∙ get_or-set_same c.outboxes b q.rest [] (rw (how_many_boards h) hb))))
      (λ n. h.waits-is p l
      ∙ ap (λ (l : List rules.Item). flag (waiting p l)) (sym (get_or-set_other c.outboxes b (process_at c p).board q.rest [] n)))

  -- what a count made afresh gives meanwhile
  abbrev between : List ℕ
  between = listed (occupancy t left_cabinet) 32

  -- the store s₁ is s without the entry
  module _ {s₁ : Store} (gone : Left s b s₁) where
    word_left : Holds t (with_totals s₁ between) entries left_cabinet
    word_left =
        subst (λ (y : Store). Holds t (with_totals y between) entries left_cabinet) (sym gone.left-is)
        (entry_leaves h reach.accepted.boards_high b hb s.processes gone.queue between q.fewer q.rest q.is-count
        (oldest-is h b hb q.fewer (rules.message (mail_of channel word) pc) q.rest q.is-count q.is_queue)
        (record {
          is-first = gone.popped.first-is;
          is-count = let z = gone.popped.count-is in let y = q.is-count in omega arith;
          is-dead = gone.popped.dead-is;
          totalled_then = totalled-afresh t left_cabinet reach.accepted.channels_high;
          flagged = flagged_none t s.processes;
          waiting-there = waits_still;
        }))

    -- and what the rules make of it
    word-answered : {table : List ℕ} {l : plan.Plan} (s' : Store) (r : Answer) (command : Command) → Planned t (plan_of table l)
        → CarriesOwn l s₁ channel word s' r
        → Answered t s' entries c command (transmit_item t left_cabinet (rules.message (mail_of channel word) pc)) r
    unfolding transmit_item numbers cause_of
    word-answered {table} s' r command planned carried =
        let counted : OnBus t s₁.totals channel left_cabinet =
        subst (λ (y : Store). OnBus t y.totals channel left_cabinet) (sym gone.left-is) on_bus_lem in
        let after = carried.holds t table between entries left_cabinet reach.accepted planned word_left counted
        (sent-inside reach.accepted channel its_end) its_end (room_for_oldest reach b (mail_of channel word) pc q.rest q.is_queue) in
        subst (λ (z : Answer). Answered t s' entries c command (transmit_item t left_cabinet (rules.message (mail_of channel word) pc)) z)
        (sym carried.answer-is) (record { answer-is = refl; cause_is = refl; holds = after })

-- ---- what the move promises

-- the store without the entry
abbrev left : Store → ℕ → Queue → Store
left s b queue' = record { processes = s.processes; queues = set s.queues b queue'; totals = s.totals }

module _ (l : plan.Plan) (s : Store) (a b : ℕ) (x : Entry) (r : Answer) (is_b : a < 16 → b ≡ a) where
  pub transmits_34 : dead_in s.queues b ≡ true → r ≡ refusal_for CarryOfDead a → Transmits l s a x s r
  transmits_34 n e table counts programs =
      makes-refused CarryOfDead (ap alone_of e) (λ t entries c command reach planned h f o.
      turned_away_lem command a transmit_dead h (refused_34 h a o.board-there (dead_so s.queues true n reach o.board-there is_b)) f refl)

  module _ (alive : dead_in s.queues b ≡ false) where
    pub transmits_42 : front_of (get_or s.queues b no_queue) x ≡ None → r ≡ refusal_for QueueEmpty a → Transmits l s a x s r
    transmits_42 none e table counts programs =
        makes-refused QueueEmpty (ap alone_of e) (λ t entries c command reach planned h f o.
        let same : b ≡ a = its_board reach o.board-there is_b in
        let empty : count_in s.queues a ≡ 0 = ap (count_in s.queues) (sym same) ∙ front-none (get_or s.queues b no_queue) x none in
        turned_away_lem command a outbox_empty h (refused_42 h a o.board-there (dead_so s.queues false alive reach o.board-there is_b) empty) f refl)

    module _ (i : Item) (some : front_of (get_or s.queues b no_queue) x ≡ Some i) (queue' : Queue)
        (leaves : queue' ≡ popped_in (get_or s.queues b no_queue)) where
      -- what was made of it where the oldest entry is this one
      abbrev Carried : rules.Item → Store → Type 0
      Carried item s' =
          (t : Table) (table : List ℕ) (entries : List Entry) (c : Cabinet) (command : Command) → Reachable t c → Planned t (plan_of table l)
          → Holds t s entries c → a < t.boards → Left s a (left s b queue') → (q : Begins c a (count_in s.queues a) item)
          → Answered t s' entries c command (transmit_item t (with_outbox a q.rest c) item) r

      transmits_so : (item : rules.Item) → item_of i ≡ item → (s' : Store) → Reasoned r → r.code < 32 → SameLengths (left s b queue') s' → Carried item s' → TransmitsOwn l s a x s' r
      unfolding transmit_oldest
      transmits_so item m s' why done long carried table =
          makes_alone r why done
          (record {
            processes-same = long.processes-same;
            queues-same = long.queues-same ∙ length-set s.queues b queue';
            totals-same = long.totals-same;
          })
          refl
          (λ t entries c command reach planned h f o.
          let hb : a < t.boards = o.board-there in
          let same : b ≡ a = its_board reach hb is_b in
          let front = front-some (get_or s.queues b no_queue) x i some in
          let first : item_of (get_or entries (oldest_of (get_or s.queues a no_queue) a) blank_entry).item ≡ item =
          ap (λ (y : Entry). item_of y.item) (sym o.oldest-is) ∙ ap item_of front.1 ∙ m in
          let q = subst (Begins c a (count_in s.queues a)) first (begins h a hb (λ e. front.0 (ap (count_in s.queues) same ∙ e))) in
          let then_is : set s.queues b queue' ≡ set s.queues a (popped_in (get_or s.queues a no_queue)) =
          ap (set s.queues b) leaves ∙ ap (λ (k : ℕ). set s.queues k (popped_in (get_or s.queues k no_queue))) same in
          let gone : Left s a (left s b queue') = record {
            queue = popped_in (get_or s.queues a no_queue);
            popped = row_then h a hb q.fewer q.is-count;
            left-is = ap (λ (y : List Queue). record { processes = s.processes; queues = y; totals = s.totals }) then_is;
          } in
          let rule : transmit t c a ≡ transmit_item t (with_outbox a q.rest c) item =
          live h a hb (dead_so s.queues false alive reach hb is_b) ∙ ap (transmit_oldest t c a) q.is_queue in
          subst (λ (y : Result). Answered t s' entries c command y r) (sym rule) (carried t table entries c command reach planned h hb gone q))

      -- on the lent plan and store themselves
      pub transmits-word : (channel word pc : ℕ) → i ≡ Word channel word pc → (s' : Store) → CarriesOwn l (left s b queue') channel word s' r → TransmitsOwn l s a x s' r
      transmits-word channel word pc is_IsWord s' carried =
          transmits_so (rules.message (mail_of channel word) pc) (ap item_of is_IsWord) s'
          (subst Reasoned (sym carried.answer-is) (record { reason = reasons.Carried; reason-is = refl }))
          (let z = ap (λ (y : Answer). y.code) carried.answer-is in omega arith) carried.same_lengths
          (λ t table entries c command reach planned h hb gone q. word-answered reach h a hb channel word pc q gone s' r command planned carried)

      pub transmits-sync : (process : ℕ) (checkpoint : code.Checkpoint) → i ≡ Sync process checkpoint → (s' : Store)
          → SyncsOwn (left s b queue') process checkpoint s' r → TransmitsOwn l s a x s' r
      transmits-sync process checkpoint is-sync s' carried =
          transmits_so (rules.checkpoint process (checkpoint_of checkpoint)) (ap item_of is-sync) s' carried.reasoned carried.done (lengths_only carried.only)
          (λ t table entries c command reach planned h hb gone q.
          carried.answered t s entries c command a q.rest reach h hb gone q.is_queue)

      pub transmits-transfer : (process : ℕ) → i ≡ Transfer process → (s' : Store) → TransfersOwn (left s b queue') process s' r → TransmitsOwn l s a x s' r
      transmits-transfer process is-transfer s' carried =
          transmits_so (rules.transfer process) (ap item_of is-transfer) s' carried.reasoned carried.done (lengths_only carried.only)
          (λ t table entries c command reach planned h hb gone q.
          carried.answered t s entries c command a q.rest reach h hb gone q.is_queue)

-- and on every plan that is the lent one but for counts and programs
module _ (l : plan.Plan) (s : Store) (a b : ℕ) (x : Entry) (r : Answer) (is_b : a < 16 → b ≡ a) (alive : dead_in s.queues b ≡ false)
    (i : Item) (some : front_of (get_or s.queues b no_queue) x ≡ Some i) (queue' : Queue) (leaves : queue' ≡ popped_in (get_or s.queues b no_queue)) where
  abbrev with_plan : Counts → List Program → plan.Plan
  with_plan counts programs = record l { counts = counts; programs = programs }

  pub transmits_word_beside : (channel word pc : ℕ) → i ≡ Word channel word pc → (s' : Store) → Carries l (left s b queue') channel word s' r → Transmits l s a x s' r
  transmits_word_beside channel word pc is s' carried table counts programs =
      transmits-word (with_plan counts programs) s a b x r is_b alive i some queue' leaves channel word pc is s' (carries_own carried counts programs) table

  pub transmits_sync_beside : (process : ℕ) (checkpoint : code.Checkpoint) → i ≡ Sync process checkpoint → (s' : Store)
      → Syncs (left s b queue') process checkpoint s' r → Transmits l s a x s' r
  transmits_sync_beside process checkpoint is s' carried table counts programs =
      transmits-sync (with_plan counts programs) s a b x r is_b alive i some queue' leaves process checkpoint is s'
      (record { answered = syncs_own carried; reasoned = carried.reasoned; done = carried.done; only = carried.only }) table

  pub transmits_transfer_beside : (process : ℕ) → i ≡ Transfer process → (s' : Store) → Transfers (left s b queue') process s' r → Transmits l s a x s' r
  transmits_transfer_beside process is s' carried table counts programs =
      transmits-transfer (with_plan counts programs) s a b x r is_b alive i some queue' leaves process is s'
      (record { answered = transfers_own carried; reasoned = carried.reasoned; done = carried.done; only = carried.only }) table

-- of the plan that it is lent
pub transmits_own : {l : plan.Plan} {s : Store} {a : ℕ} {oldest : Entry} {s' : Store} {r : Answer} → Transmits l s a oldest s' r
    → TransmitsOwn l s a oldest s' r
transmits_own {l} m table = m table l.counts l.programs
