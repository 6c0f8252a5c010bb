-- A step that sends a word, in a store: one that is suppressed, the refusals 37, 38 and 39, and the word that joins its board's queue.
use Rattle.std.proofs.Common.{◌≡◌, ℕ, suc, ◌+◌, ◌-◌, ◌%◌, ◌^◌, ◌<◌, Bool, true, false, ◌||◌, leb, List, [], ◌∷◌, ◌++◌, length, get_or, set, sym, refl, ap, ◌∙◌, subst, subst₂, arith, length-set, get_or-set_other, get_or-set_same, Some}
use borrow.Author.Tests.{leb-false}
use Rattle.facts.specs.Tests.{by_eq}
use Rattle.facts.specs.Counts.{same}
use Rattle.process.specs.declared.process.Process as lent
use Rattle.process.specs.Row.{machine_of, process_of}
use Rattle.instruction.specs.Instruction.{Intends, Suppresses, suppressed_in, Queues, event_in, after_send}
use Rattle.instruction.specs.declared.instruction.Intent.TheVariants.{Send}
use Rattle.instruction.proofs.Counting.{queues}
use Rattle.plan.specs.declared.Plan as code
use Rattle.plan.specs.Plan.{reader_in}
use Rattle.rules.specs.Table.{Table, code_of, limit_of, channel_at}
use Rattle.rules.specs.Machine.{Mail, Machine, sent}
use Rattle.rules.specs.Cabinet as rules
use Rattle.rules.specs.Cabinet.{Cabinet, Process, outbox_most, is_waiter_of, process_at, outbox_at, full, waiting}
use Rattle.rules.specs.Moves as moves
use Rattle.rules.specs.Moves.{guard, refuse, accept, owed_for, send_blocked, send_held, suppressed, numbers, advanced, counting, one_sent, step, step_from, with_process, with_outbox, enqueue}
use Rattle.rules.specs.Reasons.{cause_of}
use Rattle.numbers.specs.declared.answers.Reason.{Reason}
use Rattle.numbers.specs.declared.answers.Reason.TheVariants.{HeldBack, Queued, QueueFullForSend, HeldForSend}
use Rattle.rules.proofs.Steps.{Steps, executes}
use Rattle.rules.proofs.Counting.{weight, flight_joined}
use Rattle.rules.proofs.Tables.{step_own}
use Rattle.state.specs.declared.entry.Entry.{Entry}
use Rattle.state.specs.declared.moved.Moved.{Moved}
use Rattle.state.specs.declared.queue.Queue.{Queue}
use Rattle.state.specs.declared.store.Store.{Store}
use Rattle.state.specs.Queue.{no_queue, first_in, count_in, place_of, pushed_in}
use Rattle.state.specs.Store.{flag, item_of, lists_at, Totalled, Holds}
use Rattle.state.specs.Moved.{Reachable, SameLengths, answer_for, refusal_for, moved_of, alone_of, refused_for}
use Rattle.state.specs.Beside.{other_lists, with_lists}
use Rattle.state.proofs.Reading.{at_process, how_many_boards}
use Rattle.state.proofs.Queueing.{QueueThen, entry_joins}
use Rattle.state.proofs.Flagging.{flagged_none}
use Rattle.state.proofs.Totals.{occupancy_outbox, totalled_more}
use Rattle.state.proofs.Changing.{row_changed}
use Rattle.state.proofs.Ends.{sent-inside}
use Rattle.state.proofs.Reaching.{bounds}
use Rattle.state.proofs.Refusing.{reason_for, turned_away_lem, makes-refused}
use Rattle.step.specs.Parts.{owing_in, blame_in, word_entry, SendTurns}
use Rattle.state.specs.Channel.{full_in}
use Rattle.state.proofs.Held.{full_is, occupancy_small}
use Rattle.state.proofs.Joining.{board-is, board-there, queue_has}
use Rattle.state.proofs.Making.{its_index, its_board, answered, makes_alone, makes-joined, for_reason}
use Rattle.step.proofs.Own.{SendTurnsOwn}
use Rattle.step.proofs.Beside.{same_many, its_part, put_part, suppresses_exact}
use Rattle.step.proofs.Stepping.{with_process_in, same_lengths, machine-is, step_is, owing-is, blame_is, instructions-room, events-room}

-- a word that joins a queue is no checkpoint
waiting-joined : (q : ℕ) (l : List rules.Item) (x : Mail) (pc : ℕ) → waiting q (l ++ (rules.message x pc ∷ [])) ≡ waiting q l
waiting-joined q [] x pc = refl
waiting-joined q (i ∷ l) x pc = ap (λ (b : Bool). is_waiter_of q i || b) (waiting-joined q l x pc)

module _ {t : Table} {s : Store} {entries : List Entry} {c : Cabinet} (reach : Reachable t c) (h : Holds t s entries c) (p : ℕ) (hp : p < length t.processes)
    (n code a operand channel word : ℕ) (i : Intends (code_of t p) (lists_at s p) n code a operand (Send channel word)) where
  abbrev its : lent.Process
  its = lists_at s p

  -- its board
  abbrev b : ℕ
  b = its.board

  abbrev x : Mail
  x = record { channel = channel; word = word }

  abbrev m1 : Machine
  m1 = after_send (machine_of its)

  went : Steps (code_of t p) (machine_of its) (sent x) m1
  went = record { is = i.outcome }

  -- its place, as the code has it, and in a byte
  at_place : (process_at c p).machine.pc ≡ its.pc
  unfolding machine_of
  at_place = ap (λ (m : Machine). m.pc) (machine-is h p hp)

  pub place_fits : its.pc % 256 ≡ its.pc
  unfolding machine_of
  place_fits = let w = (executes went).within in let z = reach.accepted.short p hp in omega arith

  -- the process sends on that channel
  own : (channel_at t channel).sender ≡ p
  own = step_own t reach.accepted p hp went

  pub channel-inside : channel < length t.channels
  channel-inside = sent-inside reach.accepted channel (rw own hp)

  sends_so : (held : ℕ) → its.suppress ≡ held → step t c p ≡ moves.send t c p (process_at c p) m1 x held
  unfolding step_from process_of
  sends_so held e =
      step_is h p hp _ i.outcome ∙ ap (moves.send t c p (process_at c p) m1 x) (ap (λ (y : Process). y.suppress) (at_process h p hp) ∙ e)

  -- ---- suppressed

  abbrev suppressing : ℕ → Process → Process
  suppressing left y = advanced m1 y.since left y

  pub suppressed_so : (left : ℕ) → its.suppress ≡ suc left → step t c p ≡ accept (with_process p (suppressing left (process_at c p)) c) (suppressed x)
  unfolding moves.send
  suppressed_so left e = sends_so (suc left) e

  -- what is left to suppress is few
  pub suppress_fits : its.suppress < 2 ^ 32
  unfolding process_of
  suppress_fits =
      let e : (process_at c p).suppress ≡ its.suppress = ap (λ (y : Process). y.suppress) (at_process h p hp) in
      let b = bounds reach p hp in
      let few = b.suppress in
      let least = b.limit in
      omega arith

  same-mailbox : m1.mailbox ≡ (process_at c p).machine.mailbox
  same-mailbox = ap (λ (m : Machine). m.mailbox) (sym (machine-is h p hp))

  pub suppress-holds : (left : ℕ) (x' : lent.Process) → its.suppress ≡ suc left → Suppresses its x'
      → Holds t (with_process_in s p x') entries (with_process p (suppressing left (process_at c p)) c)
  unfolding advanced
  suppress-holds left x' e became =
      row_changed h reach.accepted.processes_high p hp x' (suppressing left)
      (became (code_of t p) n code a operand channel word left (h.kept p hp) i e) refl same-mailbox

  -- ---- the refusals

  abbrev queueing : Process → Process
  queueing y = advanced m1 (counting one_sent y) 0 y

  abbrev then : Cabinet
  then = with_process p (queueing (process_at c p)) (enqueue (process_at c p).board (rules.message x (process_at c p).machine.pc) c)

  module _ (none : its.suppress ≡ 0) (reader : ℕ) (is-reader : reader ≡ (channel_at t channel).reader) where
    queues_so : (b1 b2 b3 : Bool) → owing_in (limit_of t p) its ≡ b1 → leb outbox_most (count_in s.queues b) ≡ b2 → full_in reader (get_or s.totals channel 0) ≡ b3
        → step t c p ≡ guard b1 (owed_for (limit_of t p) (process_at c p)) (guard b2 send_blocked (guard b3 send_held (accept then (moves.queued x))))
    unfolding moves.send
    queues_so b1 b2 b3 e1 e2 e3 =
        sends_so 0 none
        ∙ ap (λ (z : Bool). guard z (owed_for (limit_of t p) (process_at c p)) (guard (leb outbox_most (length (outbox_at c (process_at c p).board))) send_blocked (guard (full t c channel) send_held (accept then (moves.queued x))))) (owing-is h p hp ∙ e1)
        ∙ ap (λ (z : Bool). guard b1 (owed_for (limit_of t p) (process_at c p)) (guard z send_blocked (guard (full t c channel) send_held (accept then (moves.queued x))))) (ap (leb outbox_most) (queue_has reach h p hp) ∙ e2)
        ∙ ap (λ (z : Bool). guard b1 (owed_for (limit_of t p) (process_at c p)) (guard b2 send_blocked (guard z send_held (accept then (moves.queued x))))) (full_is h.totalled channel channel-inside reader is-reader ∙ e3)

    pub refused_37 : owing_in (limit_of t p) its ≡ true → step t c p ≡ refuse (owed_for (limit_of t p) (process_at c p))
    unfolding guard
    refused_37 e = queues_so true _ _ e refl refl

    pub refused_38 : owing_in (limit_of t p) its ≡ false → leb outbox_most (count_in s.queues b) ≡ true → step t c p ≡ refuse send_blocked
    unfolding guard
    refused_38 e f = queues_so false true _ e f refl

    pub refused_39 : owing_in (limit_of t p) its ≡ false → leb outbox_most (count_in s.queues b) ≡ false → full_in reader (get_or s.totals channel 0) ≡ true
        → step t c p ≡ refuse send_held
    unfolding guard
    refused_39 e f g = queues_so false false true e f g

    pub queued_so : owing_in (limit_of t p) its ≡ false → leb outbox_most (count_in s.queues b) ≡ false → full_in reader (get_or s.totals channel 0) ≡ false
        → step t c p ≡ accept then (moves.queued x)
    unfolding guard
    queued_so e f g = queues_so false false false e f g

  -- ---- the word joins

  module _ (few : count_in s.queues b < outbox_most) (e : Entry) (is-item : item_of e.item ≡ rules.message x (its.pc)) where
    hb : b < t.boards
    hb = board-there reach h p hp

    abbrev queue : Queue
    queue = get_or s.queues b no_queue

    abbrev items : List rules.Item
    items = outbox_at c b ++ (item_of e.item ∷ [])

    abbrev totals' : List ℕ
    totals' = set s.totals channel ((get_or s.totals channel 0 + 1) % 2 ^ 32)

    -- what waits still waits
    waits_then : (q : ℕ) → q < length t.processes → (lists_at s q).waits ≡ flag (waiting q (get_or (set c.outboxes b items) (process_at c q).board []))
    waits_then q hq =
        let there : b < length c.outboxes = rw (how_many_boards h) hb in
        by_eq (process_at c q).board b
        (λ f. let now_is : get_or (set c.outboxes b items) (process_at c q).board [] ≡ items = rw f (get_or-set_same c.outboxes b items [] there) in
        let still : waiting q items ≡ waiting q (outbox_at c b) = ap (λ (j : rules.Item). waiting q (outbox_at c b ++ (j ∷ []))) is-item ∙ waiting-joined q (outbox_at c b) x (its.pc) in
        h.waits-is q hq ∙ ap (λ (j : ℕ). flag (waiting q (outbox_at c j))) f ∙ ap flag (sym still) ∙ ap (λ (l : List rules.Item). flag (waiting q l)) (sym now_is))
        (λ f. h.waits-is q hq ∙ ap (λ (l : List rules.Item). flag (waiting q l)) (sym (get_or-set_other c.outboxes b (process_at c q).board items [] f)))

    -- one word more of the channel is in the queues
    totals_then : Totalled t totals' (with_outbox b items c)
    totals_then =
        totalled_more s.totals reach.accepted.channels_high channel channel-inside h.totalled.totals-length _
        (λ k hk.
        let more = flight_joined k c.outboxes b (item_of e.item) (rw (how_many_boards h) hb) in
        let w : weight k (item_of e.item) ≡ weight k (rules.message x (its.pc)) = ap (weight k) is-item in
        let now = occupancy_outbox t c b items k 0 (same k channel) (omega arith) in
        let was = h.totalled.total-is k hk in
        omega arith)
        refl
        (let was = h.totalled.total-is channel channel-inside in let few = occupancy_small reach channel in omega arith)

    queue_then : QueueThen t s c b s.processes (pushed_in queue) totals' (first_in s.queues b) (suc (count_in s.queues b)) items
    queue_then = record {
      is-first = refl;
      is-count = let l = h.count_small b hb in omega arith;
      is-dead = refl;
      totalled_then = totals_then;
      waiting-there = waits_then;
      flagged = flagged_none t s.processes;
    }

    -- the store afterwards holds the rules' cabinet afterwards
    abbrev then_store : lent.Process → Store
    then_store x' = record { processes = set s.processes p x'; queues = set s.queues b (pushed_in queue); totals = totals' }

    send-holds : (x' : lent.Process) → its.suppress ≡ 0 → Queues its x'
        → Holds t (then_store x') (set entries (place_of queue b) e) (with_process p (queueing (process_at c p)) (enqueue b (item_of e.item) c))
    unfolding advanced
    send-holds x' none became =
        let first = entry_joins h reach.accepted.boards_high b hb s.processes (pushed_in queue) totals' e few queue_then in
        row_changed first reach.accepted.processes_high p hp x' queueing
        (became (code_of t p) n code a operand channel word (h.kept p hp) i none (events-room h p hp reach) (instructions-room h p hp reach)) refl same-mailbox

    pub send-holds_so : (x' : lent.Process) → its.suppress ≡ 0 → Queues its x' → Holds t (then_store x') (set entries (place_of queue b) e) then
    send-holds_so x' none became =
        let Then : ℕ → rules.Item → Type 0 =
        λ j item. Holds t (then_store x') (set entries (place_of queue b) e) (with_process p (queueing (process_at c p)) (enqueue j item c)) in
        subst₂ Then (sym (board-is reach h p hp)) (is-item ∙ ap (rules.message x) (sym at_place)) (send-holds x' none became)

-- ---- what the part promises

module _ (plan : code.Plan) (s : Store) (limit p a : ℕ) (is-p : a < 16 → p ≡ a) (channel word : ℕ) (r : Moved) where
  abbrev sender : lent.Process
  sender = lists_at s p

  abbrev Turns : Store → Type 0
  Turns s' = SendTurns plan s limit a channel word s' r

  -- on the lent plan and store themselves, of any process that is as the rules' change makes it
  pub send-suppressed : (x' : lent.Process) → 0 < sender.suppress → Suppresses sender x' → r ≡ alone_of (answer_for HeldBack channel word)
      → SendTurnsOwn plan s limit a channel word (with_process_in s p x') r
  unfolding numbers cause_of
  send-suppressed x' some became g table n code register operand =
      makes_alone (answer_for HeldBack channel word) (for_reason HeldBack channel word) (omega arith) (same_lengths s p _ s.totals refl) g
      (λ t entries c command reach planned h f i.
      let q = its_index reach i.process-there is-p in
      let j = rw (← q) at i in
      let hp = j.process-there in
      let left : ℕ = sender.suppress - 1 in
      let e : sender.suppress ≡ suc left = omega arith in
      rw (← q) (answered _ (suppressed (record { channel = channel; word = word })) (suppressed_so reach h p hp n code register operand channel word j.intends left e)
      refl refl (suppress-holds reach h p hp n code register operand channel word j.intends left x' e became)))

  -- and on every plan and store that are the lent ones but for counts, programs, mailboxes and backups, of the process that the code makes
  pub send_suppressed_beside : (x' : lent.Process) → 0 < sender.suppress → x' ≡ suppressed_in sender → r ≡ alone_of (answer_for HeldBack channel word) → Turns (with_process_in s p x')
  unfolding numbers cause_of
  send_suppressed_beside x' some exact g table counts programs others n code register operand =
      makes_alone (answer_for HeldBack channel word) (for_reason HeldBack channel word) (omega arith)
      (record { processes-same = same_many other_lists others s.processes _ (length-set s.processes p x'); queues-same = refl; totals-same = refl }) g
      (λ t entries c command reach planned h f i.
      let q = its_index reach i.process-there is-p in
      let j = rw (← q) at i in
      let hp = j.process-there in
      let is = its_part other_lists others s.processes reach h refl p hp in
      let put = put_part other_lists others s.processes reach h refl p hp x' in
      let left : ℕ = sender.suppress - 1 in
      let left-is : sender.suppress ≡ suc left = omega arith in
      let e = ap (λ (y : lent.Process). y.suppress) is ∙ left-is in
      let few = suppress_fits reach h p hp n code register operand channel word j.intends in
      let became =
      subst₂ (λ (y y' : lent.Process). Suppresses y y') (sym is) (ap (λ (y : lent.Process). other_lists y (others p)) (sym exact))
      (suppresses_exact (other_lists sender (others p)) (subst (λ (y : lent.Process). y.suppress < 2 ^ 32) is few)) in
      rw (put, ← q) (answered _ (suppressed (record { channel = channel; word = word })) (suppressed_so reach h p hp n code register operand channel word j.intends left e)
      refl refl (suppress-holds reach h p hp n code register operand channel word j.intends left (other_lists x' (others p)) e became)))

  module _ (none : sender.suppress ≡ 0) where
    pub send_37 : owing_in limit sender ≡ true → (why : Reason) → why ≡ blame_in limit sender → r ≡ refused_for why a → Turns s
    send_37 e why b g table counts programs others n code register operand =
        makes-refused why g (λ t entries c command reach planned h f i.
        let q = its_index reach i.process-there is-p in
        let j = rw (← q) at i in
        let hp = j.process-there in
        let is = its_part other_lists others s.processes reach h refl p hp in
        let blamed : reason_for (owed_for (limit_of t p) (process_at c p)) ≡ why =
        blame_is h p hp ∙ ap (λ (n : ℕ). blame_in n (lists_at (with_lists others s) p)) j.limit_is ∙ ap (blame_in limit) is ∙ sym b in
        rw (← q) (turned_away_lem command p (owed_for (limit_of t p) (process_at c p)) h
        (refused_37 reach h p hp n code register operand channel word j.intends (ap (λ (y : lent.Process). y.suppress) is ∙ none) _ refl
        (ap (λ (n : ℕ). owing_in n (lists_at (with_lists others s) p)) j.limit_is ∙ ap (owing_in limit) is ∙ e)) (f ∙ sym q)
        (ap (λ (z : Reason). refusal_for z p) (sym blamed))))

    module _ (fresh : owing_in limit sender ≡ false) (b : ℕ) (is_b : sender.board < 16 → b ≡ sender.board) where
      -- the same is so of it with another mailbox and another backup
      board_beside : (other : lent.Process) {y : lent.Process} → y ≡ other_lists sender other → y.board < 16 → b ≡ y.board
      board_beside other is = let e = ap (λ (z : lent.Process). z.board) is in λ l. is_b (rw (← e) l) ∙ sym e

      fresh_beside : (other : lent.Process) {y : lent.Process} {most : ℕ} → most ≡ limit → y ≡ other_lists sender other → owing_in most y ≡ false
      fresh_beside other {y} e is = ap (λ (m : ℕ). owing_in m y) e ∙ ap (owing_in limit) is ∙ fresh

      pub send_38 : leb outbox_most (count_in s.queues b) ≡ true → r ≡ refused_for QueueFullForSend a → Turns s
      send_38 many g table counts programs others n code register operand =
          makes-refused QueueFullForSend g (λ t entries c command reach planned h f i.
          let q = its_index reach i.process-there is-p in
          let j = rw (← q) at i in
          let hp = j.process-there in
          let is = its_part other_lists others s.processes reach h refl p hp in
          let all = subst (λ (i : ℕ). leb outbox_most (count_in s.queues i) ≡ true) (its_board reach (board-there reach h p hp) (board_beside (others p) is)) many in
          rw (← q) (turned_away_lem command p send_blocked h
          (refused_38 reach h p hp n code register operand channel word j.intends (ap (λ (y : lent.Process). y.suppress) is ∙ none) _ refl
          (fresh_beside (others p) j.limit_is is) all) (f ∙ sym q) refl))

      module _ (few : leb outbox_most (count_in s.queues b) ≡ false) (k reader : ℕ) (is-k : channel < 32 → k ≡ channel) (is-reader : reader ≡ reader_in plan.wires k) where
        pub send_39 : full_in reader (get_or s.totals k 0) ≡ true → r ≡ refused_for HeldForSend a → Turns s
        send_39 e g table counts programs others n code register operand =
            makes-refused HeldForSend g (λ t entries c command reach planned h f i.
            let q = its_index reach i.process-there is-p in
            let j = rw (← q) at i in
            let hp = j.process-there in
            let l = channel-inside reach h p hp n code register operand channel word j.intends in
            let kk : k ≡ channel = is-k (let z = reach.accepted.channels_high in omega arith) in
            let is = its_part other_lists others s.processes reach h refl p hp in
            let few0 = subst (λ (i : ℕ). leb outbox_most (count_in s.queues i) ≡ false) (its_board reach (board-there reach h p hp) (board_beside (others p) is)) few in
            rw (← q) (turned_away_lem command p send_held h
            (refused_39 reach h p hp n code register operand channel word j.intends (ap (λ (y : lent.Process). y.suppress) is ∙ none) reader
            (is-reader ∙ ap (reader_in plan.wires) kk ∙ planned.reader_at channel l)
            (fresh_beside (others p) j.limit_is is) few0 (rw (← kk) e)) (f ∙ sym q) refl))

        -- the store afterwards
        abbrev queued_from : lent.Process → Store
        queued_from x' = record {
          processes = set s.processes p x';
          queues = set s.queues b (pushed_in (get_or s.queues b no_queue));
          totals = set s.totals k ((get_or s.totals k 0 + 1) % 2 ^ 32);
        }

        longs : (x' : lent.Process) (others : ℕ → lent.Process) → SameLengths (with_lists others s) (with_lists others (queued_from x'))
        longs x' others = record {
          processes-same = same_many other_lists others s.processes _ (length-set s.processes p x');
          queues-same = length-set s.queues b _;
          totals-same = length-set s.totals k _;
        }

        -- on the lent plan and store themselves
        pub send-queued : (x' : lent.Process) → full_in reader (get_or s.totals k 0) ≡ false → Queues sender x' → place_of (get_or s.queues b no_queue) b < 512
            → r ≡ moved_of (answer_for Queued channel word) (Some (place_of (get_or s.queues b no_queue) b))
            → SendTurnsOwn plan s limit a channel word (queued_from x') r
        unfolding numbers cause_of
        send-queued x' e became below g table n code register operand =
            makes-joined (answer_for Queued channel word) (for_reason Queued channel word) (omega arith)
            (record { processes-same = length-set s.processes p _; queues-same = length-set s.queues b _; totals-same = length-set s.totals k _ })
            (place_of (get_or s.queues b no_queue) b) below refl g
            (λ t entries c command reach planned h f i.
            let q = its_index reach i.process-there is-p in
            let j = rw (← q) at i in
            let hp = j.process-there in
            let l = channel-inside reach h p hp n code register operand channel word j.intends in
            let kk : k ≡ channel = is-k (let z = reach.accepted.channels_high in omega arith) in
            let bb = its_board reach (board-there reach h p hp) is_b in
            let few0 : leb outbox_most (count_in s.queues sender.board) ≡ false = rw (← bb) few in
            let so = queued_so reach h p hp n code register operand channel word j.intends none reader
            (is-reader ∙ ap (reader_in plan.wires) kk ∙ planned.reader_at channel l) (rw j.limit_is fresh) few0 (rw (← kk) e) in
            let there = send-holds_so reach h p hp n code register operand channel word j.intends (leb-false outbox_most _ few0) (word_entry s p r.answer)
            (ap (λ (z : Moved). item_of (word_entry s p z.answer).item) g
            ∙ ap (rules.message (record { channel = channel; word = word })) (place_fits reach h p hp n code register operand channel word j.intends))
            x' none became in
            rw (← q, bb, kk) (answered _ (moves.queued (record { channel = channel; word = word })) so refl refl there))

        -- and on every plan and store that are the lent ones but for counts, programs, mailboxes and backups
        pub send_queued_beside : (x' : lent.Process) → full_in reader (get_or s.totals k 0) ≡ false → x' ≡ event_in sender → place_of (get_or s.queues b no_queue) b < 512
            → r ≡ moved_of (answer_for Queued channel word) (Some (place_of (get_or s.queues b no_queue) b)) → Turns (queued_from x')
        unfolding numbers cause_of
        send_queued_beside x' e exact below g table counts programs others n code register operand =
            makes-joined (answer_for Queued channel word) (for_reason Queued channel word) (omega arith) (longs x' others) (place_of (get_or s.queues b no_queue) b) below refl g
            (λ t entries c command reach planned h f i.
            let q = its_index reach i.process-there is-p in
            let j = rw (← q) at i in
            let hp = j.process-there in
            let l = channel-inside reach h p hp n code register operand channel word j.intends in
            let kk : k ≡ channel = is-k (let z = reach.accepted.channels_high in omega arith) in
            let is = its_part other_lists others s.processes reach h refl p hp in
            let put = put_part other_lists others s.processes reach h refl p hp x' in
            let bb = its_board reach (board-there reach h p hp) (board_beside (others p) is) in
            let few0 = subst (λ (i : ℕ). leb outbox_most (count_in s.queues i) ≡ false) bb few in
            let none0 = ap (λ (y : lent.Process). y.suppress) is ∙ none in
            let so = queued_so reach h p hp n code register operand channel word j.intends none0 reader
            (is-reader ∙ ap (reader_in plan.wires) kk ∙ planned.reader_at channel l) (fresh_beside (others p) j.limit_is is) few0 (rw (← kk) e) in
            let became =
            subst₂ (λ (y y' : lent.Process). Queues y y') (sym is) (ap (λ (y : lent.Process). other_lists y (others p)) (sym exact))
            (queues (other_lists sender (others p))) in
            let there = send-holds_so reach h p hp n code register operand channel word j.intends (leb-false outbox_most _ few0) (word_entry s p r.answer)
            (ap (λ (z : Moved). item_of (word_entry s p z.answer).item) g
            ∙ ap (rules.message (record { channel = channel; word = word }))
            (ap (λ (y : lent.Process). y.pc % 256) (sym is) ∙ place_fits reach h p hp n code register operand channel word j.intends))
            (other_lists x' (others p)) none0 became in
            rw (put, ← q, bb, kk) (answered _ (moves.queued (record { channel = channel; word = word })) so refl refl there))
