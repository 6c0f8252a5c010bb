-- Move 7 in the store: the refusals, and a state transfer that joins its board's queue.
use mathlib.Core.Path.{◌≡◌, refl, ap, sym, ◌∙◌, subst}
use mathlib.Core.Logic.{◌≢◌}
use mathlib.Core.Bool.{Bool, true, false, cond}
use mathlib.Core.List.{List}
use Prim.Native.Nat.{ℕ, zero, suc, ◌%◌, ◌≤◌, ◌<◌, min}
use native.Mathlib.Omega.{arith}
use lib.Dec.{eqb, leb, ltb}
use lib.ListN.{length, get_or, set, length-set}
use borrow.Author.Tests.{eq-eqb, ne_eqb, leb-false}
use Rattle.std.proofs.Common.{Some}
use Rattle.facts.specs.Tests.{by_eq, any_below, any_same}
use Rattle.facts.specs.Counts.{cond_more}
use Rattle.facts.specs.Lists.{listed}
use Rattle.backup.specs.Limits.{ports, pc_most}
use Rattle.numbers.specs.declared.answers.Reason.TheVariants.{ReturnedOrResync, QueueFullForResync, ResyncWaiting, NotReady, HasBackup}
use Rattle.plan.specs.declared.Counts.{Counts}
use Rattle.plan.specs.declared.Plan as plans
use Rattle.plan.specs.Plan.{Plan, Planned, plan_of, arity_in, port_in}
use Rattle.process.specs.declared.process.Process as code
use Rattle.process.specs.Row.{waiting_in, no_process, backed, mail_at, machine_of, process_of}
use Rattle.process.specs.Transfer.{OnPorts, BeginsTransfer}
use Rattle.rules.specs.Table.{Table, channel_at, placement_at, inputs, port_of, channel_on}
use Rattle.rules.specs.Machine.{Mail}
use Rattle.rules.specs.Cabinet as rules
use Rattle.rules.specs.Cabinet.{Cabinet, Process, outbox_most, occupancy_most, process_at, outbox_at, dead_at, protected, other_board, unread_on, occupancy, crowded}
use Rattle.rules.specs.Moves.{Refusal, refuse, accept, guard, has_backup, unready, rebackup_waits, rebackup_blocked, rebackup_done, with_process, enqueue, begin_transfer, rebackup, numbers}
use Rattle.rules.specs.Reasons.{cause_of}
use Rattle.rules.proofs.Tables.{input, few-ports, primary_ok, standby_ok}
use Rattle.rules.proofs.Inputs.{input_reader}
use Rattle.state.specs.declared.entry.Entry.{Entry}
use Rattle.state.specs.declared.moved.Moved.{Moved}
use Rattle.state.specs.declared.queue.Queue.{Queue}
use Rattle.state.specs.declared.store.Store.{Store}
use Rattle.state.specs.Queue.{no_queue, count_in, dead_in, place_of, pushed_in}
use Rattle.state.specs.Store.{Totalled, Holds, lists_at}
use Rattle.state.specs.Moved.{Reachable, Answered, refused_for, answer_for, moved_of}
use Rattle.state.proofs.Reading.{at_process, at_dead, how_many}
use Rattle.state.proofs.Reaching.{bounds}
use Rattle.state.proofs.Ends.{read_inside}
use Rattle.state.proofs.Owners.{unread_own}
use Rattle.state.proofs.Totals.{occupancy-mailbox, totalled-same}
use Rattle.state.proofs.Changing.{changed}
use Rattle.state.proofs.Flagging.{with_flag}
use Rattle.state.proofs.Joining.{is-protected, board-is, board-there, queue_has, waits_so, Waiter, waiter_joins}
use Rattle.state.proofs.Refusing.{reason_for, turned_away_lem, makes-refused}
use Rattle.state.proofs.Making.{its_index, its_board, dead_so, answered, makes-joined, for_reason}
use Rattle.rejoin.specs.Rebackups.{channel_in, crowded_on, transfer_entry, Rebackups}

-- ---- what a process says

-- a word of a mailbox is one of its channel's unread words
unread-there : (f : ℕ → Mail) (n i : ℕ) → i < n → 1 ≤ unread_on (f i).channel (listed f n)
unread-there f zero i l = absurd (omega arith)
unread-there f (suc n) zero l = rw (eq-eqb (f zero).channel (f zero).channel refl) (omega arith)
unread-there f (suc n) (suc i) l =
    let k : ℕ = (f (suc i)).channel in
    let a = unread-there (λ j. f (suc j)) n i (omega arith) in
    let b = cond_more (eqb k (f zero).channel) (unread_on k (listed (λ j. f (suc j)) n)) in
    omega arith

module _ {t : Table} {c : Cabinet} (reach : Reachable t c) (p : ℕ) (hp : p < length t.processes) (x : code.Process) (is : process_at c p ≡ process_of x) where
  -- each unread word is on a port of the process
  reads_it : (i : ℕ) → i < x.unread → (channel_at t (mail_at x i).channel).reader ≡ p
  unfolding process_of machine_of
  reads_it i few =
      let k : ℕ = (mail_at x i).channel in
      by_eq (channel_at t k).reader p (λ e. e) (λ n.
      absurd (let z = sym (ap (λ (y : Process). unread_on k y.machine.mailbox) is) ∙ unread_own reach p hp k n in
      let a = unread-there (mail_at x) x.unread i few in
      omega arith))

  on_ports_lem : {l : Plan} → Planned t l → OnPorts t p l.wires x
  on_ports_lem {l} plan i few =
      let k : ℕ = (mail_at x i).channel in
      let its = reads_it i few in
      let inside : k < length t.channels = read_inside reach.accepted k (rw its hp) in
      let small : k % 32 ≡ k = (let z = reach.accepted.channels_high in omega arith) in (
        ap (port_in l.wires) small ∙ plan.port_at k inside (rw its hp) ∙ ap (λ (q : ℕ). port_of t q k) its,
        (let e = (input t reach.accepted k p hp its).below in let f = few-ports t reach.accepted p hp in omega arith),
      )

  low : x.pc ≤ pc_most
  unfolding process_of machine_of
  low = let a = (bounds reach p hp).pc in let b = reach.accepted.short p hp in let e = ap (λ (y : Process). y.machine.pc) is in omega arith

-- ---- the tests, and the refusals

module _ {t : Table} {l : Plan} {s : Store} {entries : List Entry} {c : Cabinet} (reach : Reachable t c) (plan : Planned t l) (h : Holds t s entries c)
    (p : ℕ) (hp : p < length t.processes) where
  abbrev here : code.Process
  here = lists_at s p

  -- "its other table board"
  other-is : here.standby ≡ other_board t p (process_at c p)
  unfolding process_of
  other-is = (h.seated p hp).other-is ∙ ap (λ (x : Process). other_board t p x) (sym (at_process h p hp))

  other-there : here.standby < t.boards
  other-there = rw other-is (go (eqb (process_at c p).board (placement_at t p).primary))
    where
      go : (b : Bool) → cond b (placement_at t p).standby (placement_at t p).primary < t.boards
      go true = standby_ok t reach.accepted p hp
      go false = primary_ok t reach.accepted p hp

  -- whether it is dead
  abbrev dead : Bool
  dead = dead_in s.queues here.standby

  other-dead : dead_at c (other_board t p (process_at c p)) ≡ dead
  other-dead = ap (dead_at c) (sym other-is) ∙ at_dead h here.standby other-there

  held_back : (process_at c p).suppress ≡ here.suppress
  unfolding process_of
  held_back = ap (λ (x : Process). x.suppress) (at_process h p hp)

  -- 49's channels, by their totals
  abbrev full : Bool
  full = any_below (crowded_on l.programs s.totals p) (min (arity_in l.programs p) ports)

  crowded-is : crowded t c p ≡ full
  unfolding crowded
  crowded-is =
      let n : ℕ = length (inputs t p) in
      let many : min (arity_in l.programs p) ports ≡ n = (let a = plan.arity_at p hp in let b = few-ports t reach.accepted p hp in omega arith) in
      any_same (λ i. ltb occupancy_most (occupancy t c (channel_on t p i))) (crowded_on l.programs s.totals p) n
      (λ i few.
      let k : ℕ = channel_on t p i in
      let inside : k < length t.channels = read_inside reach.accepted k (rw (input_reader t p i few) hp) in
      let at : channel_in l.programs p i ≡ k = (let z = reach.accepted.channels_high in let e = plan.input_at_lem p hp i few in omega arith) in
      ap (ltb occupancy_most) (sym (h.totalled.total-is k inside) ∙ ap (λ (j : ℕ). get_or s.totals j 0) (sym at)))
      ∙ ap (any_below (crowded_on l.programs s.totals p)) (sym many)

  refused_50 : backed here.protection ≡ true → rebackup t c p ≡ refuse has_backup
  unfolding rebackup guard
  refused_50 e = rw (is-protected reach h p hp true e)

  module _ (bare : backed here.protection ≡ false) where
    unbacked : protected (process_at c p) ≡ false
    unbacked = is-protected reach h p hp false bare

    refused_50_dead : dead ≡ true → rebackup t c p ≡ refuse has_backup
    unfolding rebackup guard
    refused_50_dead e = rw (unbacked, other-dead, e)

    module _ (live : dead ≡ false) where
      alive : dead_at c (other_board t p (process_at c p)) ≡ false
      alive = other-dead ∙ live

      refused_49_held : here.suppress ≢ 0 → rebackup t c p ≡ refuse unready
      unfolding rebackup guard
      refused_49_held n = rw (unbacked, alive, held_back, ne_eqb here.suppress 0 n)

      module _ (free : here.suppress ≡ 0) where
        released : eqb (process_at c p).suppress 0 ≡ true
        released = eq-eqb (process_at c p).suppress 0 (held_back ∙ free)

        refused_49_full : full ≡ true → rebackup t c p ≡ refuse unready
        unfolding rebackup guard
        refused_49_full e = rw (unbacked, alive, released, crowded-is ∙ e)

        module _ (few : full ≡ false) where
          refused_41 : waiting_in here.waits ≡ true → rebackup t c p ≡ refuse rebackup_waits
          unfolding rebackup guard
          refused_41 e = rw (unbacked, alive, released, crowded-is ∙ few, waits_so reach h p hp true e)

          module _ (none : waiting_in here.waits ≡ false) where
            abbrev queue : List rules.Item
            queue = outbox_at c (process_at c p).board

            no_room_is : (b : Bool) → leb outbox_most (count_in s.queues here.board) ≡ b → leb outbox_most (length queue) ≡ b
            no_room_is b e = ap (leb outbox_most) (queue_has reach h p hp) ∙ e

            refused_38 : leb outbox_most (count_in s.queues here.board) ≡ true → rebackup t c p ≡ refuse rebackup_blocked
            unfolding rebackup guard
            refused_38 e = rw (unbacked, alive, released, crowded-is ∙ few, waits_so reach h p hp false none, no_room_is true e)

            accepted_so : leb outbox_most (count_in s.queues here.board) ≡ false
                → rebackup t c p ≡ accept (with_process p (begin_transfer t p (process_at c p)) (enqueue (process_at c p).board (rules.transfer p) c)) rebackup_done
            unfolding rebackup guard
            accepted_so e = rw (unbacked, alive, released, crowded-is ∙ few, waits_so reach h p hp false none, no_room_is false e)

  -- ---- the transfer joins

  transfer-waits : Waiter p (rules.transfer p)
  transfer-waits = record { its = λ q. refl; no_word = λ i. refl }

  module _ (room : count_in s.queues here.board < outbox_most) where
    abbrev b : ℕ
    b = here.board

    abbrev processes₁ : List code.Process
    processes₁ = with_flag s.processes p 1

    abbrev queues' : List Queue
    queues' = set s.queues b (pushed_in (get_or s.queues b no_queue))

    abbrev entries' : List Entry
    entries' = set entries (place_of (get_or s.queues b no_queue) b) (transfer_entry p)

    abbrev d : Cabinet
    d = enqueue b (rules.transfer p) c

    first : Holds t (record { processes = processes₁; queues = queues'; totals = s.totals }) entries' d
    first = waiter_joins reach h p hp (transfer_entry p) transfer-waits room

    -- and its new record is made
    rebackup-holds : (x' : code.Process) → BeginsTransfer (get_or processes₁ p no_process) l.wires x'
        → Holds t (record { processes = set processes₁ p x'; queues = queues'; totals = s.totals }) entries'
        (with_process p (begin_transfer t p (process_at c p)) d)
    unfolding begin_transfer
    rebackup-holds x' begins =
        let x : code.Process = get_or processes₁ p no_process in
        let at = at_process first p hp in
        let became = begins (first.kept p hp) t p (on_ports_lem reach p hp x at plan) (low reach p hp x at) (first.seated p hp) in
        let is : process_of x' ≡ begin_transfer t p (process_at c p) = became.process-is ∙ ap (begin_transfer t p) (sym at) in
        let u : Totalled t s.totals (with_process p (process_of x') d) =
        totalled-same first.totalled (occupancy-mailbox t d p (rw (how_many first) hp) (process_of x') (ap (λ (y : Process). y.machine.mailbox) is)) in
        rw is at (changed first reach.accepted.processes_high p hp x' s.totals became.kept_again became.seated_again
        became.waits_again (ap (λ (y : Process). y.board) is) u)

-- ---- what the move promises

module _ (plan : plans.Plan) (s : Store) (p a : ℕ) (is-p : a < 16 → p ≡ a) (r : Moved) where
  abbrev x : code.Process
  x = lists_at s p

  abbrev Same : Type 0
  Same = Rebackups plan s a s r

  -- of a process of the table the clamped number is the number
  at_index : {t : Table} {c : Cabinet} → Reachable t c → a < length t.processes → (P : ℕ → Type 0) → (p < length t.processes → P p) → P a
  at_index reach ha P given =
      let e = its_index reach ha is-p in
      subst P e (given (rw e ha))

  -- where the rules refuse every cabinet that the store holds
  abbrev Refuses : Refusal → Type 0
  Refuses why = (table : List ℕ) (counts : Counts) (t : Table) (entries : List Entry) (c : Cabinet) → Reachable t c
      → Planned t (plan_of table (record plan { counts = counts }))
      → Holds t s entries c → p < length t.processes → rebackup t c p ≡ refuse why

  refused_so : (why : Refusal) → r ≡ refused_for (reason_for why) a → Refuses why → Same
  refused_so why e given table counts =
      makes-refused (reason_for why) e (λ t entries c command reach planned h f ha.
      turned_away_lem command a why h (at_index reach ha (λ i. rebackup t c i ≡ refuse why) (given table counts t entries c reach planned h)) f refl)

  pub rebackups_50 : backed x.protection ≡ true → r ≡ refused_for HasBackup a → Same
  rebackups_50 y e = refused_so has_backup e (λ table counts t entries c reach planned h hp. refused_50 reach planned h p hp y)

  module _ (bare : backed x.protection ≡ false) (o : ℕ) (is-o : x.standby < 16 → o ≡ x.standby) where
    -- of a store that holds a cabinet the clamped board is the other board, which is dead where that one is
    other_so : (b : Bool) → dead_in s.queues o ≡ b → {t : Table} {l : Plan} {entries : List Entry} {c : Cabinet} → Reachable t c → Planned t l → Holds t s entries c
        → p < length t.processes → dead_in s.queues x.standby ≡ b
    other_so b e reach planned h hp = dead_so s.queues b e reach (other-there reach planned h p hp) is-o

    pub rebackups_50_dead : dead_in s.queues o ≡ true → r ≡ refused_for HasBackup a → Same
    rebackups_50_dead y e = refused_so has_backup e (λ table counts t entries c reach planned h hp.
        refused_50_dead reach planned h p hp bare (other_so true y reach planned h hp))

    module _ (live : dead_in s.queues o ≡ false) where
      pub rebackups_49_held : x.suppress ≢ 0 → r ≡ refused_for NotReady a → Same
      rebackups_49_held n e = refused_so unready e (λ table counts t entries c reach planned h hp.
          refused_49_held reach planned h p hp bare (other_so false live reach planned h hp) n)

      module _ (free : x.suppress ≡ 0) (found : Bool)
          (is_found : found ≡ any_below (crowded_on plan.programs s.totals p) (min (arity_in plan.programs p) ports)) where
        pub rebackups_49_full : found ≡ true → r ≡ refused_for NotReady a → Same
        rebackups_49_full y e = refused_so unready e (λ table counts t entries c reach planned h hp.
            refused_49_full reach planned h p hp bare (other_so false live reach planned h hp) free (sym is_found ∙ y))

        module _ (few : found ≡ false) where
          pub rebackups_41 : waiting_in x.waits ≡ true → r ≡ refused_for ResyncWaiting a → Same
          rebackups_41 y e = refused_so rebackup_waits e (λ table counts t entries c reach planned h hp.
              refused_41 reach planned h p hp bare (other_so false live reach planned h hp) free (sym is_found ∙ few) y)

          module _ (none : waiting_in x.waits ≡ false) (b : ℕ) (is_b : x.board < 16 → b ≡ x.board) where
            the_board : {t : Table} {entries : List Entry} {c : Cabinet} → Reachable t c → Holds t s entries c → p < length t.processes → b ≡ x.board
            the_board reach h hp = its_board reach (board-there reach h p hp) is_b

            pub rebackups_38 : leb outbox_most (count_in s.queues b) ≡ true → r ≡ refused_for QueueFullForResync a → Same
            rebackups_38 y e = refused_so rebackup_blocked e (λ table counts t entries c reach planned h hp.
                refused_38 reach planned h p hp bare (other_so false live reach planned h hp) free (sym is_found ∙ few) none (rw (← the_board reach h hp) y))

            pub rebackups-done : (x' : code.Process) (queue : Queue) (at : ℕ) → leb outbox_most (count_in s.queues b) ≡ false
                → BeginsTransfer (get_or (with_flag s.processes p 1) p no_process) plan.wires x'
                → queue ≡ pushed_in (get_or s.queues b no_queue) → at < 512 → at ≡ place_of (get_or s.queues b no_queue) b → r ≡ moved_of (answer_for ReturnedOrResync 0 0) (Some at)
                → Rebackups plan s a (record { processes = set (with_flag s.processes p 1) p x'; queues = set s.queues b queue; totals = s.totals }) r
            unfolding numbers cause_of
            rebackups-done x' queue at room begins is_queue below is_at e table counts =
                let after : Store = record { processes = set (with_flag s.processes p 1) p x'; queues = set s.queues b queue; totals = s.totals } in
                makes-joined (answer_for ReturnedOrResync 0 0) (for_reason ReturnedOrResync 0 0) (omega arith)
                (record { processes-same = simp length-set; queues-same = length-set s.queues b queue; totals-same = refl })
                at below refl e
                (λ t entries c command reach planned h f ha.
                at_index reach ha (λ i. Answered t after (set entries at (transfer_entry i)) c command (rebackup t c i) (answer_for ReturnedOrResync 0 0)) (λ hp.
                let its = the_board reach h hp in
                let room' : leb outbox_most (count_in s.queues x.board) ≡ false = rw (← its) room in
                answered _ rebackup_done (accepted_so reach planned h p hp bare (other_so false live reach planned h hp) free (sym is_found ∙ few) none room') refl refl
                (rw (is_queue, is_at, its, board-is reach h p hp) (rebackup-holds reach planned h p hp (leb-false _ _ room') x' begins))))
