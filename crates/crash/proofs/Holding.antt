-- The store after a crash holds the rules' cabinet after it.
use Rattle.std.proofs.Common.{◌≡◌, ℕ, zero, suc, ◌+◌, ◌<◌, ◌≤◌, min, Bool, true, false, cond, not, eqb, ltb, ◌≢◌, List, [], ◌∷◌, length, get_or, set, sym, refl, ap, ◌∙◌, arith, get_or-set_other, get_or-set_same, le-ltb, lt-ltb, eq-eqb, ne_eqb, eqb-true}
use mathlib.Core.Bool.{not-not}
use mathlib.Core.Option.{Option, none, some}
use lib.ListN.{get_or-eq_default}
use Rattle.facts.specs.Tests.{any_below, none_below, by_eq, by_lt}
use Rattle.facts.specs.Counts.{total-set}
use Rattle.facts.specs.Lists.{listed}
use Rattle.facts.specs.Rings.{get_or_listed, listed-length}
use Rattle.backup.specs.Limits.{log_most}
use Rattle.plan.specs.Plan.{Plan, Planned, arity_in, sender_in, reader_in}
use Rattle.process.specs.declared.process.Process as code
use Rattle.process.specs.Row.{no_process, backed, recorded, mail_in, packed_at, mails_in, process_of, machine_of}
use Rattle.process.specs.Promotion.{Routes, promoted_by, BecameAtCrash}
use Rattle.rules.specs.Table.{Table, environment, inputs, channel_at}
use Rattle.rules.specs.Machine.{booted}
use Rattle.rules.specs.Cabinet as rules
use Rattle.rules.specs.Cabinet.{Cabinet, Process, Standby, nobody, process_at, outbox_at, unread_on, queued_on, in_flight, occupancy, waiting}
use Rattle.rules.specs.Moves.{unprotected, after_crash, all_after_crash}
use Rattle.rules.proofs.Counting.{flight_total, flight_lost}
use Rattle.state.specs.declared.entry.Entry.{Entry}
use Rattle.state.specs.Queue.{no_queue, reset_in}
use Rattle.state.specs.declared.queue.Queue.{Queue}
use Rattle.state.specs.declared.store.Store.{Store}
use Rattle.state.specs.Store.{flag, Totalled, Holds, lists_at, process_in}
use Rattle.state.specs.Moved.{Reachable}
use Rattle.state.proofs.Reading.{at_process, how_many, how_many_boards}
use Rattle.state.proofs.Boards.{Boarded, boards_emptied}
use Rattle.state.proofs.Totals.{unread-few}
use Rattle.state.proofs.Reaching.{channel_bounds}
use Rattle.state.proofs.Ends.{sender-inside, reader-inside}
use Rattle.state.proofs.Owners.{waiting_elsewhere, queued_elsewhere, fed-not-queued}
use Rattle.crash.specs.Losses.{runs_on_board, lost_words, unbacked_in, Zeroed}
use Rattle.crash.specs.Processes.{port_channel, port_channels, AllCrashed}
use Rattle.crash.specs.declared.recount.Unread.TheVariants.{Out, In}
use Rattle.crash.specs.Recount.{unread_here, unread_at, Recounted}

-- ---- the rules' functions

-- the rules' cabinet after the crash of board b
abbrev pub crashed_cabinet : Table → Cabinet → ℕ → Cabinet
crashed_cabinet t c b = record { processes = all_after_crash t b 0 c.processes; outboxes = set c.outboxes b []; dead = set c.dead b true }

-- a list given by a function, process by process
all_listed : (t : Table) (b i n : ℕ) (f g : ℕ → Process) → ((j : ℕ) → j < n → g j ≡ after_crash t b (i + j) (f j) (f j).standby)
    → all_after_crash t b i (listed f n) ≡ listed g n
unfolding all_after_crash
all_listed t b i zero f g h = refl
all_listed t b i (suc n) f g h =
    let here : g 0 ≡ after_crash t b i (f 0) (f 0).standby = h 0 (omega arith) ∙ ap (λ (p : ℕ). after_crash t b p (f 0) (f 0).standby) (omega arith) in
    let rest : all_after_crash t b (suc i) (listed (λ j. f (suc j)) n) ≡ listed (λ j. g (suc j)) n =
    all_listed t b (suc i) n (λ j. f (suc j)) (λ j. g (suc j))
    (λ j l. h (suc j) (omega arith) ∙ ap (λ (p : ℕ). after_crash t b p (f (suc j)) (f (suc j)).standby) (omega arith)) in
    λ k. sym here k ∷ rest k

-- a process of another board stays on its board
stays : (t : Table) (b p : ℕ) (x : Process) (o : Option Standby) → x.board ≢ b → (after_crash t b p x o).board ≡ x.board
unfolding after_crash
stays t b p x none n = refl
stays t b p x (some s) n = rw (ne_eqb b x.board (λ e. n (sym e))) (go (eqb b s.board))
  where
    go : (a : Bool) → (cond a (unprotected x) x).board ≡ x.board
    go true = refl
    go false = refl

-- the words of a channel in the queues, without those of board b
flight_without : (k : ℕ) (qs : List (List rules.Item)) (b : ℕ) → b < length qs → in_flight k (set qs b []) + queued_on k (get_or qs b []) ≡ in_flight k qs
flight_without k qs b l =
    let a = flight_total k qs in
    let d = flight_total k (set qs b []) in
    let e = total-set (queued_on k) qs b [] [] l in
    omega arith

-- ---- the channels of a process's ports

four : (f : ℕ → ℕ) (i : ℕ) → i < 4 → get_or (f 0 ∷ f 1 ∷ f 2 ∷ f 3 ∷ []) i 0 ≡ f i
four f zero l = refl
four f (suc zero) l = refl
four f (suc (suc zero)) l = refl
four f (suc (suc (suc zero))) l = refl
four f (suc (suc (suc (suc n)))) l = absurd (omega arith)

routes : {t : Table} {l : Plan} → Planned t l → (p : ℕ) → p < length t.processes → Routes t p (port_channels l.programs p)
routes {t} {l} plan p hp i few =
    let n : ℕ = arity_in l.programs p in
    sym (four (port_channel l.programs p) i few
    ∙ by_lt i (length (inputs t p))
    (λ h. rw (lt-ltb i n (rw (plan.arity_at p hp) h)) (plan.input_at_lem p hp i h))
    (λ h. rw (le-ltb i n (rw (plan.arity_at p hp) h)) (sym (get_or-eq_default (inputs t p) 0 {n = i} h))))

-- a backup is a record
is-record : (q : ℕ) → backed q ≡ true → recorded q ≡ true
is-record q e = rw (eqb-true q 1 e)

-- ---- unread words

-- no more than a mailbox has
unread_below : (processes : List code.Process) (p k : ℕ) → unread_at processes p k ≤ log_most
unread_below processes p k = go (ltb p 16)
  where
    go : (a : Bool) → cond a (unread_here (get_or processes p no_process) k) 0 ≤ log_most
    go true =
        let x : code.Process = get_or processes p no_process in
        let n : ℕ = min x.unread log_most in
        let first : ℕ = x.oldest in
        let few = unread-few k (mails_in first n x.mail) in
        let long = listed-length (λ i. mail_in (packed_at first x.mail i)) n in
        omega arith
    go false = omega arith

-- those of a channel, in the mailbox of its reader; the outside has none
unread-there : {t : Table} {l : Plan} {c₀ : Cabinet} → Reachable t c₀ → (c : Cabinet) (processes : List code.Process)
    → ((p : ℕ) → p < length t.processes → process_at c p ≡ process_of (get_or processes p no_process))
    → length c.processes ≡ length t.processes → ((p : ℕ) → p < length t.processes → (get_or processes p no_process).unread ≤ log_most) → Planned t l
    → (k : ℕ) → k < length t.channels → unread_at processes (reader_in l.wires k) k ≡ unread_on k (process_at c (channel_at t k).reader).machine.mailbox
unfolding process_of machine_of nobody booted
unread-there {t} {l} reach c processes is many kept plan k hk =
    let r : ℕ = (channel_at t k).reader in
    ap (λ (p : ℕ). unread_at processes p k) (plan.reader_at k hk)
    ∙ by_eq r environment
    (λ e.
    let none : process_at c r ≡ nobody = get_or-eq_default c.processes nobody {n = r} (let z = reach.accepted.processes_high in omega arith) in
    rw (le-ltb r 16 (omega arith)) (ap (λ (x : Process). unread_on k x.machine.mailbox) (sym none)))
    (λ n.
    let inside = reader-inside reach.accepted k hk n in
    let whole : min (get_or processes r no_process).unread log_most ≡ (get_or processes r no_process).unread =
    (let z = kept r inside in omega arith) in
    rw (lt-ltb r 16 (let z = reach.accepted.processes_high in omega arith), whole) (ap (λ (x : Process). unread_on k x.machine.mailbox) (sym (is r inside))))

-- ---- the cabinet afterwards

module _ {t : Table} {l : Plan} {s : Store} {entries : List Entry} {c : Cabinet} {b : ℕ} {processes' : List code.Process} {queued queued' totals' : List ℕ}
    (reach : Reachable t c) (h : Holds t s entries c) (plan : Planned t l) (hb : b < t.boards)
    (all-backed : any_below (unbacked_in s.processes) (length t.processes) ≡ false)
    (dropped : Recounted Out (length t.channels) l.wires s.processes s.totals queued)
    (words : Zeroed (lost_words l.wires s.processes b) (length t.channels) queued queued')
    (all : AllCrashed (length t.processes) l.programs s.processes b processes')
    (added : Recounted In (length t.channels) l.wires processes' queued' totals') where
  abbrev queues' : List Queue
  queues' = set s.queues b (reset_in (get_or s.queues b no_queue) 1)

  abbrev after : Store
  after = record { processes = processes'; queues = queues'; totals = totals' }

  -- ---- the processes

  became : (p : ℕ) → p < length t.processes
      → BecameAtCrash (lists_at s p) (lists_at after p) (λ x. after_crash t b p x x.standby)
      (cond (promoted_by b (lists_at s p)) 0 (lists_at s p).waits)
  became p hp =
      let small = reach.accepted.processes_high in
      let r = h.shape.processes-length in
      all.crashed_at p hp (omega arith) (h.kept p hp) t p (routes plan p hp)

  processes_then : all_after_crash t b 0 c.processes ≡ listed (process_in after) (length t.processes)
  processes_then =
      ap (all_after_crash t b 0) h.processes
      ∙ all_listed t b 0 (length t.processes) (process_in s) (process_in after)
      (λ p hp. (became p hp).process-is ∙ ap (λ (i : ℕ). after_crash t b i (process_in s p) (process_in s p).standby) (omega arith))

  process_then : (p : ℕ) → p < length t.processes → process_at (crashed_cabinet t c b) p ≡ process_in after p
  process_then p hp = ap (λ (x : List Process). get_or x p nobody) processes_then ∙ get_or_listed (process_in after) (length t.processes) p nobody hp

  -- ---- the boards: "its queue is lost"

  boards : Boarded t queues' entries (set c.outboxes b []) (set c.dead b true)
  boards = boards_emptied h reach.accepted.boards_high b hb 1

  -- ---- the totals

  board-is : (p : ℕ) → p < length t.processes → (process_at c p).board ≡ (lists_at s p).board
  unfolding process_of
  board-is p hp = ap (λ (x : Process). x.board) (at_process h p hp)

  runs-is : (p : ℕ) → p < length t.processes → runs_on_board s.processes b p ≡ eqb (process_at c p).board b
  runs-is p hp = rw (lt-ltb p 16 (let z = reach.accepted.processes_high in omega arith)) (ap (λ (n : ℕ). eqb n b) (sym (board-is p hp)))

  there_are : b < length c.outboxes
  there_are = rw (how_many_boards h) hb

  -- the unread words taken out, the words in queues are left
  queued_was : (k : ℕ) → k < length t.channels → get_or queued k 0 ≡ in_flight k c.outboxes
  unfolding occupancy
  queued_was k hk =
      let long = h.totalled.totals-length in
      let few = reach.accepted.channels_high in
      let at = dropped.each_at k hk (omega arith) in
      let was = h.totalled.total-is k hk in
      let out = unread-there reach c s.processes (at_process h) (how_many h) (λ p hp. (h.kept p hp).unread) plan k hk in
      let small = (channel_bounds reach k).few in
      let less = unread_below s.processes (reader_in l.wires k) k in
      omega arith

  -- and those of the dead queue
  queued_then : (k : ℕ) → k < length t.channels → get_or queued' k 0 ≡ in_flight k (set c.outboxes b [])
  queued_then k hk =
      let long : length queued ≡ 32 = dropped.same_length ∙ h.totalled.totals-length in
      let few = reach.accepted.channels_high in
      let at = words.each_at k hk (omega arith) in
      let was = queued_was k hk in
      let split = flight_without k c.outboxes b there_are in
      let from = plan.sender_at k hk in
      by_eq (channel_at t k).sender environment
      (λ e.
      let none = fed-not-queued reach k e in
      let less = flight_lost k c.outboxes b in
      let off : lost_words l.wires s.processes b k ≡ false = rw (le-ltb (sender_in l.wires k) 16 (omega arith)) in
      at ∙ rw off (omega arith))
      (λ n.
      let inside = sender-inside reach.accepted k hk n in
      let test : lost_words l.wires s.processes b k ≡ eqb (process_at c (channel_at t k).sender).board b =
      ap (runs_on_board s.processes b) from ∙ runs-is (channel_at t k).sender inside in
      by_eq (process_at c (channel_at t k).sender).board b
      (λ e.
      let its = (channel_bounds reach k).queued ∙ ap (λ (i : ℕ). queued_on k (outbox_at c i)) e in
      at ∙ rw (test, eq-eqb (process_at c (channel_at t k).sender).board b e) (omega arith))
      (λ m.
      let none = queued_elsewhere reach k b m in
      at ∙ rw (test, ne_eqb (process_at c (channel_at t k).sender).board b m) (omega arith)))

  -- and the unread words of the inboxes as they are now
  totals_then : Totalled t totals' (crashed_cabinet t c b)
  unfolding occupancy
  totals_then = record {
    total-is = λ k hk.
        let long : length queued' ≡ 32 = words.same_length ∙ dropped.same_length ∙ h.totalled.totals-length in
        let few = reach.accepted.channels_high in
        let at = added.each_at k hk (omega arith) in
        let was = queued_then k hk in
        let back = unread-there reach (crashed_cabinet t c b) processes' process_then
        (ap (λ (x : List Process). length x) processes_then ∙ listed-length (process_in after) (length t.processes)) (λ p hp. (became p hp).kept_again.unread) plan k hk in
        let small = (channel_bounds reach k).few in
        let fewer = flight_lost k c.outboxes b in
        let more = unread_below processes' (reader_in l.wires k) k in
        omega arith;
    totals-length = added.same_length ∙ words.same_length ∙ dropped.same_length ∙ h.totalled.totals-length;
  }

  -- ---- what waits

  -- of a process that ran on the dead board nothing waits anywhere
  nothing-waits : (p i : ℕ) → (process_at c p).board ≡ b → waiting p (get_or (set c.outboxes b []) i []) ≡ false
  nothing-waits p i e =
      by_eq i b
      (λ f. ap (waiting p) (ap (λ (j : ℕ). get_or (set c.outboxes b []) j []) f ∙ get_or-set_same c.outboxes b [] [] there_are))
      (λ n. ap (waiting p) (get_or-set_other c.outboxes b i [] [] n) ∙ waiting_elsewhere reach p i (λ f. n (sym f ∙ e)))

  -- and it went on as its backup, since every process has one
  has_backup_lem : (p : ℕ) → p < length t.processes → recorded (lists_at s p).protection ≡ true
  has_backup_lem p hp =
      let q : ℕ = (lists_at s p).protection in
      is-record q (sym (not-not (backed q)) ∙ ap not (none_below (unbacked_in s.processes) (length t.processes) all-backed p hp))

  waits_then : (p : ℕ) → p < length t.processes → (lists_at after p).waits ≡ flag (waiting p (get_or (set c.outboxes b []) (process_in after p).board []))
  waits_then p hp =
      let at = (became p hp).waits-is in
      let runs : promoted_by b (lists_at s p) ≡ eqb (process_at c p).board b = rw (has_backup_lem p hp) (ap (λ (i : ℕ). eqb i b) (sym (board-is p hp))) in
      by_eq (process_at c p).board b
      (λ e. at ∙ rw (runs, eq-eqb (process_at c p).board b e, nothing-waits p (process_in after p).board e))
      (λ n.
      let same : (process_in after p).board ≡ (process_at c p).board =
      ap (λ (x : Process). x.board) ((became p hp).process-is ∙ ap (λ (x : Process). after_crash t b p x x.standby) (sym (at_process h p hp)))
      ∙ stays t b p (process_at c p) (process_at c p).standby n in
      let queue : get_or (set c.outboxes b []) (process_in after p).board [] ≡ outbox_at c (process_at c p).board =
      ap (λ (i : ℕ). get_or (set c.outboxes b []) i []) same ∙ get_or-set_other c.outboxes b (process_at c p).board [] [] n in
      at ∙ rw (runs, ne_eqb (process_at c p).board b n) (h.waits-is p hp ∙ ap (λ (l : List rules.Item). flag (waiting p l)) (sym queue)))

  pub crash-holds : Holds t after entries (crashed_cabinet t c b)
  crash-holds = record {
    processes = processes_then;
    outboxes = boards.outboxes_are;
    dead = boards.dead_are;
    kept = λ p hp. (became p hp).kept_again;
    seated = λ p hp. (became p hp).seated_again _ _ (h.seated p hp);
    waits-is = λ p hp. waits_then p hp ∙ ap (λ (x : Process). flag (waiting p (get_or (set c.outboxes b []) x.board []))) (sym (process_then p hp));
    first_small = boards.first_small;
    count_small = boards.count_small;
    totalled = totals_then;
    shape = record {
      processes-length = all.same_length ∙ h.shape.processes-length;
      queues-length = boards.queues-length;
      entries-length = h.shape.entries-length;
    };
  }
