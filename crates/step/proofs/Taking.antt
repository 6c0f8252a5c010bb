-- A step that takes a word, in a store: the refusal 37, and the word that leaves its mailbox.
use Rattle.std.proofs.Common.{◌≡◌, ℕ, ◌+◌, ◌%◌, ◌^◌, ◌<◌, ◌≤◌, Bool, true, false, List, length, get_or, set, sym, refl, ap, ◌∙◌, subst, subst₂, arith, length-set}
use Rattle.facts.specs.Tests.{by_eq}
use Rattle.facts.specs.Counts.{same, same_yes}
use Rattle.backup.specs.Limits.{ports}
use Rattle.process.specs.declared.process.Process as lent
use Rattle.process.specs.Row.{mail_at, machine_of, process_of}
use Rattle.process.specs.Change.{Became, BackupStays}
use Rattle.instruction.specs.Instruction.{Intends, Takes, TallyRoom, after_take}
use Rattle.instruction.specs.declared.instruction.Intent.TheVariants.{Take}
use Rattle.plan.specs.declared.Plan as code
use Rattle.plan.specs.Plan.{port_in}
use Rattle.rules.specs.Table.{Table, code_of, limit_of, channel_at, port_of}
use Rattle.rules.specs.Machine.{Mail, Machine, took}
use Rattle.rules.specs.Cabinet.{Cabinet, Process, process_at, unread_on}
use Rattle.rules.specs.Moves.{guard, refuse, accept, owed_for, received, numbers, advanced, counting, one_taken, step, step_from, with_process}
use Rattle.rules.specs.Reasons.{cause_of}
use Rattle.numbers.specs.declared.answers.Reason.{Reason}
use Rattle.numbers.specs.declared.answers.Reason.TheVariants.{Took}
use Rattle.rules.proofs.Steps.{Steps}
use Rattle.rules.proofs.Counting.{step-unread}
use Rattle.rules.proofs.Tables.{input, few-ports}
use Rattle.state.specs.declared.entry.Entry.{Entry}
use Rattle.state.specs.declared.moved.Moved.{Moved}
use Rattle.state.specs.declared.store.Store.{Store}
use Rattle.state.specs.Store.{lists_at, Totalled, Holds}
use Rattle.state.specs.Moved.{Reachable, Answered, answer_for, refusal_for, alone_of, refused_for}
use Rattle.state.specs.Beside.{other_backup, with_backups}
use Rattle.state.proofs.Reading.{at_process, how_many}
use Rattle.state.proofs.Totals.{occupancy_less, totalled_less}
use Rattle.state.proofs.Changing.{put_process, changed}
use Rattle.state.proofs.Ends.{read_inside}
use Rattle.state.proofs.Owners.{unread_own}
use Rattle.state.proofs.Counters.{takes-few}
use Rattle.state.proofs.Refusing.{reason_for, turned_away_lem, makes-refused}
use Rattle.step.specs.Parts.{owing_in, blame_in, TakeTurns}
use Rattle.state.proofs.Making.{its_index, answered, makes_alone, for_reason}
use Rattle.step.proofs.Own.{TakeTurnsOwn}
use Rattle.step.proofs.Beside.{same_many, its_part, put_part, takes_beside}
use Rattle.step.proofs.Stepping.{same_lengths, machine-is, step_is, owing-is, blame_is, limited_here, instructions-room, events-room}

module _ {t : Table} {s : Store} {entries : List Entry} {c : Cabinet} (reach : Reachable t c) (h : Holds t s entries c) (p : ℕ) (hp : p < length t.processes)
    (n code a operand at : ℕ) (i : Intends (code_of t p) (lists_at s p) n code a operand (Take at)) where
  abbrev its : lent.Process
  its = lists_at s p

  -- the word, and the machine without it
  abbrev x : Mail
  x = mail_at its at

  abbrev m1 : Machine
  m1 = after_take code a at its

  abbrev taking : Process → Process
  taking y = advanced m1 (counting (one_taken (port_of t p x.channel)) y) y.suppress y

  went : Steps (code_of t p) (machine_of its) (took x) m1
  went = record { is = i.outcome }

  takes_so : (b : Bool) → owing_in (limit_of t p) its ≡ b → step t c p ≡ guard b (owed_for (limit_of t p) (process_at c p)) (accept (with_process p (taking (process_at c p)) c) (received x))
  unfolding step_from
  takes_so b e =
      step_is h p hp _ i.outcome
      ∙ ap (λ (z : Bool). guard z (owed_for (limit_of t p) (process_at c p)) (accept (with_process p (taking (process_at c p)) c) (received x))) (owing-is h p hp ∙ e)

  pub take-refused : owing_in (limit_of t p) its ≡ true → step t c p ≡ refuse (owed_for (limit_of t p) (process_at c p))
  unfolding guard
  take-refused e = takes_so true e

  pub take-accepted : owing_in (limit_of t p) its ≡ false → step t c p ≡ accept (with_process p (taking (process_at c p)) c) (received x)
  unfolding guard
  take-accepted e = takes_so false e

  -- one word less is unread, on the word's channel
  less : (k : ℕ) → unread_on k (process_at c p).machine.mailbox ≡ unread_on k m1.mailbox + same k x.channel
  less k = ap (λ (m : Machine). unread_on k m.mailbox) (machine-is h p hp) ∙ (let e = step-unread k (took x) went in omega arith)

  one_there : 1 ≤ unread_on x.channel (process_at c p).machine.mailbox
  one_there = let e = less x.channel in let f = same_yes x.channel x.channel refl in omega arith

  -- the process reads that channel
  pub reads_it : (channel_at t x.channel).reader ≡ p
  reads_it =
      by_eq (channel_at t x.channel).reader p (λ e. e)
      (λ f. absurd (let z = unread_own reach p hp x.channel f in let e = one_there in omega arith))

  pub channel-inside : x.channel < length t.channels
  channel-inside = read_inside reach.accepted x.channel (rw reads_it hp)

  port-there : port_of t p x.channel < ports
  port-there = let e = (input t reach.accepted x.channel p hp reads_it).below in let f = few-ports t reach.accepted p hp in omega arith

  takes-room : TallyRoom its (get_or its.taken (port_of t p x.channel) 0)
  unfolding process_of
  takes-room n =
      let e : get_or (process_at c p).since.taken (port_of t p x.channel) 0 ≡ get_or its.taken (port_of t p x.channel) 0 =
      ap (λ (y : Process). get_or y.since.taken (port_of t p x.channel) 0) (at_process h p hp) in
      let f = takes-few reach p hp (limited_here h p hp n) (port_of t p x.channel) in
      omega arith

  -- the store afterwards holds the rules' cabinet afterwards
  module _ (y' : lent.Process) (left : ℕ) (takes : Takes its code a at (port_of t p x.channel) y') (stays : BackupStays its y') (is-left : (left + 1) % 2 ^ 32 ≡ get_or s.totals x.channel 0) (left-fits : left < 2 ^ 32) where
    became : Became its y' taking
    became =
        subst (λ (z : lent.Process). Became its z taking) (λ j. record y' { log = sym stays.log-stays j; head = sym stays.head-stays j })
        (takes.became (code_of t p) n operand its.log its.head (h.kept p hp) i port-there (events-room h p hp reach) takes-room
        (instructions-room h p hp reach))

    now_is : process_of y' ≡ taking (process_at c p)
    now_is = became.process-is ∙ ap taking (sym (at_process h p hp))

    totals_then : Totalled t (set s.totals x.channel left) (with_process p (process_of y') c)
    unfolding advanced
    totals_then =
        totalled_less s.totals reach.accepted.channels_high x.channel channel-inside h.totalled.totals-length left
        (λ k l. h.totalled.total-is k l
        ∙ occupancy_less t c p (rw (how_many h) hp) (process_of y') x.channel reads_it
        (λ j. less j ∙ ap (λ (y : Process). unread_on j y.machine.mailbox + same j x.channel) (sym now_is)) k)
        is-left left-fits

    pub take-holds : Holds t (put_process s p y' (set s.totals x.channel left)) entries (with_process p (taking (process_at c p)) c)
    unfolding advanced
    take-holds =
        let u : List ℕ = set s.totals x.channel left in
        subst (λ (y : Process). Holds t (put_process s p y' u) entries (with_process p y c)) now_is
        (changed h reach.accepted.processes_high p hp y' u became.kept_again became.seated_again became.waits_again (ap (λ (y : Process). y.board) now_is) totals_then)

-- ---- what the part promises

module _ (plan : code.Plan) (s : Store) (limit p a : ℕ) (is-p : a < 16 → p ≡ a) (code register at : ℕ) (r : Moved) where
  abbrev taker : lent.Process
  taker = lists_at s p

  pub take_37 : owing_in limit taker ≡ true → (why : Reason) → why ≡ blame_in limit taker → r ≡ refused_for why a
      → TakeTurns plan s limit a code register at s r
  take_37 e why b g table counts programs others queues n operand =
      makes-refused why g (λ t entries c command reach planned h f i.
      let q = its_index reach i.process-there is-p in
      let j = rw (← q) at i in
      let hp = j.process-there in
      let is = its_part other_backup others s.processes reach h refl p hp in
      let blamed : reason_for (owed_for (limit_of t p) (process_at c p)) ≡ why =
      blame_is h p hp ∙ ap (λ (n : ℕ). blame_in n (lists_at (with_backups others s) p)) j.limit_is ∙ ap (blame_in limit) is ∙ sym b in
      rw (← q) (turned_away_lem command p (owed_for (limit_of t p) (process_at c p)) h
      (take-refused reach h p hp n code register operand at j.intends
      (ap (λ (n : ℕ). owing_in n (lists_at (with_backups others s) p)) j.limit_is ∙ ap (owing_in limit) is ∙ e)) (f ∙ sym q)
      (ap (λ (z : Reason). refusal_for z p) (sym blamed))))

  -- the word at the position
  abbrev its_word : Mail
  its_word = mail_at taker at

  -- the store afterwards
  abbrev taken_from : ℕ → ℕ → lent.Process → Store
  taken_from k left x' = put_process s p x' (set s.totals k left)

  -- on the lent plan and store themselves, where the backup stays as it was
  pub take_done : (k port left : ℕ) (x' : lent.Process) → owing_in limit taker ≡ false → (its_word.channel < 32 → k ≡ its_word.channel)
      → port ≡ port_in plan.wires k → Takes taker code register at port x' → BackupStays taker x' → (left + 1) % 2 ^ 32 ≡ get_or s.totals k 0 → left < 2 ^ 32
      → r ≡ alone_of (answer_for Took its_word.channel its_word.word) → TakeTurnsOwn plan s limit a code register at (taken_from k left x') r
  unfolding numbers cause_of
  take_done k port left x' e is-k is-port takes stays is-left fits g table n operand =
      makes_alone (answer_for Took its_word.channel its_word.word) (for_reason Took its_word.channel its_word.word) (omega arith)
      (same_lengths s p _ (set s.totals k left) (length-set s.totals k left)) g
      (λ t entries c command reach planned h f i.
      let q = its_index reach i.process-there is-p in
      let j = rw (← q) at i in
      let hp = j.process-there in
      let x : Mail = its_word in
      let inside = channel-inside reach h p hp n code register operand at j.intends in
      let its = reads_it reach h p hp n code register operand at j.intends in
      let kk : k ≡ x.channel = is-k (let z = reach.accepted.channels_high in omega arith) in
      let its-port : port ≡ port_of t p x.channel =
      is-port ∙ ap (port_in plan.wires) kk ∙ planned.port_at x.channel inside (rw its hp) ∙ ap (λ (i : ℕ). port_of t i x.channel) its in
      let there = take-holds reach h p hp n code register operand at j.intends x' left
      (subst (λ (i : ℕ). Takes taker code register at i x') its-port takes) stays (is-left ∙ ap (λ (i : ℕ). get_or s.totals i 0) kk) fits in
      rw (← q, kk) (answered _ (received x) (take-accepted reach h p hp n code register operand at j.intends (rw j.limit_is e)) refl refl there))

  -- and on every plan and store that are the lent ones but for counts, programs, backups and queues
  pub take_done_beside : (k port left : ℕ) (x' : lent.Process) → owing_in limit taker ≡ false → (its_word.channel < 32 → k ≡ its_word.channel)
      → port ≡ port_in plan.wires k → Takes taker code register at port x' → (left + 1) % 2 ^ 32 ≡ get_or s.totals k 0 → left < 2 ^ 32
      → r ≡ alone_of (answer_for Took its_word.channel its_word.word) → TakeTurns plan s limit a code register at (taken_from k left x') r
  unfolding numbers cause_of
  take_done_beside k port left x' e is-k is-port takes is-left fits g table counts programs others queues n operand =
      makes_alone (answer_for Took its_word.channel its_word.word) (for_reason Took its_word.channel its_word.word) (omega arith)
      (record {
        processes-same = same_many other_backup others s.processes _ (length-set s.processes p x');
        queues-same = refl;
        totals-same = length-set s.totals k left;
      }) g
      (λ t entries c command reach planned h f i.
      let q = its_index reach i.process-there is-p in
      let j = rw (← q) at i in
      let hp = j.process-there in
      let x : Mail = its_word in
      let is = its_part other_backup others s.processes reach h refl p hp in
      let put = put_part other_backup others s.processes reach h refl p hp x' in
      let word_is : mail_at (lists_at (with_backups others s) p) at ≡ x = ap (λ (y : lent.Process). mail_at y at) is in
      let inside = subst (λ (w : Mail). w.channel < length t.channels) word_is (channel-inside reach h p hp n code register operand at j.intends) in
      let its = subst (λ (w : Mail). (channel_at t w.channel).reader ≡ p) word_is (reads_it reach h p hp n code register operand at j.intends) in
      let kk : k ≡ x.channel = is-k (let z = reach.accepted.channels_high in omega arith) in
      let its-port : port ≡ port_of t p x.channel =
      is-port ∙ ap (port_in plan.wires) kk ∙ planned.port_at x.channel inside (rw its hp) ∙ ap (λ (i : ℕ). port_of t i x.channel) its in
      let taken =
      subst₂ (λ (y : lent.Process) (i : ℕ). Takes y code register at i (other_backup x' (others p))) (sym is)
      (its-port ∙ ap (λ (w : Mail). port_of t p w.channel) (sym word_is)) (takes_beside taker (others p) code register at port x' takes) in
      let stays : BackupStays (lists_at (with_backups others s) p) (other_backup x' (others p)) =
      subst (λ (y : lent.Process). BackupStays y (other_backup x' (others p))) (sym is) (record { log-stays = refl; head-stays = refl }) in
      let there = take-holds reach h p hp n code register operand at j.intends (other_backup x' (others p)) left
      taken stays (is-left ∙ ap (λ (i : ℕ). get_or s.totals i 0) kk ∙ ap (λ (w : Mail). get_or s.totals w.channel 0) (sym word_is)) fits in
      let so = take-accepted reach h p hp n code register operand at j.intends
      (ap (λ (n : ℕ). owing_in n (lists_at (with_backups others s) p)) j.limit_is ∙ ap (owing_in limit) is ∙ e) in
      let then : Mail → Type 0 =
      λ w. Answered t (put_process (record (with_backups others s) { queues = queues }) p (other_backup x' (others p)) (set s.totals w.channel left))
      entries c command (step t c p) (answer_for Took w.channel w.word) in
      rw (put, ← q, kk) (subst then word_is (answered _ (received (mail_at (lists_at (with_backups others s) p) at)) so refl refl there)))
