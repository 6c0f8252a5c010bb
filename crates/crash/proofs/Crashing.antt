-- Move 5 in the store: its two refusals, and the crash.
use Rattle.std.proofs.Common.{◌≡◌, ℕ, ◌<◌, ◌≤◌, Bool, true, false, not, List, length, get_or, set, sym, refl, ap, ◌∙◌, subst, arith, length-set}
use Rattle.numbers.specs.declared.answers.Reason.TheVariants.{BoardCrashed, CrashOfDead, SomeUnbacked}
use Rattle.facts.specs.Tests.{any_below, any_same}
use Rattle.plan.specs.declared.Plan.{Plan}
use Rattle.plan.specs.Plan.{Planned, plan_of}
use Rattle.rules.specs.Table.{Table}
use Rattle.process.specs.declared.process.Process as code
use Rattle.process.proofs.Processes.{protected-is}
use Rattle.rules.specs.Cabinet.{Cabinet, Process, process_at, protected, some_unbacked}
use Rattle.rules.specs.Moves.{refuse, accept, guard, crash_dead, not_backed, crash, crash_done, numbers}
use Rattle.rules.specs.Reasons.{cause_of}
use Rattle.state.specs.declared.entry.Entry.{Entry}
use Rattle.state.specs.declared.moved.Answer.{Answer}
use Rattle.state.specs.declared.queue.Queue.{Queue}
use Rattle.state.specs.declared.store.Store.{Store}
use Rattle.state.specs.Queue.{no_queue, dead_in, reset_in}
use Rattle.state.specs.Store.{Holds, lists_at}
use Rattle.state.specs.Moved.{Reachable, alone_of, refusal_for, answer_for}
use Rattle.state.proofs.Reading.{at_process, at_dead, how_many}
use Rattle.state.proofs.Making.{its_board, dead_so, answered, makes_alone, for_reason}
use Rattle.state.proofs.Refusing.{turned_away_lem, makes-refused}
use Rattle.crash.specs.Crashes.{Crashes}
use Rattle.crash.specs.Losses.{lost_words, unbacked_in, Zeroed}
use Rattle.crash.specs.Processes.{AllCrashed}
use Rattle.crash.specs.declared.recount.Unread.TheVariants.{Out, In}
use Rattle.crash.specs.Recount.{Recounted}
use Rattle.crash.proofs.Holding.{crashed_cabinet, crash-holds}

-- ---- the rules' tests, as the store has them

module _ {t : Table} {s : Store} {entries : List Entry} {c : Cabinet} (h : Holds t s entries c) (b : ℕ) (hb : b < t.boards) where
  bare_is : some_unbacked c ≡ any_below (unbacked_in s.processes) (length t.processes)
  unfolding some_unbacked
  bare_is =
      ap (any_below (λ p. not (protected (process_at c p)))) (how_many h)
      ∙ any_same (λ p. not (protected (process_at c p))) (unbacked_in s.processes) (length t.processes)
      (λ p l. ap (λ (x : Process). not (protected x)) (at_process h p l) ∙ ap not (protected-is (lists_at s p)))

  refused_34 : dead_in s.queues b ≡ true → crash t c b ≡ refuse crash_dead
  unfolding crash guard
  refused_34 e = rw (at_dead h b hb, e)

  refused_44 : dead_in s.queues b ≡ false → any_below (unbacked_in s.processes) (length t.processes) ≡ true → crash t c b ≡ refuse not_backed
  unfolding crash guard
  refused_44 z e = rw (at_dead h b hb, z, bare_is ∙ e)

  accepted_so : dead_in s.queues b ≡ false → any_below (unbacked_in s.processes) (length t.processes) ≡ false
      → crash t c b ≡ accept (crashed_cabinet t c b) crash_done
  unfolding crash guard
  accepted_so z e = rw (at_dead h b hb, z, bare_is ∙ e)

-- ---- what the move promises

module _ (plan : Plan) (s : Store) (a b : ℕ) (is_b : a < 16 → b ≡ a) where
  pub crashes_34 : dead_in s.queues b ≡ true → (r : Answer) → r ≡ refusal_for CrashOfDead a → Crashes plan s a s r
  crashes_34 y r e table = makes-refused CrashOfDead (ap alone_of e) (λ t entries c command reach planned h f ha.
      turned_away_lem command a crash_dead h (refused_34 h a ha (dead_so s.queues true y reach ha is_b)) f refl)

  module _ (live : dead_in s.queues b ≡ false) (p : ℕ) (is-p : plan.counts.processes ≤ 16 → p ≡ plan.counts.processes)
      (found : Bool) (is_found : found ≡ any_below (unbacked_in s.processes) p) where
    its_processes : {t : Table} {c : Cabinet} {table : List ℕ} → Reachable t c → Planned t (plan_of table plan) → p ≡ length t.processes
    its_processes reach planned = is-p (let z = reach.accepted.processes_high in let y = planned.processes-is in omega arith) ∙ planned.processes-is

    -- the test of the processes, of a store that holds a cabinet
    the_test : {t : Table} {c : Cabinet} {table : List ℕ} → Reachable t c → Planned t (plan_of table plan)
        → any_below (unbacked_in s.processes) (length t.processes) ≡ found
    the_test reach planned = ap (any_below (unbacked_in s.processes)) (sym (its_processes reach planned)) ∙ sym is_found

    pub crashes_44 : found ≡ true → (r : Answer) → r ≡ refusal_for SomeUnbacked a → Crashes plan s a s r
    crashes_44 y r e table = makes-refused SomeUnbacked (ap alone_of e) (λ t entries c command reach planned h f ha.
        turned_away_lem command a not_backed h (refused_44 h a ha (dead_so s.queues false live reach ha is_b) (the_test reach planned ∙ y)) f refl)

    pub crashes-done : found ≡ false → (k : ℕ) → (plan.counts.channels ≤ 32 → k ≡ plan.counts.channels)
        → (processes' : List code.Process) (queued queued' totals' : List ℕ) (queue : Queue)
        → Recounted Out k plan.wires s.processes s.totals queued → Zeroed (lost_words plan.wires s.processes a) k queued queued'
        → AllCrashed p plan.programs s.processes a processes' → Recounted In k plan.wires processes' queued' totals'
        → queue ≡ reset_in (get_or s.queues b no_queue) 1
        → Crashes plan s a (record { processes = processes'; queues = set s.queues b queue; totals = totals' }) (answer_for BoardCrashed 0 0)
    unfolding numbers cause_of
    crashes-done n k is-k processes' queued queued' totals' queue dropped words all added is_queue table =
        makes_alone (answer_for BoardCrashed 0 0) (for_reason BoardCrashed 0 0) (omega arith)
        (record {
          processes-same = all.same_length;
          queues-same = length-set s.queues b queue;
          totals-same = added.same_length ∙ words.same_length ∙ dropped.same_length;
        })
        refl
        (λ t entries c command reach planned h f ha.
        let its = its_board reach ha is_b in
        let ps = its_processes reach planned in
        let ks : k ≡ length t.channels = is-k (let z = reach.accepted.channels_high in let y = planned.channels-is in omega arith) ∙ planned.channels-is in
        let none : any_below (unbacked_in s.processes) (length t.processes) ≡ false = the_test reach planned ∙ n in
        let there = crash-holds reach h planned ha none
        (subst (λ (i : ℕ). Recounted Out i plan.wires s.processes s.totals queued) ks dropped)
        (subst (λ (i : ℕ). Zeroed (lost_words plan.wires s.processes a) i queued queued') ks words)
        (subst (λ (i : ℕ). AllCrashed i plan.programs s.processes a processes') ps all)
        (subst (λ (i : ℕ). Recounted In i plan.wires processes' queued' totals') ks added) in
        let queues-are : set s.queues b queue ≡ set s.queues a (reset_in (get_or s.queues a no_queue) 1) =
        ap (set s.queues b) is_queue ∙ ap (λ (i : ℕ). set s.queues i (reset_in (get_or s.queues i no_queue) 1)) its in
        answered _ crash_done (accepted_so h a ha (dead_so s.queues false live reach ha is_b) none) refl refl (rw queues-are there))
