-- Move 6 in the store: its refusal, and the board that is back.
use mathlib.Core.Path.{◌≡◌, refl, ap, sym, ◌∙◌, subst}
use mathlib.Core.Bool.{true, false}
use mathlib.Core.List.{List, []}
use Prim.Native.Nat.{ℕ, ◌+◌, ◌<◌}
use Rattle.numbers.specs.declared.answers.Reason.TheVariants.{ReturnedOrResync, BoardLive}
use native.Mathlib.Omega.{arith}
use lib.ListN.{get_or, set, length-set}
use lib.Seq.{set-get_or}
use Rattle.plan.specs.Plan.{Plan}
use Rattle.rules.specs.Table.{Table, channel_at}
use Rattle.rules.specs.Cabinet as rules
use Rattle.rules.specs.Cabinet.{Cabinet, process_at, unread_on, in_flight, occupancy, waiting}
use Rattle.rules.specs.Moves.{refuse, accept, guard, board_live, rejoin, rejoin_done, numbers}
use Rattle.rules.specs.Reasons.{cause_of}
use Rattle.rules.proofs.Guards.{rejoined_by}
use Rattle.state.specs.declared.entry.Entry.{Entry}
use Rattle.state.specs.declared.moved.Answer.{Answer}
use Rattle.state.specs.declared.queue.Queue.{Queue}
use Rattle.state.specs.declared.store.Store.{Store}
use Rattle.state.specs.Queue.{no_queue, dead_in, reset_in}
use Rattle.state.specs.Store.{flag, Totalled, Holds}
use Rattle.state.specs.Moved.{Reachable, MakesAlone, ABoard, alone_of, refusal_for, answer_for}
use Rattle.state.proofs.Reading.{at_dead}
use Rattle.state.proofs.Refusing.{turned_away_lem, makes-refused}
use Rattle.state.proofs.Making.{its_board, dead_so, answered, makes_alone, for_reason}
use Rattle.state.proofs.Boards.{Boarded, boards_emptied}
use Rattle.state.proofs.Owners.{dead-empty}
use Rattle.rejoin.specs.Rejoins.{Rejoins}

module _ {t : Table} {s : Store} {entries : List Entry} {c : Cabinet} (reach : Reachable t c) (h : Holds t s entries c) (b : ℕ) (hb : b < t.boards) where
  refused_48 : dead_in s.queues b ≡ false → rejoin t c b ≡ refuse board_live
  unfolding rejoin guard
  refused_48 e = rw (at_dead h b hb, e)

  module _ (dead : dead_in s.queues b ≡ true) where
    accepted_so : rejoin t c b ≡ accept (rejoined_by b c) rejoin_done
    unfolding rejoin guard
    accepted_so = rw (at_dead h b hb, dead)

    -- a dead board's queue is empty, and so it was before
    none_waited : set c.outboxes b [] ≡ c.outboxes
    none_waited = ap (set c.outboxes b) (sym (dead-empty reach b (at_dead h b hb ∙ dead))) ∙ set-get_or c.outboxes b []

    totals_then : Totalled t s.totals (rejoined_by b c)
    unfolding occupancy
    totals_then = record {
      total-is = λ k l.
          h.totalled.total-is k l
          ∙ ap (λ (qs : List (List rules.Item)). unread_on k (process_at c (channel_at t k).reader).machine.mailbox + in_flight k qs) (sym none_waited);
      totals-length = h.totalled.totals-length;
    }

    abbrev queues' : List Queue
    queues' = set s.queues b (reset_in (get_or s.queues b no_queue) 0)

    boards : Boarded t queues' entries (set c.outboxes b []) (set c.dead b false)
    boards = boards_emptied h reach.accepted.boards_high b hb 0

    rejoin-holds : Holds t (record { processes = s.processes; queues = queues'; totals = s.totals }) entries (rejoined_by b c)
    rejoin-holds = record {
      processes = h.processes;
      outboxes = boards.outboxes_are;
      dead = boards.dead_are;
      kept = h.kept;
      seated = h.seated;
      waits-is = λ p l. h.waits-is p l ∙ ap (λ (qs : List (List rules.Item)). flag (waiting p (get_or qs (process_at c p).board []))) (sym none_waited);
      first_small = boards.first_small;
      count_small = boards.count_small;
      totalled = totals_then;
      shape = record {
        processes-length = h.shape.processes-length;
        queues-length = boards.queues-length;
        entries-length = h.shape.entries-length;
      };
    }

-- ---- what the move promises

module _ (s : Store) (a b : ℕ) (is_b : a < 16 → b ≡ a) where
  pub rejoins_48 : (r : Answer) → dead_in s.queues b ≡ false → r ≡ refusal_for BoardLive a → Rejoins s a s r
  rejoins_48 r live e l processes totals = makes-refused BoardLive (ap alone_of e) (λ t entries c command reach plan h f ha.
      turned_away_lem command a board_live h (refused_48 reach h a ha (dead_so s.queues false live reach ha is_b)) f refl)

  pub rejoins-done : (queue : Queue) → dead_in s.queues b ≡ true → queue ≡ reset_in (get_or s.queues b no_queue) 0
      → Rejoins s a (record { processes = s.processes; queues = set s.queues b queue; totals = s.totals }) (answer_for ReturnedOrResync 0 0)
  unfolding numbers cause_of
  rejoins-done queue dead is_queue l processes totals =
      makes_alone (answer_for ReturnedOrResync 0 0) (for_reason ReturnedOrResync 0 0) (omega arith)
      (record { processes-same = refl; queues-same = length-set s.queues b queue; totals-same = refl }) refl
      (λ t entries c command reach plan h f ha.
      let there = dead_so s.queues true dead reach ha is_b in
      let queues-are : set s.queues b queue ≡ set s.queues a (reset_in (get_or s.queues a no_queue) 0) =
      ap (set s.queues b) is_queue ∙ ap (λ (i : ℕ). set s.queues i (reset_in (get_or s.queues i no_queue) 0)) (its_board reach ha is_b) in
      answered _ rejoin_done (accepted_so reach h a ha there) refl refl (rw queues-are (rejoin-holds reach h a ha there)))

-- and of the lent store itself, whose processes and totals stay
pub rejoins_own : {s s' : Store} {a : ℕ} {r : Answer} → Rejoins s a s' r → s'.processes ≡ s.processes → s'.totals ≡ s.totals
    → (l : Plan) → MakesAlone rejoin (ABoard a) l s a s' r
rejoins_own {s} {s'} {a} {r} h ep et l =
    subst (λ (x : Store). MakesAlone rejoin (ABoard a) l s a x r) (λ j. record s' { processes = sym ep j; totals = sym et j }) (h l s.processes s.totals)
