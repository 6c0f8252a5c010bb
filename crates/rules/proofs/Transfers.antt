-- A resync, and the carry of its transfer, keep what holds of one process.
use mathlib.Core.Path.{◌≡◌, refl, ap, sym, subst}
use mathlib.Core.Bool.{true, false}
use mathlib.Core.List.{List, [], ◌∷◌, ◌++◌}
use Prim.Native.Nat.{ℕ, ◌≤◌}
use native.Mathlib.Omega.{arith}
use lib.ListN.{length}
use Rattle.facts.specs.Tests.{no_way}
use Rattle.rules.specs.Table.{Table, code_of}
use Rattle.rules.specs.Machine.{Machine, Act}
use Rattle.rules.specs.Cabinet.{Standby, Process, Item, transfer, is_complete, protected}
use Rattle.rules.specs.Moves.{completed, end_transfer, copied, begin_transfer}
use Rattle.rules.proofs.Ahead.{Ahead, level, checkpoints, checkpoints_append, no_transfer, up_to_end}
use Rattle.rules.proofs.Good.{state_of, Kept, Replay, Coming, Link, trailing, coming, Backed, Alone, Good, backed, alone, late}
use Rattle.rules.proofs.Replays.{replay_none}
use Rattle.rules.proofs.GoodMoves.{alone_of_late}
use Rattle.rules.proofs.Carried.{Synced}

-- ---- resync

-- none is being made where no transfer waits
link_complete : {t : Table} {p : ℕ} {items : List Item} {m : Machine} {s : Standby} {since : List Act} {b : Machine} → checkpoints items ≡ 0
    → Link t p s items m since b → s.complete ≡ true
link_complete none-waits (trailing l) = l.complete
link_complete {p = p} none-waits (coming l) =
    absurd (let a = ap checkpoints l.is_items in let b = checkpoints_append l.old (transfer p ∷ l.new) in omega arith)

module _ {t : Table} {p : ℕ} {items : List Item} {x : Process} {m : Machine} where
  -- the record that is being made has the process's own state
  module _ (kept : x.machine.pc ≤ length (code_of t p) → Kept t p (copied t p x.machine)) (same : state_of t p (copied t p x.machine) ≡ x.machine)
      (none-waits : checkpoints items ≡ 0) where
    alone_begin_transfer : Alone t p items x m → Backed t p (items ++ (transfer p ∷ [])) (begin_transfer t p x) m
    unfolding begin_transfer copied
    alone_begin_transfer h =
        record {
          standby = _;
          is-standby = refl;
          kept = kept h.low;
          no_suppress = h.no_suppress;
          since = [];
          link = coming record {
            incomplete = refl;
            uncounted = refl;
            old = items;
            new = [];
            is_items = refl;
            before = h.before;
            until = h.since;
            to_snapshot = subst (λ (a : Machine). Ahead t p h.before m items h.since a) (sym same) h.ahead;
            ahead = subst (λ (a : Machine). Ahead t p [] a [] [] x.machine) (sym same) level;
            none_else = (let o = none-waits in omega arith);
          };
          is-since = refl;
          few = record { instructions = omega arith; events = omega arith };
        }

    pub good_begin_transfer : Good t p items x m → protected x ≡ false → x.suppress ≡ 0 → Good t p (items ++ (transfer p ∷ [])) (begin_transfer t p x) m
    good_begin_transfer (backed h) bare z = absurd (no_way (let a = link_complete none-waits h.link in let b = ap is_complete h.is-standby in cc))
    good_begin_transfer (alone h) bare z = backed (alone_begin_transfer h)
    good_begin_transfer (late h) bare z = backed (alone_begin_transfer (alone_of_late z h))

-- ---- its transfer is carried

-- the reference machine goes on to the record's state, and the record is a backup
module _ {t : Table} {p : ℕ} {items : List Item} {x : Process} {m : Machine} where
  completes : (h : Backed t p (transfer p ∷ items) x m) → Coming t p h.standby (transfer p ∷ items) m h.since x.machine → Synced t p items (end_transfer x) m
  unfolding end_transfer
  completes h l = go l.old l.is_items l.to_snapshot
    where
      go : (old : List Item) → transfer p ∷ items ≡ old ++ (transfer p ∷ l.new) → Ahead t p l.before m old l.until (state_of t p h.standby.replica)
          → Synced t p items (end_transfer x) m
      go (y ∷ old) e a =
          let same : y ≡ transfer p = cc in
          absurd (no_transfer (subst (λ (i : Item). Ahead t p l.before m (i ∷ old) l.until (state_of t p h.standby.replica)) same a))
      go [] e a =
          let v = up_to_end a in
          let rest : items ≡ l.new = cc in
          record {
            mid = state_of t p h.standby.replica;
            steps = record { acts = v.acts; to_mid = v.to_end; silent_there = v.silent_there };
            good = backed record {
              standby = record { board = h.standby.board; replica = h.standby.replica; complete = true };
              is-standby = ap completed h.is-standby;
              kept = h.kept;
              no_suppress = h.no_suppress;
              since = h.since;
              link = trailing record {
                complete = refl;
                before = [];
                replay = subst (λ (n : ℕ). Replay (code_of t p) (state_of t p h.standby.replica) n [] (state_of t p h.standby.replica)) (sym l.uncounted) (replay_none refl);
                ahead = rw rest l.ahead;
                one = (let o = l.none_else in let q = ap checkpoints rest in omega arith);
              };
              is-since = h.is-since;
              few = h.few;
            };
          }

  pub good_end_transfer : Good t p (transfer p ∷ items) x m → Synced t p items (end_transfer x) m
  good_end_transfer (backed h) = go h.link
    where
      go : Link t p h.standby (transfer p ∷ items) m h.since x.machine → Synced t p items (end_transfer x) m
      go (trailing l) = absurd (no_transfer l.ahead)
      go (coming l) = completes h l
  good_end_transfer (alone h) = absurd (no_transfer h.ahead)
  good_end_transfer (late h) = absurd (no_way (let e = h.no_items in cc))
