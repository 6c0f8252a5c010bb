-- How a backup, the reference machine and the running machine stay linked, whether the backup is complete or being made.
use mathlib.Core.Path.{◌≡◌, ap, ◌∙◌}
use mathlib.Core.Bool.{false}
use mathlib.Core.List.{List, [], ◌∷◌, ◌++◌, append_assoc}
use Prim.Native.Nat.{ℕ, ◌+◌}
use native.Mathlib.Omega.{arith}
use Rattle.facts.specs.Tests.{no_way}
use Rattle.backup.specs.Replica.{Replica, Checkpoint}
use Rattle.rules.specs.Table.{Table, code_of}
use Rattle.rules.specs.Machine.{Mail, Machine, Act, sent, delivered}
use Rattle.rules.specs.Cabinet.{Standby, Item, message, checkpoint, transfer}
use Rattle.rules.proofs.Steps.{Steps}
use Rattle.rules.proofs.Runs.{is_send}
use Rattle.rules.proofs.Ahead.{checkpoints, checkpoints_append, ahead_later, ahead_silent, ahead_send}
use Rattle.rules.proofs.Good.{state_of, Coming, Link, trailing, coming}
use Rattle.rules.proofs.Replays.{replay_later}

module _ {t : Table} {p : ℕ} {s : Standby} {items : List Item} {m : Machine} {since : List Act} {b : Machine} where
  -- a word arrives at all of them: r is the backup's replica then
  pub link_later : (mail : Mail) (r : Replica) → state_of t p r ≡ delivered mail (state_of t p s.replica) → r.sent ≡ s.replica.sent
      → Link t p s items m since b
      → Link t p (record { board = s.board; replica = r; complete = s.complete }) items (delivered mail m) since (delivered mail b)
  link_later mail r now same (trailing l) =
      trailing record {
        complete = l.complete;
        before = l.before;
        replay = rw (now, same) (replay_later mail l.replay);
        ahead = ahead_later mail l.ahead;
        one = l.one;
      }
  link_later mail r now same (coming l) =
      coming record {
        incomplete = l.incomplete;
        uncounted = same ∙ l.uncounted;
        old = l.old;
        new = l.new;
        is_items = l.is_items;
        before = l.before;
        until = l.until;
        to_snapshot = rw now (ahead_later mail l.to_snapshot);
        ahead = rw now (ahead_later mail l.ahead);
        none_else = l.none_else;
      }

  -- the running machine goes on
  pub link_silent : {k : Act} {c : Machine} → Link t p s items m since b → Steps (code_of t p) b k c → is_send k ≡ false
      → Link t p s items m (since ++ (k ∷ [])) c
  link_silent (trailing l) e h =
      trailing record { complete = l.complete; before = l.before; replay = l.replay; ahead = ahead_silent l.ahead e h; one = l.one }
  link_silent (coming l) e h =
      coming record {
        incomplete = l.incomplete;
        uncounted = l.uncounted;
        old = l.old;
        new = l.new;
        is_items = l.is_items;
        before = l.before;
        until = l.until;
        to_snapshot = l.to_snapshot;
        ahead = ahead_silent l.ahead e h;
        none_else = l.none_else;
      }

  pub link_send : {mail : Mail} {c : Machine} → Link t p s items m since b → Steps (code_of t p) b (sent mail) c
      → Link t p s (items ++ (message mail b.pc ∷ [])) m (since ++ (sent mail ∷ [])) c
  link_send {mail} (trailing l) e =
      trailing record {
        complete = l.complete;
        before = l.before;
        replay = l.replay;
        ahead = ahead_send l.ahead e;
        one = (let o = l.one in let c = checkpoints_append items (message mail b.pc ∷ []) in omega arith);
      }
  link_send {mail} (coming l) e =
      coming record {
        incomplete = l.incomplete;
        uncounted = l.uncounted;
        old = l.old;
        new = l.new ++ (message mail b.pc ∷ []);
        is_items =
            ap (λ (q : List Item). q ++ (message mail b.pc ∷ [])) l.is_items
            ∙ append_assoc l.old (transfer p ∷ l.new) (message mail b.pc ∷ []);
        before = l.before;
        until = l.until;
        to_snapshot = l.to_snapshot;
        ahead = ahead_send l.ahead e;
        none_else = (let o = l.none_else in let c = checkpoints_append l.new (message mail b.pc ∷ []) in omega arith);
      }

-- ---- the oldest item, where a backup is being made

-- none stands there but the transfer, or one in front of it
module _ {t : Table} {p : ℕ} {s : Standby} {m : Machine} {since : List Act} {b : Machine} where
  pub coming_some : Coming t p s [] m since b → ⊥
  coming_some l = go l.old l.is_items
    where
      go : (old : List Item) → [] ≡ old ++ (transfer p ∷ l.new) → ⊥
      go [] e = no_way (cc)
      go (x ∷ old) e = no_way (cc)

  -- no checkpoint waits beside a transfer
  pub coming_no_checkpoint : {r : ℕ} {k : Checkpoint} {items : List Item} → Coming t p s (checkpoint r k ∷ items) m since b → ⊥
  coming_no_checkpoint {r} {k} {items} l = go l.old l.is_items l.none_else
    where
      go : (old : List Item) → checkpoint r k ∷ items ≡ old ++ (transfer p ∷ l.new) → checkpoints old + checkpoints l.new ≡ 0 → ⊥
      go [] e n = no_way (cc)
      go (y ∷ old) e n = let same : y ≡ checkpoint r k = cc in let a = ap (λ (i : Item). checkpoints (i ∷ old)) same in omega arith
