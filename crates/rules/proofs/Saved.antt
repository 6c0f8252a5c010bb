-- While a process has a backup, or one is being made, the saved words less those taken since the backup's state are its inbox, and its takes
-- are few.
use mathlib.Core.Path.{◌≡◌, refl, ap, sym, ◌∙◌}
use mathlib.Core.Bool.{Bool, true, false, cond}
use mathlib.Core.List.{List, [], ◌∷◌, ◌++◌, map}
use Prim.Native.Nat.{ℕ, suc, ◌+◌, ◌≤◌}
use native.Mathlib.Omega.{arith}
use lib.Dec.{eqb}
use lib.ListN.{length, get_or, set}
use lib.Seq.{get_or-set_same, get_or-set_other, set_out}
use borrow.Author.Tests.{eq-eqb}
use Rattle.facts.specs.Tests.{by_eq, by_lt}
use Rattle.backup.specs.Limits.{ports}
use Rattle.backup.specs.Replica.{Message, taken_on, remaining}
use Rattle.rules.specs.Table.{Table, code_of, inputs, port_of}
use Rattle.rules.specs.Machine.{Machine, Act, internal, took, sent}
use Rattle.rules.specs.Cabinet.{Standby, Process, Item, message, checkpoint, transfer, no_takes}
use Rattle.rules.specs.Bounds.{mails, issued_takes}
use Rattle.rules.proofs.Runs.{Run, here, more, ◌then◌, tally, busy}
use Rattle.rules.proofs.Ahead.{Ahead, level, silent, sending, issuing, taken_at, checkpoints}
use Rattle.rules.proofs.Good.{mail_of, state_of, PortsBelow, Link, trailing, coming, Backed}
use Rattle.rules.proofs.Tally.{run_logged, remaining-ports, none_dropped, none-taken}
use Rattle.rules.proofs.Invariant.{mine, owner_of}

-- ---- takes by port

one_more : (l : List ℕ) (j i : ℕ) → get_or (set l j (suc (get_or l j 0))) i 0 ≤ suc (get_or l i 0)
one_more l j i =
    by_lt j (length l)
    (λ h. by_eq i j
    (λ e. rw (e, get_or-set_same l j (suc (get_or l j 0)) 0 h) (omega arith))
    (λ n. rw (get_or-set_other l j i (suc (get_or l j 0)) 0 n) (omega arith)))
    (λ h. rw (set_out l j (suc (get_or l j 0)) h) (omega arith))

pub tally_busy : (t : Table) (p : ℕ) (acts : List Act) (i : ℕ) → taken_on (tally t p acts) i ≤ busy acts
tally_busy t p [] i = let a = none-taken i in omega arith
tally_busy t p (internal ∷ acts) i = let a = tally_busy t p acts i in omega arith
tally_busy t p (took x ∷ acts) i =
    let a = tally_busy t p acts i in let b = one_more (tally t p acts) (port_of t p x.channel) i in omega arith
tally_busy t p (sent x ∷ acts) i = let a = tally_busy t p acts i in omega arith

-- ---- the checkpoint that waits

pub issued_mine : (t : Table) (p : ℕ) (q : List Item) → issued_takes p (mine t p q) ≡ issued_takes p q
issued_mine t p [] = refl
issued_mine t p (message x pc ∷ q) = go (eqb p (owner_of t (message x pc))) ∙ issued_mine t p q
  where
    go : (b : Bool) → issued_takes p (cond b (message x pc ∷ mine t p q) (mine t p q)) ≡ issued_takes p (mine t p q)
    go true = refl
    go false = refl
issued_mine t p (checkpoint r s ∷ q) = go (eqb p r) refl (issued_mine t p q)
  where
    go : (b : Bool) → eqb p r ≡ b → issued_takes p (mine t p q) ≡ issued_takes p q
        → issued_takes p (cond b (checkpoint r s ∷ mine t p q) (mine t p q)) ≡ cond b s.taken (issued_takes p q)
    go true e h = rw e
    go false e h = h
issued_mine t p (transfer r ∷ q) = go (eqb p r) ∙ issued_mine t p q
  where
    go : (b : Bool) → issued_takes p (cond b (transfer r ∷ mine t p q) (mine t p q)) ≡ issued_takes p (mine t p q)
    go true = refl
    go false = refl

none-issued : (p : ℕ) (q : List Item) → checkpoints q ≡ 0 → issued_takes p q ≡ no_takes
none-issued p [] h = refl
none-issued p (message x pc ∷ q) h = none-issued p q h
none-issued p (checkpoint r s ∷ q) h = absurd (omega arith)
none-issued p (transfer r ∷ q) h = absurd (omega arith)

-- none beside a transfer
none_beside : (p r : ℕ) (old new : List Item) → checkpoints old + checkpoints new ≡ 0 → issued_takes p (old ++ (transfer r ∷ new)) ≡ no_takes
none_beside p r [] new h = none-issued p new (omega arith)
none_beside p r (message x pc ∷ old) new h = none_beside p r old new h
none_beside p r (checkpoint j s ∷ old) new h = absurd (omega arith)
none_beside p r (transfer j ∷ old) new h = absurd (omega arith)

-- ---- the inbox

module _ (t : Table) (p : ℕ) (few : length (inputs t p) ≤ ports) where
  ahead_saved : {u v : List Act} {a b : Machine} {q : List Item} (from : Machine) (log : List Message) → from.mailbox ≡ map (mail_of t p) log
      → PortsBelow (length (inputs t p)) log → Run (code_of t p) from u a → Ahead t p u a q v b → checkpoints q ≤ 1
      → mails t p (remaining (tally t p v) (remaining (issued_takes p q) log)) ≡ b.mailbox
  ahead_saved {u} from log e below ran level one =
      let h = run_logged t p few log ran e below in
      ap (λ (l : List Message). mails t p (remaining (tally t p u) l)) (none_dropped log) ∙ sym h.left
  ahead_saved from log e below ran (silent s h r) one = ahead_saved from log e below (ran then more s here) r one
  ahead_saved from log e below ran (sending s r) one = ahead_saved from log e below (ran then more s here) r one
  ahead_saved {v = v} {a = a} from log e below ran (issuing {u = u} {q = q} f r) one =
      let h = run_logged t p few log ran e below in
      let left : List Message = remaining (tally t p u) log in
      let then-on = ahead_saved a left h.left (remaining-ports below (tally t p u)) here r (omega arith) in
      let no_more : remaining (issued_takes p q) left ≡ left = ap (λ (l : List ℕ). remaining l left) (none-issued p q (omega arith)) ∙ none_dropped left in
      let first : issued_takes p (taken_at t p u a ∷ q) ≡ tally t p u = rw (eq-eqb p p refl) in
      ap (λ (l : List ℕ). mails t p (remaining (tally t p v) (remaining l log))) first
      ∙ ap (λ (l : List Message). mails t p (remaining (tally t p v) l)) (sym no_more)
      ∙ then-on

  link_saved : (q : List Item) (s : Standby) {m b : Machine} {v : List Act} → PortsBelow (length (inputs t p)) s.replica.log → Link t p s (mine t p q) m v b
      → mails t p (remaining (tally t p v) (remaining (issued_takes p q) s.replica.log)) ≡ b.mailbox
  unfolding state_of
  link_saved q s {v = v} below (trailing l) =
      ap (λ (n : List ℕ). mails t p (remaining (tally t p v) (remaining n s.replica.log))) (sym (issued_mine t p q))
      ∙ ahead_saved (state_of t p s.replica) s.replica.log refl below l.replay.ran l.ahead l.one
  link_saved q s {v = v} below (coming l) =
      let none_here : issued_takes p q ≡ no_takes = sym (issued_mine t p q) ∙ ap (issued_takes p) l.is_items ∙ none_beside p p l.old l.new l.none_else in
      let none-behind : issued_takes p l.new ≡ no_takes = none-issued p l.new (let a = l.none_else in omega arith) in
      ap (λ (n : List ℕ). mails t p (remaining (tally t p v) (remaining n s.replica.log))) (none_here ∙ sym none-behind)
      ∙ ahead_saved (state_of t p s.replica) s.replica.log refl below here l.ahead (let a = l.none_else in omega arith)

  pub backed_saved : (q : List Item) {x : Process} {m : Machine} (h : Backed t p (mine t p q) x m)
      → mails t p (remaining x.since.taken (remaining (issued_takes p q) h.standby.replica.log)) ≡ x.machine.mailbox
  backed_saved q h = rw h.is-since (link_saved q h.standby h.kept.on_inputs h.link)
