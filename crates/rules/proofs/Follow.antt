-- What each thing that a command does is followed by in the reference machine. A step, a sync and a resync are followed by nothing: it waits.
use mathlib.Core.Logic.{◌≢◌}
use mathlib.Core.Path.{◌≡◌, refl, ap, sym, ◌∙◌, subst}
use mathlib.Core.Bool.{Bool, true, false, cond, ◌||◌}
use mathlib.Core.Option.{some}
use mathlib.Core.List.{List, [], ◌∷◌, ◌++◌, append_assoc, append-nil}
use Prim.Native.Nat.{ℕ, suc, ◌<◌}
use native.Mathlib.Omega.{arith}
use lib.Dec.{eqb}
use lib.ListN.{length, get_or, set, length-set}
use lib.Seq.{set-get_or}
use borrow.Author.Tests.{leb-false, eqb-true, eqb-false}
use Rattle.facts.specs.Tests.{no_way, or_left, or_right}
use Rattle.rules.specs.Table.{Table, channel_at, placement_at, code_of, limit_of, port_of}
use Rattle.rules.specs.Machine.{Mail, BusWord, Machine, booted, Act, internal, took, sent, moved, local_step}
use Rattle.rules.specs.Reference.{Reference, Action, reference_run, injections}
use Rattle.rules.specs.Cabinet.{instructions_most, Standby, Process, Item, message, checkpoint, transfer, Cabinet, process_at, outbox_at, dead_at, protected, limited, other_board, exhausted, overrun, owing, waiting}
use Rattle.rules.specs.Moves.{with_process, with_outbox, enqueue, advanced, counting, one_done, one_sent, one_taken, issued, snapshot, copied, begin_transfer}
use Rattle.rules.specs.Judge.{Accepted}
use Rattle.rules.proofs.Runs.{busy1, Allows}
use Rattle.rules.proofs.Tables.{step_own, primary_ok, standby_ok, apart_ok}
use Rattle.rules.proofs.Ahead.{checkpoints}
use Rattle.rules.proofs.Good.{Good}
use Rattle.rules.proofs.GoodMoves.{good_silent, good_suppressed, good_send, good_issued}
use Rattle.rules.proofs.Copies.{copied_state, copied-kept}
use Rattle.rules.proofs.Transfers.{good_begin_transfer}
use Rattle.rules.proofs.Invariant.{owner_of, mine, machine_at, Live, Seated, Invariant, in_table, its_outbox, Copyable}
use Rattle.rules.proofs.Frame.{SameSeat, same-boards, seated-same, changed, OthersStay, change, join_others, join_own}
use Rattle.rules.proofs.References.{run_append, injections_append}

-- from s the reference machine can go on so that the invariant holds beside c, its trace has `trace` more, and its feeds are `fed`
pub record Follows (t : Table) (c : Cabinet) (s : Reference) (trace : List BusWord) (fed : List Mail) : Type 0 where
  pub actions : List Action
  pub end : Reference
  pub ran : reference_run t s actions ≡ some end
  pub invariant : Invariant t c end
  pub traced : end.trace ≡ s.trace ++ trace
  pub injected : injections actions ≡ fed

-- one after another
pub follows_then : {t : Table} {c d : Cabinet} {s : Reference} {tr tr' : List BusWord} {fd fd' : List Mail} (f : Follows t c s tr fd)
    → Follows t d f.end tr' fd' → Follows t d s (tr ++ tr') (fd ++ fd')
follows_then {t} {s = s} {tr = tr} {tr' = tr'} f g =
    record {
      actions = f.actions ++ g.actions;
      end = g.end;
      ran = run_append t s f.actions g.actions f.end f.ran ∙ g.ran;
      invariant = g.invariant;
      traced = g.traced ∙ ap (λ (l : List BusWord). l ++ tr') f.traced ∙ append_assoc s.trace tr tr';
      injected = injections_append f.actions g.actions ∙ (let a = f.injected in let b = g.injected in cc);
    }

-- the reference machine waits
pub stay : {t : Table} {c : Cabinet} {s : Reference} → Invariant t c s → Follows t c s [] []
unfolding reference_run injections
stay {s = s} inv = record { actions = []; end = s; ran = refl; invariant = inv; traced = sym (append-nil s.trace); injected = refl }

-- ---- what the checks say

not-exhausted : (limit : ℕ) (x : Process) → exhausted limit x ≡ false → limited x ≡ true → x.since.events < limit
unfolding exhausted
not-exhausted limit x h safe = leb-false limit x.since.events (rw safe at h)

not-overrun : (x : Process) → overrun x ≡ false → limited x ≡ true → x.since.instructions < instructions_most
unfolding overrun
not-overrun x h safe = leb-false instructions_most x.since.instructions (rw safe at h)

-- 37 lets an instruction pass that is no act, and one that is
allows_done : (limit : ℕ) (x : Process) → overrun x ≡ false → limited x ≡ true → Allows limit internal x.since
allows_done limit x long safe = record { instruction = not-overrun x long safe; event = λ h. omega arith }

allows_act : (limit : ℕ) (x : Process) (k : Act) → busy1 k ≡ 1 → owing limit x ≡ false → limited x ≡ true → Allows limit k x.since
unfolding owing
allows_act limit x k one none safe = record {
  instruction = not-overrun x (or_right (exhausted limit x) (overrun x) none) safe;
  event = λ _. omega (arith, not-exhausted limit x (or_left (exhausted limit x) (overrun x) none) safe);
}

none-waits : (t : Table) (p : ℕ) (q : List Item) → waiting p q ≡ false → checkpoints (mine t p q) ≡ 0
none-waits t p [] h = refl
none-waits t p (message x pc ∷ q) h = go (eqb p (channel_at t x.channel).sender) (none-waits t p q h)
  where
    go : (b : Bool) → checkpoints (mine t p q) ≡ 0 → checkpoints (cond b (message x pc ∷ mine t p q) (mine t p q)) ≡ 0
    go true ih = ih
    go false ih = ih
none-waits t p (checkpoint r s ∷ q) h = go (eqb p r) (none-waits t p q) h
  where
    go : (b : Bool) → (waiting p q ≡ false → checkpoints (mine t p q) ≡ 0) → b || waiting p q ≡ false
        → checkpoints (cond b (checkpoint r s ∷ mine t p q) (mine t p q)) ≡ 0
    go true ih g = absurd (no_way (cc))
    go false ih g = ih g
none-waits t p (transfer r ∷ q) h = go (eqb p r) (none-waits t p q) h
  where
    go : (b : Bool) → (waiting p q ≡ false → checkpoints (mine t p q) ≡ 0) → b || waiting p q ≡ false
        → checkpoints (cond b (transfer r ∷ mine t p q) (mine t p q)) ≡ 0
    go true ih g = absurd (no_way (cc))
    go false ih g = ih g

-- ---- the other board of a process

record Other (t : Table) (x : Process) (b : ℕ) : Type 0 where
  pub there : b < t.boards
  pub apart : b ≢ x.board

other-board : (t : Table) → Accepted t → (p : ℕ) → p < length t.processes → (x : Process) → Other t x (other_board t p x)
other-board t ok p hp x = go (eqb x.board (placement_at t p).primary) refl
  where
    go : (b : Bool) → eqb x.board (placement_at t p).primary ≡ b → Other t x (cond b (placement_at t p).standby (placement_at t p).primary)
    go true e = record { there = standby_ok t ok p hp; apart = λ f. apart_ok t ok p hp (f ∙ eqb-true _ _ e) }
    go false e = record { there = primary_ok t ok p hp; apart = λ f. eqb-false _ _ e (sym f) }

-- ---- one process steps, or issues a checkpoint or a transfer

module _ {t : Table} (ok : Accepted t) {c : Cabinet} {s : Reference} (inv : Invariant t c s) (p : ℕ) (hp : p < length c.processes) where
  -- its own items aside, nothing else changes
  wait : (y : Process) (outboxes : List (List Item)) → y.board ≡ (process_at c p).board → Seated t c.dead y → length outboxes ≡ length c.outboxes → OthersStay t p outboxes c
      → Good t p (mine t p (get_or outboxes (process_at c p).board [])) y (machine_at s p) → Follows t (changed p y outboxes c) s [] []
  wait y outboxes same-board sits same_length others good =
      stay (subst (λ (l : List Machine). Invariant t (changed p y outboxes c) (record { machines = l; trace = s.trace })) (set-get_or s.machines p booted)
      (change inv p hp y same-board sits (machine_at s p) outboxes others good s.trace same_length))

  -- no item joins an outbox
  wait_only : (y : Process) → SameSeat y (process_at c p) → Good t p (mine t p (outbox_at c (process_at c p).board)) y (machine_at s p)
      → Follows t (with_process p y c) s [] []
  wait_only y seat good = wait y c.outboxes seat.board (seated-same seat (inv.seated p hp)) refl (λ b j n. refl) good

  -- an item of its own joins its board's outbox
  wait_joined : (y : Process) (item : Item) → y.board ≡ (process_at c p).board → Seated t c.dead y → owner_of t item ≡ p
      → Good t p (mine t p (outbox_at c (process_at c p).board) ++ (item ∷ [])) y (machine_at s p)
      → Follows t (with_process p y (with_outbox (process_at c p).board (outbox_at c (process_at c p).board ++ (item ∷ [])) c)) s [] []
  wait_joined y item same-board sits is-own good =
      let B : ℕ = (process_at c p).board in
      let q : List Item = outbox_at c B ++ (item ∷ []) in
      wait y (set c.outboxes B q) same-board sits (length-set c.outboxes B q)
      (λ b j n. join_others t c.outboxes B (its_outbox inv hp) item b j (λ e f. n (e ∙ is-own) f))
      (subst (λ (l : List Item). Good t p l y (machine_at s p))
      (sym (subst (λ (o : ℕ). mine t o (get_or (set c.outboxes B q) B []) ≡ mine t o (outbox_at c B) ++ (item ∷ [])) is-own (join_own t c.outboxes B (its_outbox inv hp) item)))
      good)

  -- its backup stands where it stood
  same_seat : {y : Process} → SameSeat y (process_at c p) → Seated t c.dead y
  same_seat seat = seated-same seat (inv.seated p hp)

  -- ---- step

  pub follow_computing : (m : Machine) → local_step (code_of t p) (process_at c p).machine ≡ moved m internal → overrun (process_at c p) ≡ false
      → Follows t (with_process p (advanced m (counting one_done (process_at c p)) (process_at c p).suppress (process_at c p)) c) s [] []
  unfolding advanced
  follow_computing m e long =
      let x : Process = process_at c p in
      wait_only (advanced m (counting one_done x) x.suppress x) (same-boards refl refl)
      (good_silent ok (in_table inv hp) {k = internal} (inv.good p hp) (record { is = e }) refl (allows_done (limit_of t p) x long))

  pub follow_taking : (m : Machine) (mail : Mail) → local_step (code_of t p) (process_at c p).machine ≡ moved m (took mail) → owing (limit_of t p) (process_at c p) ≡ false
      → Follows t (with_process p (advanced m (counting (one_taken (port_of t p mail.channel)) (process_at c p)) (process_at c p).suppress (process_at c p)) c) s [] []
  unfolding advanced
  follow_taking m mail e limit =
      let x : Process = process_at c p in
      wait_only (advanced m (counting (one_taken (port_of t p mail.channel)) x) x.suppress x) (same-boards refl refl)
      (good_silent ok (in_table inv hp) {k = took mail} (inv.good p hp) (record { is = e }) refl (allows_act (limit_of t p) x (took mail) refl limit))

  pub follow_suppressing : (m : Machine) (mail : Mail) → local_step (code_of t p) (process_at c p).machine ≡ moved m (sent mail)
      → (h : ℕ) → (process_at c p).suppress ≡ suc h → Follows t (with_process p (advanced m (process_at c p).since h (process_at c p)) c) s [] []
  unfolding advanced
  follow_suppressing m mail e h z =
      wait_only (advanced m (process_at c p).since h (process_at c p)) (same-boards refl refl)
      (good_suppressed ok (in_table inv hp) (inv.good p hp) z (record { is = e }))

  pub follow_sending : (m : Machine) (mail : Mail) → local_step (code_of t p) (process_at c p).machine ≡ moved m (sent mail)
      → (process_at c p).suppress ≡ 0 → owing (limit_of t p) (process_at c p) ≡ false
      → Follows t (with_process p (advanced m (counting one_sent (process_at c p)) 0 (process_at c p))
      (enqueue (process_at c p).board (message mail (process_at c p).machine.pc) c)) s [] []
  unfolding advanced
  follow_sending m mail e z limit =
      wait_joined (advanced m (counting one_sent (process_at c p)) 0 (process_at c p)) (message mail (process_at c p).machine.pc) refl
      (same_seat (same-boards refl refl))
      (step_own t ok p (in_table inv hp) (record { is = e }))
      (good_send ok (in_table inv hp) (inv.good p hp) z (record { is = e }) (allows_act (limit_of t p) (process_at c p) (sent mail) refl limit))

  -- ---- sync

  pub follow_issue : protected (process_at c p) ≡ true → waiting p (outbox_at c (process_at c p).board) ≡ false
      → Follows t (with_process p (issued (process_at c p)) (enqueue (process_at c p).board (checkpoint p (snapshot (process_at c p))) c)) s [] []
  unfolding issued
  follow_issue safe none-there =
      wait_joined (issued (process_at c p)) (checkpoint p (snapshot (process_at c p))) refl (same_seat (same-boards refl refl)) refl
      (good_issued ok (in_table inv hp) (inv.good p hp) safe (none-waits t p (outbox_at c (process_at c p).board) none-there))

  -- ---- resync

  -- its record is being made on its other board
  begin_transfer-seated : dead_at c (other_board t p (process_at c p)) ≡ false → Seated t c.dead (begin_transfer t p (process_at c p))
  unfolding begin_transfer
  begin_transfer-seated alive =
      let x : Process = process_at c p in
      let o = other-board t ok p (in_table inv hp) x in
      let only : (k : Standby) → (begin_transfer t p x).standby ≡ some k → other_board t p x ≡ k.board =
      λ k e. (let same : record { board = other_board t p x; replica = copied t p x.machine; complete = false } ≡ k = cc in ap (λ (z : Standby). z.board) same) in
      record {
        at = (inv.seated p hp).at;
        beside = λ k e. subst (Live t c.dead) (only k e) (record { there = o.there; live = alive });
        apart = λ k e f. o.apart (only k e ∙ f);
      }

  pub follow_rebackup : Copyable t c p → protected (process_at c p) ≡ false → dead_at c (other_board t p (process_at c p)) ≡ false
      → (process_at c p).suppress ≡ 0 → waiting p (outbox_at c (process_at c p).board) ≡ false
      → Follows t (with_process p (begin_transfer t p (process_at c p)) (enqueue (process_at c p).board (transfer p) c)) s [] []
  unfolding begin_transfer
  follow_rebackup copies bare alive settled none-there =
      let m : Machine = (process_at c p).machine in
      wait_joined (begin_transfer t p (process_at c p)) (transfer p) refl (begin_transfer-seated alive) refl
      (good_begin_transfer (copied-kept t ok p (in_table inv hp) m copies.own copies.short) (copied_state t ok p (in_table inv hp) m copies.own)
      (none-waits t p (outbox_at c (process_at c p).board) none-there) (inv.good p hp) bare settled)
