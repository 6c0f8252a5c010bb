-- At a crash, in any state that commands reach, no process has more to do again than two issues let pass (specs/RollForward.antt).
use mathlib.Core.Path.{◌≡◌, refl, ap, sym, ◌∙◌}
use mathlib.Core.Bool.{Bool, true, false, cond}
use mathlib.Core.Option.{Option, none, some}
use mathlib.Core.List.{List}
use Prim.Native.Nat.{ℕ, ◌<◌}
use native.Mathlib.Omega.{arith}
use lib.Dec.{eqb}
use lib.ListN.{length, get_or}
use Rattle.backup.specs.Limits.{sent_most}
use Rattle.rules.specs.Table.{Table, Instruction}
use Rattle.rules.specs.Machine.{Machine, Act, internal, took, sent}
use Rattle.rules.specs.Reference.{Reference}
use Rattle.rules.specs.Cabinet.{Standby, Process, Cabinet, nobody, process_at, started}
use Rattle.rules.specs.Moves.{Command, Answer, crash_done, accept, promoted, unprotected, after_crash, all_after_crash, crash, run_from}
use Rattle.rules.specs.Judge.{Accepted}
use Rattle.rules.specs.RollForward.{acts_of, redo, RollsForward}
use Rattle.rules.proofs.Runs.{Run, here, more, busy, busy1}
use Rattle.rules.proofs.Tables.{limit_high}
use Rattle.rules.proofs.Good.{state_of, good_span, good_small, good_kept}
use Rattle.rules.proofs.Backups.{recovers}
use Rattle.rules.proofs.Invariant.{Invariant}
use Rattle.rules.proofs.Guards.{crashed_by, guard-accepted}
use Rattle.rules.proofs.Crashed.{crash_at}
use Rattle.rules.proofs.Start.{reached}

-- ---- a run, as instructions that are done again

acts_busy : (k : Act) → acts_of k ≡ busy1 k
acts_busy internal = refl
acts_busy (took x) = refl
acts_busy (sent x) = refl

redo-run : {code : List Instruction} {a b : Machine} {ks : List Act} → Run code a ks b → redo code (length ks) a ≡ some (record { machine = b; acts = busy ks })
unfolding redo
redo-run here = refl
redo-run {code} {b = b} (more {k = k} {ks = ks} e r) = rw (e.is, redo-run r, acts_busy k)

-- ---- the processes after a crash

module _ {t : Table} (ok : Accepted t) {c : Cabinet} {s : Reference} (inv : Invariant t c s) (b : ℕ) (d : Cabinet)
    (are : d.processes ≡ all_after_crash t b 0 c.processes) (p : ℕ) (hp : p < length c.processes) where
  -- nothing to do again
  as_it_was : (process_at d p).machine ≡ (process_at c p).machine → RollsForward t c d p
  unfolding redo
  as_it_was e =
      record {
        instructions = 0;
        acts = 0;
        redone = rw e;
        few-instructions = omega arith;
        few-acts = omega arith;
      }

  at_standby : (y : Standby) → (process_at c p).standby ≡ some y → process_at d p ≡ promoted t p y → RollsForward t c d p
  unfolding promoted
  at_standby y has e =
      let v = good_span (inv.good p hp) has in
      let few : y.replica.sent < sent_most = (let a = (good_small (inv.good p hp) has).few-sent in let b = limit_high t ok p in omega arith) in
      let from : (process_at d p).machine ≡ state_of t p y.replica =
      ap (λ (x : Process). x.machine) e ∙ recovers t ok p (rw inv.all_processes at hp) y.replica (good_kept (inv.good p hp) has) few in
      record {
        instructions = length v.acts;
        acts = busy v.acts;
        redone = rw from (redo-run v.ran);
        few-instructions = v.instructions;
        few-acts = v.events;
      }

  by_standby : (o : Option Standby) → (process_at c p).standby ≡ o → process_at d p ≡ after_crash t b p (process_at c p) o → RollsForward t c d p
  unfolding after_crash unprotected
  by_standby none has e = as_it_was (ap (λ (x : Process). x.machine) e)
  by_standby (some y) has e = go (eqb b (process_at c p).board) (eqb b y.board) e
    where
      go : (at there : Bool) → process_at d p ≡ cond at (promoted t p y) (cond there (unprotected (process_at c p)) (process_at c p)) → RollsForward t c d p
      go true there f = at_standby y has f
      go false true f = as_it_was (ap (λ (x : Process). x.machine) f)
      go false false f = as_it_was (ap (λ (x : Process). x.machine) f)

  crash_rolls : RollsForward t c d p
  crash_rolls = by_standby (process_at c p).standby refl (ap (λ (l : List Process). get_or l p nobody) are ∙ crash_at t b c.processes p hp)

-- ---- every crash that commands reach

module _ {t : Table} (ok : Accepted t) (commands : List Command) where
  pub rolls_forward : (b : ℕ) (d : Cabinet) (a : Answer) → crash t (run_from t (started t) commands).cabinet b ≡ accept d a
      → (p : ℕ) → p < length t.processes → RollsForward t (run_from t (started t) commands).cabinet d p
  unfolding crash
  rolls_forward b d a e p h =
      let c : Cabinet = (run_from t (started t) commands).cabinet in
      let f = (reached t ok commands).follows in
      let made : accept (crashed_by t b c) crash_done ≡ accept d a = guard-accepted _ _ _ (guard-accepted _ _ _ e) in
      let same : crashed_by t b c ≡ d = cc in
      crash_rolls ok f.invariant b d (ap (λ (y : Cabinet). y.processes) (sym same)) p (rw f.invariant.all_processes h)
