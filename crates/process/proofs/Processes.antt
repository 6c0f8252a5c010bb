-- A process by its protection: whether it has a backup, whether it is limited; and its checkpoint, the issue of one, and the loss of a backup.
use mathlib.Core.Path.{◌≡◌, refl, sym}
use mathlib.Core.Bool.{Bool, true, false, not, cond}
use mathlib.Core.Option.{none, some}
use Prim.Native.Nat.{ℕ, ◌≤◌}
use native.Mathlib.Omega.{arith}
use lib.Dec.{eqb}
use borrow.Author.Tests.{eqb-true}
use Rattle.facts.specs.Lists.{written_out}
use Rattle.facts.specs.Indexing.{get_or_replicate_any}
use Rattle.backup.specs.Limits.{ports}
use Rattle.backup.specs.Place.{checkpoint_of}
use Rattle.rules.specs.Cabinet.{Process, Standby, is_some, is_complete, limited, protected}
use Rattle.rules.specs.Moves.{snapshot, issued, unprotected}
use Rattle.process.specs.Row.{backed, recorded, standby_in, checkpoint_in, anew_in, machine_of, standby_of, process_of, Kept}
use Rattle.process.specs.declared.process.Process as code
use Rattle.process.specs.Change.{Changes}

-- ---- the protection

-- a process is protected where its backup is complete
pub protected-is : (x : code.Process) → protected (process_of x) ≡ backed x.protection
unfolding process_of standby_of
protected-is x = go (eqb x.protection 0) refl
  where
    go : (b : Bool) → eqb x.protection 0 ≡ b → is_complete (cond (not b) (some (standby_in x)) none) ≡ backed x.protection
    go true e = rw (eqb-true x.protection 0 e)
    go false e = refl

-- a process is limited where it has a record
pub limited-is : (x : code.Process) → limited (process_of x) ≡ recorded x.protection
unfolding process_of standby_of
limited-is x = go (recorded x.protection) (standby_in x)
  where
    go : (b : Bool) (s : Standby) → is_some (cond b (some s) none) ≡ b
    go true s = refl
    go false s = refl

-- ---- a checkpoint

pub checkpoint-is : (x : code.Process) → Kept x → checkpoint_of (checkpoint_in x) ≡ snapshot (process_of x)
unfolding checkpoint_in process_of machine_of
checkpoint-is x k =
    let r = sym (written_out x.registers 4 0 k.registers-length) in
    let t = sym (written_out x.taken 4 0 k.taken-length) in
    λ i. record { pc = x.pc; registers = r i; taken = t i }

-- its issue
pub issued-became : (x : code.Process) → Changes x (anew_in x) issued
unfolding process_of machine_of standby_of issued
issued-became x k = record {
  process-is = refl;
  kept_again = record {
    registers-length = k.registers-length;
    taken-length = refl;
    mail-length = k.mail-length;
    unread = k.unread;
    oldest = k.oldest;
    events = omega arith;
    taken = λ i. rw (get_or_replicate_any {A = ℕ} ports i 0) (omega arith);
    instructions = omega arith;
    flag = k.flag;
    sound = k.sound;
  };
  seated_again = λ a b s. record { runs_on = s.runs_on; other-is = s.other-is };
  waits_again = refl;
}

-- ---- the protection changes

-- what becomes of a process with another protection, where the rules' change is the same
pub protection-became : (x : code.Process) (q : ℕ) → q ≤ 2 → (change : Process → Process)
    → process_of (record x { protection = q }) ≡ change (process_of x) → Changes x (record x { protection = q }) change
protection-became x q few change e k = record {
  process-is = e;
  kept_again = record {
    registers-length = k.registers-length;
    taken-length = k.taken-length;
    mail-length = k.mail-length;
    unread = k.unread;
    oldest = k.oldest;
    events = k.events;
    taken = k.taken;
    instructions = k.instructions;
    flag = few;
    sound = k.sound;
  };
  seated_again = λ a b s. record { runs_on = s.runs_on; other-is = s.other-is };
  waits_again = refl;
}

pub unprotected-became : (x : code.Process) → Changes x (record x { protection = 0 }) unprotected
unfolding process_of machine_of standby_of unprotected
unprotected-became x = protection-became x 0 (omega arith) unprotected refl
