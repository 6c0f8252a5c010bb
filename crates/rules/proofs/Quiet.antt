-- A quiet end: no process is late, no item waits, so that silent steps take each reference machine to the running one, and none can step.
use mathlib.Core.Path.{◌≡◌, refl, ap, sym, ◌∙◌, subst}
use mathlib.Core.Bool.{Bool, true, false, cond}
use mathlib.Core.Option.{Option, none, some}
use mathlib.Core.List.{List, [], ◌∷◌, ◌++◌, map}
use Prim.Native.Nat.{ℕ, zero, suc, ◌≤◌, ◌<◌}
use native.Mathlib.Omega.{arith}
use native.Mathlib.Nat.{not-suc-le-zero}
use lib.Dec.{ltb}
use lib.ListN.{length, length-set, length-map, get_or-eq_default}
use lib.Seq.{get_or-set_same, get_or-set_other, ext_get_or}
use borrow.Author.Tests.{le-ltb}
use Rattle.facts.specs.Tests.{no_way, by_eq, by_lt, and_left, and_right, all_of, all_below, all_below_lem}
use Rattle.facts.specs.Indexing.{all_of_lem, get_or_map}
use Rattle.rules.specs.Table.{Table, Instruction, code_of}
use Rattle.rules.specs.Machine.{Machine, booted, Act, Outcome, halted, no_mail, moved, local_step}
use Rattle.rules.specs.Reference.{Reference, Action, step, with_machine, stepped, act, reference_run, injections}
use Rattle.rules.specs.Cabinet.{Process, Item, Cabinet, nobody, process_at, outbox_at, idle, is_empty, quiescent}
use Rattle.rules.proofs.Steps.{Steps}
use Rattle.rules.proofs.Ahead.{UpToEnd}
use Rattle.rules.proofs.Good.{Good}
use Rattle.rules.proofs.GoodMoves.{good_quiet}
use Rattle.rules.proofs.Invariant.{mine, machine_at, Invariant}
use Rattle.rules.proofs.References.{run_append, injections_append, steps, injections-steps, run_silent}

-- ---- what quiescence says

pub stuck : (code : List Instruction) (m : Machine) → idle (local_step code m) ≡ true → (n : Machine) (k : Act) → Steps code m k n → ⊥
stuck code m h n k e = no_way (let a = ap idle e.is in cc)

empty-is : {A : Type 0} (l : List A) → is_empty l ≡ true → l ≡ []
empty-is [] h = refl
empty-is (x ∷ l) h = cc

-- silent steps have taken the first n reference machines to the running ones
pub record CaughtUp (t : Table) (c : Cabinet) (s : Reference) (n : ℕ) : Type 0 where
  pub actions : List Action
  pub end : Reference
  pub ran : reference_run t s actions ≡ some end
  pub none-injected : injections actions ≡ []
  pub same-trace : end.trace ≡ s.trace
  pub same_number : length end.machines ≡ length s.machines
  pub caught_up : (j : ℕ) → j < n → machine_at end j ≡ (process_at c j).machine
  pub as_before : (j : ℕ) → n ≤ j → machine_at end j ≡ machine_at s j

-- where silent steps take each of them there
module _ {t : Table} {c : Cabinet} {s : Reference} (inv : Invariant t c s)
    (catch_up : (p : ℕ) → p < length c.processes → UpToEnd (code_of t p) (machine_at s p) (process_at c p).machine) where
  one_more : (n : ℕ) → n < length c.processes → CaughtUp t c s n → UpToEnd (code_of t n) (machine_at s n) (process_at c n).machine → CaughtUp t c s (suc n)
  unfolding with_machine
  one_more n hn r v =
      let hs : n < length r.end.machines = rw (r.same_number, ← inv.same_number) hn in
      let m : Machine = (process_at c n).machine in
      record {
        actions = r.actions ++ steps n v.acts;
        end = with_machine n m r.end;
        ran = run_append t s r.actions (steps n v.acts) r.end r.ran
            ∙ run_silent t n v.to_end refl v.silent_there r.end hs (r.as_before n (omega arith));
        none-injected = injections_append r.actions (steps n v.acts) ∙ (let a = r.none-injected in let b = injections-steps n v.acts in cc);
        same-trace = r.same-trace;
        same_number = length-set r.end.machines n m ∙ r.same_number;
        caught_up = λ j h. by_eq j n
            (λ e. rw e (get_or-set_same r.end.machines n m booted hs))
            (λ k. get_or-set_other r.end.machines n j m booted k ∙ r.caught_up j (omega arith));
        as_before = λ j h. get_or-set_other r.end.machines n j m booted (λ e. omega arith) ∙ r.as_before j (omega arith);
      }

  up_to : (n : ℕ) → n ≤ length c.processes → CaughtUp t c s n
  unfolding reference_run injections
  up_to zero h =
      record {
        actions = [];
        end = s;
        ran = refl;
        none-injected = refl;
        same-trace = refl;
        same_number = refl;
        caught_up = λ j l. absurd (not-suc-le-zero l);
        as_before = λ j l. refl;
      }
  up_to (suc n) h = one_more n h (up_to n (omega arith)) (catch_up n h)

  pub each_caught_up : CaughtUp t c s (length c.processes)
  each_caught_up = up_to (length c.processes) (omega arith)

-- the machines are then ours
pub same-machines : {t : Table} {c : Cabinet} {s : Reference} → Invariant t c s → (r : CaughtUp t c s (length c.processes))
    → r.end.machines ≡ map (λ (x : Process). x.machine) c.processes
same-machines {c = c} inv r =
    let n : length r.end.machines ≡ length c.processes = r.same_number ∙ sym inv.same_number in
    ext_get_or booted r.end.machines (map (λ (x : Process). x.machine) c.processes) (n ∙ sym (length-map c.processes (λ (x : Process). x.machine)))
    (λ i h. let h' : i < length c.processes = rw n at h in r.caught_up i h' ∙ sym (get_or_map (λ (x : Process). x.machine) c.processes i nobody booted h'))

-- ---- at a quiet end

module _ {t : Table} {c : Cabinet} {s : Reference} (inv : Invariant t c s) (quiet : quiescent t c ≡ true) where
  pub all_idle : (p : ℕ) → p < length c.processes → idle (local_step (code_of t p) (process_at c p).machine) ≡ true
  unfolding quiescent
  all_idle =
      all_below_lem (λ p. idle (local_step (code_of t p) (process_at c p).machine)) (length c.processes) (and_left _ (all_of is_empty c.outboxes) quiet)

  pub all_empty_lem : (b : ℕ) → outbox_at c b ≡ []
  unfolding quiescent
  all_empty_lem b =
      by_lt b (length c.outboxes)
      (λ h. empty-is (outbox_at c b) (all_of_lem is_empty c.outboxes
      (and_right (all_below (λ p. idle (local_step (code_of t p) (process_at c p).machine)) (length c.processes)) _ quiet) b [] h))
      (λ h. get_or-eq_default c.outboxes [] h)

  catch_up : (p : ℕ) → p < length c.processes → UpToEnd (code_of t p) (machine_at s p) (process_at c p).machine
  catch_up p hp =
      good_quiet
      (subst (λ (l : List Item). Good t p (mine t p l) (process_at c p) (machine_at s p)) (all_empty_lem (process_at c p).board) (inv.good p hp))
      (stuck (code_of t p) (process_at c p).machine (all_idle p hp))

  pub all_caught_up : CaughtUp t c s (length c.processes)
  all_caught_up = each_caught_up inv catch_up

  -- none could step further
  module _ (r : CaughtUp t c s (length c.processes)) where
    idle-refused : (p : ℕ) (o : Outcome) → idle o ≡ true → stepped t r.end p o ≡ none
    unfolding stepped
    idle-refused p halted h = refl
    idle-refused p no_mail h = refl
    idle-refused p (moved m k) h = cc

    either_none : (b : Bool) (o : Option Reference) → o ≡ none → cond b o none ≡ none
    either_none true o h = h
    either_none false o h = refl

    pub no_more : (p : ℕ) → act t r.end (step p) ≡ none
    unfolding act
    no_more p =
        by_lt p (length c.processes)
        (λ h. either_none (ltb p (length r.end.machines)) _
        (idle-refused p (local_step (code_of t p) (machine_at r.end p)) (rw (r.caught_up p h) (all_idle p h))))
        (λ h. rw (le-ltb p (length r.end.machines) (omega (arith, r.same_number, inv.same_number))))
