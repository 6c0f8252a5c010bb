-- A SET, an ADD or a JUMP: what its two stores make of the machine.
use Rattle.std.proofs.Common.{◌≡◌, ℕ, zero, suc, ◌+◌, ◌%◌, ◌^◌, eqb, ◌≢◌, sym, refl, ◌∙◌, subst, arith, length-set}
use lib.Seq.{set-get_or}
use Rattle.facts.specs.Tests.{no_way, by_eq}
use Rattle.rules.specs.Machine.{Machine, moved, internal, Pull, nothing, found, take1, first1, pull, bit, execute}
use Rattle.rules.specs.Format.{instruction}
use Rattle.rules.specs.Moves.{advanced}
use Rattle.process.specs.Row.{machine_of, standby_of, process_of}
use Rattle.process.specs.declared.process.Process.{Process}
use Rattle.instruction.specs.Instruction.{InRange, after_internal, tallied, evaluated_in, Computes}
use Rattle.instruction.proofs.Examining.{lane-is, step_executes}
use Rattle.instruction.proofs.Counting.{done-is, going, next-is}

-- ---- an instruction that takes, sends or is none does no computing

take1-acts : (a : ℕ) (m m' : Machine) (q : Pull) → take1 a m q ≡ moved m' internal → ⊥
take1-acts a m m' nothing e = no_way (cc)
take1-acts a m m' (found x rest) e = no_way (cc)

first1-acts : (a : ℕ) (m m' : Machine) (q : Pull) → first1 a m q ≡ moved m' internal → ⊥
first1-acts a m m' nothing e = no_way (cc)
first1-acts a m m' (found x rest) e = no_way (cc)

acts-none : (code a operand : ℕ) (m m' : Machine) → code ≢ 1 → code ≢ 2 → code ≢ 6 → execute (instruction code a operand) m ≡ moved m' internal → ⊥
unfolding execute
acts-none zero a operand m m' x y z e = no_way (cc)
acts-none (suc zero) a operand m m' x y z e = x refl
acts-none (suc (suc zero)) a operand m m' x y z e = y refl
acts-none (suc (suc (suc zero))) a operand m m' x y z e = take1-acts a m m' (pull (eqb operand) m.mailbox) e
acts-none (suc (suc (suc (suc zero)))) a operand m m' x y z e = first1-acts a m m' (pull (bit operand) m.mailbox) e
acts-none (suc (suc (suc (suc (suc zero))))) a operand m m' x y z e = no_way (cc)
acts-none (suc (suc (suc (suc (suc (suc zero)))))) a operand m m' x y z e = z refl
acts-none (suc (suc (suc (suc (suc (suc (suc code))))))) a operand m m' x y z e = no_way (cc)

-- ---- the three instructions

module _ (x : Process) (a operand : ℕ) (next : (x.pc + 1) % 2 ^ 32 ≡ suc x.pc) where
  set-is : InRange 1 a operand → machine_of (evaluated_in 1 a operand x) ≡ after_internal 1 a operand (machine_of x)
  unfolding machine_of execute
  set-is r = rw (next, lane-is a r.first)

  add-is : InRange 2 a operand → machine_of (evaluated_in 2 a operand x) ≡ after_internal 2 a operand (machine_of x)
  unfolding machine_of execute
  add-is r = rw (next, lane-is a r.first, lane-is operand (r.second refl))

  -- of a JUMP the register stays what it was
  jump-is : InRange 6 a operand → machine_of (evaluated_in 6 a operand x) ≡ after_internal 6 a operand (machine_of x)
  unfolding machine_of execute
  jump-is r = rw (next, lane-is a r.first, set-get_or x.registers a 0)

  computed : (code : ℕ) → InRange code a operand → execute (instruction code a operand) (machine_of x) ≡ moved (after_internal code a operand (machine_of x)) internal
      → machine_of (evaluated_in code a operand x) ≡ after_internal code a operand (machine_of x)
  computed code r e =
      let P : ℕ → Type 0 = λ c. InRange c a operand → machine_of (evaluated_in c a operand x) ≡ after_internal c a operand (machine_of x) in
      by_eq code 1
      (λ c. subst P (sym c) set-is r)
      (λ f.
      by_eq code 2
      (λ c. subst P (sym c) add-is r)
      (λ g.
      by_eq code 6
      (λ c. subst P (sym c) jump-is r)
      (λ h. absurd (acts-none code a operand (machine_of x) _ f g h e))))

-- an instruction more, behind it
pub computes : (x : Process) (code a operand : ℕ)
    → (let z = evaluated_in code a operand x in Computes x code a operand (record z { instructions = tallied z z.instructions }))
unfolding process_of standby_of advanced
computes x code a operand program n k i room =
    let g = going _ _ i refl in
    let e = sym (step_executes x n code a operand program i.fetched g) ∙ i.outcome in
    let m = computed x a operand (next-is _ _ i refl) code (i.fetched.in_range g) e in
    let s = done-is x k room in
    record {
      process-is = λ j. record { machine = m j; board = x.board; suppress = x.suppress; since = s j; standby = standby_of x };
      kept_again = record {
        registers-length = length-set x.registers (a % 4) _ ∙ k.registers-length;
        taken-length = k.taken-length;
        mail-length = k.mail-length;
        unread = k.unread;
        oldest = k.oldest;
        events = k.events;
        taken = k.taken;
        instructions = omega arith;
        flag = k.flag;
        sound = k.sound;
      };
      seated_again = λ a b s. record { runs_on = s.runs_on; other-is = s.other-is };
      waits_again = refl;
    }
