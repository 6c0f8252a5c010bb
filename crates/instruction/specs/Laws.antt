-- Laws for the crates above: the instruction at a process's place, in an accepted table, is one that the calls promise something of.
use Rattle.std.specs.Prelude.{◌≡◌, ℕ, zero, suc, ◌<◌, true, ◌≢◌, length, nat_lt, slice_index_or, refl}
use Rattle.std.proofs.Common.{arith, ltb-true}
use Rattle.facts.specs.Tests.{no_way, and_left, and_right, all_of, all_below_lem, all_at}
use Rattle.rules.specs.Table.{Table, SET, code_of}
use Rattle.rules.specs.Format.{instruction}
use Rattle.rules.specs.Judge.{reads, sends, instruction_ok, instructions_ok, Accepted}
use Rattle.process.specs.declared.process.Process.{Process}
use Rattle.instruction.specs.Instruction.{InRange, Fetched}

one_register : (code a operand : ℕ) → nat_lt a 4 ≡ true → code ≢ 2 → code ≢ 4 → InRange code a operand
one_register code a operand h x y = record { first = ltb-true a 4 h; second = λ e. absurd (x e); pair = λ e. absurd (y e) }

-- number 8 passed
pub in_range : (t : Table) (p n code a operand : ℕ) → instruction_ok t p n (instruction code a operand) ≡ true → InRange code a operand
unfolding instruction_ok
in_range t p n zero a operand h = absurd (no_way (cc))
in_range t p n (suc zero) a operand h = one_register 1 a operand h (λ e. omega arith) (λ e. omega arith)
in_range t p n (suc (suc zero)) a operand h =
    record {
      first = ltb-true a 4 (and_left (nat_lt a 4) (nat_lt operand 4) h);
      second = λ e. ltb-true operand 4 (and_right (nat_lt a 4) (nat_lt operand 4) h);
      pair = λ e. absurd (omega arith);
    }
in_range t p n (suc (suc (suc zero))) a operand h =
    one_register 3 a operand (and_left (nat_lt a 4) (reads t p operand) h) (λ e. omega arith) (λ e. omega arith)
in_range t p n (suc (suc (suc (suc zero)))) a operand h =
    let l = ltb-true a 3 (and_left _ _ h) in record { first = omega arith; second = λ e. absurd (omega arith); pair = λ e. l }
in_range t p n (suc (suc (suc (suc (suc zero))))) a operand h =
    one_register 5 a operand (and_left (nat_lt a 4) (sends t p operand) h) (λ e. omega arith) (λ e. omega arith)
in_range t p n (suc (suc (suc (suc (suc (suc zero)))))) a operand h =
    one_register 6 a operand (and_left _ _ h) (λ e. omega arith) (λ e. omega arith)
in_range t p n (suc (suc (suc (suc (suc (suc (suc code))))))) a operand h = absurd (no_way (cc))

-- a program of an accepted table
pub fetched : (t : Table) (p : ℕ) → Accepted t → p < length t.processes → (x : Process) (code a operand : ℕ)
    → (x.pc < length (code_of t p) → slice_index_or (code_of t p) x.pc (SET 0 0) ≡ instruction code a operand)
    → Fetched (code_of t p) x (length (code_of t p)) code a operand
unfolding instructions_ok
fetched t p ok h x code a operand e = record {
  length-is = refl;
  few = ok.short p h;
  instruction-is = e;
  in_range = λ l.
      in_range t p (length (code_of t p)) code a operand
      (rw (← e l)
      (all_at (instruction_ok t p (length (code_of t p))) (code_of t p) x.pc (SET 0 0)
      (all_below_lem (λ q. all_of (instruction_ok t q (length (code_of t q))) (code_of t q)) (length t.processes) ok.instructions p h)
      l));
}
