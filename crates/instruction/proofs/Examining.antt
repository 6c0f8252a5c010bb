-- What an instruction would do: each intent against the rules' local step.
use Rattle.std.proofs.Common.{◌≡◌, ℕ, ◌%◌, ◌<◌, ◌≤◌, List, get_or, sym, ap, ◌∙◌, subst, ⊎_elim, arith, le-ltb, lt-ltb}
use Rattle.facts.specs.Tests.{no_way}
use Rattle.rules.specs.Table.{Instruction}
use Rattle.rules.specs.Machine.{Machine, halted, moved, internal, take1, first1, execute, local_step}
use Rattle.rules.specs.Format.{instruction}
use Rattle.rules.proofs.Decoded.{instruction-none}
use Rattle.process.specs.Row.{machine_of}
use Rattle.process.specs.declared.process.Process.{Process}
use Rattle.instruction.specs.Instruction.{InRange, Fetched, Sorted, after_internal, outcome_of, Examined, Sought}
use Rattle.instruction.specs.declared.instruction.Kind.TheVariants.{Calculation, Taking, Sending, Unknown}
use Rattle.instruction.specs.declared.instruction.Intent.{Intent}
use Rattle.instruction.specs.declared.instruction.Intent.TheVariants.{Halted, NoMail, Internal, Take, Send}

-- a register's number stands for itself
pub lane-is : (a : ℕ) → a < 4 → a % 4 ≡ a
lane-is a h = omega arith

module _ (x : Process) (n code a operand : ℕ) where
  -- past the end, and before it
  pub step-halted : (program : List Instruction) → Fetched program x n code a operand → n ≤ x.pc → local_step program (machine_of x) ≡ halted
  unfolding local_step machine_of
  step-halted program f h = rw (f.length-is, le-ltb x.pc n h)

  pub step_executes : (program : List Instruction) → Fetched program x n code a operand → x.pc < n
      → local_step program (machine_of x) ≡ execute (instruction code a operand) (machine_of x)
  unfolding local_step machine_of
  step_executes program f h = rw (f.length-is, lt-ltb x.pc n h, f.instruction-is h)

  pub examined_halted : n ≤ x.pc → Examined x n code a operand Halted
  examined_halted h program f = record { fetched = f; outcome = step-halted program f h; inside = λ at e. absurd (no_way (cc)) }

  -- otherwise the instruction decides
  decided : (i : Intent) → x.pc < n → ((at : ℕ) → i ≡ Take at → at < x.unread)
      → (InRange code a operand → execute (instruction code a operand) (machine_of x) ≡ outcome_of x code a operand i)
      → Examined x n code a operand i
  decided i h t e program f = record { fetched = f; outcome = step_executes program f h ∙ e (f.in_range h); inside = t }

-- SET, ADD and JUMP
computes : (code a operand : ℕ) (m : Machine) → Sorted code Calculation
    → execute (instruction code a operand) m ≡ moved (after_internal code a operand m) internal
unfolding execute
computes code a operand m h = ⊎_elim (λ e. rw e) (⊎_elim (λ e. rw e) (λ e. rw e)) h

-- a look's outcome
module _ (x : Process) (a operand : ℕ) where
  take-outcome : (i : Intent) → Sought x 3 operand i → execute (instruction 3 a operand) (machine_of x) ≡ outcome_of x 3 a operand i
  unfolding execute machine_of
  take-outcome Halted s = absurd s
  take-outcome NoMail s = ap (take1 a (machine_of x)) s
  take-outcome Internal s = absurd s
  take-outcome (Take at) s = ap (take1 a (machine_of x)) s.1
  take-outcome (Send channel word) s = absurd s

  first-outcome : (i : Intent) → Sought x 4 operand i → execute (instruction 4 a operand) (machine_of x) ≡ outcome_of x 4 a operand i
  unfolding execute machine_of
  first-outcome Halted s = absurd s
  first-outcome NoMail s = ap (first1 a (machine_of x)) s
  first-outcome Internal s = absurd s
  first-outcome (Take at) s = ap (first1 a (machine_of x)) s.1
  first-outcome (Send channel word) s = absurd s

module _ (x : Process) (n code a operand : ℕ) (h : x.pc < n) where
  pub examined_internal : Sorted code Calculation → Examined x n code a operand Internal
  examined_internal e = decided x n code a operand Internal h (λ at f. absurd (no_way (cc))) (λ _. computes code a operand (machine_of x) e)

  -- no instruction
  pub examined_none : Sorted code Unknown → Examined x n code a operand Halted
  unfolding execute
  examined_none r =
      decided x n code a operand Halted h (λ at e. absurd (no_way (cc)))
      (λ _. rw (instruction-none code a operand r.0.0.0.0.0 r.0.0.0.0.1 r.0.0.0.1 r.0.0.1 r.0.1 r.1))

  pub examined_send : Sorted code Sending → (word : ℕ) → word ≡ get_or x.registers (a % 4) 0 → Examined x n code a operand (Send operand word)
  unfolding execute machine_of
  examined_send e word w =
      decided x n code a operand (Send operand word) h (λ at e. absurd (no_way (cc)))
      (λ r. rw (e, w, lane-is a r.first))

  -- a TAKE or a FIRST, whatever its look found
  pub examined_sought : Sorted code Taking → (i : Intent) → Sought x code operand i → Examined x n code a operand i
  examined_sought e i s =
      decided x n code a operand i h (place i s)
      (λ _.
      let P : ℕ → Type 0 = λ c. Sought x c operand i → execute (instruction c a operand) (machine_of x) ≡ outcome_of x c a operand i in
      ⊎_elim (λ y. subst P (sym y) (take-outcome x a operand i)) (λ y. subst P (sym y) (first-outcome x a operand i)) e s)
    where
      place : (i : Intent) → Sought x code operand i → (at : ℕ) → i ≡ Take at → at < x.unread
      place Halted s at e = absurd s
      place NoMail s at e = absurd (no_way (cc))
      place Internal s at e = absurd s
      place (Take k) s at e = let z : k ≡ at = cc in rw (← z) s.0
      place (Send channel word) s at e = absurd s
