-- A step that computes, in a store: the refusal 37, and what a SET, an ADD or a JUMP makes of its process.
use Rattle.std.proofs.Common.{◌≡◌, ℕ, ◌<◌, Bool, true, false, List, length, sym, refl, ap, ◌∙◌, subst, subst₂, arith, length-set}
use Rattle.process.specs.declared.process.Process as lent
use Rattle.process.specs.Row.{machine_of}
use Rattle.instruction.specs.Instruction.{Intends, Computes, computed_in, after_internal}
use Rattle.instruction.specs.declared.instruction.Intent.TheVariants.{Internal}
use Rattle.instruction.proofs.Computing.{computes}
use Rattle.rules.specs.Table.{Table, code_of}
use Rattle.rules.specs.Machine.{Machine, internal}
use Rattle.rules.specs.Cabinet.{Cabinet, Process, process_at}
use Rattle.rules.specs.Moves.{guard, refuse, accept, instructions_full, step_done, numbers, advanced, counting, one_done, step, step_from, with_process}
use Rattle.rules.specs.Reasons.{cause_of}
use Rattle.numbers.specs.declared.answers.Reason.TheVariants as reasons
use Rattle.numbers.specs.declared.answers.Reason.TheVariants.{OwesForInstructions}
use Rattle.rules.proofs.Steps.{Steps, step_left}
use Rattle.state.specs.declared.entry.Entry.{Entry}
use Rattle.state.specs.declared.moved.Moved.{Moved}
use Rattle.state.specs.declared.store.Store.{Store}
use Rattle.state.specs.Store.{lists_at, Holds}
use Rattle.state.specs.Moved.{Reachable, answer_for, alone_of, refused_for}
use Rattle.state.specs.Beside.{other_lists, with_lists}
use Rattle.state.proofs.Changing.{row_changed}
use Rattle.state.proofs.Refusing.{turned_away_lem, makes-refused}
use Rattle.step.specs.Parts.{overrun_in, word_entry, Turns, Calculated, Calculates, CalculateTurns}
use Rattle.state.proofs.Making.{its_index, answered, makes_alone, for_reason}
use Rattle.step.proofs.Own.{CalculatedOwn, CalculateTurnsOwn}
use Rattle.step.proofs.Beside.{same_many, its_part, put_part}
use Rattle.step.proofs.Stepping.{with_process_in, same_process, same_lengths, machine-is, step_is, overrun-is, instructions-room}

module _ {t : Table} {s : Store} {entries : List Entry} {c : Cabinet} (h : Holds t s entries c) (p : ℕ) (hp : p < length t.processes)
    (n code a operand : ℕ) (i : Intends (code_of t p) (lists_at s p) n code a operand Internal) where
  abbrev x : lent.Process
  x = lists_at s p

  abbrev calculated : Process → Process
  calculated y = advanced (after_internal code a operand (machine_of x)) (counting one_done y) y.suppress y

  calculates_so : (b : Bool) → overrun_in x ≡ b → step t c p ≡ guard b instructions_full (accept (with_process p (calculated (process_at c p)) c) step_done)
  unfolding step_from
  calculates_so b e =
      step_is h p hp _ i.outcome
      ∙ ap (λ (z : Bool). guard z instructions_full (accept (with_process p (calculated (process_at c p)) c) step_done)) (overrun-is h p hp ∙ e)

  calculate_refused : overrun_in x ≡ true → step t c p ≡ refuse instructions_full
  unfolding guard
  calculate_refused e = calculates_so true e

  calculate_accepted : overrun_in x ≡ false → step t c p ≡ accept (with_process p (calculated (process_at c p)) c) step_done
  unfolding guard
  calculate_accepted e = calculates_so false e

  -- the store afterwards holds the rules' cabinet afterwards
  calculate_holds : Reachable t c → (x' : lent.Process) → Computes x code a operand x'
      → Holds t (with_process_in s p x') entries (with_process p (calculated (process_at c p)) c)
  unfolding advanced
  calculate_holds reach x' became =
      let went : Steps (code_of t p) (machine_of x) internal (after_internal code a operand (machine_of x)) = record { is = i.outcome } in
      row_changed h reach.accepted.processes_high p hp x' calculated
      (became (code_of t p) n (h.kept p hp) i (instructions-room h p hp reach)) refl
      (step_left went ∙ ap (λ (m : Machine). m.mailbox) (sym (machine-is h p hp)))

-- ---- what the part makes of the store

module _ (s : Store) (p a : ℕ) (is-p : a < 16 → p ≡ a) (code register operand : ℕ) (r : Moved) where
  abbrev its : lent.Process
  its = lists_at s p

  -- on the lent store itself, of any process that is as the rules' change makes it
  calculate_own : (x' : lent.Process) (b : Bool) → overrun_in its ≡ b → CalculatedOwn b its a code register operand x' r
      → CalculateTurnsOwn s a code register operand (with_process_in s p x') r
  unfolding numbers cause_of
  calculate_own x' true e k l limit n =
      subst (λ (s' : Store). Turns l s limit a n code register operand Internal (word_entry s a r.answer) s' r) (sym (ap (with_process_in s p) k.0 ∙ same_process s p))
      (makes-refused OwesForInstructions k.1 (λ t entries c command reach planned h f i.
      let ha = i.process-there in
      turned_away_lem command a instructions_full h (calculate_refused h a ha n code register operand i.intends (rw (← its_index reach ha is-p) e)) f refl))
  calculate_own x' false e k l limit n =
      makes_alone (answer_for reasons.Calculated 0 0) (for_reason reasons.Calculated 0 0) (omega arith) (same_lengths s p _ s.totals refl) k.1
      (λ t entries c command reach planned h f i.
      let q = its_index reach i.process-there is-p in
      let j = rw (← q) at i in
      let hp = j.process-there in
      rw (← q) (answered _ step_done (calculate_accepted h p hp n code register operand j.intends e) refl refl
      (calculate_holds h p hp n code register operand j.intends reach x' k.0)))

  pub calculate_turns : (x' : lent.Process) → CalculatedOwn (overrun_in its) its a code register operand x' r
      → CalculateTurnsOwn s a code register operand (with_process_in s p x') r
  calculate_turns x' k = calculate_own x' _ refl k

  -- and on every store that is the lent one but for mailboxes, backups, queues and totals, of the process that the code makes

  -- what becomes of the process with another mailbox and another backup
  computes_beside : (y other x' : lent.Process) → y ≡ other_lists its other → x' ≡ computed_in code register operand its
      → Computes y code register operand (other_lists x' other)
  computes_beside y other x' is exact =
      subst₂ (λ (z z' : lent.Process). Computes z code register operand z') (sym is) (ap (λ (z : lent.Process). other_lists z other) (sym exact))
      (computes (other_lists its other) code register operand)

  calculate_37 : overrun_in its ≡ true → r ≡ refused_for OwesForInstructions a → CalculateTurns s a code register operand s r
  calculate_37 e g l others queues totals limit n =
      makes-refused OwesForInstructions g (λ t entries c command reach planned h f i.
      let q = its_index reach i.process-there is-p in
      let j = rw (← q) at i in
      let hp = j.process-there in
      let is = its_part other_lists others s.processes reach h refl p hp in
      rw (← q) (turned_away_lem command p instructions_full h (calculate_refused h p hp n code register operand j.intends (ap overrun_in is ∙ e)) (f ∙ sym q) refl))

  calculate_done : (x' : lent.Process) → overrun_in its ≡ false → x' ≡ computed_in code register operand its → r ≡ alone_of (answer_for reasons.Calculated 0 0)
      → CalculateTurns s a code register operand (with_process_in s p x') r
  unfolding numbers cause_of
  calculate_done x' e exact g l others queues totals limit n =
      makes_alone (answer_for reasons.Calculated 0 0) (for_reason reasons.Calculated 0 0) (omega arith)
      (record { processes-same = same_many other_lists others s.processes _ (length-set s.processes p x'); queues-same = refl; totals-same = refl }) g
      (λ t entries c command reach planned h f i.
      let q = its_index reach i.process-there is-p in
      let j = rw (← q) at i in
      let hp = j.process-there in
      let is = its_part other_lists others s.processes reach h refl p hp in
      let put = put_part other_lists others s.processes reach h refl p hp x' in
      let became = computes_beside (lists_at (with_lists others s) p) (others p) x' is exact in
      rw (put, ← q) (answered _ step_done (calculate_accepted h p hp n code register operand j.intends (ap overrun_in is ∙ e)) refl refl
      (calculate_holds h p hp n code register operand j.intends reach (other_lists x' (others p)) became)))

  calculate_so : (x' : lent.Process) (b : Bool) → overrun_in its ≡ b → Calculated b its a code register operand x' r
      → CalculateTurns s a code register operand (with_process_in s p x') r
  calculate_so x' true e k =
      subst (λ (s' : Store). CalculateTurns s a code register operand s' r) (sym (ap (with_process_in s p) k.0 ∙ same_process s p)) (calculate_37 e k.1)
  calculate_so x' false e k = calculate_done x' e k.0 k.1.1

  pub calculate_turns_beside : (x' : lent.Process) → Calculates its a code register operand x' r
      → CalculateTurns s a code register operand (with_process_in s p x') r
  calculate_turns_beside x' k = calculate_so x' _ refl k
