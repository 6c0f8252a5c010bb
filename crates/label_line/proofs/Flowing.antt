-- The label line never stands still: in every state that commands reach it is quiet, or something can be done. Words go upward from program to
-- program, each waits for its one channel, and neither ever halts.
use mathlib.Core.Path.{◌≡◌, refl, ap, sym, ◌∙◌}
use mathlib.Core.Bool.{true}
use mathlib.Core.List.{List, [], ◌∷◌, map}
use Prim.Native.Nat.{ℕ, zero, suc, ◌^◌, ◌≤◌, ◌<◌}
use native.Mathlib.Omega.{arith}
use lib.Dec.{eqb}
use lib.ListN.{length, get_or}
use Rattle.facts.specs.Tests.{no_way}
use Rattle.rules.specs.Table.{SET, channel_at, code_of}
use Rattle.rules.specs.Machine.{Mail, Machine, booted, halted, Pull, nothing, found, pull, take1, execute, local_step}
use Rattle.rules.specs.Reference.{Reference}
use Rattle.rules.specs.Cabinet.{Process, nobody, process_at}
use Rattle.rules.specs.Moves.{Command}
use Rattle.rules.specs.Judge.{ends_ok, inputs_ok, boards_ok, instruction_ok, instructions_ok, limits_ok, Accepted}
use Rattle.rules.specs.Transparent.{finished}
use Rattle.progress.specs.Progress.{Standstill, Progress, quiet, next, stands, Flows, at_rest, flowing, waits_for, Upward}
use Rattle.progress.proofs.Progress.{progress}
use Rattle.progress.proofs.Standstill.{plain_goes_on}
use Rattle.progress.proofs.Upward.{upward_halted}
use Rattle.label_line.specs.Line.{scanner, printer, numbering_program, printer_program, line_table}
use Rattle.label_line.proofs.Phases.{Numbering, starting, unserialled, waiting, coded, code-sent, serial_sent, raised}
use Rattle.label_line.proofs.Phases.{numbering_place, numbering_registers, Printing, resting, listening, holding, handed}
use Rattle.label_line.proofs.Phases.{printing_place, printing_registers, Line, state_of}
use Rattle.label_line.proofs.Plain.{plain_line}

-- ---- the table

line-accepted : (first : ℕ) → Accepted (line_table first)
unfolding ends_ok inputs_ok boards_ok instruction_ok instructions_ok limits_ok
line-accepted first = record {
  boards_low = omega arith;
  boards_high = omega arith;
  processes_low = omega arith;
  processes_high = omega arith;
  channels_low = omega arith;
  channels_high = omega arith;
  short = short;
  ends = refl;
  few-inputs = refl;
  on_boards = refl;
  instructions = refl;
  limits = refl;
}
  where
    short : (p : ℕ) → p < 2 → length (code_of (line_table first) p) ≤ 64
    short zero h = omega arith
    short (suc zero) h = omega arith
    short (suc (suc p)) h = absurd (omega arith)

line_upward : (first : ℕ) → Upward (line_table first)
line_upward first = record { up = up; any = any }
  where
    up : (k : ℕ) → (channel_at (line_table first) k).sender < 2 → (channel_at (line_table first) k).reader < 2
        → (channel_at (line_table first) k).sender < (channel_at (line_table first) k).reader
    up zero s r = absurd (omega arith)
    up (suc zero) s r = omega arith
    up (suc (suc zero)) s r = absurd (omega arith)
    up (suc (suc (suc k))) s r = absurd (omega arith)

    numbering : (i : ℕ) → i < 7 → waits_for (get_or (numbering_program first) i (SET 0 0)) 0 ≡ true
    numbering zero h = refl
    numbering (suc zero) h = refl
    numbering (suc (suc zero)) h = refl
    numbering (suc (suc (suc zero))) h = refl
    numbering (suc (suc (suc (suc zero)))) h = refl
    numbering (suc (suc (suc (suc (suc zero))))) h = refl
    numbering (suc (suc (suc (suc (suc (suc zero)))))) h = refl
    numbering (suc (suc (suc (suc (suc (suc (suc i))))))) h = refl

    printing : (i : ℕ) → i < 4 → waits_for (get_or printer_program i (SET 0 0)) 1 ≡ true
    printing zero h = refl
    printing (suc zero) h = refl
    printing (suc (suc zero)) h = refl
    printing (suc (suc (suc zero))) h = refl
    printing (suc (suc (suc (suc i)))) h = refl

    any : (p : ℕ) → p < 2 → (i : ℕ) → i < length (code_of (line_table first) p) → (k : ℕ) → (channel_at (line_table first) k).reader ≡ p
        → waits_for (get_or (code_of (line_table first) p) i (SET 0 0)) k ≡ true
    any zero h i l zero e = numbering i l
    any (suc zero) h i l (suc zero) e = printing i l
    any zero h i l (suc zero) e = absurd (omega arith)
    any zero h i l (suc (suc zero)) e = absurd (omega arith)
    any zero h i l (suc (suc (suc k))) e = absurd (omega arith)
    any (suc zero) h i l zero e = absurd (omega arith)
    any (suc zero) h i l (suc (suc zero)) e = absurd (omega arith)
    any (suc zero) h i l (suc (suc (suc k))) e = absurd (omega arith)
    any (suc (suc p)) h i l k e = absurd (omega arith)

-- ---- neither program halts

take-goes : (a : ℕ) (m : Machine) (p : Pull) → take1 a m p ≡ halted → ⊥
take-goes a m nothing e = no_way (cc)
take-goes a m (found x rest) e = no_way (cc)

numbering_goes : (first : ℕ) (n : Numbering) (l : List Mail)
    → local_step (numbering_program first) (record { registers = numbering_registers first n; pc = numbering_place n; mailbox = l }) ≡ halted → ⊥
unfolding local_step execute
numbering_goes first starting l e = no_way (cc)
numbering_goes first unserialled l e = no_way (cc)
numbering_goes first (waiting done c) l e =
    take-goes 0 (record { registers = numbering_registers first (waiting done c); pc = 2; mailbox = l }) (pull (eqb scanner) l) e
numbering_goes first (coded done c) l e = no_way (cc)
numbering_goes first (code-sent done c) l e = no_way (cc)
numbering_goes first (serial_sent done c) l e = no_way (cc)
numbering_goes first (raised done c) l e = no_way (cc)

printing_goes : (n : Printing) (l : List Mail)
    → local_step printer_program (record { registers = printing_registers n; pc = printing_place n; mailbox = l }) ≡ halted → ⊥
unfolding local_step execute
printing_goes resting l e = no_way (cc)
printing_goes (listening done w) l e = take-goes 0 (record { registers = printing_registers (listening done w); pc = 1; mailbox = l }) (pull (eqb printer) l) e
printing_goes (holding done w) l e = no_way (cc)
printing_goes (handed done w) l e = no_way (cc)

-- ---- so nothing stands

two : (l : List Process) (a b : Machine) → map (λ (x : Process). x.machine) l ≡ a ∷ b ∷ [] → ((get_or l 0 nobody).machine ≡ a) × ((get_or l 1 nobody).machine ≡ b)
two [] a b e = absurd (no_way (cc))
two (x ∷ []) a b e = absurd (no_way (cc))
two (x ∷ y ∷ l) a b e = (cc, cc)

module _ (first : ℕ) (small : first < 2 ^ 32) (commands : List Command) where
  pub no_standstill : Standstill (line_table first) (finished (line_table first) commands) → ⊥
  no_standstill h =
      let v = plain_goes_on (line-accepted first) commands h h.process h.there h.before in
      let line = plain_line first small v.actions v.end v.ran in
      let r = upward_halted (line-accepted first) (line_upward first) h in
      let both = two (finished (line_table first) commands).processes _ _ (sym v.same_end ∙ ap (λ (s : Reference). s.machines) line.is) in
      go line.line both r.process r.there r.ended
    where
      go : (l : Line) → ((process_at (finished (line_table first) commands) 0).machine ≡ get_or (state_of first l).machines 0 booted)
          × ((process_at (finished (line_table first) commands) 1).machine ≡ get_or (state_of first l).machines 1 booted)
          → (p : ℕ) → p < 2 → local_step (code_of (line_table first) p) (process_at (finished (line_table first) commands) p).machine ≡ halted → ⊥
      go l are zero h e = numbering_goes first l.numbering _ (rw are.0 at e)
      go l are (suc zero) h e = printing_goes l.printing _ (rw are.1 at e)
      go l are (suc (suc p)) h e = omega arith

  -- quiet, or something can be done
  pub line_flows : Flows (line_table first) (finished (line_table first) commands)
  line_flows = go (progress (line-accepted first) commands)
    where
      go : Progress (line_table first) (finished (line_table first) commands) → Flows (line_table first) (finished (line_table first) commands)
      go (quiet q) = at_rest q
      go (next n) = flowing n
      go (stands h) = absurd (no_standstill h)
