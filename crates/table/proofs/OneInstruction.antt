-- One instruction judged: what each of the six codes asks is what the rules ask, and no other code passes.
use mathlib.Core.Path.{◌≡◌, ap, sym, ◌∙◌}
use mathlib.Core.Bool.{Bool, false, ◌&&◌}
use mathlib.Core.List.{List}
use Prim.Native.Nat.{ℕ, ◌≤◌, ◌<◌}
use lib.Dec.{ltb, leb}
use borrow.Author.Tests.{lt-ltb, le-ltb}
use Rattle.rules.specs.Format.{instruction, decode_table}
use Rattle.rules.proofs.Decoded.{instruction-none}
use Rattle.rules.specs.Table.{Table}
use Rattle.rules.specs.Judge.{reads, sends, instruction_ok}
use Rattle.records.specs.declared.fetch.Instruction.{Instruction}
use Rattle.table.specs.Judging.{end_is, channels_pass, mask_ok, passes}
use Rattle.table.proofs.OneChannel.{reads-is, sends-is}

-- a first test that passed leaves it to the second; one that failed is the answer
pub second : (a most : ℕ) (r test : Bool) → a < most → r ≡ test → r ≡ (ltb a most && test)
second a most r test h e = rw (lt-ltb a most h) e

pub failed : (a most : ℕ) (test : Bool) → most ≤ a → ltb a most ≡ (ltb a most && test)
failed a most test h = rw (le-ltb a most h)

module _ (t : Table) (p n : ℕ) (i : Instruction) where
  -- the judgement by the code
  abbrev of_code : ℕ → Bool
  of_code code = instruction_ok t p n (instruction code i.a i.operand)

  by_code : (code : ℕ) → i.code ≡ code → of_code code ≡ passes t p n i
  unfolding passes
  by_code code e = ap of_code (sym e)

  pub set_is : i.code ≡ 1 → ltb i.a 4 ≡ passes t p n i
  unfolding instruction_ok
  set_is e = by_code 1 e

  pub add_is : i.code ≡ 2 → (ltb i.a 4 && ltb i.operand 4) ≡ passes t p n i
  unfolding instruction_ok
  add_is e = by_code 2 e

  pub jump_is : i.code ≡ 6 → (ltb i.a 4 && leb i.operand n) ≡ passes t p n i
  unfolding instruction_ok
  jump_is e = by_code 6 e

  pub first-is : i.code ≡ 4 → (ltb i.a 3 && mask_ok t p i.operand) ≡ passes t p n i
  unfolding instruction_ok mask_ok channels_pass
  first-is e = by_code 4 e

  take-reads : i.code ≡ 3 → (ltb i.a 4 && reads t p i.operand) ≡ passes t p n i
  unfolding instruction_ok
  take-reads e = by_code 3 e

  send-sends : i.code ≡ 5 → (ltb i.a 4 && sends t p i.operand) ≡ passes t p n i
  unfolding instruction_ok
  send-sends e = by_code 5 e

  pub none_is : (i.code ≡ 1 → ⊥) → (i.code ≡ 2 → ⊥) → (i.code ≡ 3 → ⊥) → (i.code ≡ 4 → ⊥) → (i.code ≡ 5 → ⊥) → (i.code ≡ 6 → ⊥) → false ≡ passes t p n i
  unfolding passes instruction_ok
  none_is h1 h2 h3 h4 h5 h6 = rw (instruction-none i.code i.a i.operand h1 h2 h3 h4 h5 h6)

module _ (bytes : List ℕ) (p n : ℕ) (i : Instruction) where
  pub take-is : i.code ≡ 3 → (ltb i.a 4 && end_is bytes 7 i.operand p) ≡ passes (decode_table bytes) p n i
  take-is e = ap (λ (b : Bool). ltb i.a 4 && b) (reads-is bytes i.operand p) ∙ take-reads (decode_table bytes) p n i e

  pub send-is : i.code ≡ 5 → (ltb i.a 4 && end_is bytes 6 i.operand p) ≡ passes (decode_table bytes) p n i
  send-is e = ap (λ (b : Bool). ltb i.a 4 && b) (sends-is bytes i.operand p) ∙ send-sends (decode_table bytes) p n i e
