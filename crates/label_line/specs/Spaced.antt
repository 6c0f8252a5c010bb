-- "In the plain cabinet neither program does nine instructions in a row without a take."
use Rattle.std.specs.Prelude.{◌≡◌, Bool, true, false, cond, ◌||◌, List, [], ◌∷◌, ◌++◌, ℕ, eqb, length, get_or}
use Rattle.std.proofs.Math.Option.{Option, none, some}
use Rattle.rules.specs.Table.{Table, code_of}
use Rattle.rules.specs.Machine.{booted, Act, internal, took, sent, Outcome, halted, no_mail, moved, local_step}
use Rattle.rules.specs.Reference.{Reference, Action, inject, step, act, reference_start, reference_run}

-- what an outcome did, if anything
abbrev pub done : Outcome → List Act
done halted = []
done no_mail = []
done (moved m k) = k ∷ []

-- what process p does in one action of the plain cabinet
unfoldable pub done_by : Table → ℕ → Reference → Action → List Act
unfolding local_step booted
done_by t p s (inject x) = []
done_by t p s (step q) = cond (eqb q p) (done (local_step (code_of t p) (get_or s.machines p booted))) []

abbrev pub onward : Option Reference → (Reference → List Act) → List Act
onward none f = []
onward (some s) f = f s

-- what process p does in a list of actions: its instructions one after the other, whatever the others do between them
unfoldable pub instructions_of : Table → ℕ → Reference → List Action → List Act
unfolding done_by act
instructions_of t p s [] = []
instructions_of t p s (x ∷ l) = done_by t p s x ++ onward (act t s x) (λ s'. instructions_of t p s' l)

-- one of them is a take
abbrev pub is_take : Act → Bool
is_take internal = false
is_take (took x) = true
is_take (sent x) = false

unfoldable pub has_take : List Act → Bool
has_take [] = false
has_take (k ∷ ks) = is_take k || has_take ks

-- of any plain run of the table and any process, any nine instructions in a row
pub record TakesOften (t : Table) : Type 0 where
  pub within_nine : (actions : List Action) (end : Reference) → reference_run t (reference_start t) actions ≡ some end
      → (p : ℕ) (before nine after : List Act) → instructions_of t p (reference_start t) actions ≡ before ++ (nine ++ after)
      → length nine ≡ 9 → has_take nine ≡ true
