-- What the parts of a crash promise that look and lose: which processes it concerns, and which totals become 0.
use Rattle.std.specs.Prelude.{ℕ, Bool, cond, not, ◌&&◌, List, ◌==◌, nat_lt, slice_index_or}
use Rattle.plan.specs.declared.Wire.{Wire}
use Rattle.plan.specs.Plan.{sender_in}
use Rattle.process.specs.declared.process.Process.{Process}
use Rattle.process.specs.Row.{no_process, backed}
use Rattle.rules.specs.Sizes.{processes_most}
use Rattle.crash.specs.Each.{Each}

-- p is a process that runs on board a
abbrev pub runs_on_board : List Process → ℕ → ℕ → Bool
runs_on_board processes a p = nat_lt p processes_most && (slice_index_or processes p no_process).board == a

-- process p has no backup; one that is being made is none
abbrev pub unbacked_in : List Process → ℕ → Bool
unbacked_in processes p = not (backed (slice_index_or processes p no_process).protection)

-- channel k has a sender that runs on board a
abbrev pub lost_words : List Wire → List Process → ℕ → ℕ → Bool
lost_words wires processes a k = runs_on_board processes a (sender_in wires k)

-- of the first n numbers those that the test names are 0, and the others as they were
abbrev pub Zeroed : (ℕ → Bool) → ℕ → List ℕ → List ℕ → Type 0
Zeroed named n l l' = Each (λ i x. cond (named i) 0 x) n l l'
