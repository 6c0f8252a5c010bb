-- `write`: an origin that is none.
use mathlib.Core.Path.{◌≡◌, subst}
use Prim.Native.Nat.{ℕ}
use Rattle.rules.specs.Machine.{Origin}
use Rattle.state.specs.declared.moved.Answer.{Answer}
use Rattle.stretch.specs.Plays.{Sheets, Writes}
use Rattle.stretch.proofs.answer.write.Goals as goal

from-there : {before after : Sheets} {i : ℕ} {r : Answer} {o x : Origin} → o ≡ x → Writes before i r o after → Writes before i r x after
from-there {before} {after} {i} {r} e w = subst (λ (y : Origin). Writes before i r y after) e w

pub returns : goal.returns
returns c =
    from-there c.nowhere.ensures c.write_from.ensures
