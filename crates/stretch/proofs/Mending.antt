-- A move by which no entry joins: any entry may be named as the one that would. And where one joins, it has a place.
use mathlib.Core.Path.{◌≡◌, sym, subst}
use mathlib.Core.List.{List, []}
use Prim.Native.Nat.{ℕ}
use Rattle.std.proofs.Common.{Some, ◌<◌, ap}
use Rattle.facts.specs.Tests.{by_eq}
use Rattle.plan.specs.declared.Plan as code
use Rattle.plan.specs.Plan.{Plan}
use Rattle.rules.specs.Table.{Table}
use Rattle.rules.specs.Cabinet.{Cabinet}
use Rattle.rules.specs.Moves.{Result}
use Rattle.rules.specs.Sizes.{entries_most}
use Rattle.state.specs.declared.entry.Entry.{Entry}
use Rattle.state.specs.declared.moved.Answer.{Answer}
use Rattle.state.specs.declared.moved.Moved.{Moved}
use Rattle.state.specs.declared.store.Store.{Store}
use Rattle.state.specs.Moved.{Makes, MakesAlone, alone_of}
use Rattle.stretch.specs.Mends.{Mends}

pub any_entry : {rule : Table → Cabinet → ℕ → Result} {asks : Table → List Entry → Type 0} {l : Plan} {s s' : Store} {a : ℕ} {r : Answer} {m : Moved} {entry : Entry}
    → m ≡ alone_of r → MakesAlone rule asks l s a s' r → Makes rule asks 0 l s a entry s' m
any_entry {rule} {asks} {l} {s} {s'} {a} {entry = entry} e h =
    subst (λ (x : Moved). Makes rule asks 0 l s a entry s' x) (sym e)
    (record { made = h.made; reasoned = h.reasoned; untouched = h.untouched; none_joins = h.none_joins; at-inside = h.at-inside; same_lengths = h.same_lengths })

pub mended_inside : {plan : code.Plan} {mv a : ℕ} {s s' : Store} {r : Moved} → Mends plan mv a s s' r → (k : ℕ) → r.at ≡ Some k → k < entries_most
mended_inside {mv = mv} h k e =
    by_eq mv 5 (λ is. (h.crashes is []).at-inside k e)
    (λ h5. by_eq mv 6 (λ is. (h.rejoins is []).at-inside k e)
    (λ h6. by_eq mv 7 (λ is. (h.rebackups is []).at-inside k e)
    (λ h7. let none = ap (λ (m : Moved). m.at) (h.others h5 h6 h7).1 in absurd (cc))))
