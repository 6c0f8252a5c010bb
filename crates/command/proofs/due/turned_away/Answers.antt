-- `turned_away`: the judging's number, its cause, and a.
use mathlib.Core.Path.{ap, ◌∙◌}
use Prim.Native.Nat.{ℕ}
use Rattle.state.specs.Moved.{refusal_of}
use Rattle.command.proofs.due.turned_away.Goals as goal

pub returns : goal.returns
returns c =
    let d = c.args.d in
    c.refusal.ensures ∙ ap (λ (k : ℕ). refusal_of d.number k d.a) c.cause.ensures
