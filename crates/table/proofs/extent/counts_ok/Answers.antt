use mathlib.Core.Path.{ap, ◌∙◌}
use Rattle.rules.specs.Format.{counts_ok, counts_fit}
use Rattle.plan.specs.declared.Counts.{Counts}
use Rattle.table.proofs.extent.counts_ok.Goals as goal

pub returns : goal.returns
unfolding counts_ok
returns c =
    c.counts_fit.ensures ∙ ap (λ (n : Counts). counts_fit n.boards n.processes n.channels) c.counts_of-n.ensures
