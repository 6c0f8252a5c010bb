use Rattle.rules.specs.Sizes.{channels_most}
use Rattle.layout.proofs.Laying.{EachLaid}
use Rattle.layout.specs.Lists.{total_block}
use Rattle.layout.proofs.all.put_totals.Given as goal

abbrev pub invariant-loop-k : goal.invariant-loop-k
invariant-loop-k l = EachLaid (total_block l.channels l.totals) 1 channels_most l.initial.out l.at l.out l.k
