use Rattle.crash.specs.Losses.{lost_words, Zeroed}
use Rattle.crash.proofs.losses.lose_words.Given as goal

abbrev pub invariant-loop-k : goal.invariant-loop-k
invariant-loop-k l = Zeroed (lost_words l.plan.wires l.processes l.a) l.k l.initial.totals l.totals
