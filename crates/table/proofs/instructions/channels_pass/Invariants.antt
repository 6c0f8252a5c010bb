use Rattle.rules.specs.Format.{decode_table}
use Rattle.table.proofs.Masks.{Left}
use Rattle.table.proofs.instructions.channels_pass.Given as goal

abbrev pub invariant-loop-left : goal.invariant-loop-left
invariant-loop-left l = Left (decode_table l.table) l.p l.mask l.left

abbrev pub decreases-loop-left : goal.decreases-loop-left
decreases-loop-left l = l.left
