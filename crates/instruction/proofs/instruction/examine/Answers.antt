use Rattle.instruction.proofs.Examining.{examined_halted, examined_none, examined_internal, examined_send, examined_sought}
use Rattle.instruction.proofs.instruction.examine.Goals as goal

pub returns-then-x-length : goal.returns-then-x-length
returns-then-x-length c = examined_halted _ _ _ _ _ c.if-x-length.true

pub returns-in-Calculation : goal.returns-in-Calculation
returns-in-Calculation c = examined_internal _ _ _ _ _ c.if-x-length.false (rw c.in-Calculation.is at c.kind_of.ensures)

pub returns-in-Taking : goal.returns-in-Taking
returns-in-Taking c = examined_sought _ _ _ _ _ c.if-x-length.false (rw c.in-Taking.is at c.kind_of.ensures) c.seek.result c.seek.ensures

pub returns-in-Sending : goal.returns-in-Sending
returns-in-Sending c = examined_send _ _ _ _ _ c.if-x-length.false (rw c.in-Sending.is at c.kind_of.ensures) _ c.register.ensures

pub returns-in-Unknown : goal.returns-in-Unknown
returns-in-Unknown c = examined_none _ _ _ _ _ c.if-x-length.false (rw c.in-Unknown.is at c.kind_of.ensures)
