use Rattle.instruction.proofs.Counting.{queues}
use Rattle.instruction.proofs.instruction.queue_send.Goals as goal

pub returns-clause-became : goal.returns-clause-became
returns-clause-became c = rw c.event.ensures (queues c.args.x.now)
