use Rattle.state.proofs.queue.Queue.push.Goals as goal

pub returns : goal.returns
returns c = rw c.wrapping_add_u32-self.ensures.value
