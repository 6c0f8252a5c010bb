use Rattle.state.proofs.Popping.{popped}
use Rattle.state.proofs.queue.Queue.pop.Goals as goal

pub returns : goal.returns
returns c =
    let more = c.wrapping_add_u32 in
    let less = c.wrapping_sub_u32-self in
    popped c.args.self.now more.result less.result more.ensures.value less.ensures.value less.type_inv
