use Rattle.instruction.proofs.Counting.{suppresses}
use Rattle.instruction.proofs.instruction.suppress_send.Goals as goal

pub returns-clause-became : goal.returns-clause-became
returns-clause-became c =
    let s = c.wrapping_sub_u32-x in
    rw c.wrapping_add_u32-x.ensures.value (suppresses c.args.x.now s.result s.ensures.value s.type_inv)
