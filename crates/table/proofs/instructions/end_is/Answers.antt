use Rattle.table.proofs.OneChannel.{end_past, end_at}
use Rattle.table.proofs.instructions.end_is.Goals as goal

pub returns-then-channel-byte_wide : goal.returns-then-channel-byte_wide
returns-then-channel-byte_wide c =
    let e = c.byte_wide.ensures.0 in
    let f = c.wide-channel.ensures.0 in
    let s = c.args in
    end_past s.table.now s.side s.k s.p _ _ f e c.if-channel-byte_wide.true

pub returns : goal.returns
returns c =
    let e = c.byte_wide.ensures.0 in
    let f = c.wide-channel.ensures.0 in
    let s = c.args in
    end_at s.table.now s.side s.k s.p _ _ f e c.if-channel-byte_wide.false
