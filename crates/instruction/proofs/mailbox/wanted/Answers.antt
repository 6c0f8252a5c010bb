use Rattle.instruction.proofs.Mailboxes.{in_mask, past_mask}
use Rattle.instruction.proofs.mailbox.wanted.Goals as goal

pub returns-then-channel-lt32 : goal.returns-then-channel-lt32
returns-then-channel-lt32 c = in_mask c.args.mask c.args.channel

pub returns-else-channel-lt32 : goal.returns-else-channel-lt32
returns-else-channel-lt32 c = past_mask _ _ c.ranges.mask.fits c.if-channel-lt32.false
