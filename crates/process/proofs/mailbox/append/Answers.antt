use Rattle.process.proofs.Mailboxes.{appended_at}
use Rattle.process.proofs.mailbox.append.Goals as goal

pub returns : goal.returns
returns c = rw (c.place.ensures, c.packed.ensures) (appended_at _ _ _ _ _ c.ranges.word.fits)
