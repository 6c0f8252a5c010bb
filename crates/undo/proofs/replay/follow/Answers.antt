-- `follow`: the first half is played once more (`replay`), and the other half is held in its place (`remember`).
use Rattle.undo.proofs.Replaying.{follows}
use Rattle.undo.proofs.replay.follow.Goals as goal

pub returns : goal.returns
returns c =
    follows c.requires c.replay-e.ensures c.remember.ensures
