-- `replay`: the records are those of a schedule, played.
use Rattle.undo.proofs.Replaying.{replays}
use Rattle.undo.proofs.replay.replay.Goals as goal

pub returns : goal.returns
returns c = replays c.play-r.ensures
