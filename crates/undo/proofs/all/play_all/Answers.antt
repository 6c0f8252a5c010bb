-- `play_all`: one stretch, and where that ends before the schedule does, a session.
use native.Mathlib.Omega.{arith}
use Rattle.undo.proofs.Going.{room_less}
use Rattle.undo.proofs.AllRecords.{all_played, then_session}
use Rattle.undo.proofs.all.play_all.Goals as goal

pub returns-then-left-records : goal.returns-then-left-records
returns-then-left-records c = all_played c.count-records.ensures c.start-entries.ensures c.play-left.ensures c.if-left-records.true

pub session-requires : goal.session-requires
session-requires c =
    let kept = c.play-left.auto in
    room_less c.requires (record { answers-long = kept.answers; reasons-long = kept.reasons; origins-long = kept.origins }) (omega arith)

pub returns : goal.returns
returns c =
    then_session c.count-records.ensures c.start-entries.ensures c.play-left.ensures c.requires c.start-anew.ensures c.session.ensures
