-- `show`: all records are played, and the store is laid out.
use Rattle.view.proofs.Viewing.{shows}
use Rattle.view.proofs.show.Goals as goal

pub put_view-requires : goal.put_view-requires
put_view-requires c = c.requires.view_most_in_bounds

pub returns : goal.returns
returns c =
    let s = c.args in
    shows s.table.now s.schedule.now s.decoded.now s.out.now _ _ _ _ _ c.play_all-entries.ensures c.put_view.ensures
