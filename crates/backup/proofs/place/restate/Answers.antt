use Rattle.backup.specs.Place.{restated_in}
use Rattle.backup.proofs.place.restate.Goals as goal

pub returns : goal.returns
unfolding restated_in
returns c = rw (c.minus-4.ensures, c.minus-3.ensures, c.minus-2.ensures, c.minus.ensures)
