use Rattle.table.proofs.Masks.{too_few, too_many, by_channels}
use Rattle.table.proofs.instructions.mask_ok.Goals as goal

pub returns-then-ones-lt1 : goal.returns-then-ones-lt1
returns-then-ones-lt1 c = too_few _ _ _ c.ranges.mask.fits c.if-ones-lt1.true

pub returns-then-ones-gt4 : goal.returns-then-ones-gt4
returns-then-ones-gt4 c = too_many _ _ _ c.ranges.mask.fits c.if-ones-gt4.true

pub returns : goal.returns
returns c = by_channels _ _ _ c.ranges.mask.fits c.if-ones-lt1.false c.if-ones-gt4.false _ c.channels_pass.ensures
