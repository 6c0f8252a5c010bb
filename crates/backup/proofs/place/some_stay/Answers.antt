use Rattle.std.proofs.Common.{arith, ltb-true, ltb-false}
use Rattle.backup.proofs.place.some_stay.Goals as goal

pub returns : goal.returns
returns c =
    let w = c.wrapping_sub_usize.ensures in
    let l = c.less.ensures in
    (λ e. let t = ltb-true c.wrapping_sub_usize.result c.less.result e in (omega arith, omega arith), λ e h. let t = ltb-false c.wrapping_sub_usize.result c.less.result e in omega arith)
