use Rattle.page.proofs.Putting.{put_none, put_past, put_one}
use native.Mathlib.Omega.{arith}
use Rattle.page.proofs.text.put.Goals as goal

pub returns-then-at-out : goal.returns-then-at-out
returns-then-at-out c = let s = c.args in put_one s.byte s.out.now s.at (omega arith)

pub returns-then-at-lt18446744073709551615 : goal.returns-then-at-lt18446744073709551615
returns-then-at-lt18446744073709551615 c = let s = c.args in put_past s.byte s.out.now s.at c.if-at-lt18446744073709551615.true c.if-at-out.false

pub returns-else-at-lt18446744073709551615 : goal.returns-else-at-lt18446744073709551615
returns-else-at-lt18446744073709551615 c = let s = c.args in put_none s.byte s.out.now s.at c.ranges.at.fits c.if-at-lt18446744073709551615.false
