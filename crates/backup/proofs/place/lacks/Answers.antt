use Rattle.std.proofs.Common.{sym, le-ltb, lt-ltb}
use mathlib.Core.Bool.{or-false}
use Rattle.backup.proofs.place.lacks.Goals as goal

pub returns-then-head-c : goal.returns-then-head-c
returns-then-head-c c = simp (lt-ltb _ _ c.if-head-c.true)

pub returns-then-head-c-2 : goal.returns-then-head-c-2
returns-then-head-c-2 c = simp (le-ltb _ _ c.if-head-c.false, lt-ltb _ _ c.if-head-c-2.true)

pub returns-then-head-c-3 : goal.returns-then-head-c-3
returns-then-head-c-3 c = simp (le-ltb _ _ c.if-head-c.false, le-ltb _ _ c.if-head-c-2.false, lt-ltb _ _ c.if-head-c-3.true)

pub returns : goal.returns
returns c =
    rw (le-ltb _ _ c.if-head-c.false, le-ltb _ _ c.if-head-c-2.false, le-ltb _ _ c.if-head-c-3.false) (sym (or-false _))
