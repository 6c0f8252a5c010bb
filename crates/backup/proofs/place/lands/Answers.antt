use Rattle.std.proofs.Common.{◌<◌, ◌≤◌, sym, ◌∙◌, arith, le-ltb, lt-ltb}
use Rattle.backup.specs.Limits.{log_most}
use Rattle.backup.proofs.place.lands.Goals as goal

pub returns-then-wide-gt-LOG : goal.returns-then-wide-gt-LOG
returns-then-wide-gt-LOG c =
    let n : log_most < c.args.head.now.len = (let w = c.wide.ensures.0 in let t = c.if-wide-gt-LOG.true in omega arith) in
    simp (lt-ltb _ _ n)

pub returns-then-c-gt-PC_MOST : goal.returns-then-c-gt-PC_MOST
returns-then-c-gt-PC_MOST c =
    let n : c.args.head.now.len ≤ log_most = (let w = c.wide.ensures.0 in let t = c.if-wide-gt-LOG.false in omega arith) in
    simp (le-ltb _ _ n, lt-ltb _ _ c.if-c-gt-PC_MOST.true)

pub returns-then-lacks : goal.returns-then-lacks
returns-then-lacks c =
    let n : c.args.head.now.len ≤ log_most = (let w = c.wide.ensures.0 in let t = c.if-wide-gt-LOG.false in omega arith) in
    simp (le-ltb _ _ n, le-ltb _ _ c.if-c-gt-PC_MOST.false, sym c.lacks.ensures ∙ c.if-lacks.true)

pub returns : goal.returns
returns c =
    let n : c.args.head.now.len ≤ log_most = (let w = c.wide.ensures.0 in let t = c.if-wide-gt-LOG.false in omega arith) in
    simp (le-ltb _ _ n, le-ltb _ _ c.if-c-gt-PC_MOST.false, sym c.lacks.ensures ∙ c.if-lacks.false)
