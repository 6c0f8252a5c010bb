use mathlib.Core.Path.{◌≡◌, subst}
use Rattle.backup_lent.proofs.Looking.{Looked, looked_few, looked_start, looked_on, census_none, census_some}
use native.Mathlib.Omega.{arith}
use Rattle.backup_lent.proofs.census.Goals as goal

pub loop-i-init : goal.loop-i-init
loop-i-init c = looked_start _ _

pub returns-then-port-ge-PORTS : goal.returns-then-port-ge-PORTS
returns-then-port-ge-PORTS c = census_none _ _ c.loop-i.i c.port_of-port.result c.loop-i-test.true c.port_of-port.ensures c.if-port-ge-PORTS.true

pub overflow_add-n : goal.overflow_add-n
overflow_add-n c =
    omega (arith, c.wide.ensures.0, looked_few c.loop-i.invariant c.wide.result (let w = c.wide.ensures.0 in let t = c.if-port-ge-PORTS.false in omega arith), c.loop-i.invariant.looked, c.requires)

pub loop-i-preserved : goal.loop-i-preserved
loop-i-preserved c = rw c.wide.ensures.0 (looked_on _ _ _ _ c.port_of-port.result c.loop-i.invariant c.loop-i-test.true c.port_of-port.ensures (omega arith))

pub returns : goal.returns
returns c =
    let l = c.loop-i in
    let a = c.args in
    let e : l.i ≡ a.len = (let h = l.invariant.looked in omega arith) in
    census_some a.saved.now a.len l.n (subst (Looked a.saved.now a.len l.n) e l.invariant)
