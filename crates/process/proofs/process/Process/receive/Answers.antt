use Rattle.process.proofs.Backups.{received_none, received_so}
use native.Mathlib.Omega.{arith}
use Rattle.process.proofs.process.Process.receive.Goals as goal

pub returns-then-end-ge-LOG : goal.returns-then-end-ge-LOG
returns-then-end-ge-LOG c =
    let a = c.args in
    received_none a.self.now a.port a.channel a.word (let w = c.wide-end.ensures.0 in let t = c.if-end-ge-LOG.true in omega arith)

pub returns : goal.returns
returns c =
    let a = c.args in
    received_so a.self.now a.port a.channel a.word c.save.new.self c.append.new.mail (let w = c.wide-end.ensures.0 in let t = c.if-end-ge-LOG.false in omega arith)
    c.save.ensures (rw (c.wide.ensures.0, c.wide-end.ensures.0) at c.append.ensures)
