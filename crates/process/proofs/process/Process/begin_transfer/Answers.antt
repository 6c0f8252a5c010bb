use Rattle.process.proofs.Transferring.{begins-transfer-none, begins-transfer_so}
use native.Mathlib.Omega.{arith}
use Rattle.numbers.specs.Backup.{number_in}
use Rattle.process.proofs.process.Process.begin_transfer.Goals as goal

pub returns-then-len-gt-LOG-clause-became : goal.returns-then-len-gt-LOG-clause-became
returns-then-len-gt-LOG-clause-became c =
    let a = c.args in
    begins-transfer-none a.self.now a.wires.now (let w = c.wide-len.ensures.0 in let t = c.if-len-gt-LOG.true in omega arith)

pub returns-clause-became : goal.returns-clause-became
returns-clause-became c =
    let x = c.args.self.now in
    let e = c.count_anew.ensures in
    let n = c.new_in in
    let s = c.sync_in in
    rw e
    (begins-transfer_so x c.args.wires.now n.new.head (rw e at (n.ensures.by_index c.count_anew.new.self.log)) c.snapshot-c.result (rw e at c.snapshot-c.ensures)
    (number_in s.result) s.new.log s.new.head (rw e at s.ensures.called) c.copy.new.log c.copy.new.head (rw (e, c.wide-len.ensures.0, c.wide-first.ensures.0) at c.copy.ensures))
