use Rattle.backup.proofs.Arriving.{arrive_21, arrive_22, arrive-done, arrive-number_21, arrive-number_22, arrive-number_0}
use Rattle.std.proofs.Common.{◌<◌, ◌≤◌, arith}
use Rattle.backup.specs.Limits.{log_most}
use Rattle.backup.proofs.place.arrive_in.Goals as goal

pub returns-then-port-ge-PORTS : goal.returns-then-port-ge-PORTS
returns-then-port-ge-PORTS c =
    let a = c.args in
    record {
      called = arrive_21 a.log.now a.head.now a.port a.word c.if-port-ge-PORTS.true;
      value = arrive-number_21 a.head.now a.port c.if-port-ge-PORTS.true;
    }

pub returns-then-len-ge-LOG : goal.returns-then-len-ge-LOG
returns-then-len-ge-LOG c =
    let s = c in
    let w = c.wide-len.ensures.0 in
    let h = c.if-port-ge-PORTS.false in
    let k : log_most ≤ s.args.head.now.len = (let t = c.if-len-ge-LOG.true in omega arith) in
    record {
      called = arrive_22 s.args.log.now s.args.head.now s.args.port s.args.word h k;
      value = arrive-number_22 s.args.head.now s.args.port h k;
    }

pub returns : goal.returns
returns c =
    let s = c in
    let w = c.wide-len.ensures.0 in
    let h = c.if-port-ge-PORTS.false in
    let k : s.args.head.now.len < log_most = (let t = c.if-len-ge-LOG.false in omega arith) in
    record {
      called = rw (c.wrapping_add_u32.ensures.value, c.wide-p.ensures.0, c.packed.ensures, w)
          (arrive-done s.args.log.now s.args.head.now s.args.port s.args.word h s.ranges.word.fits k);
      value = arrive-number_0 s.args.head.now s.args.port h k;
    }
