use Rattle.std.proofs.Common.{◌-◌, arith}
use Rattle.bench.proofs.Taking.{further, grown, one_after_other}
use Rattle.bench.proofs.read_part.Goals as goal

pub loop-end-preserved : goal.loop-end-preserved
loop-end-preserved g c =
    let s = c.args in
    let l = c.loop-end in
    let r = c.read_some-n in
    let f = l.invariant.0 in
    let e = f.same_length in
    let b = f.begins in
    let t = f.ends in
    let h = c.requires.to_in_bounds in (
      further s.input.now l.input s.from s.to l.end h f r.new.buffer r.auto.buffer r.result r.ensures.within,
      rw (grown l.input r.new.buffer s.from l.end (s.to - l.end) r.result b (omega arith) r.ensures.within)
          (one_after_other _ _ _ _ _ l.invariant.1 r.ensures.in_order),
    )
