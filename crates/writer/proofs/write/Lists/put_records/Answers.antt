use Rattle.writer.specs.Given.{given_by}
use Rattle.writer.specs.Fitted.{head_for}
use Rattle.facts.specs.Laying.{laid_length}
use Rattle.writer.proofs.Walking.{records_start_lem, limits-room, next_facts, records_on, records-end}
use native.Mathlib.Omega.{arith}
use Rattle.writer.proofs.write.Lists.put_records.Goals as goal

pub loop-p-init : goal.loop-p-init
loop-p-init c = let s = c.args in records_start_lem s.bytes.now s.at (given_by s.self.now) c.requires.programs

pub put_placement-requires : goal.put_placement-requires
put_placement-requires c =
    let s = c.args in
    let l = c.loop-p in
    let w = c.wide-n in
    let k = next_facts s.bytes.now s.at (given_by s.self.now) _ l.next l.i l.p l.invariant w.result w.ensures.0 (omega arith) c.requires.instructions_in_bounds in
    let z = c.requires.programs.placed in
    record {
      version_in_bounds = omega arith;
      p_in_bounds = omega arith;
      p_in_bounds_2 = limits-room s.bytes.now s.at (given_by s.self.now) c.requires.programs l.p (omega arith);
    }

pub put_program-requires : goal.put_program-requires
put_program-requires c =
    let s = c.args in
    let l = c.loop-p in
    let w = c.wide-n in
    let k = next_facts s.bytes.now s.at (given_by s.self.now) _ l.next l.i l.p l.invariant w.result w.ensures.0 (omega arith) c.requires.instructions_in_bounds in
    let e = laid_length l.bytes c.put_placement.new.bytes l.next (head_for (given_by s.self.now) l.p) c.put_placement.ensures in
    (omega arith, omega arith)

pub loop-p-preserved : goal.loop-p-preserved
loop-p-preserved c =
    let s = c.args in
    let l = c.loop-p in
    let w = c.wide-n in
    records_on s.bytes.now s.at (given_by s.self.now) _ l.next l.i l.p l.invariant w.result w.ensures.0 (omega arith)
    c.record_head-before.result c.record_head-before.ensures.0 _ _ c.put_placement.ensures c.put_program.ensures

pub returns : goal.returns
returns c =
    let s = c.args in
    let l = c.loop-p in
    records-end s.bytes.now s.at (given_by s.self.now) _ l.next l.i l.p l.invariant (omega arith)
