use Rattle.std.proofs.Common.{◌≡◌, ℕ, ◌<◌, subst, arith, rules}
use Rattle.backup.proofs.Compacting.{sifting_due, sifting_owed, sifting_goes, sifting_stays, sifting_swept, Moving, moving_on, passed}
use Rattle.backup.proofs.place.compact.Goals as goal
use Rattle.backup.proofs.place.compact.Goals.{else-n-gt0, else-loop-i-2-test, then-n-gt0, then-loop-i-2-test+else-due-gt0}

pub overflow_sub-due : goal.overflow_sub-due
overflow_sub-due c =
    let l = c.loop-i in
    let t = c.loop-i-test.true in
    let z = sifting_due l.invariant (omega arith) c.lane-s.result c.lane-s.ensures c.if-n-gt0.true in
    search rules

pub loop-i-preserved : goal.loop-i-preserved
loop-i-preserved c =
    let l = c.loop-i in
    let t : l.i < c.args.len = (let k = c.loop-i-test.true in omega arith) in
    let s = c.lane-s in
    elim c.if-n-gt0.branch [
      | then-n-gt0 w ↦ rw (w.log-is, w.left-is, w.due-is, w.kept-is) (sifting_goes l.invariant t s.result s.ensures w.if-n-gt0.true)
      | else-n-gt0 w ↦ rw (w.log-is, w.left-is, w.due-is, w.kept-is)
          (sifting_stays l.invariant t s.result s.ensures (let z = w.if-n-gt0.false in omega arith) c.requires.len_le_log_most)
    ]

pub overflow_sub-due-in-loop-i-2 : goal.overflow_sub-due-in-loop-i-2
overflow_sub-due-in-loop-i-2 c =
    let l = c.loop-i-2 in
    let t = c.loop-i-2-test.true in
    let s = c.lane-s-in-loop-i-2 in
    let z = sifting_owed l.invariant t s.result s.ensures c.minus-m.result c.wide-goes.result c.minus-m.ensures c.wide-goes.ensures.0 in
    search rules

pub loop-i-2-preserved : goal.loop-i-2-preserved
loop-i-2-preserved c =
    let l = c.loop-i-2 in
    let t = c.loop-i-2-test.true in
    let s = c.lane-s-in-loop-i-2 in
    sifting_swept l.invariant t s.result s.ensures c.minus-m.result c.wide-goes.result c.minus-m.ensures c.wide-goes.ensures.0 c.requires.len_le_log_most

pub loop-j-preserved : goal.loop-j-preserved
loop-j-preserved c = moving_on c.loop-j.invariant c.loop-j-test.true c.requires.len_le_log_most

pub returns : goal.returns
returns c =
    let a = c.args in
    let k = c.loop-i in
    let l = c.loop-i-2 in
    let m = c.loop-j in
    let e : m.j ≡ a.len = (let h = m.invariant.passing.looked in omega arith) in
    let z : l.i < a.len → l.due ≡ 0 = elim c.loop-i-2-test.branch [ then-loop-i-2-test+else-due-gt0 w ↦ λ _. omega arith | else-loop-i-2-test w ↦ λ h. absurd (omega arith) ] in record {
      dropped = passed k.invariant l.invariant z (subst (λ (i : ℕ). Moving l.log a.len l.i l.kept l.rounds m.log i m.kept m.rounds) e m.invariant);
      value = (let f = k.invariant.metered in let g = l.invariant.metered in let h = m.invariant.metered in omega arith);
    }
