use mathlib.Core.Path.{ap, sym, ◌∙◌}
use Prim.Native.Nat.{ℕ, ◌*◌}
use lib.Dec.{leb}
use Rattle.facts.specs.Tests.{all_of}
use Rattle.backup.specs.Limits.{pc_most}
use Rattle.rules.specs.Sizes.{limit_bytes}
use Rattle.rules.specs.Encode.{program_lengths, total}
use Rattle.writer.specs.Given.{given_by}
use Rattle.writer.proofs.Lengths.{counting_more, counting_over, counting-end, ends_wrong, placements_wrong, limits_wrong, n_wrong, instructions_tell}
use native.Mathlib.Omega.{arith}
use Rattle.writer.proofs.write.Lists.lists_ok.Goals as goal

pub returns-then-self-channels : goal.returns-then-self-channels
returns-then-self-channels c = let s = c.args in ends_wrong (given_by s.self.now) (λ e. c.if-self-channels.true (omega arith))

pub returns-then-self-processes : goal.returns-then-self-processes
returns-then-self-processes c = let s = c.args in placements_wrong (given_by s.self.now) (omega arith) (λ e. c.if-self-processes.true (omega arith))

pub returns-then-self-limits_long : goal.returns-then-self-limits_long
returns-then-self-limits_long c =
    let s = c.args in
    limits_wrong (given_by s.self.now) (omega arith) (omega arith)
    (λ e. c.if-self-limits_long.true (e ∙ sym (c.limits_long.ensures ∙ ap (λ (n : ℕ). limit_bytes s.self.now.head.version * n) c.wide-processes.ensures.0)))

pub returns-then-n-gt-PROGRAM_MOST : goal.returns-then-n-gt-PROGRAM_MOST
returns-then-n-gt-PROGRAM_MOST c =
    let s = c.args in
    let l = c.loop-p in
    n_wrong (given_by s.self.now) (omega arith) (omega arith) (c.if-self-limits_long.false ∙ (c.limits_long.ensures ∙ ap (λ (n : ℕ). limit_bytes s.self.now.head.version * n) c.wide-processes.ensures.0))
    (ap (λ (m : ℕ). all_of (λ k. leb k pc_most) (program_lengths m s.self.now.placements.now)) (sym c.wide-processes.ensures.0)
    ∙ counting_over _ _ l.total l.p c.wide-n.result l.invariant c.loop-p-test.true c.wide-n.ensures.0 c.if-n-gt-PROGRAM_MOST.true)

pub loop-p-preserved : goal.loop-p-preserved
loop-p-preserved c =
    let l = c.loop-p in
    counting_more _ _ l.total l.p _ l.invariant c.loop-p-test.true c.wide-n.ensures.0 c.if-n-gt-PROGRAM_MOST.false

pub returns : goal.returns
returns c =
    let s = c.args in
    let l = c.loop-p in
    let same = sym c.wide-processes.ensures.0 in
    let e = counting-end s.self.now.placements.now c.wide-processes.result l.total l.p l.invariant c.loop-p-test.false in
    instructions_tell (given_by s.self.now) (omega arith) (omega arith) (c.if-self-limits_long.false ∙ (c.limits_long.ensures ∙ ap (λ (n : ℕ). limit_bytes s.self.now.head.version * n) c.wide-processes.ensures.0)) l.total
    (ap (λ (m : ℕ). total (program_lengths m s.self.now.placements.now)) same ∙ e.0)
    (ap (λ (m : ℕ). all_of (λ k. leb k pc_most) (program_lengths m s.self.now.placements.now)) same ∙ e.1)
