use mathlib.Core.Path.{◌≡◌, ap}
use lib.ListN.{length}
use Rattle.std.proofs.lemmas.Result.{err_from_is_err_and}
use Rattle.rules.specs.Encode.{encode, validate_lists}
use Rattle.writer.specs.Given.{given_by}
use Rattle.writer.proofs.FittedSame.{fitted-same}
use Rattle.writer.proofs.Composing.{refused_lists, refused-framing, refused-room, writes_nothing, writes-table}
use native.Mathlib.Omega.{arith}
use Rattle.writer.proofs.write.Lists.write.Goals as goal

pub returns-in_err-judge_lists : goal.returns-in_err-judge_lists
returns-in_err-judge_lists c =
    let s = c.args in
    let l = given_by s.self.now in
    let p = err_from_is_err_and c.from_residual.result c.from_residual.ensures.1 in
    rw (p.1, p.2) (writes_nothing l s.out.now _ (refused-framing l (length s.out.now) _ c.in_err-judge_lists.ensures.number))

pub returns-in_err-judge_laid : goal.returns-in_err-judge_laid
returns-in_err-judge_laid c =
    let s = c.args in
    let l = given_by s.self.now in
    let p = err_from_is_err_and c.from_residual-in_err-judge_laid.result c.from_residual-in_err-judge_laid.ensures.1 in
    rw (p.1, p.2) (writes_nothing l s.out.now _ (refused_lists l (length s.out.now) _ c.in_err-judge_laid.ensures))

pub returns-then-total-out : goal.returns-then-total-out
returns-then-total-out c =
    let s = c.args in
    let l = given_by s.self.now in
    let z : validate_lists l ≡ 0 = omega arith in
    let same = ap length (ap encode (fitted-same l z)) in
    let t = c.table_length-total.ensures.0 in
    writes_nothing l s.out.now _ (refused-room l (length s.out.now) z (omega arith))

pub returns : goal.returns
returns c =
    let s = c.args in
    let l = given_by s.self.now in
    let z : validate_lists l ≡ 0 = omega arith in
    writes-table l s.out.now _ c.table_length-total.result z c.table_length-total.ensures.0 c.if-total-out.false c.lay.ensures
