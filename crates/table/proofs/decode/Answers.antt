use mathlib.Core.Path.{refl, sym, ap, ◌∙◌}
use native.Mathlib.Omega.{arith}
use Rattle.std.proofs.lemmas.Result.{err_from_is_err_and}
use Rattle.rules.proofs.Valid.{counted}
use Rattle.plan.specs.declared.Counts.{Counts}
use Rattle.table.proofs.BoardsPass.{limits_are}
use Rattle.table.proofs.Decoding.{framing-passes, number_from, decodes_unframed, decodes_refused, decodes_accepted}
use Rattle.table.proofs.decode.Goals as goal

pub returns-in_err-judge_extent : goal.returns-in_err-judge_extent
returns-in_err-judge_extent c =
    let p = err_from_is_err_and c.from_residual.result c.from_residual.ensures.1 in
    rw (p.1, p.2) (decodes_unframed c.args.table.now _ c.in_err-judge_extent.ensures)

pub returns-then-not-ends_ok : goal.returns-then-not-ends_ok
returns-then-not-ends_ok c =
    let t = c.args.table.now in
    let f = sym c.in_ok-judge_extent.ensures in
    decodes_refused t _ (number_from t f c.if-not-ends_ok.ensures refl refl refl refl)

pub judge_ports-requires : goal.judge_ports-requires
judge_ports-requires c = (framing-passes _ (sym c.in_ok-judge_extent.ensures)).framed.counts_ok_lem

pub returns-in_default : goal.returns-in_default
returns-in_default c =
    let t = c.args.table.now in
    let f = sym c.in_ok-judge_extent.ensures in
    let r = c.in_default.ensures in
    decodes_refused t _ (number_from t f c.if-not-ends_ok.ensures r.says refl refl refl)

pub judge_boards-requires : goal.judge_boards-requires
judge_boards-requires c = (framing-passes _ (sym c.in_ok-judge_extent.ensures)).framed

pub returns-in_default-judge_boards : goal.returns-in_default-judge_boards
returns-in_default-judge_boards c =
    let t = c.args.table.now in
    let f = sym c.in_ok-judge_extent.ensures in
    let w = c.in-Some.ensures in
    let r = c.in_default-judge_boards.ensures in
    decodes_refused t _ (number_from t f c.if-not-ends_ok.ensures w.says r.says refl refl)

pub instructions_ok-requires : goal.instructions_ok-requires
instructions_ok-requires c = (framing-passes _ (sym c.in_ok-judge_extent.ensures)).framed.extent_ok_lem

pub returns-then-not-instructions_ok : goal.returns-then-not-instructions_ok
returns-then-not-instructions_ok c =
    let t = c.args.table.now in
    let f = sym c.in_ok-judge_extent.ensures in
    let w = c.in-Some.ensures in
    let b = c.in-Some-judge_boards.ensures in
    decodes_refused t _ (number_from t f c.if-not-ends_ok.ensures w.says b.says c.if-not-instructions_ok.ensures refl)

pub limits_ok-requires : goal.limits_ok-requires
limits_ok-requires c =
    let f = (framing-passes _ (sym c.in_ok-judge_extent.ensures)).framed in
    let a = ap (λ (n : Counts). n.processes) c.counts_of-counts.ensures in
    let d = (counted _ f.counts_ok_lem).processes_high in
    omega arith

pub returns-then-not-limits_ok : goal.returns-then-not-limits_ok
returns-then-not-limits_ok c =
    let t = c.args.table.now in
    let f = sym c.in_ok-judge_extent.ensures in
    let w = c.in-Some.ensures in
    let b = c.in-Some-judge_boards.ensures in
    let processes = ap (λ (n : Counts). n.processes) c.counts_of-counts.ensures in
    let limits = c.if-not-limits_ok.ensures ∙ limits_are t _ _ _ b.found processes in
    decodes_refused t _ (number_from t f c.if-not-ends_ok.ensures w.says b.says c.if-not-instructions_ok.ensures limits)

pub returns : goal.returns
returns c =
    let t = c.args.table.now in
    let f = sym c.in_ok-judge_extent.ensures in
    let w = c.in-Some.ensures in
    let b = c.in-Some-judge_boards.ensures in
    let processes = ap (λ (n : Counts). n.processes) c.counts_of-counts.ensures in
    let limits = c.if-not-limits_ok.ensures ∙ limits_are t _ _ _ b.found processes in
    decodes_accepted t c.in-Some.ports c.in-Some-judge_boards.boards w.found b.found (framing-passes t f).framed.extent_ok_lem _
    (number_from t f c.if-not-ends_ok.ensures w.says b.says c.if-not-instructions_ok.ensures limits) c.counts_of-counts.ensures
