use mathlib.Core.Path.{◌∙◌, refl}
use Prim.Native.Nat.{◌<◌}
use native.Mathlib.Omega.{arith}
use Rattle.rules.specs.Format.{processes_in}
use Rattle.rules.proofs.Valid.{counted}
use Rattle.table.proofs.BoardsPass.{placing_start, placing_fits, placing_on, placing_refused, placing_end}
use Rattle.table.proofs.boards.judge_boards.Goals as goal

pub loop-p-init : goal.loop-p-init
loop-p-init c =
    let t = c.args.table.now in
    let f = c.requires in (
      (let e = c.byte_wide-processes.ensures.0 in let d = c.byte.ensures in let g = (counted t f.counts_ok_lem).processes_high in omega arith),
      placing_start t _ f _ _ c.records_start-at.ensures (omega (arith, c.well_formed)) refl,
    )

pub returns-in_err-r : goal.returns-in_err-r
returns-in_err-r c =
    let t = c.args.table.now in
    let l = c.loop-p in
    let few : l.p < processes_in t = let a = c.loop-p-test.true in let b = c.byte_wide-processes.ensures.0 in let d = c.byte.ensures in omega arith in
    rw c.from_residual.ensures
    (placing_refused t _ c.requires l.at l.p c.version_of-version.result c.byte-boards.result l.invariant.1 few c.version_of-version.ensures c.byte-boards.ensures c.in_err-r.ensures)

pub overflow_cast-programs : goal.overflow_cast-programs
overflow_cast-programs c =
    let t = c.args.table.now in
    let l = c.loop-p in
    let few : l.p < processes_in t = let a = c.loop-p-test.true in let b = c.byte_wide-processes.ensures.0 in let d = c.byte.ensures in omega arith in
    let a = placing_fits t _ c.requires l.at l.p c.version_of-version.result c.byte-boards.result l.invariant.1 few c.version_of-version.ensures c.byte-boards.ensures c.in_ok-r.r c.in_ok-r.ensures in
    omega (arith, a)

pub overflow_add-at : goal.overflow_add-at
overflow_add-at c =
    let t = c.args.table.now in
    let l = c.loop-p in
    let few : l.p < processes_in t = let a = c.loop-p-test.true in let b = c.byte_wide-processes.ensures.0 in let d = c.byte.ensures in omega arith in
    let a = placing_fits t _ c.requires l.at l.p c.version_of-version.result c.byte-boards.result l.invariant.1 few c.version_of-version.ensures c.byte-boards.ensures c.in_ok-r.r c.in_ok-r.ensures in
    omega (arith, a)

pub loop-p-preserved : goal.loop-p-preserved
loop-p-preserved c =
    let t = c.args.table.now in
    let l = c.loop-p in
    let few : l.p < processes_in t = let a = c.loop-p-test.true in let b = c.byte_wide-processes.ensures.0 in let d = c.byte.ensures in omega arith in
    let n = c.byte_wide-processes.ensures.0 ∙ c.byte.ensures in (
      l.invariant.0,
      placing_on t _ c.requires l.at l.p c.version_of-version.result c.byte-boards.result l.invariant.1 few c.version_of-version.ensures c.byte-boards.ensures c.in_ok-r.r c.in_ok-r.ensures
          (let a = l.invariant.0 in omega arith),
    )

pub returns : goal.returns
returns c =
    placing_end c.args.table.now _ c.requires _ _ _ c.loop-p.invariant.1
    (let a = c.loop-p-test.false in let b = c.byte_wide-processes.ensures.0 in let d = c.byte.ensures in omega arith)
