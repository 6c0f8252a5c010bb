use Rattle.table.proofs.Extents.{no_head, too_long, true-length}
use Rattle.rules.specs.Bytes.{number16}
use mathlib.Core.Path.{ap₂, ◌∙◌}
use Rattle.table.proofs.extent.length_ok.Goals as goal

pub returns-then-table-lt-HEAD : goal.returns-then-table-lt-HEAD
returns-then-table-lt-HEAD c = no_head c.args.table.now c.if-table-lt-HEAD.true

pub returns-then-field-gt-TABLE_MOST : goal.returns-then-field-gt-TABLE_MOST
returns-then-field-gt-TABLE_MOST c =
    let b = c.byte.ensures in
    let d = c.byte-2.ensures in
    too_long c.args.table.now c.pair-field.result (c.pair-field.ensures.0 ∙ ap₂ number16 b d) c.if-table-lt-HEAD.false c.if-field-gt-TABLE_MOST.true

pub returns : goal.returns
returns c =
    let b = c.byte.ensures in
    let d = c.byte-2.ensures in
    true-length c.args.table.now c.pair-field.result (c.pair-field.ensures.0 ∙ ap₂ number16 b d) c.if-table-lt-HEAD.false c.if-field-gt-TABLE_MOST.false
