use mathlib.Core.Path.{refl, ap, ◌∙◌}
use Rattle.rules.specs.Format.{version_ok}
use Rattle.table.proofs.Extents.{framing_from}
use Rattle.table.proofs.extent.judge_extent.Goals as goal

pub returns-then-not-length_ok : goal.returns-then-not-length_ok
returns-then-not-length_ok c = framing_from c.args.table.now c.if-not-length_ok.ensures refl refl refl

pub returns-then-not-version_ok : goal.returns-then-not-version_ok
returns-then-not-version_ok c =
    framing_from c.args.table.now c.if-not-length_ok.ensures (c.if-not-version_ok.ensures ∙ ap version_ok c.version_of.ensures) refl refl

pub returns-then-not-counts_ok : goal.returns-then-not-counts_ok
returns-then-not-counts_ok c =
    framing_from c.args.table.now c.if-not-length_ok.ensures (c.if-not-version_ok.ensures ∙ ap version_ok c.version_of.ensures)
    c.if-not-counts_ok.ensures refl

pub returns-then-not-extent_ok : goal.returns-then-not-extent_ok
returns-then-not-extent_ok c =
    framing_from c.args.table.now c.if-not-length_ok.ensures (c.if-not-version_ok.ensures ∙ ap version_ok c.version_of.ensures)
    c.if-not-counts_ok.ensures c.if-not-extent_ok.ensures

pub returns : goal.returns
returns c =
    framing_from c.args.table.now c.if-not-length_ok.ensures (c.if-not-version_ok.ensures ∙ ap version_ok c.version_of.ensures)
    c.if-not-counts_ok.ensures c.if-not-extent_ok.ensures
