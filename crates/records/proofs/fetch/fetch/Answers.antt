use mathlib.Core.Path.{◌∙◌}
use Rattle.records.specs.Fetch.{numbered, fetched}
use Rattle.records.proofs.Sixes.{made_of_none, made_of_part}
use Rattle.records.proofs.fetch.fetch.Goals as goal

pub returns-then-at-table : goal.returns-then-at-table
unfolding fetched
returns-then-at-table c =
    let s = c.args in
    c.none.ensures ∙ made_of_none numbered s.table.now s.at s.k c.if-at-table.true

pub returns : goal.returns
unfolding fetched
returns c =
    let s = c.args in
    c.made.ensures ∙ made_of_part numbered s.table.now s.at s.k _ c.six_of.ensures
