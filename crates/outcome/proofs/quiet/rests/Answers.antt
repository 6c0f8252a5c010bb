use mathlib.Core.Path.{◌∙◌}
use Rattle.records.specs.Fetch.{fetched}
use Rattle.outcome.proofs.Quieting.{rests_so}
use Rattle.outcome.proofs.quiet.rests.Goals as goal

pub returns : goal.returns
returns c =
    let s = c.args in
    let at = c.wide in
    let pc = c.wide-2 in
    let f = c.fetch-i in
    let x = c.examine in
    rests_so s.table.now s.at s.length s.x.now f.result x.result _
    (f.ensures ∙ (λ j. fetched s.table.now (at.ensures.0 j) (pc.ensures.0 j))) x.ensures c.idle.ensures
