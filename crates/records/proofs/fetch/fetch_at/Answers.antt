-- Whether the six bytes are inside: one test, of numbers whose sum is no more than a word's times seven.
use mathlib.Core.Path.{ap, sym, ◌∙◌}
use Prim.Native.Nat.{◌-◌, ◌/◌}
use lib.ListN.{length, drop}
use Rattle.records.specs.declared.six.Six.{Six}
use Rattle.records.specs.Fetch.{numbered, fetched}
use Rattle.records.proofs.Sixes.{made_at, six_past, six_from}
use native.Mathlib.Omega.{arith}
use Rattle.records.proofs.fetch.fetch_at.Goals as goal

pub returns-then-i-table : goal.returns-then-i-table
unfolding fetched
returns-then-i-table c =
    let s = c.args in
    let l = s.table.now in
    let at = c.wide.ensures in
    let k = c.wide-2.ensures in
    let past = c.if-i-table.true in
    c.none.ensures ∙ sym (six_past numbered ((length l - s.at) / 6) (drop s.at l) s.k (numbered 0 0 0) (omega arith))

pub returns : goal.returns
unfolding fetched
returns c =
    let s = c.args in
    let l = s.table.now in
    let at = c.wide.ensures in
    let k = c.wide-2.ensures in
    let inside = c.if-i-table.false in
    c.made.ensures
    ∙ ap (λ (x : Six). numbered x.first x.second x.word) c.six_at.ensures
    ∙ ap (made_at numbered l) (omega arith)
    ∙ sym (six_from numbered ((length l - s.at) / 6) l s.at s.k (numbered 0 0 0) (omega arith))
