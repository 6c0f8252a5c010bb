use mathlib.Core.Path.{refl, sym, ◌∙◌}
use Rattle.rules.specs.Format.{counts_fit}
use Rattle.writer.specs.Given.{given_by}
use Rattle.writer.proofs.Lengths.{framing_from}
use Rattle.writer.proofs.write.Lists.judge_lists.Goals as goal

pub returns-then-not-version_ok-clause-number : goal.returns-then-not-version_ok-clause-number
returns-then-not-version_ok-clause-number c = let s = c.args in framing_from (given_by s.self.now) (sym c.if-not-version_ok.true ∙ c.version_ok.ensures) refl refl

pub returns-then-not-counts_fit-clause-number : goal.returns-then-not-counts_fit-clause-number
returns-then-not-counts_fit-clause-number c =
    let s = c.args in
    framing_from (given_by s.self.now) (sym c.if-not-version_ok.false ∙ c.version_ok.ensures)
    (sym c.if-not-counts_fit.true ∙ (c.counts_fit.ensures ∙ (λ i. counts_fit (c.wide.ensures.0 i) (c.wide-2.ensures.0 i) (c.wide-3.ensures.0 i)))) refl

pub returns-then-not-lists_ok-clause-number : goal.returns-then-not-lists_ok-clause-number
returns-then-not-lists_ok-clause-number c =
    let s = c.args in
    framing_from (given_by s.self.now) (sym c.if-not-version_ok.false ∙ c.version_ok.ensures)
    (sym c.if-not-counts_fit.false ∙ (c.counts_fit.ensures ∙ (λ i. counts_fit (c.wide.ensures.0 i) (c.wide-2.ensures.0 i) (c.wide-3.ensures.0 i)))) (sym c.if-not-lists_ok.true ∙ c.lists_ok.ensures)

pub returns-clause-number : goal.returns-clause-number
returns-clause-number c =
    let s = c.args in
    framing_from (given_by s.self.now) (sym c.if-not-version_ok.false ∙ c.version_ok.ensures)
    (sym c.if-not-counts_fit.false ∙ (c.counts_fit.ensures ∙ (λ i. counts_fit (c.wide.ensures.0 i) (c.wide-2.ensures.0 i) (c.wide-3.ensures.0 i)))) (sym c.if-not-lists_ok.false ∙ c.lists_ok.ensures)
