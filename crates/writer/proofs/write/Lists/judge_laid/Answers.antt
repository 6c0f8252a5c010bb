use mathlib.Core.Path.{◌∙◌}
use Rattle.writer.specs.Given.{given_by}
use Rattle.writer.proofs.Composing.{judged_laid}
use Rattle.writer.proofs.write.Lists.judge_laid.Goals as goal

pub returns : goal.returns
returns c =
    let s = c.args in
    let g = c.requires in
    c.judge_front.ensures ∙ judged_laid (given_by s.self.now) g.fitting _ c.lay.new.bytes s.total g.total_value.0 g.total_value.1 c.lay.ensures
