use mathlib.Core.Path.{ap, sym, ◌∙◌}
use Rattle.rules.specs.Moves.{Command}
use Rattle.rules.specs.Schedule.{commands_in, command, decode_schedule}
use Rattle.records.proofs.Sixes.{six_from}
use Rattle.records.proofs.schedule.move_at.Goals as goal

pub returns : goal.returns
unfolding decode_schedule
returns c =
    let s = c.args in
    λ h. c.byte.ensures ∙ sym (ap (λ (x : Command). x.move) (six_from command (commands_in s.schedule.now) s.schedule.now 3 s.i (command 0 0 0) h))
