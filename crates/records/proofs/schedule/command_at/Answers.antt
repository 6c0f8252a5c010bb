use Rattle.rules.specs.Schedule.{command, decode_schedule}
use Rattle.records.proofs.Sixes.{made_of_none, made_of_part}
use Rattle.records.proofs.schedule.command_at.Goals as goal

pub returns-then-schedule-lt-FIRST_COMMAND : goal.returns-then-schedule-lt-FIRST_COMMAND
unfolding decode_schedule
returns-then-schedule-lt-FIRST_COMMAND c = let s = c.args in made_of_none command s.schedule.now 3 s.i c.if-schedule-lt-FIRST_COMMAND.true

pub returns : goal.returns
unfolding decode_schedule
returns c = let s = c.args in made_of_part command s.schedule.now 3 s.i _ c.six_of-s.ensures
