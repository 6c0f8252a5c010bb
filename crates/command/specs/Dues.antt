-- A record of a schedule as the code reads and judges it.
use Rattle.std.specs.Prelude.{◌≡◌, List, ℕ, ◌<◌, get_or}
use Rattle.plan.specs.declared.Counts.{Counts}
use Rattle.records.specs.declared.schedule.Command.{Command}
use Rattle.records.specs.Commands.{command_of}
use Rattle.rules.specs.Schedule.{command, decode_schedule}
use Rattle.command.specs.declared.due.Due.{Due}
use Rattle.command.specs.Judges.{judge_of, number_said}

-- the command that it is
abbrev pub command_in : Due → Command
command_in d = record { mv = d.mv; a = d.a; word = d.word }

-- d is this command, with the number that the judging gives it
pub record DueOf (counts : Counts) (c : Command) (d : Due) : Type 0 where
  pub command-is : command_of (command_in d) ≡ command_of c
  pub a_small : d.a < 256
  pub number_is : d.number ≡ number_said (judge_of counts (command_in d))

-- d is the i-th record of a schedule, with the number that the judging gives it
pub record DueAt (schedule : List ℕ) (counts : Counts) (i : ℕ) (d : Due) : Type 0 where
  pub command-is : command_of (command_in d) ≡ get_or (decode_schedule schedule) i (command 0 0 0)
  pub a_small : d.a < 256
  pub number_is : d.number ≡ number_said (judge_of counts (command_in d))
