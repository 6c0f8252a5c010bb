-- A schedule as the code judges and reads it, and the rules' commands.
use Rattle.std.specs.Prelude.{◌≡◌, cond, List, ℕ, get_or, eqb, Result, Ok, Err}
use Rattle.rules.specs.Moves as rules
use Rattle.rules.specs.Schedule.{commands_in, command, decode_schedule, validate_schedule}
use Rattle.records.specs.declared.schedule.Command.{Command}
use Rattle.numbers.specs.declared.runs.Refusal.{Refusal}
use Rattle.numbers.specs.Runs.{number_in}

-- the rules' command
abbrev pub command_of : Command → rules.Command
command_of c = command c.mv c.a c.word

-- the move of a schedule's i-th command
abbrev pub move_in : List ℕ → ℕ → ℕ
move_in schedule i = (get_or (decode_schedule schedule) i (command 0 0 0)).move

-- how many commands a judged schedule has, none where it is refused
abbrev pub records_in : Result ℕ Refusal → ℕ
records_in (Ok records) = records
records_in (Err refusal) = 0

-- what judging a schedule finds: its number, and how many commands it has
pub record ScheduleJudged (schedule : List ℕ) (r : Result ℕ Refusal) : Type 0 where
  pub number_is : number_in r ≡ validate_schedule schedule
  pub records_is : records_in r ≡ cond (eqb (validate_schedule schedule) 0) (commands_in schedule) 0
