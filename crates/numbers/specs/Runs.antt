-- By which number a run, a sweep, a view or a table is refused. Document 01: "Where an answer is an enum, the promises use a definition that gives
-- this paper's number and values for each of its cases."
use Rattle.std.specs.Prelude.{◌≡◌, ℕ, Result, Ok, Err}
use Rattle.std.proofs.Common.{arith}
use Rattle.numbers.specs.declared.runs.Refusal.{Refusal}
use Rattle.numbers.specs.declared.runs.Refusal.TheVariants.{TableLength, TableVersion, TableCounts, TableExtent, ChannelEnds, ChannelsRead, Boards, Instruction, ScheduleLength, ScheduleVersion, AnswersShort, ReportShort, NoRoom, FirstSerial, Limit, OriginsShort, Unswept, ViewShort}

abbrev pub number_of : Refusal → ℕ
number_of TableLength = 1
number_of TableVersion = 2
number_of TableCounts = 3
number_of TableExtent = 4
number_of ChannelEnds = 5
number_of ChannelsRead = 6
number_of Boards = 7
number_of Instruction = 8
number_of ScheduleLength = 9
number_of ScheduleVersion = 10
number_of AnswersShort = 11
number_of ReportShort = 12
number_of NoRoom = 45
number_of FirstSerial = 46
number_of Limit = 47
number_of OriginsShort = 51
number_of Unswept = 52
number_of ViewShort = 54

-- 0 for what is not refused
abbrev pub number_in : {A : Type 0} → Result A Refusal → ℕ
number_in (Ok x) = 0
number_in (Err r) = number_of r

-- each of them refuses
pub refuses : (r : Refusal) → number_of r ≡ 0 → ⊥
refuses TableLength e = omega arith
refuses TableVersion e = omega arith
refuses TableCounts e = omega arith
refuses TableExtent e = omega arith
refuses ChannelEnds e = omega arith
refuses ChannelsRead e = omega arith
refuses Boards e = omega arith
refuses Instruction e = omega arith
refuses ScheduleLength e = omega arith
refuses ScheduleVersion e = omega arith
refuses AnswersShort e = omega arith
refuses ReportShort e = omega arith
refuses NoRoom e = omega arith
refuses FirstSerial e = omega arith
refuses Limit e = omega arith
refuses OriginsShort e = omega arith
refuses Unswept e = omega arith
refuses ViewShort e = omega arith
