-- By which number a call of the backup record refuses, as `Runs` has it of a run.
use Rattle.std.specs.Prelude.{ℕ, Result, Ok, Err}
use Rattle.numbers.specs.declared.backup.BackupRefusal.{BackupRefusal}
use Rattle.numbers.specs.declared.backup.BackupRefusal.TheVariants.{Unfit, Bad, Full, Taken, Count}

abbrev pub number_of : BackupRefusal → ℕ
number_of Unfit = 20
number_of Bad = 21
number_of Full = 22
number_of Taken = 23
number_of Count = 24

-- 0 for what is not refused
abbrev pub number_in : {A : Type 0} → Result A BackupRefusal → ℕ
number_in (Ok x) = 0
number_in (Err r) = number_of r
