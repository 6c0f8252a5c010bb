-- What a crash makes of the processes.
use Rattle.std.specs.Prelude.{◌≡◌, ℕ, ◌<◌, ◌≤◌, cond, List, [], ◌∷◌, length, nat_lt, slice_index_or}
use Rattle.plan.specs.declared.Program.{Program}
use Rattle.plan.specs.Plan.{arity_in, input_in}
use Rattle.process.specs.declared.process.Process.{Process}
use Rattle.process.specs.Row.{no_process}
use Rattle.process.specs.Change.{BackupStays}
use Rattle.process.specs.Promotion.{Crashed}

-- the channel of a port of process p; 0 stands for one that it doesn't have
abbrev pub port_channel : List Program → ℕ → ℕ → ℕ
port_channel programs p port = cond (nat_lt port (arity_in programs p)) (input_in programs p port) 0

-- the channels of its four ports
abbrev pub port_channels : List Program → ℕ → List ℕ
port_channels programs p = port_channel programs p 0 ∷ port_channel programs p 1 ∷ port_channel programs p 2 ∷ port_channel programs p 3 ∷ []

-- board a crashed in each of the first n processes, and the rest is as it was
pub record AllCrashed (n : ℕ) (programs : List Program) (processes : List Process) (a : ℕ) (processes' : List Process) : Type 0 where
  pub same_length : length processes' ≡ length processes
  pub crashed_at : (p : ℕ) → p < n → p < length processes
      → Crashed (slice_index_or processes p no_process) (slice_index_or processes' p no_process) a (port_channels programs p)
  pub rest_at : (p : ℕ) → n ≤ p → slice_index_or processes' p no_process ≡ slice_index_or processes p no_process
  pub backups-stay : (p : ℕ) → BackupStays (slice_index_or processes p no_process) (slice_index_or processes' p no_process)
