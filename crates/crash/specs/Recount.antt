-- The unread words of a channel counted in its reader's mailbox, and taken out of its total or put in.
use Rattle.std.specs.Prelude.{ℕ, ◌+◌, ◌%◌, ◌^◌, min, cond, List, nat_lt, slice_index_or}
use Rattle.backup.specs.Limits.{log_most}
use Rattle.rules.specs.Cabinet.{unread_on}
use Rattle.process.specs.declared.process.Process.{Process}
use Rattle.process.specs.Row.{no_process, mails_in}
use Rattle.plan.specs.declared.Wire.{Wire}
use Rattle.plan.specs.Plan.{reader_in}
use Rattle.rules.specs.Sizes.{processes_most}
use Rattle.state.specs.Queue.{less_by}
use Rattle.crash.specs.declared.recount.Unread.{Unread}
use Rattle.crash.specs.declared.recount.Unread.TheVariants.{Out, In}
use Rattle.crash.specs.Each.{Each}

-- how many unread words of channel k a process has
abbrev pub unread_here : Process → ℕ → ℕ
unread_here x k = unread_on k (mails_in x.oldest (min x.unread log_most) x.mail)

-- how many process p has; none where p is no process
abbrev pub unread_at : List Process → ℕ → ℕ → ℕ
unread_at processes p k = cond (nat_lt p processes_most) (unread_here (slice_index_or processes p no_process) k) 0

-- a number more another, in 32 bits
abbrev pub more_by : ℕ → ℕ → ℕ
more_by x y = (x + y) % 2 ^ 32

-- a total with unread words taken out, or put in
abbrev pub counted_by : Unread → ℕ → ℕ → ℕ
counted_by Out total unread = less_by total unread
counted_by In total unread = more_by total unread

-- channel k's total, by the unread words that its reader has of it
abbrev pub recounted : Unread → List Wire → List Process → ℕ → ℕ → ℕ
recounted way wires processes k total = counted_by way total (unread_at processes (reader_in wires k) k)

-- each of the first n totals
abbrev pub Recounted : Unread → ℕ → List Wire → List Process → List ℕ → List ℕ → Type 0
Recounted way n wires processes totals totals' = Each (recounted way wires processes) n totals totals'
