-- The report (document 01: "The report: board, place, unread count and hold-back, a byte each, then four registers."
-- "Bytes beyond those are untouched.").
use Rattle.std.specs.Prelude.{◌≡◌, List, [], ◌∷◌, ◌++◌, ℕ, ◌+◌, ◌*◌, ◌%◌, ◌≤◌, length, slice_index}
use Rattle.std.proofs.lemmas.List.Edits.{sets}
use Rattle.process.specs.declared.process.Process.{Process}
use Rattle.rules.specs.Table.{Table}
use Rattle.rules.specs.Cabinet.{Cabinet}
use Rattle.rules.specs.Bytes.{word_bytes, all_bytes, written}
use Rattle.rules.specs.Run.{report_bytes}
use Rattle.state.specs.declared.entry.Entry.{Entry}
use Rattle.state.specs.declared.queue.Queue.{Queue}
use Rattle.state.specs.declared.store.Store.{Store}
use Rattle.state.specs.Beside.{with_lists}
use Rattle.state.specs.Store.{Holds}
use Rattle.state.specs.Moved.{Reachable}

-- a line's first four bytes: "board, place, unread count and hold-back"
abbrev pub four_bytes : Process → List ℕ
four_bytes x = x.board % 256 ∷ x.pc % 256 ∷ x.unread % 256 ∷ x.suppress % 256 ∷ []

-- all twenty: "then four registers"
abbrev pub twenty_bytes : Process → List ℕ
twenty_bytes x = four_bytes x ++ (word_bytes (slice_index x.registers 0) ++ (word_bytes (slice_index x.registers 1)
    ++ (word_bytes (slice_index x.registers 2) ++ word_bytes (slice_index x.registers 3))))

-- the p-th line of a buffer, a process's; where the buffer has no room for it, nothing
pub record LinePut (x : Process) (buffer : List ℕ) (p : ℕ) (buffer' : List ℕ) : Type 0 where
  pub fits : 20 * p + 20 ≤ length buffer → buffer' ≡ sets buffer (20 * p) (twenty_bytes x)
  pub same_length : length buffer' ≡ length buffer

-- The report of a cabinet that the store holds, whatever the mailboxes, the backups, the queues, the totals and the entries are, which the call
-- doesn't look at.
pub record Reports (s : Store) (processes : ℕ) (report report' : List ℕ) : Type 0 where
  pub reported : (t : Table) (others : ℕ → Process) (queues : List Queue) (totals : List ℕ) (entries : List Entry) (c : Cabinet) → Reachable t c
      → Holds t (record (with_lists others s) { queues = queues; totals = totals }) entries c → processes ≡ length t.processes
      → 20 * processes ≤ length report → report' ≡ written (all_bytes report_bytes c.processes) report
  pub same_length : length report' ≡ length report
