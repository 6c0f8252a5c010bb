-- Quiet (document 01: "Quiet: each process is halted or would answer 36, and no queue has an entry.").
use Rattle.std.specs.Prelude.{◌≡◌, Bool, true, false, List, ℕ, ◌≤◌, eqb, length}
use Rattle.facts.specs.Tests.{all_below}
use Rattle.records.specs.Fetch.{fetched}
use Rattle.plan.specs.declared.Counts.{Counts}
use Rattle.plan.specs.declared.Plan.{Plan}
use Rattle.plan.specs.declared.Wire.{Wire}
use Rattle.plan.specs.Plan.{plan_of, Planned}
use Rattle.instruction.specs.declared.instruction.Intent.{Intent}
use Rattle.instruction.specs.declared.instruction.Intent.TheVariants.{Halted, NoMail, Internal, Take, Send}
use Rattle.process.specs.declared.process.Process.{Process}
use Rattle.process.specs.Row.{machine_of}
use Rattle.instruction.specs.Instruction.{Fetched}
use Rattle.rules.specs.Table.{Table, Instruction, code_of}
use Rattle.rules.specs.Machine.{local_step}
use Rattle.rules.specs.Cabinet.{Cabinet, process_at, idle, quiescent}
use Rattle.state.specs.declared.entry.Entry.{Entry}
use Rattle.state.specs.declared.queue.Queue.{Queue}
use Rattle.state.specs.declared.store.Store.{Store}
use Rattle.state.specs.Beside.{with_backups}
use Rattle.state.specs.Queue.{count_in}
use Rattle.state.specs.Store.{Holds}
use Rattle.state.specs.Moved.{Reachable}
use Rattle.rules.specs.Sizes.{boards_most}

-- ---- one process

-- halted, or waits for a word
abbrev pub rests_of : Intent → Bool
rests_of Halted = true
rests_of NoMail = true
rests_of Internal = false
rests_of (Take at) = false
rests_of (Send channel word) = false

-- the answer for a process whose program, of n instructions, begins at this byte of the table
abbrev pub Rests : List ℕ → ℕ → ℕ → Process → Bool → Type 0
Rests table at n x r =
    let i = fetched table at x.pc in
    (program : List Instruction) → Fetched program x n i.code i.a i.operand
    → r ≡ idle (local_step program (machine_of x))

-- process p of the rules' cabinet
abbrev pub rests_in : Table → Cabinet → ℕ → Bool
rests_in t c p = idle (local_step (code_of t p) (process_at c p).machine)

-- ---- all of them, and the queues

-- A cabinet of table t that has these processes but for their backups, of how many the plan counts and by its programs, whatever else there is
-- that the call doesn't look at: how many boards and channels are counted, the wires, the backups, the queues, the totals and the entries.
pub record Hosts (table : List ℕ) (plan : Plan) (s : Store) (t : Table) (c : Cabinet) : Type 0 where
  pub counts : Counts
  pub wires : List Wire
  pub others : ℕ → Process
  pub queues : List Queue
  pub totals : List ℕ
  pub entries : List Entry
  pub reach : Reachable t c
  pub planned : Planned t (plan_of table (record plan { counts = counts; wires = wires }))
  pub processes-is : plan.counts.processes ≡ length t.processes
  pub holds : Holds t (record (with_backups others s) { queues = queues; totals = totals }) entries c

-- each process of such a cabinet rests
pub record AllRest (table : List ℕ) (plan : Plan) (s : Store) (r : Bool) : Type 0 where
  pub answers : (t : Table) (c : Cabinet) → Hosts table plan s t c → r ≡ all_below (rests_in t c) (length t.processes)

abbrev pub empty_in : List Queue → ℕ → Bool
empty_in queues b = eqb (count_in queues b) 0

abbrev pub AllEmpty : ℕ → List Queue → Bool → Type 0
AllEmpty boards queues r = boards ≤ boards_most → r ≡ all_below (empty_in queues) boards

-- Whether a cabinet that the store holds is quiet, whatever the wires, the backups, the totals and the entries are, which the call doesn't look at.
pub record Quiets (table : List ℕ) (plan : Plan) (s : Store) (r : Bool) : Type 0 where
  pub answers : (t : Table) (wires : List Wire) (others : ℕ → Process) (totals : List ℕ) (entries : List Entry) (c : Cabinet) → Reachable t c
      → Planned t (plan_of table (record plan { wires = wires })) → Holds t (record (with_backups others s) { totals = totals }) entries c
      → r ≡ quiescent t c
