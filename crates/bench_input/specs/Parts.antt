-- What the private steps of the program's work promise, on the way to `Benched`.
use Rattle.std.specs.Prelude.{◌≡◌, List, ℕ, ◌≤◌, length}
use Rattle.rules.specs.Format.{processes_most, processes_in}
use Rattle.rules.specs.Schedule.{commands_most}
use Rattle.rules.specs.Run.{Ran, run}
use Rattle.rules.specs.Page.{page_of, bench_buffers}
use Rattle.page.specs.Written.{Written}
use Rattle.bench_input.specs.Benched.{page_room}

-- the page of a table and a schedule
unfoldable pub parts_page : List ℕ → List ℕ → List ℕ
parts_page table schedule = page_of (processes_in table) (run table schedule bench_buffers)

-- A page written, and that a buffer of this size has room for it where the run is one that the cabinet can have made.
pub record Printed (processes : ℕ) (ran : Ran) (out : List ℕ) (r : ℕ) (out' : List ℕ) : Type 0 where
  pub wrote : Written (page_of processes ran) out r out'
  pub room : (ran.number ≡ 0 → processes ≤ processes_most) → ran.records ≤ commands_most → length (page_of processes ran) ≤ page_room

pub record RunPrinted (table schedule out : List ℕ) (r : ℕ) (out' : List ℕ) : Type 0 where
  pub wrote : Written (parts_page table schedule) out r out'
  pub room : length (parts_page table schedule) ≤ page_room
