-- The numbers of a view from the store that holds a cabinet: of one process, of one board, of one channel.
use Rattle.std.specs.Prelude.{cond, List, [], ◌∷◌, ◌++◌, ℕ, ◌+◌, ◌*◌, ◌%◌, ◌^◌, ltb, get_or, replicate}
use Rattle.backup.specs.Limits.{log_most}
use Rattle.backup.specs.Place.{unpack}
use Rattle.plan.specs.declared.Counts.{Counts}
use Rattle.process.specs.declared.process.Process.{Process}
use Rattle.process.specs.Row.{backed, recorded, mail_at, no_process, zero_process}
use Rattle.rules.specs.Sizes.{boards_most, processes_most, channels_most, outbox_most}
use Rattle.state.specs.declared.entry.Entry.{Entry}
use Rattle.state.specs.declared.queue.Queue.{Queue}
use Rattle.state.specs.declared.store.Store.{Store}
use Rattle.state.specs.Queue.{no_queue, is_dead}
use Rattle.state.specs.Store.{item_of, blank_entry}
use Rattle.layout.specs.View.{each, four, mail_numbers, saved_word, item_numbers, no_item}

-- a process, or the one of zeros that stands for one that the table doesn't have
abbrev pub process_for : List Process → ℕ → ℕ → Process
process_for processes count p = cond (ltb p count) (get_or processes p no_process) zero_process

-- a board's queue likewise
abbrev pub queue_for : List Queue → ℕ → ℕ → Queue
queue_for queues boards b = cond (ltb b boards) (get_or queues b no_queue) no_queue

abbrev pub total_for : List ℕ → ℕ → ℕ → ℕ
total_for totals channels k = cond (ltb k channels) (get_or totals k 0) 0

-- ---- a process

-- its machine and what is counted
abbrev pub machine_in : Process → List ℕ
machine_in x =
    x.board
    ∷ x.pc
    ∷ (four x.registers
    ++ (x.suppress
    ∷ x.events
    ∷ x.instructions
    ∷ (four x.taken
    ++ (x.unread
    ∷ []))))

-- what its backup is
abbrev pub state_in : ℕ → ℕ
state_in protection = cond (recorded protection) (cond (backed protection) 1 2) 0

-- its backup, but for what it is and for the saved words
abbrev pub behind_state : Process → List ℕ
behind_state x =
    x.standby
    ∷ x.head.pc
    ∷ x.head.r0
    ∷ x.head.r1
    ∷ x.head.r2
    ∷ x.head.r3
    ∷ x.head.sent
    ∷ x.head.len
    ∷ []

abbrev pub backup_in : Process → List ℕ
backup_in x = cond (recorded x.protection) (state_in x.protection ∷ behind_state x) (replicate 9 0)

-- how many words are saved
abbrev pub saved_count : Process → ℕ
saved_count x = cond (recorded x.protection) x.head.len 0

-- word i of the inbox
abbrev pub inbox_at : Process → ℕ → List ℕ
inbox_at x i = cond (ltb i x.unread) (mail_numbers (mail_at x i)) (0 ∷ 0 ∷ [])

-- saved word i
abbrev pub saved_at : Process → ℕ → List ℕ
saved_at x i = cond (ltb i (saved_count x)) (saved_word (unpack (get_or x.log i 0))) (0 ∷ 0 ∷ [])

unfoldable pub process_numbers_in : Process → List ℕ
unfolding each
process_numbers_in x = machine_in x ++ (each (inbox_at x) log_most ++ (backup_in x ++ each (saved_at x) log_most))

-- ---- a board

-- where entry i of the queue of board b stands
abbrev pub entry_place : Queue → ℕ → ℕ → ℕ
entry_place queue b i = outbox_most * b + (queue.first + i) % outbox_most

-- its numbers, where this is the one that stands there
abbrev pub entry_at : Queue → Entry → ℕ → List ℕ
entry_at queue e i = cond (ltb i queue.count) (item_numbers (item_of e.item)) no_item

unfoldable pub board_numbers_in : Queue → List Entry → ℕ → List ℕ
unfolding each blank_entry
board_numbers_in queue entries b =
    cond (is_dead queue) 1 0
    ∷ queue.count
    ∷ each (λ i. entry_at queue (get_or entries (entry_place queue b i) blank_entry) i) outbox_most

-- ---- the cabinet

-- the numbers of process p, of board b, of channel k
unfoldable pub process_block : ℕ → List Process → ℕ → List ℕ
unfolding process_numbers_in
process_block count processes p = process_numbers_in (process_for processes count p)

unfoldable pub board_block : ℕ → List Queue → List Entry → ℕ → List ℕ
unfolding board_numbers_in
board_block boards queues entries b = board_numbers_in (queue_for queues boards b) entries b

abbrev pub total_block : ℕ → List ℕ → ℕ → List ℕ
total_block channels totals k = total_for totals channels k ∷ []

-- a count as a number of 32 bits
abbrev pub short : ℕ → ℕ
short n = n % 2 ^ 32

unfoldable pub view_of : Counts → Store → List Entry → List ℕ
unfolding each process_block board_block
view_of counts s entries =
    (short counts.boards ∷ short counts.processes ∷ short counts.channels ∷ [])
    ++ (each (process_block counts.processes s.processes) processes_most
    ++ (each (board_block counts.boards s.queues entries) boards_most
    ++ each (total_block counts.channels s.totals) channels_most))
