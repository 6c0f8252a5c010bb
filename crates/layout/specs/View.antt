-- The whole cabinet as numbers: everything that the rules speak of, in a fixed layout (docs/FORMATS.md, "View"). There is room for as many
-- processes, boards and channels as a table can have; zeros stand for those that it doesn't have, and behind the end of each list.
use Rattle.std.specs.Prelude.{Bool, cond, List, [], ◌∷◌, ◌++◌, map, ℕ, zero, suc, eqb, ltb, leb, length, get_or, replicate}
use Rattle.std.proofs.Math.Option.{Option, none, some}
use Rattle.backup.specs.Limits.{log_most}
use Rattle.backup.specs.Replica.{Message}
use Rattle.rules.specs.Sizes.{boards_most, processes_most, channels_most, outbox_most}
use Rattle.rules.specs.Table.{Table}
use Rattle.rules.specs.Machine.{Mail}
use Rattle.rules.specs.Cabinet.{Standby, Process, Item, message, checkpoint, transfer, Cabinet, nobody, process_at, outbox_at, dead_at, occupancy}
use Rattle.rules.specs.Undo.{opened, play_from}
use Rattle.rules.specs.Transparent.{ended}
use Rattle.rules.specs.Bytes.{written}
use Rattle.rules.specs.Format.{or_number, decode_table, validate_table}
use Rattle.rules.specs.Schedule.{decode_schedule, validate_schedule}

-- ---- one behind the other

-- the numbers of 0, of 1, and so on, of n in all
unfoldable pub each : (ℕ → List ℕ) → ℕ → List ℕ
each numbers zero = []
each numbers (suc n) = each numbers n ++ numbers n

-- a list's first four numbers
abbrev pub four : List ℕ → List ℕ
four l = get_or l 0 0 ∷ get_or l 1 0 ∷ get_or l 2 0 ∷ get_or l 3 0 ∷ []

-- ---- a process

-- board, place, registers, hold-back; acts, instructions and takes of each slot; how many words are unread
abbrev pub machine_numbers : Process → List ℕ
machine_numbers x =
    x.board
    ∷ x.machine.pc
    ∷ (four x.machine.registers
    ++ (x.suppress
    ∷ x.since.events
    ∷ x.since.instructions
    ∷ (four x.since.taken
    ++ (length x.machine.mailbox
    ∷ []))))

-- an unread word: its channel, and the word
abbrev pub mail_numbers : Mail → List ℕ
mail_numbers x = x.channel ∷ x.word ∷ []

abbrev pub no_mail : Mail
no_mail = record { channel = 0; word = 0 }

-- oldest first
unfoldable pub inbox_numbers : List Mail → List ℕ
inbox_numbers l = each (λ i. mail_numbers (get_or l i no_mail)) log_most

-- what the backup is (0 none, 1 complete, 2 being made), its board, place, registers and count; how many words are saved
abbrev pub backup_numbers : Option Standby → List ℕ
backup_numbers none = replicate 9 0
backup_numbers (some s) =
    cond s.complete 1 2
    ∷ s.board
    ∷ s.replica.pc
    ∷ (four s.replica.registers
    ++ (s.replica.sent
    ∷ length s.replica.log
    ∷ []))

-- a saved word: its slot, and the word
abbrev pub saved_word : Message → List ℕ
saved_word m = m.port ∷ m.word ∷ []

abbrev pub no_message : Message
no_message = record { port = 0; word = 0 }

abbrev pub log_of : Option Standby → List Message
log_of none = []
log_of (some s) = s.replica.log

-- oldest first
unfoldable pub saved_numbers : List Message → List ℕ
saved_numbers log = each (λ i. saved_word (get_or log i no_message)) log_most

unfoldable pub process_numbers : Process → List ℕ
unfolding inbox_numbers saved_numbers
process_numbers x =
    machine_numbers x
    ++ (inbox_numbers x.machine.mailbox
    ++ (backup_numbers x.standby
    ++ saved_numbers (log_of x.standby)))

-- ---- a board

-- kind; channel and word; process; place, registers and takes of each slot: of a word 1, of a sync 2, of a resync 3
abbrev pub item_numbers : Item → List ℕ
item_numbers (message x pc) = 1 ∷ x.channel ∷ x.word ∷ 0 ∷ pc ∷ replicate 8 0
item_numbers (checkpoint p s) = 2 ∷ 0 ∷ 0 ∷ p ∷ s.pc ∷ (four s.registers ++ four s.taken)
item_numbers (transfer p) = 3 ∷ 0 ∷ 0 ∷ p ∷ replicate 9 0

abbrev pub no_item : List ℕ
no_item = replicate 13 0

-- oldest first
unfoldable pub queue_numbers : List Item → List ℕ
queue_numbers q = each (λ i. get_or (map item_numbers q) i no_item) outbox_most

-- dead or live, how many entries, the entries
unfoldable pub board_numbers : Bool → List Item → List ℕ
unfolding queue_numbers
board_numbers dead q = cond dead 1 0 ∷ length q ∷ queue_numbers q

-- ---- a channel

-- its total: "its unread words and its words in queues together" (W-208)
unfoldable pub total_number : Table → Cabinet → ℕ → ℕ
unfolding occupancy
total_number t c k = cond (ltb k (length t.channels)) (occupancy t c k) 0

-- ---- the cabinet

abbrev pub count_numbers : Table → List ℕ
count_numbers t = t.boards ∷ length t.processes ∷ length t.channels ∷ []

unfoldable pub processes_numbers : Cabinet → List ℕ
unfolding process_numbers nobody
processes_numbers c = each (λ p. process_numbers (process_at c p)) processes_most

unfoldable pub boards_numbers : Cabinet → List ℕ
unfolding board_numbers
boards_numbers c = each (λ b. board_numbers (dead_at c b) (outbox_at c b)) boards_most

unfoldable pub totals_numbers : Table → Cabinet → List ℕ
unfolding total_number
totals_numbers t c = each (λ k. total_number t c k ∷ []) channels_most

unfoldable pub view : Table → Cabinet → List ℕ
unfolding processes_numbers boards_numbers totals_numbers
view t c = count_numbers t ++ (processes_numbers c ++ (boards_numbers c ++ totals_numbers t c))

-- how many numbers a view has
abbrev pub view_most : ℕ
view_most = 11187

-- ---- the call

-- what a view returns, 0 or a number, and the lent list afterwards
pub record Viewed : Type 0 where
  pub number : ℕ
  pub out : List ℕ

abbrev pub viewed_of : ℕ → List ℕ → Viewed
viewed_of number out = record { number = number; out = out }

-- the numbers of a run's table and schedule; then 54, the list is shorter than a view
unfoldable pub validate_view : List ℕ → List ℕ → ℕ → ℕ
unfolding validate_table validate_schedule
validate_view table schedule room =
    or_number (eqb (validate_table table) 0) (validate_table table)
    (or_number (eqb (validate_schedule schedule) 0) (validate_schedule schedule)
    (or_number (leb view_most room) 54
    0))

-- the view of the cabinet after a run, at the front of a lent list; refused, the list is as it was
unfoldable pub viewed : List ℕ → List ℕ → List ℕ → Viewed
unfolding validate_view view decode_table decode_schedule opened play_from
viewed table schedule out =
    let number = validate_view table schedule (length out) in
    let t = decode_table table in
    cond (eqb number 0) (viewed_of 0 (written (view t (ended t (decode_schedule schedule))) out)) (viewed_of number out)
