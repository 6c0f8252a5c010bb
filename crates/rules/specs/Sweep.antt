-- Every place to pull a board (document 02, W-213).
use Rattle.std.specs.Prelude.{Bool, true, false, not, cond, ◌&&◌, ◌||◌, List, [], ◌∷◌, ◌++◌, ℕ, suc, eqb, leb, length, take, drop}
use Rattle.facts.specs.Tests.{any_below}
use Rattle.facts.specs.Bits.{count_below}
use Rattle.facts.specs.Sums.{sum_below}
use Rattle.rules.specs.Sizes.{sweep_most}
use Rattle.rules.specs.Table.{Table}
use Rattle.rules.specs.Cabinet.{Cabinet, nobody, process_at, quiescent}
use Rattle.rules.specs.Moves.{Command}
use Rattle.rules.specs.Undo.{is_undo, play_from, opened}
use Rattle.rules.specs.Transparent.{ended}
use Rattle.rules.specs.Format.{or_number, decode_table, validate_table}
use Rattle.rules.specs.Schedule.{commands_in, decode_schedule, validate_schedule}

-- ---- the runs

abbrev pub crash_of : ℕ → Command
crash_of b = record { move = 5; a = b; word = 0 }

-- "the crash put at each of the n + 1 places of a schedule of n records": of board b, behind so many records
abbrev pub pulled_at : List Command → ℕ → ℕ → List Command
pulled_at commands place b = take place commands ++ (crash_of b ∷ drop place commands)

-- "how many of these runs end quiet, how many end unquiet with some hold-back left, and how many end unquiet with none"
pub data Ending : Type 0 where
  quiet_end held_end free_end : Ending

-- "some hold-back left": of any process
unfoldable pub some_held : Cabinet → Bool
unfolding nobody
some_held c = any_below (λ p. not (eqb (process_at c p).suppress 0)) (length c.processes)

unfoldable pub ending_of : Table → Cabinet → Ending
unfolding quiescent some_held
ending_of t c = cond (quiescent t c) quiet_end (cond (some_held c) held_end free_end)

-- how one of these runs ends, by the rules of any run
unfoldable pub ending_at : Table → List Command → ℕ → ℕ → Ending
unfolding ending_of play_from opened
ending_at t commands place b = ending_of t (ended t (pulled_at commands place b))

-- ---- the counts

abbrev pub is_quiet : Ending → Bool
is_quiet quiet_end = true
is_quiet held_end = false
is_quiet free_end = false

abbrev pub is_held : Ending → Bool
is_held quiet_end = false
is_held held_end = true
is_held free_end = false

abbrev pub is_free : Ending → Bool
is_free quiet_end = false
is_free held_end = false
is_free free_end = true

-- how many of the runs "at each of the n + 1 places [..], for each of the B boards" pass a test
unfoldable pub count_of : (Ending → Bool) → Table → List Command → ℕ
unfolding ending_at
count_of test t commands = sum_below (λ place. count_below (λ b. test (ending_at t commands place b)) t.boards) (suc (length commands))

-- ---- the call

-- what a sweep returns: 0 and the three counts, or a number alone
pub record Swept : Type 0 where
  pub number : ℕ
  pub quiet : ℕ
  pub held : ℕ
  pub free : ℕ

abbrev pub swept_of : ℕ → ℕ → ℕ → ℕ → Swept
swept_of number quiet held free = record { number = number; quiet = quiet; held = held; free = free }

-- "the schedule has a record of move 5, whatever its a and word"; W-214: "refuses schedules with move 8 by 52"
abbrev pub is_barred : Command → Bool
is_barred r = eqb r.move 5 || is_undo r

abbrev pub any_barred : List Command → Bool
any_barred [] = false
any_barred (r ∷ rs) = is_barred r || any_barred rs

-- 52, "or over 500 records"
unfoldable pub sweepable : List ℕ → Bool
unfolding decode_schedule
sweepable schedule = leb (commands_in schedule) sweep_most && not (any_barred (decode_schedule schedule))

-- "after 10; the buffers' checks fall away"
unfoldable pub validate_sweep : List ℕ → List ℕ → ℕ
unfolding validate_table validate_schedule sweepable
validate_sweep table schedule =
    or_number (eqb (validate_table table) 0) (validate_table table)
    (or_number (eqb (validate_schedule schedule) 0) (validate_schedule schedule)
    (or_number (sweepable schedule) 52
    0))

unfoldable pub sweep : List ℕ → List ℕ → Swept
unfolding validate_sweep count_of decode_table decode_schedule
sweep table schedule =
    let number = validate_sweep table schedule in
    let t = decode_table table in
    let commands = decode_schedule schedule in
    cond (eqb number 0) (swept_of 0 (count_of is_quiet t commands) (count_of is_held t commands) (count_of is_free t commands)) (swept_of number 0 0 0)
