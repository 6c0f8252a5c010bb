-- The bytes of a schedule with one crash put in, which is what each run of a sweep is given.
use Rattle.std.specs.Prelude.{List, [], ◌∷◌, ◌++◌, ℕ, suc, ◌+◌, ◌*◌, ◌/◌, ◌%◌, ◌^◌, ◌≤◌, length, take, drop}
use Rattle.rules.specs.Sizes.{schedule_head, sweep_most}

-- "records of six bytes: move, a, word": the crash of board b
abbrev pub crash_bytes : ℕ → List ℕ
crash_bytes b = 5 ∷ b ∷ 0 ∷ 0 ∷ 0 ∷ 0 ∷ []

-- where the record at a place begins
abbrev pub record_at : ℕ → ℕ
record_at place = schedule_head + 6 * place

-- the bytes of the longest schedule that is swept, with the crash
abbrev pub pulled_most : ℕ
pulled_most = record_at (sweep_most + 1)

-- "the crash put at each of the n + 1 places": behind so many records; the two length bytes count six more
unfoldable pub pulled_bytes : List ℕ → ℕ → ℕ → List ℕ
pulled_bytes schedule place b =
    (length schedule + 4) / 2 ^ 8
    ∷ (length schedule + 4) % 2 ^ 8
    ∷ (take (suc (6 * place)) (drop 2 schedule) ++ (crash_bytes b ++ drop (record_at place) schedule))

-- a schedule that has such a place, and room for the crash
pub record HasPlace (schedule : List ℕ) (place : ℕ) : Type 0 where
  pub there : record_at place ≤ length schedule
  pub short : 6 + length schedule ≤ pulled_most
