-- Text put at a position of a lent buffer, and the position behind it. Where the buffer has no room the position goes on all the same: the
-- same call on a buffer of one byte tells how long a text is.
use Rattle.std.specs.Prelude.{◌≡◌, List, [], ◌∷◌, ℕ, ◌+◌, ◌*◌, ◌≤◌, length}
use Rattle.std.proofs.lemmas.List.Edits.{sets}
use Rattle.rules.specs.Bytes.{byte_at}
use Rattle.rules.specs.Moves.{Numbers, numbered}
use Rattle.rules.specs.Page.{decimal, line, register_at}

-- the largest position, 2^64 - 1: one beyond is answered by it
abbrev pub most : ℕ
most = 18446744073709551615

pub record Put (new out : List ℕ) (at r : ℕ) (out' : List ℕ) : Type 0 where
  pub behind : at + length new ≤ most → r ≡ at + length new
  pub beyond : most ≤ at + length new → r ≡ most
  pub stored : at + length new ≤ most → at + length new ≤ length out → out' ≡ sets out at new
  pub same_length : length out' ≡ length out

-- answer i, from 0, of a buffer
abbrev pub answer_at : List ℕ → ℕ → Numbers
answer_at answers i = numbered (byte_at answers (6 * i)) (byte_at answers (6 * i + 1)) (register_at answers (6 * i + 2))

-- parts of a process's line: the registers whose bytes begin here, and before them "board, place, unread, hold-back"
abbrev pub registers_line : List ℕ → ℕ → List ℕ
registers_line report at =
    line (decimal (register_at report at) ∷ decimal (register_at report (at + 4)) ∷ decimal (register_at report (at + 8))
    ∷ decimal (register_at report (at + 12)) ∷ [])

abbrev pub state_line : List ℕ → ℕ → List ℕ
state_line report at =
    line (decimal (byte_at report at) ∷ decimal (byte_at report (at + 1)) ∷ decimal (byte_at report (at + 2)) ∷ decimal (byte_at report (at + 3))
    ∷ decimal (register_at report (at + 4)) ∷ decimal (register_at report (at + 8)) ∷ decimal (register_at report (at + 12))
    ∷ decimal (register_at report (at + 16)) ∷ [])
