-- What W-212 says of the words on the bus, one by one. "Each bus word shall also show the place of its SEND and the sender".
-- Definitions only; proofs/Senders.antt and proofs/Origins.antt prove them, and Transparent has the equality.
use Rattle.std.specs.Prelude.{◌≡◌, cond, List, [], ◌∷◌, ℕ, ◌<◌, eqb, length, get_or}
use Rattle.rules.specs.Table.{Table, SET, SEND, environment, channel_at, code_of}
use Rattle.rules.specs.Machine.{Mail, Origin, BusWord, sent_from, outside, from_outside}
use Rattle.rules.specs.Cabinet.{Item, message, checkpoint, transfer}
use Rattle.rules.specs.Moves.{Move, step_move, issue_move, transmit_move, inject_move, crash_move, rejoin_move, rebackup_move, unknown}
use Rattle.rules.specs.Moves.{no_origin}

-- ---- an origin is one

-- at this place of process p stands a SEND to channel k
pub record SendsAt (t : Table) (p pc k : ℕ) : Type 0 where
  pub within : pc < length (code_of t p)
  pub register : ℕ
  pub is : get_or (code_of t p) pc (SET 0 0) ≡ SEND register k

-- a word of the bus: the outside fed it, or a process sent it from that place
pub data Genuine (t : Table) : BusWord → Type 0 where
  was_fed : {x : Mail} → (channel_at t x.channel).sender ≡ environment → Genuine t (from_outside x)
  was_sent : {p pc : ℕ} {x : Mail} → SendsAt t p pc x.channel → Genuine t (sent_from p pc x)

pub data AllGenuine (t : Table) : List BusWord → Type 0 where
  none-shown : AllGenuine t []
  one_shown : {w : BusWord} {l : List BusWord} → Genuine t w → AllGenuine t l → AllGenuine t (w ∷ l)

-- ---- what tells it: the move, the code of the answer and, of a carry, the oldest entry of the board's queue before it

-- of a word that leaves its queue, "a word names its channel and so, by the table, its sender"
abbrev pub oldest_origin : Table → List Item → Origin
oldest_origin t [] = no_origin
oldest_origin t (message x pc ∷ q) = record { sender = (channel_at t x.channel).sender; pc = pc }
oldest_origin t (checkpoint p s ∷ q) = no_origin
oldest_origin t (transfer p ∷ q) = no_origin

abbrev pub told_by : Table → List Item → ℕ → Move → Origin
told_by t q code step_move = no_origin
told_by t q code issue_move = no_origin
told_by t q code transmit_move = cond (eqb code 4) (oldest_origin t q) no_origin
told_by t q code inject_move = cond (eqb code 4) outside no_origin
told_by t q code crash_move = no_origin
told_by t q code rejoin_move = no_origin
told_by t q code rebackup_move = no_origin
told_by t q code unknown = no_origin
