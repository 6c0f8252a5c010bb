-- What the look into a mailbox and the taking of a word promise, on the list of words that it stands for.
use Rattle.std.specs.Prelude.{◌≡◌, ℕ, ◌-◌, ◌<◌, ◌≤◌, Bool, cond, List, length, ◌==◌}
use Rattle.facts.specs.Lists.{remove_at}
use Rattle.backup.specs.Limits.{log_most}
use Rattle.rules.specs.Machine.{pull, nothing, found, bit}
use Rattle.process.specs.Row.{place_in, mail_in, packed_at, mails_in}

-- a TAKE (code 3) names the channel that is its operand, a FIRST (4) those of its mask
abbrev pub names : ℕ → ℕ → ℕ → Bool
names code operand channel = cond (code == 4) (bit operand channel) (operand == channel)

-- The look for the oldest of n words from place `first` on, on a channel that passes a test: its position r, or n where no word is on one.
pub record Looks (passes : ℕ → Bool) (mail : List ℕ) (first n r : ℕ) : Type 0 where
  pub finds : r < n → pull passes (mails_in first n mail) ≡ found (mail_in (packed_at first mail r)) (remove_at r (mails_in first n mail))
  pub misses : n ≤ r → pull passes (mails_in first n mail) ≡ nothing

-- Of words from place `first` on, the one at a position is taken out: the others stand from the next place on.
pub record Removed (mail : List ℕ) (first at : ℕ) (mail' : List ℕ) : Type 0 where
  pub same_length : length mail' ≡ length mail
  pub rest : length mail ≡ log_most → (n : ℕ) → n ≤ log_most → at < n
      → mails_in (place_in first 1) (n - 1) mail' ≡ remove_at at (mails_in first n mail)
