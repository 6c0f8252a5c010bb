-- What the call on a mailbox promises, on the list of words that it stands for.
use Rattle.std.specs.Prelude.{◌≡◌, List, [], ◌∷◌, ◌++◌, ℕ, suc, ◌<◌, length}
use Rattle.backup.specs.Limits.{log_most}
use Rattle.process.specs.Row.{mails_in}

-- behind n words from place `first` on, one more, where there is room
pub record Appended (mail : List ℕ) (first n channel word : ℕ) (mail' : List ℕ) : Type 0 where
  pub same_length : length mail' ≡ length mail
  pub more : length mail ≡ log_most → n < log_most
      → mails_in first (suc n) mail' ≡ mails_in first n mail ++ (record { channel = channel; word = word } ∷ [])
