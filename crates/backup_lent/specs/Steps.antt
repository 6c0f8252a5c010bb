-- What the private steps of a call on lent numbers do.
use Rattle.std.specs.Prelude.{◌≡◌, Bool, true, false, ◌&&◌, List, [], ◌∷◌, ℕ, ◌<◌, leb, length, get_or, Option, Some, None, Result, Ok, Err}
use Rattle.numbers.specs.declared.backup.BackupRefusal.{BackupRefusal}
use Rattle.numbers.specs.Backup.{number_of}
use Rattle.backup.specs.Limits.{log_most, ports, sent_most, pc_most}
use Rattle.backup.specs.Replica.{fit, on_ports, saved_on}
use Rattle.backup.specs.Place.{messages, Sound}
use Rattle.backup.specs.Place as place
use Rattle.backup.specs.declared.place.Head.{Head}
use Rattle.backup_lent.specs.Lent.{lent_length, lent_len, view_in}

-- how many of the first len saved words are on each port, where each is on one
pub record Tallied (saved : List ℕ) (len : ℕ) (n : List ℕ) : Type 0 where
  pub on_ports_lem : on_ports (messages len saved) ≡ true
  pub four : length n ≡ ports
  pub tallies : (p : ℕ) → p < ports → get_or n p 0 ≡ saved_on p (messages len saved)

-- a look through the first len saved words
abbrev pub Census : List ℕ → ℕ → Option (List ℕ) → Type 0
Census saved len (Some n) = Tallied saved len n
Census saved len None = on_ports (messages len saved) ≡ false

-- a head in range: what 20 asks of it
abbrev pub within_in : List ℕ → Bool
within_in head = leb (lent_len head) log_most && (leb (get_or head 1 0) sent_most && leb (get_or head 2 0) pc_most)

-- a head in place without its tallies, as a lent one
abbrev pub lent_front : Head → List ℕ
lent_front head = head.len ∷ head.sent ∷ head.pc ∷ head.r0 ∷ head.r1 ∷ head.r2 ∷ head.r3 ∷ []

-- a lent head, with how many words are on each port
abbrev pub whole_of : List ℕ → List ℕ → Head
whole_of head n = record {
  len = lent_len head;
  sent = get_or head 1 0;
  pc = get_or head 2 0;
  r0 = get_or head 3 0;
  r1 = get_or head 4 0;
  r2 = get_or head 5 0;
  r3 = get_or head 6 0;
  saved = n;
}

-- a fit record, and a head with true tallies that stands for it in the calls in place
pub record Fits (saved head : List ℕ) (whole : Head) : Type 0 where
  pub head_length_lem : length head ≡ lent_length
  pub is-fit : fit (view_in saved head) ≡ true
  pub sound : Sound saved whole
  pub same : place.view_in saved whole ≡ view_in saved head
  pub front : lent_front whole ≡ head

-- one that is not fit
pub record Unfits (saved head : List ℕ) (number : ℕ) : Type 0 where
  pub head_length_lem : length head ≡ lent_length
  pub not-fit : fit (view_in saved head) ≡ false
  pub number_is : number ≡ 20

-- a record that was looked through
abbrev pub Looks : List ℕ → List ℕ → Result Head BackupRefusal → Type 0
Looks saved head (Ok whole) = Fits saved head whole
Looks saved head (Err r) = Unfits saved head (number_of r)
