-- The backup record on lent numbers: what each call promises of any two arrays, fit or not. `saved` is 64 numbers, slot times 2^32 plus word;
-- `head` is seven: how many words are saved, count, place, four registers. `view_in` is the record that they stand for.
use Rattle.std.specs.Prelude.{◌≡◌, true, List, [], ◌∷◌, ◌++◌, ℕ, length, get_or, replicate, Result, Ok, Err}
use Rattle.numbers.specs.declared.backup.BackupRefusal.{BackupRefusal}
use Rattle.backup.specs.Replica.{Replica, Checkpoint, Reply, FailOver, fit, fail_over}
use Rattle.backup.specs.Report.{Report}
use Rattle.backup.specs.Place.{messages, SameBehind}

-- how many numbers a lent head has
abbrev pub lent_length : ℕ
lent_length = 7

-- how many words it says that are saved
abbrev pub lent_len : List ℕ → ℕ
lent_len head = get_or head 0 0

-- the record that saved words and a lent head stand for
unfoldable pub view_in : List ℕ → List ℕ → Replica
view_in saved head = record {
  log = messages (lent_len head) saved;
  sent = get_or head 1 0;
  pc = get_or head 2 0;
  registers = get_or head 3 0 ∷ get_or head 4 0 ∷ get_or head 5 0 ∷ get_or head 6 0 ∷ [];
}

-- the head of a record as it starts
abbrev pub fresh_lent : List ℕ
fresh_lent = replicate lent_length 0

-- What a call promises, from both arrays at entry and at exit, the number of what it returns, and the definition that it follows.
-- The value afterwards gives all seven numbers of the head and the saved words, as many as the head says (LentLaws). Behind the words that there
-- were and those that there are, all is as it was. So nothing is open but, after a sync, the numbers from the new length to the old.
pub record Answered (saved head saved' head' : List ℕ) (number : ℕ) (call : Replica → Reply) : Type 0 where
  pub number_is : number ≡ (call (view_in saved head)).number
  pub value_is : view_in saved' head' ≡ (call (view_in saved head)).replica
  pub same-behind : SameBehind saved (lent_len head) saved' (lent_len head')
  -- "Refused, it comes back unchanged": every number of both arrays
  pub untouched : (number ≡ 0 → ⊥) → (saved' ≡ saved) × (head' ≡ head)
  pub fit_again : fit (view_in saved head) ≡ true → fit (view_in saved' head') ≡ true
  pub saved-length : length saved' ≡ length saved
  pub head_length_lem : length head' ≡ lent_length

-- what a sync is lent: a place, four registers, and how many words were taken on each of four ports
abbrev pub checkpoint_lent : ℕ → List ℕ → List ℕ → Checkpoint
checkpoint_lent place registers taken = record {
  pc = place;
  registers = get_or registers 0 0 ∷ get_or registers 1 0 ∷ get_or registers 2 0 ∷ get_or registers 3 0 ∷ [];
  taken = get_or taken 0 0 ∷ get_or taken 1 0 ∷ get_or taken 2 0 ∷ get_or taken 3 0 ∷ [];
}

-- what a sync reports, as eight numbers: for each port the words dropped, and then for each those that remain
abbrev pub told : Report → List ℕ
told r = r.dropped ++ r.remained

-- the rounds that a sync counted, none where it was refused
abbrev pub rounds_in : Result ℕ BackupRefusal → ℕ
rounds_in (Ok n) = n
rounds_in (Err r) = 0

-- What a promotion hands over: its number, the saved words that there are by the head that is handed, and the rest of that head.
abbrev pub handed_by : ℕ → List ℕ → List ℕ → FailOver
handed_by number saved handed =
    let v = view_in saved handed in
    record { number = number; log = v.log; pc = v.pc; registers = v.registers; sent = v.sent }

pub record HandsOver (saved head : List ℕ) (number : ℕ) (handed' : List ℕ) : Type 0 where
  pub handed_is : handed_by number saved handed' ≡ fail_over (view_in saved head)
  pub handed_length : length handed' ≡ lent_length
