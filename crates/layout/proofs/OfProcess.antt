-- The numbers of a process of the code are those of the process that it stands for.
use mathlib.Core.Path.{◌≡◌, refl, ap, sym, ◌∙◌}
use mathlib.Core.Bool.{Bool, true, false, cond}
use mathlib.Core.Option.{Option, none, some}
use mathlib.Core.List.{List, [], ◌∷◌, ◌++◌, map}
use Prim.Native.Nat.{ℕ}
use native.Mathlib.Omega.{arith}
use lib.Dec.{ltb}
use lib.ListN.{length, get_or, replicate, length-map, get_or-eq_default}
use borrow.Author.Tests.{lt-ltb, le-ltb}
use Rattle.facts.specs.Tests.{by_lt}
use Rattle.facts.specs.Lists.{listed, prefix, prefix-listed, map-listed, length-prefix}
use Rattle.facts.specs.Rings.{listed-length, get_or_listed}
use Rattle.backup.specs.Limits.{log_most}
use Rattle.backup.specs.Replica.{Message}
use Rattle.backup.specs.Place.{unpack, messages, view_in}
use Rattle.process.specs.declared.process.Process as code
use Rattle.process.specs.Row.{mail_at, backed, recorded, zero_process, machine_of, standby_of, process_of}
use Rattle.rules.specs.Machine.{booted}
use Rattle.rules.specs.Cabinet.{Standby, nobody}
use Rattle.layout.specs.View.{each, four, machine_numbers, mail_numbers, no_mail, inbox_numbers, backup_numbers, saved_word, no_message, log_of, saved_numbers, process_numbers}
use Rattle.layout.specs.Lists.{machine_in, behind_state, backup_in, inbox_at, saved_at, process_numbers_in}
use Rattle.layout.proofs.Laying.{each_same}

-- ---- an element of a list given by a function of the place, or what stands for none

pub get_or_chosen : {A : Type 0} (numbers : A → List ℕ) (f : ℕ → A) (n i : ℕ) (d : A)
    → cond (ltb i n) (numbers (f i)) (numbers d) ≡ numbers (get_or (listed f n) i d)
get_or_chosen numbers f n i d =
    by_lt i n
    (λ h. rw (lt-ltb i n h) (sym (ap numbers (get_or_listed f n i d h))))
    (λ h. rw (le-ltb i n h)
    (sym (ap numbers (get_or-eq_default (listed f n) d {n = i} (let e = listed-length f n in omega arith)))))

-- ---- machine and inbox

module _ (x : code.Process) where
  machine-is : machine_in x ≡ machine_numbers (process_of x)
  unfolding process_of machine_of
  machine-is =
      ap (λ (n : ℕ). x.board ∷ x.pc ∷ (four x.registers ++ (x.suppress ∷ x.events ∷ x.instructions ∷ (four x.taken ++ (n ∷ [])))))
      (sym (listed-length (mail_at x) x.unread))

  inbox_is : each (inbox_at x) log_most ≡ inbox_numbers (machine_of x).mailbox
  unfolding inbox_numbers machine_of
  inbox_is = each_same _ _ log_most (λ i l. get_or_chosen mail_numbers (mail_at x) x.unread i no_mail)

-- ---- the backup

saved-long : (n : ℕ) (log : List ℕ) → length (messages n log) ≡ n
saved-long n log = length-map (prefix n log) unpack ∙ length-prefix n log

saved-listed : (n : ℕ) (log : List ℕ) → messages n log ≡ listed (λ i. unpack (get_or log i 0)) n
saved-listed n log = ap (map unpack) (prefix-listed n log) ∙ map-listed unpack (λ i. get_or log i 0) n

-- by what it is
module _ (x : code.Process) where
  -- the numbers of one that is there, n words being saved
  abbrev numbered : ℕ → ℕ → List ℕ
  numbered state n =
      state
      ∷ x.standby
      ∷ x.head.pc
      ∷ x.head.r0
      ∷ x.head.r1
      ∷ x.head.r2
      ∷ x.head.r3
      ∷ x.head.sent
      ∷ n
      ∷ []

  behind-is : (state : ℕ) → state ∷ behind_state x ≡ numbered state (length (messages x.head.len x.log))
  behind-is state = ap (numbered state) (sym (saved-long x.head.len x.log))

  -- where one is there, and where it is complete
  abbrev shown : Bool → Bool → Option Standby
  shown there whole = cond there (some (record { board = x.standby; replica = view_in x.log x.head; complete = whole })) none

  backup_by : (there whole : Bool)
      → cond there (cond there (cond whole 1 2) 0 ∷ behind_state x) (replicate 9 0) ≡ backup_numbers (shown there whole)
  unfolding view_in
  backup_by false whole = refl
  backup_by true true = behind-is 1
  backup_by true false = behind-is 2

  some_saved : (i : ℕ)
      → cond (ltb i x.head.len) (saved_word (unpack (get_or x.log i 0))) (0 ∷ 0 ∷ []) ≡ saved_word (get_or (messages x.head.len x.log) i no_message)
  some_saved i =
      get_or_chosen saved_word (λ k. unpack (get_or x.log k 0)) x.head.len i no_message
      ∙ ap (λ (l : List Message). saved_word (get_or l i no_message)) (sym (saved-listed x.head.len x.log))

  saved_by : (there whole : Bool) (i : ℕ)
      → cond (ltb i (cond there x.head.len 0)) (saved_word (unpack (get_or x.log i 0))) (0 ∷ 0 ∷ [])
      ≡ saved_word (get_or (log_of (shown there whole)) i no_message)
  unfolding view_in
  saved_by false whole i = rw (le-ltb i 0 (omega arith))
  saved_by true whole i = some_saved i

  backup-is : backup_in x ≡ backup_numbers (standby_of x)
  unfolding standby_of
  backup-is = backup_by (recorded x.protection) (backed x.protection)

  saved-is : each (saved_at x) log_most ≡ saved_numbers (log_of (standby_of x))
  unfolding saved_numbers standby_of
  saved-is = each_same _ _ log_most (λ i l. saved_by (recorded x.protection) (backed x.protection) i)

-- ---- the whole process

pub process-is : (x : code.Process) → process_numbers_in x ≡ process_numbers (process_of x)
unfolding process_numbers_in process_numbers process_of
process-is x = λ j. machine-is x j ++ (inbox_is x j ++ (backup-is x j ++ saved-is x j))

-- zeros are those of a process that the table doesn't have
pub nobody-is : process_of zero_process ≡ nobody
unfolding process_of machine_of standby_of nobody booted
nobody-is = refl
