-- In a table whose words go upward a standstill leads from held channel to held channel up to a process that has halted: a reader that waits
-- would wait for the very channel on which it has 8 words.
use mathlib.Core.Path.{◌≡◌, refl}
use mathlib.Core.Bool.{Bool, true, false, cond}
use mathlib.Core.List.{List, [], ◌∷◌}
use Prim.Native.Nat.{ℕ, zero, suc, ◌+◌, ◌≤◌, ◌<◌}
use native.Mathlib.Omega.{arith}
use lib.Dec.{eqb, ltb}
use lib.ListN.{length, get_or}
use borrow.Author.Tests.{ltb-true, eqb-true}
use Rattle.facts.specs.Tests.{no_way}
use Rattle.rules.specs.Table.{Table, Instruction, SET, ADD, TAKE, FIRST, SEND, JUMP, NONE, channel_at, code_of}
use Rattle.rules.specs.Machine.{Mail, Machine, Outcome, halted, no_mail, moved, Pull, nothing, found, behind, pull, bit, take1, first1}
use Rattle.rules.specs.Machine.{execute, local_step}
use Rattle.rules.specs.Cabinet.{Cabinet, process_at, unread_on, idle}
use Rattle.rules.specs.Judge.{Accepted}
use Rattle.progress.specs.Progress.{Pressed, Stands, waits, pressed, Standstill, waits_for, Upward, HaltedReader}
use Rattle.rules.proofs.Tables.{step_own}

-- ---- a process that waits has no word of a channel that it waits for

pull-none : (wanted : ℕ → Bool) (k : ℕ) → wanted k ≡ true → (l : List Mail) → pull wanted l ≡ nothing → unread_on k l ≡ 0
pull-none wanted k w [] e = refl
pull-none wanted k w (z ∷ l) e = go (wanted z.channel) (eqb k z.channel) (pull wanted l) refl refl (pull-none wanted k w l) e
  where
    go : (b d : Bool) (p : Pull) → wanted z.channel ≡ b → eqb k z.channel ≡ d → (p ≡ nothing → unread_on k l ≡ 0)
        → cond b (found z l) (behind z p) ≡ nothing → cond d (suc (unread_on k l)) (unread_on k l) ≡ 0
    go true d p hb hd ih g = absurd (no_way (cc))
    go false true p hb hd ih g = absurd (no_way (let same : k ≡ z.channel = eqb-true k z.channel hd in let h : wanted k ≡ false = rw same hb in cc))
    go false false nothing hb hd ih g = ih refl
    go false false (found y ys) hb hd ih g = absurd (no_way (cc))

take1-none : (a : ℕ) (m : Machine) (p : Pull) → take1 a m p ≡ no_mail → p ≡ nothing
take1-none a m nothing e = refl
take1-none a m (found x rest) e = absurd (no_way (cc))

first1-none : (a : ℕ) (m : Machine) (p : Pull) → first1 a m p ≡ no_mail → p ≡ nothing
first1-none a m nothing e = refl
first1-none a m (found x rest) e = absurd (no_way (cc))

execute-none : (i : Instruction) (m : Machine) (k : ℕ) → execute i m ≡ no_mail → waits_for i k ≡ true → unread_on k m.mailbox ≡ 0
unfolding execute
execute-none (SET a v) m k e w = absurd (no_way (cc))
execute-none (ADD a b) m k e w = absurd (no_way (cc))
execute-none (TAKE a c) m k e w = pull-none (eqb c) k w m.mailbox (take1-none a m (pull (eqb c) m.mailbox) e)
execute-none (FIRST a mask) m k e w = pull-none (bit mask) k w m.mailbox (first1-none a m (pull (bit mask) m.mailbox) e)
execute-none (SEND a c) m k e w = absurd (no_way (cc))
execute-none (JUMP a n) m k e w = absurd (no_way (cc))
execute-none NONE m k e w = absurd (no_way (cc))

none-there : (code : List Instruction) (m : Machine) (k : ℕ) → local_step code m ≡ no_mail
    → ((i : ℕ) → i < length code → waits_for (get_or code i (SET 0 0)) k ≡ true) → unread_on k m.mailbox ≡ 0
unfolding local_step
none-there code m k e all = go (ltb m.pc (length code)) refl e
  where
    go : (b : Bool) → ltb m.pc (length code) ≡ b → cond b (execute (get_or code m.pc (SET 0 0)) m) halted ≡ no_mail → unread_on k m.mailbox ≡ 0
    go true h g = execute-none (get_or code m.pc (SET 0 0)) m k g (all m.pc (ltb-true m.pc (length code) h))
    go false h g = absurd (no_way (cc))

-- ---- from a held channel to its reader

module _ {t : Table} (ok : Accepted t) (upward : Upward t) {c : Cabinet} (h : Standstill t c) where
  from : (most p : ℕ) → p < length t.processes → length t.processes ≤ p + most → Pressed t c p → HaltedReader t c
  from zero p l few v = absurd (omega arith)
  from (suc most) p l few v = go (h.each q there) (from most q there)
    where
      q : ℕ
      q = (channel_at t v.word.channel).reader

      there : q < length t.processes
      there = v.reader

      own : (channel_at t v.word.channel).sender ≡ p
      own = step_own t ok p l (record { is = v.sends })

      higher : length t.processes ≤ q + most
      higher = let a = own in let b = upward.up v.word.channel (rw own l) there in omega arith

      by_outcome : (o : Outcome) → local_step (code_of t q) (process_at c q).machine ≡ o → idle o ≡ true → HaltedReader t c
      by_outcome halted e i = record { process = q; there = there; ended = e; channel = v.word.channel; unread = v.unread }
      by_outcome no_mail e i =
          absurd (let a = none-there (code_of t q) (process_at c q).machine v.word.channel e (λ j lj. upward.any q there j lj v.word.channel refl) in
          let b = v.unread in omega arith)
      by_outcome (moved m k) e i = absurd (no_way (cc))

      go : Stands t c q → (length t.processes ≤ q + most → Pressed t c q → HaltedReader t c) → HaltedReader t c
      go (waits i) rest = by_outcome (local_step (code_of t q) (process_at c q).machine) refl i
      go (pressed w) rest = rest higher w

  pub upward_halted : HaltedReader t c
  upward_halted = from (length t.processes) h.process h.there (omega arith) h.before
