-- A resync as a change of one process: what is true between two copies, and that the record's own calls make the record that the rules name.
use mathlib.Core.Path.{◌≡◌, refl, ap, sym, ◌∙◌}
use mathlib.Core.Bool.{true, false}
use mathlib.Core.Option.{some}
use mathlib.Core.List.{List, [], ◌∷◌, ◌++◌, map, map-append, append_assoc, append-nil}
use Prim.Native.Nat.{ℕ, suc, ◌+◌, ◌≤◌, ◌<◌}
use native.Mathlib.Omega.{arith}
use native.Mathlib.Numerals.{add-one}
use lib.ListN.{length, get_or, length-map, length-append}
use Rattle.facts.specs.Indexing.{get_or_replicate_any}
use Rattle.facts.specs.Lists.{listed, listed_same, map-listed}
use Rattle.facts.specs.Rings.{listed-length, listed_more}
use Rattle.backup.specs.Limits.{log_most, ports, pc_most}
use Rattle.backup.specs.Replica.{Message, Replica, Reply, Checkpoint, initial, arrive, arrived, sync, fit}
use Rattle.backup.specs.Accepts.{arrive-accepted, sync-accepted}
use Rattle.backup.specs.Place.{view_in, Sound, Called, Fresh, checkpoint_of}
use Rattle.backup.specs.declared.place.Checkpoint as landing
use Rattle.backup.specs.declared.place.Head.{Head}
use Rattle.plan.specs.declared.Wire.{Wire}
use Rattle.process.specs.declared.process.Process as code
use Rattle.rules.specs.Table.{Table, port_of}
use Rattle.rules.specs.Machine.{Mail}
use Rattle.rules.specs.Cabinet.{Process, no_takes, none_since}
use Rattle.rules.specs.Moves.{issued, copied, begin_transfer, end_transfer}
use Rattle.process.specs.Row.{recorded, checkpoint_in, anew_in, mail_in, packed_at, mails_in, mail_at, machine_of, standby_of, process_of, Kept}
use Rattle.process.specs.Change.{Changes}
use Rattle.process.specs.Transfer.{port_for, copy_of, with_more, Copied, OnPorts, BeginsTransfer}
use Rattle.process.proofs.Processes.{checkpoint-is, issued-became, protection-became}

-- ---- the copies

-- i of len words are in the record
pub record Copying (mail : List ℕ) (first len : ℕ) (wires : List Wire) (log₀ : List ℕ) (head₀ : Head) (log : List ℕ) (head : Head) (i : ℕ) : Type 0 where
  pub looked : i ≤ len
  pub sound : Sound log₀ head₀ → Sound log head
  pub value : Sound log₀ head₀ → ((j : ℕ) → j < len → port_for wires (mail_in (packed_at first mail j)) < ports) → length (view_in log₀ head₀).log + len ≤ log_most
      → view_in log head ≡ with_more (map (copy_of wires) (mails_in first i mail)) (view_in log₀ head₀)

same_log : (r : Replica) (l : List Message) → r.log ≡ l → r ≡ record { log = l; sent = r.sent; pc = r.pc; registers = r.registers }
same_log r l e = λ i. record { log = e i; sent = r.sent; pc = r.pc; registers = r.registers }

pub copying_start : (mail : List ℕ) (first len : ℕ) (wires : List Wire) (log : List ℕ) (head : Head) → Copying mail first len wires log head log head 0
copying_start mail first len wires log head =
    record { looked = omega arith; sound = λ s. s; value = λ s p l. same_log (view_in log head) _ (sym (append-nil (view_in log head).log)) }

copies_more : (wires : List Wire) (mail : List ℕ) (first n : ℕ)
    → map (copy_of wires) (mails_in first (suc n) mail) ≡ map (copy_of wires) (mails_in first n mail) ++ (copy_of wires (mail_in (packed_at first mail n)) ∷ [])
copies_more wires mail first n =
    let word : ℕ → Mail = λ i. mail_in (packed_at first mail i) in
    ap (map (copy_of wires)) (listed_more word n) ∙ map-append (copy_of wires) (listed word n) (word n ∷ [])

copies_length : (wires : List Wire) (mail : List ℕ) (first n : ℕ) → length (map (copy_of wires) (mails_in first n mail)) ≡ n
copies_length wires mail first n = length-map (mails_in first n mail) (copy_of wires) ∙ listed-length (λ i. mail_in (packed_at first mail i)) n

module _ (mail : List ℕ) (first len : ℕ) (wires : List Wire) (log₀ : List ℕ) (head₀ : Head) (log : List ℕ) (head : Head) (i : ℕ) (f : Copying mail first len wires log₀ head₀ log head i) where
  pub copying_on : (number : ℕ) (log' : List ℕ) (head' : Head) → i < len
      → Called log head log' head' number (λ v. arrive v (port_for wires (mail_in (packed_at first mail i))) (mail_in (packed_at first mail i)).word)
      → Copying mail first len wires log₀ head₀ log' head' (i + 1)
  copying_on number log' head' l c =
      let x : Mail = mail_in (packed_at first mail i) in
      let q : ℕ = port_for wires x in
      let copies : ℕ → List Message = λ n. map (copy_of wires) (mails_in first n mail) in
      record {
        looked = omega arith;
        sound = λ s. c.sound_again (f.sound s);
        value = λ s p room.
            let r : Replica = view_in log₀ head₀ in
            let v : view_in log head ≡ with_more (copies i) r = f.value s p room in
            let few : length (view_in log head).log < log_most =
            (let a = ap (λ (y : Replica). length y.log) v in let b = length-append r.log (copies i) in let d = copies_length wires mail first i in omega arith) in
            c.value_is (f.sound s)
            ∙ ap (λ (y : Reply). y.replica) (arrive-accepted (view_in log head) q x.word (f.sound s).is-fit (p i l) few)
            ∙ ap (λ (y : Replica). arrived y q x.word) v
            ∙ ap (λ (m : List Message). record { log = m; sent = r.sent; pc = r.pc; registers = r.registers })
            (append_assoc r.log (copies i) (copy_of wires x ∷ []) ∙ ap (λ (m : List Message). r.log ++ m) (sym (rw add-one (copies_more wires mail first i))));
      }

  pub copying_end : len ≤ i → Copied mail first len wires log₀ head₀ log head
  copying_end h =
      let e : i ≡ len = (let l = f.looked in omega arith) in
      record { sound_again = f.sound; value_is = λ s p l. f.value s p l ∙ ap (λ (n : ℕ). with_more (map (copy_of wires) (mails_in first n mail)) (view_in log₀ head₀)) e }

-- ---- the record

-- with the table's ports, the copies that the rules make
routed_copies : (t : Table) (p : ℕ) (wires : List Wire) (x : code.Process) → OnPorts t p wires x
    → (let l = mails_in x.oldest x.unread x.mail in map (copy_of wires) l ≡ map (λ (m : Mail). record { port = port_of t p m.channel; word = m.word }) l)
routed_copies t p wires x on =
    let word : ℕ → Mail = mail_at x in
    let routed : Mail → Message = λ m. record { port = port_of t p m.channel; word = m.word } in
    map-listed (copy_of wires) word x.unread
    ∙ listed_same (λ i. copy_of wires (word i)) (λ i. routed (word i)) x.unread (λ i l. ap (λ (q : ℕ). record { port = q; word = (word i).word }) (on i l).0)
    ∙ sym (map-listed routed word x.unread)

-- a fresh record keeps a snapshot with no takes whole
kept_whole : (c : Checkpoint) → c.taken ≡ no_takes → c.pc ≤ pc_most → sync initial c ≡ record { number = 0; replica = record { log = []; sent = 0; pc = c.pc; registers = c.registers } }
unfolding fit
kept_whole c e l =
    sync-accepted initial c refl l (λ p h. let a : get_or c.taken p 0 ≡ 0 = ap (λ (t : List ℕ). get_or t p 0) e ∙ get_or_replicate_any {A = ℕ} 4 p 0 in omega arith)

-- ---- the process

module _ (x : code.Process) (wires : List Wire) where
  pub begins-transfer-none : log_most < x.unread → BeginsTransfer x wires x
  begins-transfer-none h k t p on low s = absurd (let u = k.unread in omega arith)

  -- it counts anew; the fresh record's head; the snapshot, which lands in it; and the copies
  module _ (head₁ : Head) (fresh : length x.log ≡ log_most → Fresh x.log head₁)
      (c : landing.Checkpoint) (snap : c ≡ checkpoint_in (record (anew_in x) { head = head₁ }))
      (number : ℕ) (log₂ : List ℕ) (head₂ : Head) (called : Called x.log head₁ log₂ head₂ number (λ v. sync v (checkpoint_of c)))
      (log₃ : List ℕ) (head₃ : Head) (copy : Copied x.mail x.oldest x.unread wires log₂ head₂ log₃ head₃) where
    module _ (k : Kept x) (t : Table) (p : ℕ) (on : OnPorts t p wires x) (low : x.pc ≤ pc_most) where
      abbrev y : Process
      y = process_of x

      new : Fresh x.log head₁
      new = fresh k.sound.log-length

      taken_none : checkpoint_of c ≡ record { pc = x.pc; registers = x.registers; taken = no_takes }
      unfolding checkpoint_in process_of machine_of
      taken_none = ap checkpoint_of snap ∙ checkpoint-is (anew_in x) (issued-became x k).kept_again

      begun : view_in log₂ head₂ ≡ record { log = []; sent = 0; pc = x.pc; registers = x.registers }
      begun =
          called.value_is new.is-sound ∙ ap (λ (v : Replica). (sync v (checkpoint_of c)).replica) new.value_is
          ∙ ap (λ (r : Reply). r.replica) (kept_whole (checkpoint_of c) (ap (λ (d : Checkpoint). d.taken) taken_none) (let e = ap (λ (d : Checkpoint). d.pc) taken_none in omega arith))
          ∙ ap (λ (d : Checkpoint). record { log = []; sent = 0; pc = d.pc; registers = d.registers }) taken_none

      record_is : view_in log₃ head₃ ≡ copied t p y.machine
      unfolding process_of machine_of copied
      record_is =
          copy.value_is (called.sound_again new.is-sound) (λ i l. rw (on i l).0 (on i l).1) (let e = ap (λ (v : Replica). length v.log) begun in let u = k.unread in omega arith)
          ∙ ap (with_more (map (copy_of wires) (mails_in x.oldest x.unread x.mail))) begun
          ∙ ap (λ (l : List Message). record { log = l; sent = 0; pc = x.pc; registers = x.registers }) (routed_copies t p wires x on)

    pub begins-transfer_so : BeginsTransfer x wires (record (anew_in x) { protection = 2; log = log₃; head = head₃ })
    unfolding process_of machine_of standby_of issued begin_transfer
    begins-transfer_so k t p on low s =
        let now = (issued-became x k).kept_again in
        let y : Process = process_of x in
        let v = record_is k t p on low in
        record {
          process-is = λ i. record {
            machine = y.machine;
            board = x.board;
            suppress = x.suppress;
            since = none_since;
            standby = some (record { board = s.other-is i; replica = v i; complete = false });
          };
          kept_again = record {
            registers-length = k.registers-length;
            taken-length = now.taken-length;
            mail-length = k.mail-length;
            unread = k.unread;
            oldest = k.oldest;
            events = now.events;
            taken = now.taken;
            instructions = now.instructions;
            flag = omega arith;
            sound = copy.sound_again (called.sound_again (new k t p on low).is-sound);
          };
          seated_again = λ a b s. record { runs_on = s.runs_on; other-is = s.other-is };
          waits_again = refl;
        }

-- ---- the carry

pub ends-transfer-none : (x : code.Process) → recorded x.protection ≡ false → Changes x x end_transfer
unfolding process_of machine_of standby_of end_transfer
ends-transfer-none x z k = record { process-is = rw z; kept_again = k; seated_again = λ a b s. s; waits_again = refl }

pub ends-transfer_so : (x : code.Process) → recorded x.protection ≡ true → Changes x (record x { protection = 1 }) end_transfer
unfolding process_of machine_of standby_of end_transfer
ends-transfer_so x n = protection-became x 1 (omega arith) end_transfer (rw n)
