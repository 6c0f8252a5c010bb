-- A call of the backup, and a delivery, as changes of one process.
use mathlib.Core.Path.{◌≡◌, refl, ap, sym, ◌∙◌, subst}
use mathlib.Core.Bool.{Bool, true, false, cond}
use mathlib.Core.Option.{Option, none, some}
use mathlib.Core.List.{List, [], ◌∷◌, ◌++◌}
use Prim.Native.Nat.{ℕ, ◌+◌, ◌%◌, ◌≤◌, ◌<◌, ◌^◌}
use Rattle.std.proofs.Common.{Result}
use native.Mathlib.Omega.{arith}
use native.Mathlib.Numerals.{add-one}
use borrow.Author.Tests.{eqb-true}
use Rattle.backup.specs.Limits.{log_most}
use Rattle.backup.specs.Replica.{Replica, Reply, Checkpoint, arrive, count, sync}
use Rattle.backup.specs.declared.place.Checkpoint as landing
use Rattle.backup.specs.declared.place.Head.{Head}
use Rattle.backup.specs.declared.place.Landed.{Landed}
use Rattle.numbers.specs.declared.backup.BackupRefusal.{BackupRefusal}
use Rattle.backup.specs.Report.{total_dropped, sync_report}
use Rattle.backup.proofs.ReportLaws.{total_dropped_small}
use Rattle.backup.specs.Place.{view_in, Called, checkpoint_of, report_of, Reports}
use Rattle.rules.specs.Table.{port_of}
use Rattle.rules.specs.Machine.{delivered}
use Rattle.rules.specs.Cabinet.{Process, Standby}
use Rattle.rules.specs.Moves.{with_standby, on_replica, on_backup, receive, counts, keeps, dropped_from}
use Rattle.process.specs.Row.{backed, recorded, standby_in, machine_of, standby_of, process_of, mails_in}
use Rattle.process.specs.declared.process.Process as code
use Rattle.process.specs.Mailbox.{Appended}
use Rattle.process.specs.Change.{Changes, Backed, Drops, Received}
use Rattle.facts.specs.Tests.{no_way}
use Rattle.process.proofs.Processes.{protected-is}

-- a process with another backup
abbrev pub with_backup : code.Process → List ℕ → Head → code.Process
with_backup x log head = record x { log = log; head = head }

module _ (x : code.Process) (call : Replica → Reply) where
  -- no record: nothing is called
  pub saved-none : recorded x.protection ≡ false → Backed x x on_replica call
  unfolding standby_of
  saved-none e = record { backup-alone = refl; standby-is = λ s. rw e; sound_again = λ s. s }

  -- the call's promise
  pub saved_call : (log : List ℕ) (head : Head) (number : ℕ) → recorded x.protection ≡ true → Called x.log x.head log head number call
      → Backed x (with_backup x log head) on_replica call
  unfolding standby_of
  saved_call log head number e c = record { backup-alone = refl; standby-is = λ s. rw (e, c.value_is s); sound_again = c.sound_again }

  -- the same on a backup: with none, also while one is being made, nothing is called
  pub backed_none : backed x.protection ≡ false → Backed x x on_backup call
  unfolding standby_of
  backed_none e = record { backup-alone = refl; standby-is = λ s. go (recorded x.protection) (standby_in x) e; sound_again = λ s. s }
    where
      go : (b : Bool) (s : Standby) → s.complete ≡ false → cond b (some s) none ≡ on_backup call (cond b (some s) none)
      go true s h = rw h
      go false s h = refl

  pub backed_call : (log : List ℕ) (head : Head) (number : ℕ) → backed x.protection ≡ true → Called x.log x.head log head number call
      → Backed x (with_backup x log head) on_backup call
  unfolding standby_of
  backed_call log head number e c = record { backup-alone = refl; standby-is = λ s. rw (c.value_is s) (go x.protection e); sound_again = c.sound_again }
    where
      replica : Replica
      replica = view_in x.log x.head

      at : Replica → ℕ → Standby
      at r q = record { board = x.standby; replica = r; complete = backed q }

      go : (q : ℕ) → backed q ≡ true
          → cond (recorded q) (some (at (call replica).replica q)) none ≡ on_backup call (cond (recorded q) (some (at replica q)) none)
      go q e = rw (eqb-true q 1 e)

-- ---- calls that change the backup alone

module _ (x : code.Process) (log : List ℕ) (head : Head) where
  backed_became : (call : Replica → Reply) → Backed x (with_backup x log head) on_backup call
      → Changes x (with_backup x log head) (λ y. with_standby (on_backup call y.standby) y)
  unfolding process_of
  backed_became call b k = record {
    process-is = ap (λ (s : Option Standby). with_standby s (process_of x)) (b.standby-is k.sound);
    kept_again = record {
      registers-length = k.registers-length;
      taken-length = k.taken-length;
      mail-length = k.mail-length;
      unread = k.unread;
      oldest = k.oldest;
      events = k.events;
      taken = k.taken;
      instructions = k.instructions;
      flag = k.flag;
      sound = b.sound_again k.sound;
    };
    seated_again = λ a b s. record { runs_on = s.runs_on; other-is = s.other-is };
    waits_again = refl;
  }

  pub counts-became : Backed x (with_backup x log head) on_backup count → Changes x (with_backup x log head) counts
  unfolding counts
  counts-became = backed_became count

  pub keeps-became : (c : Checkpoint) → Backed x (with_backup x log head) on_backup (λ v. sync v c) → Changes x (with_backup x log head) (keeps c)
  unfolding keeps
  keeps-became c = backed_became (λ v. sync v c)

-- ---- what a landing checkpoint drops

module _ (x : code.Process) where
  pub drops_none : (c : Checkpoint) → backed x.protection ≡ false → Drops x c 0
  drops_none c e k h = absurd (no_way (let a = protected-is x in cc))

  -- at most what a log holds, so that 32 bits are enough
  pub drops_so : (c : landing.Checkpoint) (l : Result Landed BackupRefusal) (n : ℕ) → backed x.protection ≡ true → Reports x.log x.head c l → n ≡ total_dropped (report_of l) % 2 ^ 32
      → Drops x (checkpoint_of c) n
  unfolding process_of standby_of
  drops_so c l n y r e k h = r-is ∙ sym (go x.protection (standby_in x) y)
    where
      d : Checkpoint
      d = checkpoint_of c

      go : (q : ℕ) (s : Standby) → backed q ≡ true → dropped_from d (cond (recorded q) (some s) none) ≡ total_dropped (sync_report s.replica d)
      go q s e = rw (eqb-true q 1 e)

      r-is : n ≡ total_dropped (sync_report (view_in x.log x.head) d)
      r-is =
          let a : total_dropped (report_of l) ≡ total_dropped (sync_report (view_in x.log x.head) d) = ap total_dropped (r.report-is k.sound) in
          let b = total_dropped_small (view_in x.log x.head) d in
          omega arith

-- ---- a delivery

module _ (x : code.Process) (port channel word : ℕ) where
  pub received_none : log_most ≤ x.unread → Received x x port channel word
  received_none h = record { untouched = λ _. refl; became = λ k l. absurd (omega arith) }

  saved_and_appended : (saved : code.Process) (mail : List ℕ) → x.unread < log_most → Backed x saved on_replica (λ v. arrive v port word)
      → Appended x.mail x.oldest x.unread channel word mail
      → Received x (record x { unread = x.unread + 1; mail = mail; log = saved.log; head = saved.head }) port channel word
  unfolding process_of machine_of standby_of receive delivered
  saved_and_appended saved mail h b a = record {
    untouched = λ g. absurd (omega arith);
    became = λ k l t p e.
        let m : mails_in x.oldest (x.unread + 1) mail ≡ mails_in x.oldest x.unread x.mail ++ (record { channel = channel; word = word } ∷ []) =
        rw add-one (a.more k.mail-length h) in
        let s : standby_of (with_backup x saved.log saved.head) ≡ on_replica (λ r. arrive r (port_of t p channel) word) (standby_of x) =
        (let y = b.standby-is k.sound in rw b.backup-alone at y) ∙ ap (λ (q : ℕ). on_replica (λ r. arrive r q word) (standby_of x)) (sym e) in
        let y : Process = process_of x in
        record {
          process-is = λ i. record {
            machine = record { registers = x.registers; pc = x.pc; mailbox = m i };
            board = x.board;
            suppress = x.suppress;
            since = y.since;
            standby = s i;
          };
          kept_again = record {
            registers-length = k.registers-length;
            taken-length = k.taken-length;
            mail-length = a.same_length ∙ k.mail-length;
            unread = omega arith;
            oldest = k.oldest;
            events = k.events;
            taken = k.taken;
            instructions = k.instructions;
            flag = k.flag;
            sound = b.sound_again k.sound;
          };
          seated_again = λ a b s. record { runs_on = s.runs_on; other-is = s.other-is };
          waits_again = refl;
        };
  }

  -- the word is saved, then appended
  pub received_so : (saved : code.Process) (mail : List ℕ) → x.unread < log_most → Backed x saved on_replica (λ v. arrive v port word)
      → Appended saved.mail saved.oldest x.unread channel word mail → Received x (record saved { unread = x.unread + 1; mail = mail }) port channel word
  received_so saved mail h b =
      subst (λ (y : code.Process). Appended y.mail y.oldest x.unread channel word mail → Received x (record y { unread = x.unread + 1; mail = mail }) port channel word)
      (sym b.backup-alone) (saved_and_appended saved mail h b)
