-- A promotion, and a crash, as changes of one process.
use mathlib.Core.Path.{◌≡◌, refl, ap, sym, ◌∙◌}
use mathlib.Core.Bool.{true, false, cond}
use mathlib.Core.Option.{none}
use mathlib.Core.List.{List, map}
use Prim.Native.Nat.{ℕ, ◌%◌, ◌<◌}
use native.Mathlib.Omega.{arith}
use lib.Dec.{ltb}
use lib.ListN.{get_or}
use borrow.Author.Tests.{eq-eqb, ne_eqb, ltb-true}
use Rattle.facts.specs.Indexing.{map_agree, get_or_replicate_any}
use Rattle.backup.specs.Limits.{log_most, ports}
use Rattle.backup.specs.Replica.{Message, FailOver, on_ports}
use Rattle.backup.specs.Place.{promotion_in, handed_over}
use Rattle.backup.specs.PlaceLaws.{fail_over_in_lem, promotion_few, promotion_ports}
use Rattle.rules.specs.Table.{Table, channel_on}
use Rattle.rules.specs.Machine.{Mail}
use Rattle.rules.specs.Cabinet.{Process, none_since}
use Rattle.rules.specs.Moves.{recovered, promoted, unprotected, after_crash}
use Rattle.process.specs.Row.{recorded, standby_in, machine_of, standby_of, process_of, Kept}
use Rattle.process.specs.declared.process.Process as code
use Rattle.process.specs.Change.{Changes}
use Rattle.process.specs.Promotion.{readdressed, Readdressed, restored_in, Routes, promoted_by, BecameAtCrash, Promoted, Crashed}

-- ---- the mailbox

-- with the channels of a process's ports, what the rules put in the mailbox
routed : (t : Table) (p : ℕ) (channels : List ℕ) → Routes t p channels → (l : List Message) → on_ports l ≡ true
    → map (readdressed channels) l ≡ map (λ (m : Message). record { channel = channel_on t p m.port; word = m.word }) l
routed t p channels r =
    map_agree (λ m. ltb m.port ports) (readdressed channels) _
    (λ m e.
    let h : m.port < ports = ltb-true m.port ports e in
    let z : m.port % 4 ≡ m.port = omega arith in
    let q : get_or channels (m.port % 4) 0 ≡ channel_on t p m.port = rw z (sym (r m.port h)) in
    λ i. record { channel = q i; word = m.word })

-- ---- the process

module _ (x : code.Process) (channels : List ℕ) where
  pub promoted-none : log_most < x.head.len → Promoted x x channels
  promoted-none h k t p r = absurd (let s = promotion_few x.log x.head k.sound in omega arith)

  -- its mailbox made of the log, and the rest of it restored
  pub promoted_so : (mail : List ℕ) → Readdressed x.mail x.log x.head.len channels mail
      → Promoted x (restored_in (record x { mail = mail }) (promotion_in x.head)) channels
  unfolding process_of machine_of standby_of promoted recovered
  promoted_so mail m k t p r =
      let v : FailOver = handed_over x.log (promotion_in x.head) in
      let now : List Mail → Process = λ mailbox. record {
        machine = record { registers = v.registers; pc = v.pc; mailbox = mailbox };
        board = x.standby;
        suppress = v.sent;
        since = none_since;
        standby = none;
      } in
      record {
        process-is = rw (fail_over_in_lem x.log x.head k.sound) (ap now (m.mails k.mail-length ∙ routed t p channels r v.log (promotion_ports x.log x.head k.sound)));
        kept_again = record {
          registers-length = refl;
          taken-length = refl;
          mail-length = m.same_length ∙ k.mail-length;
          unread = promotion_few x.log x.head k.sound;
          oldest = omega arith;
          events = omega arith;
          taken = λ i. rw (get_or_replicate_any {A = ℕ} ports i 0) (omega arith);
          instructions = omega arith;
          flag = omega arith;
          sound = k.sound;
        };
        seated_again = λ a b s. record { runs_on = s.other-is; other-is = s.runs_on };
        waits-is = refl;
      }

-- ---- a crash

module _ (x : code.Process) (channels : List ℕ) (b : ℕ) where
  -- where the rules make of the process what a change makes of it, the change is the crash
  so : (x' : code.Process) (t : Table) (p : ℕ) (change : Process → Process) (waits : ℕ)
      → (let y : Process = process_of x in after_crash t b p y y.standby ≡ change y) → cond (promoted_by b x) 0 x.waits ≡ waits
      → BecameAtCrash x x' change waits
      → BecameAtCrash x x' (λ y. after_crash t b p y y.standby) (cond (promoted_by b x) 0 x.waits)
  so x' t p change waits e f h =
      record { process-is = h.process-is ∙ sym e; kept_again = h.kept_again; seated_again = h.seated_again; waits-is = h.waits-is ∙ sym f }

  as_it_was : Kept x → BecameAtCrash x x (λ y. y) x.waits
  as_it_was k = record { process-is = refl; kept_again = k; seated_again = λ a b s. s; waits-is = refl }

  -- a process with no record
  pub crashed_none : recorded x.protection ≡ false → Crashed x x b channels
  unfolding process_of standby_of after_crash
  crashed_none z k t p r = so x t p (λ y. y) x.waits (rw z) (rw z) (as_it_was k)

  module _ (n : recorded x.protection ≡ true) where
    -- its board crashed
    pub crashed_promoted : (x' : code.Process) → x.board ≡ b → Promoted x x' channels → Crashed x x' b channels
    unfolding process_of standby_of after_crash
    crashed_promoted x' e h k t p r =
        so x' t p (λ y. promoted t p (standby_in x)) 0 (rw (n, eq-eqb b x.board (sym e))) (rw (n, eq-eqb x.board b e)) (h k t p r)

    module _ (m : x.board ≡ b → ⊥) where
      stays : cond (promoted_by b x) 0 x.waits ≡ x.waits
      stays = rw (n, ne_eqb x.board b m)

      -- its backup's board crashed
      pub crashed_unprotected : (x' : code.Process) → x.standby ≡ b → Changes x x' unprotected → Crashed x x' b channels
      unfolding process_of standby_of after_crash
      crashed_unprotected x' e h k t p r =
          let c = h k in
          so x' t p unprotected x.waits (rw (n, ne_eqb b x.board (λ z. m (sym z)), eq-eqb b x.standby (sym e))) stays
          (record { process-is = c.process-is; kept_again = c.kept_again; seated_again = c.seated_again; waits-is = c.waits_again })

      -- another board crashed
      pub crashed_elsewhere : (x.standby ≡ b → ⊥) → Crashed x x b channels
      unfolding process_of standby_of after_crash
      crashed_elsewhere e k t p r =
          so x t p (λ y. y) x.waits (rw (n, ne_eqb b x.board (λ z. m (sym z)), ne_eqb b x.standby (λ z. e (sym z)))) stays (as_it_was k)
