-- The invariant when one process changes, with its own items in its own board's outbox and its machine in the reference: what step, sync
-- and transmit have in common. And when a word arrives.
use mathlib.Core.Logic.{◌≢◌}
use mathlib.Core.Path.{◌≡◌, refl, ap, sym, ◌∙◌, subst}
use mathlib.Core.Bool.{Bool, true, false, cond}
use mathlib.Core.Option.{Option, none, some}
use mathlib.Core.List.{List, [], ◌∷◌, ◌++◌, append-nil}
use Prim.Native.Nat.{ℕ, ◌<◌}
use native.Mathlib.Omega.{arith}
use lib.ListN.{length, get_or, set, length-set}
use lib.Seq.{get_or-set_same, get_or-set_other, set_out}
use Rattle.facts.specs.Tests.{no_way, by_eq, by_lt}
use Rattle.backup.specs.Replica.{Replica, Reply, arrive}
use Rattle.rules.specs.Table.{Table, channel_at, port_of}
use Rattle.rules.specs.Machine.{Mail, BusWord, Machine, booted, delivered}
use Rattle.rules.specs.Reference.{Reference, posted}
use Rattle.rules.specs.Cabinet.{Standby, Process, Item, Cabinet, nobody, process_at, outbox_at, is_complete}
use Rattle.rules.specs.Moves.{on_replica, on_backup, completed, receive, deliver}
use Rattle.rules.specs.Judge.{Accepted}
use Rattle.rules.proofs.Good.{Good}
use Rattle.rules.proofs.GoodMoves.{good_receive}
use Rattle.rules.proofs.Invariant.{owner_of, mine, mine_same, mine_other, mine_append, machine_at, Live, Seated, GoodAt, Invariant, in_table, in_reference, RoomFor}

-- ---- the boards of a process

abbrev board_of : Option Standby → Option ℕ
board_of none = none
board_of (some s) = some s.board

-- x runs where y runs, and has its backup where y has it
pub record SameSeat (x y : Process) : Type 0 where
  pub board : x.board ≡ y.board
  pub standby : board_of x.standby ≡ board_of y.standby

pub same-boards : {x y : Process} → x.board ≡ y.board → x.standby ≡ y.standby → SameSeat x y
same-boards e f = record { board = e; standby = ap board_of f }

-- a call of the backup moves nothing
pub called-board : (call : Replica → Reply) (o : Option Standby) → board_of (on_replica call o) ≡ board_of o
called-board call none = refl
called-board call (some s) = refl

pub called-backup-board : (call : Replica → Reply) (o : Option Standby) → board_of (on_backup call o) ≡ board_of o
called-backup-board call o = go (is_complete o)
  where
    go : (b : Bool) → board_of (cond b (on_replica call o) o) ≡ board_of o
    go true = called-board call o
    go false = refl

pub completed-board : (o : Option Standby) → board_of (completed o) ≡ board_of o
completed-board none = refl
completed-board (some s) = refl

-- what holds of the board of y's backup holds of x's
pub same_beside : {x y : Process} {s : Standby} (P : ℕ → Type 0) → SameSeat x y → x.standby ≡ some s → ((r : Standby) → y.standby ≡ some r → P r.board) → P s.board
same_beside {x} {y} {s} P h e f = go y.standby (sym h.standby ∙ ap board_of e) f
  where
    go : (u : Option Standby) → board_of u ≡ some s.board → ((r : Standby) → u ≡ some r → P r.board) → P s.board
    go none g k = absurd (no_way (cc))
    go (some r) g k = let same : r.board ≡ s.board = cc in subst P same (k r refl)

pub seated-same : {t : Table} {dead : List Bool} {x y : Process} → SameSeat x y → Seated t dead y → Seated t dead x
seated-same {t} {dead} {x} h g =
    record {
      at = subst (Live t dead) (sym h.board) g.at;
      beside = λ s e. same_beside (Live t dead) h e g.beside;
      apart = λ s e. same_beside (λ b. b ≢ x.board) h e (λ r k. subst (λ (b : ℕ). r.board ≢ b) (sym h.board) (g.apart r k));
    }

-- ---- one process changes

abbrev pub changed : ℕ → Process → List (List Item) → Cabinet → Cabinet
changed p x outboxes c = record { processes = set c.processes p x; outboxes = outboxes; dead = c.dead }

abbrev put : ℕ → Machine → List BusWord → Reference → Reference
put p m trace s = record { machines = set s.machines p m; trace = trace }

-- in no other outbox, and of no other process in its own, do the items change
abbrev pub OthersStay : Table → ℕ → List (List Item) → Cabinet → Type 0
OthersStay t p outboxes c = (b j : ℕ) → (j ≡ p → b ≡ (process_at c p).board → ⊥) → mine t j (get_or outboxes b []) ≡ mine t j (outbox_at c b)

-- it runs where it ran; where its backup is then, if it has one, is any live board but its own
module _ {t : Table} {c : Cabinet} {s : Reference} (inv : Invariant t c s) (p : ℕ) (hp : p < length c.processes)
    (x : Process) (same-board : x.board ≡ (process_at c p).board) (sits : Seated t c.dead x)
    (m : Machine) (outboxes : List (List Item)) (others : OthersStay t p outboxes c)
    (good-x : Good t p (mine t p (get_or outboxes (process_at c p).board [])) x m) (trace : List BusWord) where
  is_x : process_at (changed p x outboxes c) p ≡ x
  is_x = get_or-set_same c.processes p x nobody hp

  is-other : (j : ℕ) → j ≢ p → process_at (changed p x outboxes c) j ≡ process_at c j
  is-other j n = get_or-set_other c.processes p j x nobody n

  -- what holds of x, and of every other process, holds of all
  each : (P : ℕ → Process → Type 0) (j : ℕ) → P p x → (j ≢ p → P j (process_at c j)) → P j (process_at (changed p x outboxes c) j)
  each P j here elsewhere =
      by_eq j p
      (λ e. subst (λ (i : ℕ). P i (process_at (changed p x outboxes c) i)) (sym e) (subst (P p) (sym is_x) here))
      (λ n. subst (P j) (sym (is-other j n)) (elsewhere n))

  board_at : (j : ℕ) → (process_at (changed p x outboxes c) j).board ≡ (process_at c j).board
  board_at j = each (λ i y. y.board ≡ (process_at c i).board) j same-board (λ _. refl)

  good_p : GoodAt t (changed p x outboxes c) (put p m trace s) p
  good_p =
      rw (get_or-set_same s.machines p m booted (in_reference inv hp), is_x)
      (subst (λ (b : ℕ). Good t p (mine t p (get_or outboxes b [])) x m) (sym same-board) good-x)

  good_other : (j : ℕ) → j < length c.processes → j ≢ p → GoodAt t (changed p x outboxes c) (put p m trace s) j
  good_other j hj n =
      rw (is-other j n, get_or-set_other s.machines p j m booted n, others (process_at c j).board j (λ e f. n e)) (inv.good j hj)

  pub change : length outboxes ≡ length c.outboxes → Invariant t (changed p x outboxes c) (put p m trace s)
  change same_length =
      record {
        same_number = simp length-set inv.same_number;
        all_processes = simp length-set inv.all_processes;
        all_outboxes = same_length ∙ inv.all_outboxes;
        all_boards = inv.all_boards;
        good = λ j hj. by_eq j p
            (λ e. subst (GoodAt t (changed p x outboxes c) (put p m trace s)) (sym e) good_p)
            (λ n. good_other j (rw length-set at hj) n);
        own = λ b j h.
            let elsewhere : j < length c.processes → (process_at c j).board ≡ b → ⊥ = λ hj e. h (rw length-set hj) (board_at j ∙ e) in
            others b j (λ e f. elsewhere (rw e hp) (ap (λ (i : ℕ). (process_at c i).board) e ∙ sym f)) ∙ inv.own b j elsewhere;
        seated = λ j hj. each (λ i y. Seated t c.dead y) j sits (λ _. inv.seated j (rw length-set at hj));
      }

-- its backup stands where it stood, too
pub change_same : {t : Table} {c : Cabinet} {s : Reference} (inv : Invariant t c s) (p : ℕ) (hp : p < length c.processes) (x : Process) → SameSeat x (process_at c p)
    → (m : Machine) (outboxes : List (List Item)) → OthersStay t p outboxes c → Good t p (mine t p (get_or outboxes (process_at c p).board [])) x m
    → (trace : List BusWord) → length outboxes ≡ length c.outboxes → Invariant t (changed p x outboxes c) (put p m trace s)
change_same inv p hp x seat =
    change inv p hp x seat.board (seated-same seat (inv.seated p hp))

-- ---- a word arrives

pub deliver-keeps : {t : Table} {c : Cabinet} {s : Reference} (word : BusWord) → Accepted t → Invariant t c s
    → RoomFor t c word.mail.channel → Invariant t (deliver t word.mail c) (posted t word s)
unfolding deliver posted receive
deliver-keeps {t} {c} {s} word ok inv room =
    let mail : Mail = word.mail in
    let r : ℕ = (channel_at t mail.channel).reader in
    let x : Process = process_at c r in
    by_lt r (length c.processes)
    (λ h. change_same inv r h (receive t r mail x) (record { board = refl; standby = called-board (λ k. arrive k (port_of t r mail.channel) mail.word) x.standby })
    (delivered mail (machine_at s r)) c.outboxes (λ b j n. refl)
    (good_receive ok (in_table inv h) mail refl room (inv.good r h)) (s.trace ++ (word ∷ [])) refl)
    (λ h. rw (set_out c.processes r (receive t r mail x) h, set_out s.machines r (delivered mail (machine_at s r)) (omega (arith, inv.same_number)))
    (record {
      same_number = inv.same_number;
      all_processes = inv.all_processes;
      all_outboxes = inv.all_outboxes;
      all_boards = inv.all_boards;
      good = inv.good;
      own = inv.own;
      seated = inv.seated;
    }))

-- ---- an item joins, or leaves, the outbox of its process's board

module _ (t : Table) (qs : List (List Item)) (B : ℕ) (hB : B < length qs) (item : Item) where
  pub join_others : (b j : ℕ) → (j ≡ owner_of t item → b ≡ B → ⊥) → mine t j (get_or (set qs B (get_or qs B [] ++ (item ∷ []))) b []) ≡ mine t j (get_or qs b [])
  join_others b j h =
      by_eq b B
      (λ e. rw (e, get_or-set_same qs B (get_or qs B [] ++ (item ∷ [])) [] hB)
      (mine_append t j (get_or qs B []) (item ∷ [])
      ∙ ap (λ (l : List Item). mine t j (get_or qs B []) ++ l) (mine_other t j item [] (λ f. h f e))
      ∙ append-nil (mine t j (get_or qs B []))))
      (λ n. rw (get_or-set_other qs B b (get_or qs B [] ++ (item ∷ [])) [] n))

  pub join_own : mine t (owner_of t item) (get_or (set qs B (get_or qs B [] ++ (item ∷ []))) B []) ≡ mine t (owner_of t item) (get_or qs B []) ++ (item ∷ [])
  join_own =
      rw (get_or-set_same qs B (get_or qs B [] ++ (item ∷ [])) [] hB)
      (mine_append t (owner_of t item) (get_or qs B []) (item ∷ [])
      ∙ ap (λ (l : List Item). mine t (owner_of t item) (get_or qs B []) ++ l) (mine_same t (owner_of t item) item [] refl))

  module _ (rest : List Item) (oldest : get_or qs B [] ≡ item ∷ rest) where
    pub leave_others : (b j : ℕ) → (j ≡ owner_of t item → b ≡ B → ⊥) → mine t j (get_or (set qs B rest) b []) ≡ mine t j (get_or qs b [])
    leave_others b j h =
        by_eq b B
        (λ e. rw (e, get_or-set_same qs B rest [] hB, oldest) (sym (mine_other t j item rest (λ f. h f e))))
        (λ n. rw (get_or-set_other qs B b rest [] n))

    pub leave_own : mine t (owner_of t item) (get_or qs B []) ≡ item ∷ mine t (owner_of t item) (get_or (set qs B rest) B [])
    leave_own = rw (get_or-set_same qs B rest [] hB, oldest) (mine_same t (owner_of t item) item rest refl)
