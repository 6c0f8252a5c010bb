-- The crash of a board keeps the invariant, if every process has a backup, and so does its return: the reference machine does nothing.
use mathlib.Core.Logic.{◌≢◌}
use mathlib.Core.Path.{◌≡◌, refl, ap, sym, ◌∙◌, subst}
use mathlib.Core.Bool.{Bool, true, false, not, cond}
use mathlib.Core.Option.{Option, none, some}
use mathlib.Core.List.{List, [], ◌∷◌}
use Prim.Native.Nat.{ℕ, zero, suc, ◌<◌}
use lib.Dec.{eqb}
use lib.ListN.{length, get_or, set, length-set}
use lib.Seq.{get_or-set_same, get_or-set_other}
use borrow.Author.Tests.{eqb-true, eqb-false, not-false}
use Rattle.facts.specs.Tests.{no_way, by_eq, none_below}
use Rattle.rules.specs.Table.{Table}
use Rattle.rules.specs.Reference.{Reference}
use Rattle.rules.specs.Cabinet.{Standby, Process, Item, Cabinet, process_at, outbox_at, dead_at, is_complete, protected, some_unbacked}
use Rattle.rules.specs.Moves.{promoted, unprotected, after_crash, all_after_crash}
use Rattle.rules.specs.Judge.{Accepted}
use Rattle.rules.proofs.Good.{Good}
use Rattle.rules.proofs.GoodMoves.{good_promoted, good_unprotected}
use Rattle.rules.proofs.Invariant.{mine, machine_at, Live, Seated, Invariant, in_table}
use Rattle.rules.proofs.Crashed.{crash-length, crash_at}
use Rattle.rules.proofs.Guards.{crashed_by, rejoined_by}
use Rattle.rules.proofs.Follow.{Follows, stay}

-- ---- what the crash of board b makes of a process that has a backup

pub data Fate (t : Table) (b p : ℕ) (x : Process) : Process → Type 0 where
  taken_over : (s : Standby) → x.standby ≡ some s → x.board ≡ b → Fate t b p x (promoted t p s)
  bared : (s : Standby) → x.standby ≡ some s → x.board ≢ b → Fate t b p x (unprotected x)
  spared : x.board ≢ b → ((s : Standby) → x.standby ≡ some s → s.board ≢ b) → Fate t b p x x

pub fate : (t : Table) (b p : ℕ) (x : Process) → protected x ≡ true → Fate t b p x (after_crash t b p x x.standby)
unfolding after_crash
fate t b p x safe = go x.standby refl
  where
    go : (o : Option Standby) → x.standby ≡ o → Fate t b p x (after_crash t b p x o)
    go none e = absurd (no_way (let d = ap is_complete e in cc))
    go (some s) e = by_board (eqb b x.board) (eqb b s.board) refl refl
      where
        by_board : (y z : Bool) → eqb b x.board ≡ y → eqb b s.board ≡ z → Fate t b p x (cond y (promoted t p s) (cond z (unprotected x) x))
        by_board true z hy hz = taken_over s e (sym (eqb-true b x.board hy))
        by_board false true hy hz = bared s e (λ f. eqb-false b x.board hy (sym f))
        by_board false false hy hz =
            spared (λ f. eqb-false b x.board hy (sym f))
            (λ r f. let same : s ≡ r = cc in subst (λ (k : Standby). k.board ≢ b) same (λ g. eqb-false b s.board hz (sym g)))

-- ---- the boards

emptied : (qs : List (List Item)) (b k : ℕ) → k ≡ b → get_or (set qs b []) k [] ≡ []
emptied qs b k e = ap (λ (i : ℕ). get_or (set qs b []) i []) e ∙ go qs b
  where
    go : (l : List (List Item)) (i : ℕ) → get_or (set l i []) i [] ≡ []
    go [] i = refl
    go (q ∷ l) zero = refl
    go (q ∷ l) (suc i) = go l i

still_live : {t : Table} {dead : List Bool} {b k : ℕ} → k ≢ b → Live t dead k → Live t (set dead b true) k
still_live {dead = dead} {b = b} {k = k} n h = record { there = h.there; live = get_or-set_other dead b k true false n ∙ h.live }

fate_seated : {t : Table} {dead : List Bool} {b p : ℕ} {x y : Process} → Fate t b p x y → Seated t dead x → Seated t (set dead b true) y
unfolding promoted unprotected
fate_seated {b = b} (taken_over s e here) h =
    record {
      at = still_live (λ f. h.apart s e (f ∙ sym here)) (h.beside s e);
      beside = λ r f. absurd (no_way (cc));
      apart = λ r f. absurd (no_way (cc));
    }
fate_seated (bared s e n) h = record { at = still_live n h.at; beside = λ r f. absurd (no_way (cc)); apart = λ r f. absurd (no_way (cc)) }
fate_seated (spared n m) h = record { at = still_live n h.at; beside = λ s e. still_live (m s e) (h.beside s e); apart = h.apart }

-- a process that still runs elsewhere runs where it ran
fate_board : {t : Table} {b p : ℕ} {x y : Process} → Fate t b p x y → x.board ≢ b → y.board ≡ x.board
unfolding unprotected
fate_board (taken_over s e here) n = absurd (n here)
fate_board (bared s e m) n = refl
fate_board (spared m k) n = refl

-- ---- the invariant

module _ {t : Table} (ok : Accepted t) {c : Cabinet} {s : Reference} (inv : Invariant t c s) (b : ℕ)
    (safe : (p : ℕ) → p < length c.processes → protected (process_at c p) ≡ true) where
  crashed : Cabinet
  crashed = crashed_by t b c

  fate_at : (p : ℕ) → p < length c.processes → Fate t b p (process_at c p) (process_at crashed p)
  unfolding crashed
  fate_at p hp = subst (Fate t b p (process_at c p)) (sym (crash_at t b c.processes p hp)) (fate t b p (process_at c p) (safe p hp))

  -- outboxes other than the crashed board's stay
  same_outbox : (k : ℕ) → k ≢ b → outbox_at crashed k ≡ outbox_at c k
  unfolding crashed
  same_outbox k n = get_or-set_other c.outboxes b k [] [] n

  -- no item is left of a process that ran on b
  lost : (p k : ℕ) → (process_at c p).board ≡ b → mine t p (outbox_at crashed k) ≡ []
  unfolding crashed
  lost p k h =
      by_eq k b
      (λ e. ap (mine t p) (emptied c.outboxes b k e))
      (λ n. ap (mine t p) (same_outbox k n) ∙ inv.own k p (λ _ g. n (sym g ∙ h)))

  good_then : (p : ℕ) (hp : p < length c.processes) {y : Process} → Fate t b p (process_at c p) y → Good t p (mine t p (outbox_at crashed y.board)) y (machine_at s p)
  unfolding unprotected
  good_then p hp (taken_over k e here) =
      subst (λ (l : List Item). Good t p l (promoted t p k) (machine_at s p)) (sym (lost p (promoted t p k).board here))
      (good_promoted ok (in_table inv hp) (inv.good p hp) e (safe p hp))
  good_then p hp (bared k e n) =
      subst (λ (l : List Item). Good t p l (unprotected (process_at c p)) (machine_at s p))
      (sym (ap (mine t p) (same_outbox (process_at c p).board n)))
      (good_unprotected ok (in_table inv hp) (inv.good p hp) e (safe p hp))
  good_then p hp (spared n m) =
      subst (λ (l : List Item). Good t p l (process_at c p) (machine_at s p)) (sym (ap (mine t p) (same_outbox (process_at c p).board n))) (inv.good p hp)

  pub crash_invariant : Invariant t (crashed_by t b c) s
  unfolding crashed
  crash_invariant =
      let same : length (all_after_crash t b 0 c.processes) ≡ length c.processes = crash-length t b 0 c.processes in
      record {
        same_number = same ∙ inv.same_number;
        all_processes = same ∙ inv.all_processes;
        all_outboxes = length-set c.outboxes b [] ∙ inv.all_outboxes;
        all_boards = length-set c.dead b true ∙ inv.all_boards;
        good = λ p hp. let h : p < length c.processes = rw same at hp in good_then p h (fate_at p h);
        own = λ k p h. by_eq k b
            (λ e. ap (mine t p) (emptied c.outboxes b k e))
            (λ n. ap (mine t p) (same_outbox k n) ∙ inv.own k p (λ hp g.
            h (rw same hp) (fate_board (fate_at p hp) (λ e. n (sym g ∙ e)) ∙ g)));
        seated = λ p hp. let h : p < length c.processes = rw same at hp in fate_seated (fate_at p h) (inv.seated p h);
      }

-- ---- the move

-- 44 is not answered: every process has a backup
pub all_backed : (c : Cabinet) → some_unbacked c ≡ false → (p : ℕ) → p < length c.processes → protected (process_at c p) ≡ true
unfolding some_unbacked
all_backed c h p hp = not-false _ (none_below (λ i. not (protected (process_at c i))) (length c.processes) h p hp)

pub follow_crash : {t : Table} → Accepted t → {c : Cabinet} {s : Reference} → Invariant t c s → (b : ℕ) → some_unbacked c ≡ false
    → Follows t (crashed_by t b c) s [] []
follow_crash ok {c} inv b safe = stay (crash_invariant ok inv b (all_backed c safe))

-- ---- return

live_again : {t : Table} {dead : List Bool} {b k : ℕ} → b < length dead → Live t dead k → Live t (set dead b false) k
live_again {dead = dead} {b = b} {k = k} hb h =
    record {
      there = h.there;
      live = by_eq k b
          (λ e. rw e (get_or-set_same dead b false false hb))
          (λ n. get_or-set_other dead b k false false n ∙ h.live);
    }

-- nothing runs on a dead board
module _ {t : Table} {c : Cabinet} {s : Reference} (inv : Invariant t c s) (b : ℕ) (there : b < t.boards) (is-dead : dead_at c b ≡ true) where
  elsewhere : (p : ℕ) → p < length c.processes → (process_at c p).board ≢ b
  elsewhere p hp e = no_way (let a = (inv.seated p hp).at.live in let d = ap (dead_at c) e in cc)

  pub rejoin_invariant : Invariant t (rejoined_by b c) s
  rejoin_invariant =
      let hb : b < length c.dead = rw inv.all_boards there in
      record {
        same_number = inv.same_number;
        all_processes = inv.all_processes;
        all_outboxes = length-set c.outboxes b [] ∙ inv.all_outboxes;
        all_boards = length-set c.dead b false ∙ inv.all_boards;
        good = λ p hp. rw (get_or-set_other c.outboxes b (process_at c p).board [] [] (elsewhere p hp)) (inv.good p hp);
        own = λ k p h. by_eq k b
            (λ e. ap (mine t p) (emptied c.outboxes b k e))
            (λ n. ap (mine t p) (get_or-set_other c.outboxes b k [] [] n) ∙ inv.own k p h);
        seated = λ p hp. let g = inv.seated p hp in
            record { at = live_again hb g.at; beside = λ k e. live_again hb (g.beside k e); apart = g.apart };
      }

  pub follow_rejoin : Follows t (rejoined_by b c) s [] []
  follow_rejoin = stay rejoin_invariant
