-- W-213: the one crash that a sweep puts in is never refused: before it no board has crashed, so that all are live, and every process has its backup.
use mathlib.Core.Path.{◌≡◌, refl, ap, sym, ◌∙◌}
use mathlib.Core.Bool.{Bool, true, false, cond}
use mathlib.Core.List.{List, [], ◌∷◌}
use Prim.Native.Nat.{ℕ, zero, suc, ◌<◌}
use native.Mathlib.Omega.{arith}
use lib.Dec.{eqb}
use lib.ListN.{length, get_or, set, take}
use lib.Seq.{get_or-set_same, get_or-set_other, set_out}
use borrow.Author.Tests.{ne_eqb, lt-leb}
use Rattle.facts.specs.Tests.{no_way, by_eq, by_lt, or_left, or_right}
use Rattle.facts.specs.Indexing.{get_or_map, get_or_replicate_any}
use Rattle.rules.specs.Table.{Table, placement_at}
use Rattle.rules.specs.Cabinet.{Cabinet, placed, started, nobody, process_at, dead_at, protected}
use Rattle.rules.specs.Moves.{Command, Move, step_move, issue_move, transmit_move, inject_move, crash_move, rejoin_move, rebackup_move, unknown, move_of, Answer, crash_done, sync_kept, sync_lost, guard, with_process, with_outbox, keeps, deliver, perform, turn, run_from}
use Rattle.rules.specs.Undo.{is_undo}
use Rattle.rules.specs.Judge.{Accepted}
use Rattle.rules.specs.Transparent.{finished}
use Rattle.rules.specs.Recovery.{is_crash, any_crash}
use Rattle.rules.specs.Sweep.{crash_of, is_barred, any_barred}
use Rattle.rules.proofs.Guards.{Done, yields_turn}
use Rattle.rules.proofs.Recovery.{backed_again, next-crash}

abbrev is_pull : Move → Bool
is_pull step_move = false
is_pull issue_move = false
is_pull transmit_move = false
is_pull inject_move = false
is_pull crash_move = true
is_pull rejoin_move = false
is_pull rebackup_move = false
is_pull unknown = false

move_of-pull : (n : ℕ) → is_pull (move_of n) ≡ eqb n 5
move_of-pull zero = refl
move_of-pull (suc zero) = refl
move_of-pull (suc (suc zero)) = refl
move_of-pull (suc (suc (suc zero))) = refl
move_of-pull (suc (suc (suc (suc zero)))) = refl
move_of-pull (suc (suc (suc (suc (suc zero))))) = refl
move_of-pull (suc (suc (suc (suc (suc (suc zero)))))) = refl
move_of-pull (suc (suc (suc (suc (suc (suc (suc zero))))))) = refl
move_of-pull (suc (suc (suc (suc (suc (suc (suc (suc n)))))))) = sym (ne_eqb (suc (suc (suc (suc (suc (suc (suc (suc n)))))))) 5 (λ e. omega arith))

abbrev AllLive : Cabinet → Type 0
AllLive c = (b : ℕ) → dead_at c b ≡ false

returned_live : (dead : List Bool) (a : ℕ) → ((b : ℕ) → get_or dead b false ≡ false) → (b : ℕ) → get_or (set dead a false) b false ≡ false
returned_live dead a h b =
    by_lt a (length dead)
    (λ ha. by_eq b a (λ e. rw (e, get_or-set_same dead a false false ha)) (λ n. get_or-set_other dead a b false false n ∙ h b))
    (λ out. ap (λ (m : List Bool). get_or m b false) (set_out dead a false out) ∙ h b)

-- ---- one command

module _ (t : Table) (c : Cabinet) (r : Command) where
  abbrev Unhurt : Move → Cabinet → Answer → Type 0
  Unhurt m d a = is_pull m ≡ false → (is_crash a ≡ false) × (AllLive c → AllLive d)

  landed_unhurt : (p dropped : ℕ) (y : Bool) (d : Cabinet) → (AllLive c → AllLive d) → Unhurt transmit_move d (cond y (sync_kept p dropped) (sync_lost p))
  landed_unhurt p dropped true d h _ = (refl, h)
  landed_unhurt p dropped false d h _ = (refl, h)

  done_unhurt : Done t c r Unhurt
  unfolding deliver
  done_unhurt = record {
    computes = λ _ _ _ _ _. (refl, λ h. h);
    takes = λ _ _ _ _ _ _. (refl, λ h. h);
    suppresses = λ _ _ _ _ _ _ _. (refl, λ h. h);
    sends = λ _ _ _ _ _ _ _ _ _. (refl, λ h. h);
    issues = λ _ _ _ _ _. (refl, λ h. h);
    transmits = λ _ _ _ _ _ _ _. (refl, λ h. h);
    syncs = λ _ _ p s rest _. landed_unhurt p _ (protected (process_at c p)) (with_process p (keeps s (process_at c p)) (with_outbox r.a rest c)) (λ h. h);
    completes = λ _ _ _ _ _ _. (refl, λ h. h);
    injects = λ _ _ _ _. (refl, λ h. h);
    crashes = λ _ _ _ e. absurd (no_way (cc));
    rejoins = λ _ _ _. (refl, λ h. returned_live c.dead r.a h);
    rebackups = λ _ _ _ _ _ _ _ _. (refl, λ h. h);
  }

  turn_unhurt : eqb r.move 5 ≡ false → (is_crash (turn t c r).answer ≡ false) × (AllLive c → AllLive (turn t c r).cabinet)
  turn_unhurt e = yields_turn t c r Unhurt done_unhurt (λ _ why _. (refl, λ h. h)) (move_of-pull r.move ∙ e)

-- ---- any list

run_unhurt : (t : Table) (c : Cabinet) (commands : List Command) → any_barred commands ≡ false → AllLive c
    → (any_crash (run_from t c commands).answers ≡ false) × AllLive (run_from t c commands).cabinet
unfolding run_from
run_unhurt t c [] h live = (refl, live)
run_unhurt t c (r ∷ rs) h live =
    let one = or_left (eqb r.move 5) (is_undo r) (or_left (is_barred r) (any_barred rs) h) in
    let now = turn_unhurt t c r one in
    let rest = run_unhurt t (turn t c r).cabinet rs (or_right (is_barred r) (any_barred rs) h) (now.1 live) in
    (rw now.0 rest.0, rest.1)

fewer_barred : (commands : List Command) (place : ℕ) → any_barred commands ≡ false → any_barred (take place commands) ≡ false
fewer_barred commands zero h = refl
fewer_barred [] (suc place) h = refl
fewer_barred (r ∷ rs) (suc place) h = rw (or_left (is_barred r) (any_barred rs) h) (fewer_barred rs place (or_right (is_barred r) (any_barred rs) h))

module _ (t : Table) (ok : Accepted t) where
  starts_live : AllLive (started t)
  unfolding started
  starts_live b = get_or_replicate_any t.boards b false

  starts_backed : (p : ℕ) → p < length t.processes → protected (process_at (started t) p) ≡ true
  unfolding started placed
  starts_backed p h = rw (get_or_map placed t.processes p (placement_at t p) nobody h)

  -- the crash of any board at any place
  pub put_in : (commands : List Command) → any_barred commands ≡ false → (place b : ℕ) → b < t.boards
      → (turn t (finished t (take place commands)) (crash_of b)).answer ≡ crash_done
  unfolding turn perform guard run_from
  put_in commands h place b there =
      let first : List Command = take place commands in
      let unhurt = run_unhurt t (started t) first (fewer_barred commands place h) starts_live in
      let safe = backed_again ok [] first (record { no_crash = unhurt.0; each = λ p hp. rw (starts_backed p hp) }) in
      rw (next-crash t (finished t first) b safe (unhurt.1 b), lt-leb t.boards b there)
