-- Rolling forward ends: by steps of its own, none of them refused, a process with hold-back has none left (specs/Progress.antt).
use mathlib.Core.Path.{◌≡◌, refl, ap, sym, ◌∙◌}
use mathlib.Core.Bool.{true, false}
use mathlib.Core.Option.{none}
use mathlib.Core.List.{List, [], ◌∷◌}
use Prim.Native.Nat.{ℕ, zero, suc, ◌≤◌, ◌<◌}
use native.Mathlib.Omega.{arith}
use lib.ListN.{length, replicate}
use lib.Seq.{get_or-set_same, lt-length-set, set-get_or, set-set}
use Rattle.facts.specs.Tests.{and_left, and_both}
use Rattle.rules.specs.Table.{Table, code_of, port_of}
use Rattle.rules.specs.Machine.{Machine, Act, internal, took, sent, moved, local_step}
use Rattle.rules.specs.Reference.{Reference}
use Rattle.rules.specs.Cabinet.{Since, Process, Item, Cabinet, nobody, process_at, is_some, limited, exhausted, overrun, owing}
use Rattle.rules.specs.Moves.{Command, Answer, step_done, received, suppressed, numbers, guard, with_process, advanced, counting, one_done}
use Rattle.rules.specs.Moves.{one_taken, send, step_from, Turn, turn, run_from}
use Rattle.rules.specs.Judge.{Accepted}
use Rattle.rules.specs.Transparent.{finished}
use Rattle.progress.specs.Progress.{step_of, is_done, AllDone, CatchesUp}
use Rattle.rules.proofs.Runs.{Run, here, more, one_send, sends}
use Rattle.rules.proofs.Good.{Good, backed, alone, late, Late}
use Rattle.rules.proofs.Invariant.{Invariant, in_table}
use Rattle.rules.proofs.Start.{reached}
use Rattle.progress.proofs.Progress.{turned, step-turn, then_done}

-- ---- steps without a backup

unchanged : (c : Cabinet) (p : ℕ) → c ≡ with_process p (process_at c p) c
unchanged c p = ap (λ (l : List Process). record { processes = l; outboxes = c.outboxes; dead = c.dead }) (sym (set-get_or c.processes p nobody))

module _ (t : Table) (p : ℕ) (hp : p < length t.processes) where
  -- one step of it is done, which leaves machine m and n sends to suppress
  record Rolled (c : Cabinet) (m : Machine) (n : ℕ) : Type 0 where
    pub since : Since
    pub answer : Answer
    pub is : turn t c (step_of p) ≡ turned (with_process p (advanced m since n (process_at c p)) c) answer
    pub done : is_done answer ≡ true

  -- without a backup nothing is owed
  roll_one : (c : Cabinet) (k : Act) (m : Machine) (n : ℕ) → (process_at c p).standby ≡ none → local_step (code_of t p) (process_at c p).machine ≡ moved m k
      → (process_at c p).suppress ≡ one_send k n → Rolled c m n
  unfolding step_from send guard overrun exhausted owing numbers
  roll_one c internal m n bare e z =
      let free : limited (process_at c p) ≡ false = ap is_some bare in
      record {
        since = counting one_done (process_at c p);
        answer = step_done;
        is = step-turn t c p hp ∙ rw (e, free, z);
        done = refl;
      }
  roll_one c (took x) m n bare e z =
      let free : limited (process_at c p) ≡ false = ap is_some bare in
      record {
        since = counting (one_taken (port_of t p x.channel)) (process_at c p);
        answer = received x;
        is = step-turn t c p hp ∙ rw (e, free, z);
        done = refl;
      }
  roll_one c (sent x) m n bare e z =
      record { since = (process_at c p).since; answer = suppressed x; is = step-turn t c p hp ∙ rw (e, z); done = refl }

  -- along a run, whose sends are all suppressed
  record Rolls (c : Cabinet) (n : ℕ) : Type 0 where
    pub done : AllDone t c (replicate n (step_of p))
    pub process : Process
    pub caught_up : process.suppress ≡ 0
    pub only : (run_from t c (replicate n (step_of p))).cabinet ≡ with_process p process c

  only_then : (c : Cabinet) (y z : Process) (rs : List Command) (a : Answer) → turn t c (step_of p) ≡ turned (with_process p y c) a
      → (run_from t (with_process p y c) rs).cabinet ≡ with_process p z (with_process p y c) → (run_from t c (step_of p ∷ rs)).cabinet ≡ with_process p z c
  unfolding run_from
  only_then c y z rs a e f =
      ap (λ (u : Turn). (run_from t u.cabinet rs).cabinet) e
      ∙ f
      ∙ ap (λ (q : List Process). record { processes = q; outboxes = c.outboxes; dead = c.dead }) (set-set c.processes p y z)

  roll : {a b : Machine} {acts : List Act} → Run (code_of t p) a acts b → (c : Cabinet) → p < length c.processes → (process_at c p).machine ≡ a
      → (process_at c p).standby ≡ none → (process_at c p).suppress ≡ sends acts → Rolls c (length acts)
  unfolding run_from advanced
  roll here c l at bare z = record { done = refl; process = process_at c p; caught_up = z; only = unchanged c p }
  roll (more {m1 = m1} {k = k} {ks = ks} e r) c l at bare z =
      let v = roll_one c k m1 (sends ks) bare (ap (local_step (code_of t p)) at ∙ e.is) z in
      let y : Process = advanced m1 v.since (sends ks) (process_at c p) in
      let d : Cabinet = with_process p y c in
      let now : process_at d p ≡ y = get_or-set_same c.processes p y nobody l in
      let w = roll r d (lt-length-set c.processes p y l) (ap (λ (u : Process). u.machine) now) (ap (λ (u : Process). u.standby) now ∙ bare)
      (ap (λ (u : Process). u.suppress) now) in
      record {
        done = then_done t c (step_of p) (replicate (length ks) (step_of p)) d v.answer v.is v.done w.done;
        process = w.process;
        caught_up = w.caught_up;
        only = only_then c y w.process (replicate (length ks) (step_of p)) v.answer v.is w.only;
      }

module _ {t : Table} {c : Cabinet} {s : Reference} (inv : Invariant t c s) {p : ℕ} (hp : p < length c.processes) where
  late_rolls : {items : List Item} {m : Machine} → Late t p items (process_at c p) m → CatchesUp t c p
  late_rolls h =
      let v = roll t p (in_table inv hp) h.replay.ran c hp refl h.no_standby h.replay.sent_so in
      record { steps = length h.acts; few = h.short; done = v.done; process = v.process; caught_up = v.caught_up; only = v.only }

  level : (process_at c p).suppress ≡ 0 → CatchesUp t c p
  unfolding run_from
  level z = record { steps = 0; few = omega arith; done = refl; process = process_at c p; caught_up = z; only = unchanged c p }

  rolls : {items : List Item} {m : Machine} → Good t p items (process_at c p) m → CatchesUp t c p
  rolls (backed h) = level h.no_suppress
  rolls (alone h) = level h.no_suppress
  rolls (late h) = late_rolls h

-- the first of those steps
first_done : (t : Table) (c : Cabinet) (p : ℕ) → p < length c.processes → 1 ≤ (process_at c p).suppress → (n : ℕ) (y : Process)
    → AllDone t c (replicate n (step_of p)) → y.suppress ≡ 0 → (run_from t c (replicate n (step_of p))).cabinet ≡ with_process p y c → AllDone t c (step_of p ∷ [])
unfolding run_from
first_done t c p hp left zero y done z only =
    let same : process_at c p ≡ y = ap (λ (d : Cabinet). process_at d p) only ∙ get_or-set_same c.processes p y nobody hp in
    absurd (let a = ap (λ (u : Process). u.suppress) same in omega arith)
first_done t c p hp left (suc n) y done z only = and_both (is_done (turn t c (step_of p)).answer) true (and_left _ _ done) refl

-- ---- of every state that commands reach

module _ {t : Table} (ok : Accepted t) (commands : List Command) where
  -- each process, by at most 64 steps of its own, has nothing left to hold back
  pub catches_up : (p : ℕ) → p < length t.processes → CatchesUp t (finished t commands) p
  catches_up p h =
      let inv = (reached t ok commands).follows.invariant in
      let hp : p < length (finished t commands).processes = rw inv.all_processes h in
      rolls inv hp (inv.good p hp)

  -- as long as it has, its step is never refused: it is not halted and waits for no word, no sync is owed, and no queue or channel stops it
  pub held_back_steps : (p : ℕ) → p < length t.processes → 1 ≤ (process_at (finished t commands) p).suppress
      → AllDone t (finished t commands) (step_of p ∷ [])
  held_back_steps p h left =
      let v = catches_up p h in
      first_done t (finished t commands) p (rw (reached t ok commands).follows.invariant.all_processes h) left v.steps v.process v.done v.caught_up v.only
