-- Quiet: what one process's instruction would do, all processes in turn, and all boards in turn.
use mathlib.Core.Path.{◌≡◌, refl, ap, sym, ◌∙◌, subst}
use mathlib.Core.Bool.{Bool, true, false, not, ◌&&◌}
use mathlib.Core.List.{List, [], ◌∷◌}
use Prim.Native.Nat.{ℕ, suc, ◌+◌, ◌≤◌, ◌<◌}
use native.Mathlib.Omega.{arith}
use lib.Dec.{eqb}
use lib.ListN.{length}
use borrow.Author.Tests.{eq-eqb, ne_eqb, not-true, not-false}
use Rattle.facts.specs.Tests.{all_below, all_of}
use Rattle.facts.specs.Ranges.{all_same, all_listed}
use Rattle.facts.specs.Walks.{Walked, walk_on, walk_fails, walk_end}
use Rattle.plan.specs.declared.Plan.{Plan}
use Rattle.plan.specs.declared.Wire.{Wire}
use Rattle.plan.specs.Plan.{plan_of, Planned, start_in, length_in}
use Rattle.records.specs.Fetch.{fetched}
use Rattle.records.specs.declared.fetch.Instruction.{Instruction}
use Rattle.instruction.specs.declared.instruction.Intent.{Intent}
use Rattle.instruction.specs.declared.instruction.Intent.TheVariants.{Halted, NoMail, Internal, Take, Send}
use Rattle.process.specs.declared.process.Process as code
use Rattle.process.specs.Row.{machine_of, process_of}
use Rattle.instruction.specs.Instruction.{Fetched, Examined, outcome_of}
use Rattle.instruction.specs.Laws as laws
use Rattle.rules.specs.Table.{Table, code_of}
use Rattle.rules.specs.Machine.{local_step}
use Rattle.rules.specs.Cabinet.{Cabinet, Process, outbox_at, idle, is_empty, quiescent}
use Rattle.state.specs.declared.entry.Entry.{Entry}
use Rattle.state.specs.declared.queue.Queue.{Queue}
use Rattle.state.specs.declared.store.Store.{Store}
use Rattle.state.specs.Beside.{other_backup, with_backups}
use Rattle.state.specs.Queue.{count_in}
use Rattle.state.specs.Store.{Holds, lists_at, outbox_in}
use Rattle.state.specs.Moved.{Reachable}
use Rattle.state.proofs.Reading.{at_process, at_outbox, how_many, how_many_boards}
use Rattle.state.proofs.Reaching.{queue_length_lem}
use Rattle.outcome.specs.Quiets.{rests_of, Rests, rests_in, Hosts, AllRest, empty_in, AllEmpty, Quiets}
use Rattle.outcome.proofs.Beside.{seen_beside, its_backups}
use Rattle.outcome.proofs.Own.{hosts_own, RestingOwn, AllRestOwn, QuietsOwn}

-- ---- one process

-- an intent rests where its outcome does
rests-outcome : (x : code.Process) (c a operand : ℕ) (i : Intent) → rests_of i ≡ idle (outcome_of x c a operand i)
rests-outcome x c a operand Halted = refl
rests-outcome x c a operand NoMail = refl
rests-outcome x c a operand Internal = refl
rests-outcome x c a operand (Take at) = refl
rests-outcome x c a operand (Send channel word) = refl

pub rests_so : (table : List ℕ) (at n : ℕ) (x : code.Process) (i : Instruction) (intent : Intent) (r : Bool) → i ≡ fetched table at x.pc
    → Examined x n i.code i.a i.operand intent → r ≡ rests_of intent → Rests table at n x r
rests_so table at n x i intent r e examined is program f =
    let g = subst (λ (y : Instruction). Fetched program x n y.code y.a y.operand) (sym e) f in
    is ∙ rests-outcome x i.code i.a i.operand intent ∙ ap idle (sym (examined program g).outcome)

module _ (table : List ℕ) (plan : Plan) (s : Store) where
  -- the answer for process p, by its numbers in the plan
  abbrev pub RestsAt : ℕ → Bool → Type 0
  RestsAt p r = Rests table (start_in plan.programs p) (length_in plan.programs p) (lists_at s p) r

  pub at_plan : (p at n : ℕ) (r : Bool) → p < 16 → (p < 16 → at ≡ start_in plan.programs p) → (p < 16 → n ≡ length_in plan.programs p)
      → Rests table at n (lists_at s p) r → RestsAt p r
  at_plan p at n r l e f =
      subst (λ (k : ℕ). Rests table at n (lists_at s p) r → Rests table k (length_in plan.programs p) (lists_at s p) r) (e l)
      (subst (λ (k : ℕ). Rests table at k (lists_at s p) r) (f l))

  -- is that of the process
  rests_in_lem : {t : Table} {c : Cabinet} (p : ℕ) (r : Bool) → RestsAt p r → Hosts table plan s t c → p < length t.processes → r ≡ rests_in t c p
  unfolding process_of machine_of
  rests_in_lem {t} p r rests x l =
      let y : code.Process = lists_at s p in
      let i : Instruction = fetched table (start_in plan.programs p) y.pc in
      let f = laws.fetched t p x.reach.accepted l y i.code i.a i.operand (λ k. sym (x.planned.code_at p l y.pc k)) in
      let g = subst (λ (n : ℕ). Fetched (code_of t p) y n i.code i.a i.operand) (sym (x.planned.length_at p l)) f in
      let seen = at_process x.holds p l ∙ ap process_of (seen_beside other_backup x.others s.processes x.reach x.holds p l) in
      rests (code_of t p) g ∙ ap (λ (z : Process). idle (local_step (code_of t p) z.machine)) (sym seen)

  -- ---- all of them: the first p rest

  pub record Resting (p : ℕ) : Type 0 where
    pub walked : (t : Table) (c : Cabinet) → Hosts table plan s t c → Walked (rests_in t c) (length t.processes) p

  -- so they do of the lent plan and store themselves
  pub resting_own : {p : ℕ} → Resting p → RestingOwn table plan s p
  resting_own w = record { walked = λ t entries c x. w.walked t c (hosts_own x) }

  module _ {n : ℕ} (clamp : plan.counts.processes ≤ 16 → n ≡ plan.counts.processes) where
    n_is : {t : Table} {c : Cabinet} → Hosts table plan s t c → n ≡ length t.processes
    n_is x = let e = x.processes-is in let high = x.reach.accepted.processes_high in clamp (omega arith) ∙ e

    -- of the lent plan and store themselves,
    pub resting_on : {p : ℕ} {r : Bool} → RestingOwn table plan s p → p < n → RestsAt p r → not r ≡ false → RestingOwn table plan s (p + 1)
    resting_on {p} {r} w l rests z = record {
      walked = λ t entries c x.
          let e = n_is (hosts_own x) in
          let k : p < length t.processes = omega arith in
          walk_on (rests_in t c) (length t.processes) p r (w.walked t entries c x) k (rests_in_lem p r rests (hosts_own x) k) z;
    }

    pub resting_end : {p : ℕ} → RestingOwn table plan s p → n ≤ p → AllRestOwn table plan s true
    resting_end {p} w h = record {
      answers = λ t entries c x.
          let e = n_is (hosts_own x) in
          walk_end (rests_in t c) (length t.processes) p (w.walked t entries c x) (omega arith);
    }

    -- and of all that `Hosts` names
    pub resting_on_beside : {p : ℕ} {r : Bool} → Resting p → p < n → RestsAt p r → not r ≡ false → Resting (p + 1)
    resting_on_beside {p} {r} w l rests z = record {
      walked = λ t c x.
          let e = n_is x in
          let k : p < length t.processes = omega arith in
          walk_on (rests_in t c) (length t.processes) p r (w.walked t c x) k (rests_in_lem p r rests x k) z;
    }

    pub resting_fails : {p : ℕ} {r : Bool} → p < n → RestsAt p r → not r ≡ true → AllRest table plan s false
    resting_fails {p} {r} l rests z = record {
      answers = λ t c x.
          let e = n_is x in
          let k : p < length t.processes = omega arith in
          walk_fails (rests_in t c) (length t.processes) p r k (rests_in_lem p r rests x k) z;
    }

    pub resting_end_beside : {p : ℕ} → Resting p → n ≤ p → AllRest table plan s true
    resting_end_beside {p} w h = record {
      answers = λ t c x. let e = n_is x in walk_end (rests_in t c) (length t.processes) p (w.walked t c x) (omega arith);
    }

-- ---- the queues

module _ (queues : List Queue) (n : ℕ) where
  pub empty_on : (b : ℕ) → Walked (empty_in queues) n b → b < n → count_in queues b ≡ 0 → Walked (empty_in queues) n (b + 1)
  empty_on b w l e = walk_on (empty_in queues) n b true w l (sym (eq-eqb (count_in queues b) 0 e)) refl

  pub empty_fails : (boards b : ℕ) → (boards ≤ 16 → n ≡ boards) → b < n → (count_in queues b ≡ 0 → ⊥) → AllEmpty boards queues false
  empty_fails boards b clamp l h few =
      walk_fails (empty_in queues) n b false l (sym (ne_eqb (count_in queues b) 0 h)) refl ∙ ap (all_below (empty_in queues)) (clamp few)

  pub empty-end : (boards b : ℕ) → (boards ≤ 16 → n ≡ boards) → Walked (empty_in queues) n b → n ≤ b → AllEmpty boards queues true
  empty-end boards b clamp w h few = walk_end (empty_in queues) n b w h ∙ ap (all_below (empty_in queues)) (clamp few)

none-there : {A : Type 0} (l : List A) → is_empty l ≡ eqb (length l) 0
none-there [] = refl
none-there (x ∷ l) = sym (ne_eqb (suc (length l)) 0 (λ e. omega arith))

module _ {t : Table} {s : Store} {entries : List Entry} {c : Cabinet} (h : Holds t s entries c) where
  queues-empty : all_of is_empty c.outboxes ≡ all_below (empty_in s.queues) t.boards
  queues-empty =
      all_listed is_empty c.outboxes []
      ∙ ap (all_below (λ b. is_empty (outbox_at c b))) (how_many_boards h)
      ∙ all_same (λ b. is_empty (outbox_at c b)) (empty_in s.queues) t.boards
      (λ b l. ap is_empty (at_outbox h b l) ∙ none-there (outbox_in s.queues entries b) ∙ ap (λ (k : ℕ). eqb k 0) (queue_length_lem s.queues entries b))

  -- both together
  quiet_is : (rest empty : Bool) → rest ≡ all_below (rests_in t c) (length t.processes) → empty ≡ all_below (empty_in s.queues) t.boards
      → (rest && empty) ≡ quiescent t c
  unfolding quiescent
  quiet_is rest empty e f =
      λ j. (e ∙ ap (all_below (rests_in t c)) (sym (how_many h))) j && (f ∙ sym queues-empty) j

-- quiet, of the lent plan and store themselves,
module _ (table : List ℕ) (plan : Plan) (s : Store) (r : Bool) (rest : AllRestOwn table plan s r) where
  resting : {t : Table} {entries : List Entry} {c : Cabinet} → Reachable t c → Planned t (plan_of table plan) → Holds t s entries c
      → r ≡ all_below (rests_in t c) (length t.processes)
  resting {t} {entries} {c} reach planned holds = rest.answers t entries c (record { reach = reach; planned = planned; holds = holds })

  pub quiets_not : not r ≡ true → QuietsOwn table plan s false
  quiets_not z = record {
    answers = λ t entries c reach planned holds.
        quiet_is holds false (all_below (empty_in s.queues) t.boards) (sym (not-true r z) ∙ resting reach planned holds) refl;
  }

  pub quiets_so : (q : Bool) → not r ≡ false → AllEmpty plan.counts.boards s.queues q → QuietsOwn table plan s q
  quiets_so q z empty = record {
    answers = λ t entries c reach planned holds.
        let e = planned.boards-is in
        let high = reach.accepted.boards_high in
        quiet_is holds true q (sym (not-false r z) ∙ resting reach planned holds) (empty (omega arith) ∙ ap (all_below (empty_in s.queues)) e);
  }

-- and of every plan and store that are the lent ones but for wires, backups and totals
module _ (table : List ℕ) (plan : Plan) (s : Store) (r : Bool) (rest : AllRest table plan s r) where
  all_rest_at : (wires : List Wire) (others : ℕ → code.Process) (totals : List ℕ)
      → AllRestOwn table (record plan { wires = wires }) (record (with_backups others s) { totals = totals }) r
  all_rest_at wires others totals = record {
    answers = λ t entries c x.
        rest.answers t c
        (record {
          counts = plan.counts;
          wires = wires;
          others = others;
          queues = s.queues;
          totals = totals;
          entries = entries;
          reach = x.reach;
          planned = x.planned;
          processes-is = x.planned.processes-is;
          holds = x.holds;
        });
  }

  pub quiets_not_beside : not r ≡ true → Quiets table plan s false
  quiets_not_beside z = record { answers = λ t wires others totals. (quiets_not table _ _ r (all_rest_at wires others totals) z).answers t }

  pub quiets_so_beside : (q : Bool) → not r ≡ false → AllEmpty plan.counts.boards s.queues q → Quiets table plan s q
  quiets_so_beside q z empty = record { answers = λ t wires others totals. (quiets_so table _ _ r (all_rest_at wires others totals) q z empty).answers t }

-- and of the lent plan and store themselves
pub quiets_own : {table : List ℕ} {plan : Plan} {s : Store} {r : Bool} → Quiets table plan s r → (t : Table) (entries : List Entry) (c : Cabinet)
    → Reachable t c → Planned t (plan_of table plan) → Holds t s entries c → r ≡ quiescent t c
quiets_own {table} {plan} {s} q t entries c reach planned holds =
    q.answers t plan.wires (lists_at s) s.totals entries c reach planned (subst (λ (x : Store). Holds t x entries c) (sym (its_backups s)) holds)
