-- The call: refused with a number alone, or the three counts of all runs.
use Rattle.std.specs.Prelude.{Result, Ok, Err, IfOk}
use mathlib.Core.Path.{◌≡◌, refl, ap, sym, ◌∙◌}
use mathlib.Core.Bool.{Bool, true, false, cond}
use mathlib.Core.List.{List}
use Prim.Native.Nat.{ℕ, suc, ◌+◌, ◌*◌, ◌≤◌}
use native.Mathlib.Omega.{arith}
use native.Mathlib.Nat.{mul-le-mul_left, mul-le-mul_right}
use lib.Dec.{eqb}
use lib.ListN.{length}
use borrow.Author.Tests.{eqb-true, ne_eqb}
use Rattle.numbers.specs.Runs.{number_of, refuses}
use Rattle.numbers.specs.declared.runs.Refusal.{Refusal}
use Rattle.rules.specs.Sizes.{sweep_most, boards_most}
use Rattle.rules.specs.Table.{Table}
use Rattle.rules.specs.Moves.{Command}
use Rattle.rules.specs.Format.{decode_table}
use Rattle.rules.specs.Schedule.{commands_in, decode_schedule}
use Rattle.rules.specs.Sweep as rules
use Rattle.rules.specs.Sweep.{count_of, is_quiet, is_held, is_free, validate_sweep, sweep}
use Rattle.rules.proofs.Sweep.{three-together, swept-together}
use Rattle.rules.proofs.Valid.{decoded_accepted}
use Rattle.rules.proofs.Scheduled.{commands-counted}
use Rattle.plan.specs.declared.Counts.{Counts}
use Rattle.sweep.specs.Counted.{Counted, count_places, Admitted}
use Rattle.sweep.specs.Sweeps.{runs_most, swept_by, Sweeps}
use Rattle.sweep.specs.declared.tally.Tally.{Tally}
use Rattle.sweep.proofs.Admitting.{table-sound, records-few}

-- ---- the three together

together_so : (table schedule : List ℕ) (x : Tally) → swept_by (Ok x) ≡ sweep table schedule
    → x.quiet + (x.held + x.free) ≡ suc (length (decode_schedule schedule)) * (decode_table table).boards
together_so table schedule x e =
    let q = ap (λ (y : rules.Swept). y.quiet) e in
    let h = ap (λ (y : rules.Swept). y.held) e in
    let f = ap (λ (y : rules.Swept). y.free) e in
    let n = ap (λ (y : rules.Swept). y.number) e in
    let s = swept-together table schedule (sym n) in
    (λ i. q i + (h i + f i)) ∙ s

-- ---- and they are few

few_so : (table schedule : List ℕ) (b : Bool) → eqb (validate_sweep table schedule) 0 ≡ b → (t : Table) (commands : List Command) → t ≡ decode_table table
    → commands ≡ decode_schedule schedule → (r : rules.Swept)
    → r ≡ cond b (rules.swept_of 0 (count_of is_quiet t commands) (count_of is_held t commands) (count_of is_free t commands)) (rules.swept_of (validate_sweep table schedule) 0 0 0)
    → r.quiet + (r.held + r.free) ≤ runs_most
few_so table schedule true v t commands is-t is-commands r e =
    let valid = eqb-true (validate_sweep table schedule) 0 v in
    let places : suc (length commands) ≤ suc sweep_most =
    rw is-commands (let a = commands-counted schedule in let b = records-few table schedule valid in omega arith) in
    let boards : t.boards ≤ boards_most = rw is-t (decoded_accepted table (table-sound table schedule valid)).boards_high in
    let a = mul-le-mul_right {m = suc (length commands)} {n = suc sweep_most} t.boards places in
    let b = mul-le-mul_left {m = t.boards} {n = boards_most} (suc sweep_most) boards in
    let all = three-together t commands in
    rw e (omega arith)
few_so table schedule false v t commands is-t is-commands r e = rw e (omega arith)

pub swept-few : (table schedule : List ℕ) (r : Result Tally Refusal) → Sweeps table schedule r → IfOk r (λ x. x.quiet + (x.held + x.free) ≤ runs_most)
unfolding sweep
swept-few table schedule (Err r) h = tt
swept-few table schedule (Ok x) h =
    few_so table schedule (eqb (validate_sweep table schedule) 0) refl (decode_table table) (decode_schedule schedule) refl refl (swept_by (Ok x)) h.swept

-- ---- the call

module _ (table schedule : List ℕ) where
  pub refuses_sweep : (r : Refusal) → number_of r ≡ validate_sweep table schedule → Sweeps table schedule (Err r)
  unfolding sweep
  refuses_sweep r e = record { swept = rw (← e, ne_eqb (number_of r) 0 (refuses r)); together = tt }

  -- all runs, counted
  counts_so : (x : Tally) → validate_sweep table schedule ≡ 0
      → Counted (count_places (decode_table table) (decode_schedule schedule) (suc (length (decode_schedule schedule)))) x
      → swept_by (Ok x) ≡ sweep table schedule
  unfolding sweep count_of
  counts_so x valid c = rw (valid, c.quiet_is, c.held-is, c.free-is)

  pub sweeps : {counts : Counts} → Admitted table schedule counts → {records : ℕ} → records ≡ commands_in schedule → (x : Tally)
      → Counted (count_places (decode_table table) (decode_schedule schedule) (suc records)) x → Sweeps table schedule (Ok x)
  sweeps ok is-records x c =
      let many : _ ≡ length (decode_schedule schedule) = is-records ∙ sym (commands-counted schedule) in
      let so = counts_so x ok.valid (rw many at c) in
      record { swept = so; together = together_so table schedule x so }
