-- A sweep judged: a record of move 5 or 8 looked for, and the numbers in their order.
use Rattle.std.specs.Prelude.{Ok, Err}
use mathlib.Core.Path.{◌≡◌, refl, ap, sym, ◌∙◌}
use mathlib.Core.Bool.{Bool, true, false, cond, ◌||◌}
use mathlib.Core.List.{List, [], ◌∷◌}
use Prim.Native.Nat.{ℕ, zero, suc, ◌≤◌, ◌<◌}
use native.Mathlib.Omega.{arith}
use native.Mathlib.Nat.{not-suc-le-zero, le_of_suc-le-suc}
use lib.Dec.{eqb, leb}
use lib.ListN.{length, get_or}
use borrow.Author.Tests.{eq-eqb, ne_eqb, le-leb, lt-leb}
use Rattle.numbers.specs.Runs.{number_of, refuses}
use Rattle.numbers.specs.declared.runs.Refusal.{Refusal}
use Rattle.numbers.specs.declared.runs.Refusal.TheVariants.{Unswept}
use Rattle.rules.specs.Moves as rules
use Rattle.rules.specs.Sizes.{sweep_most}
use Rattle.rules.specs.Format.{validate_table}
use Rattle.rules.specs.Schedule.{commands_in, command, decode_schedule, validate_schedule}
use Rattle.rules.specs.Sweep.{is_barred, any_barred, sweepable, validate_sweep}
use Rattle.rules.proofs.Scheduled.{commands-counted}
use Rattle.records.specs.Commands.{ScheduleJudged, command_of}
use Rattle.records.specs.declared.schedule.Command.{Command}
use Rattle.table.specs.Plan.{Decodes}
use Rattle.table.specs.declared.Decoded.{Decoded}
use Rattle.sweep.specs.Judged.{SweepJudged}

-- ---- a record of move 5 or 8

barred_at : (l : List rules.Command) (i : ℕ) (d : rules.Command) → i < length l → is_barred (get_or l i d) ≡ true → any_barred l ≡ true
barred_at [] i d h e = absurd (not-suc-le-zero h)
barred_at (r ∷ l) zero d h e = rw e
barred_at (r ∷ l) (suc i) d h e = either (is_barred r) (barred_at l i d (le_of_suc-le-suc h) e)
  where
    either : (b : Bool) → any_barred l ≡ true → b || any_barred l ≡ true
    either true k = refl
    either false k = k

none_barred : (l : List rules.Command) (d : rules.Command) → ((k : ℕ) → k < length l → is_barred (get_or l k d) ≡ false) → any_barred l ≡ false
none_barred [] d h = refl
none_barred (r ∷ l) d h = rw (h zero (omega arith)) (none_barred l d (λ k j. h (suc k) (omega arith)))

pub crash_barred : (c : Command) → c.mv ≡ 5 → is_barred (command_of c) ≡ true
crash_barred c five = rw (eq-eqb c.mv 5 five)

pub undo_barred : (c : Command) → c.mv ≡ 8 → is_barred (command_of c) ≡ true
undo_barred c eight = rw (eq-eqb c.mv 8 eight) (go (eqb c.mv 5))
  where
    go : (b : Bool) → b || true ≡ true
    go true = refl
    go false = refl

module _ (schedule : List ℕ) (n : ℕ) where
  -- none of the first i is one
  abbrev pub NoneBefore : ℕ → Type 0
  NoneBefore i = (k : ℕ) → k < i → is_barred (get_or (decode_schedule schedule) k (command 0 0 0)) ≡ false

  pub barred_found : (i : ℕ) (c : Command) → i < n → command_of c ≡ get_or (decode_schedule schedule) i (command 0 0 0)
      → is_barred (command_of c) ≡ true → n ≡ commands_in schedule → true ≡ any_barred (decode_schedule schedule)
  barred_found i c h e barred many =
      let l = commands-counted schedule in
      sym (barred_at (decode_schedule schedule) i (command 0 0 0) (omega arith) (sym (ap is_barred e) ∙ barred))

  pub not_barred : (i : ℕ) (c : Command) → command_of c ≡ get_or (decode_schedule schedule) i (command 0 0 0) → (c.mv ≡ 5 → ⊥) → (c.mv ≡ 8 → ⊥)
      → is_barred (get_or (decode_schedule schedule) i (command 0 0 0)) ≡ false
  not_barred i c e other another = sym (ap is_barred e) ∙ rw (ne_eqb c.mv 5 other, ne_eqb c.mv 8 another)

  pub none_found : (i : ℕ) → NoneBefore i → n ≤ i → n ≡ commands_in schedule → false ≡ any_barred (decode_schedule schedule)
  none_found i h end many =
      let l = commands-counted schedule in
      sym (none_barred (decode_schedule schedule) (command 0 0 0) (λ k j. h k (omega arith)))

-- ---- the numbers in order

module _ (table schedule : List ℕ) where
  -- refused, by its number
  refused_sweep : (r : Refusal) → number_of r ≡ validate_sweep table schedule → SweepJudged table schedule (Err r)
  refused_sweep r e = record { number_is = e; admitted = tt }

  pub by_table : (r : Refusal) → number_of r ≡ validate_table table → SweepJudged table schedule (Err r)
  unfolding validate_sweep
  by_table r e = refused_sweep r (e ∙ rw (ne_eqb (validate_table table) 0 (λ z. refuses r (e ∙ z))))

  pub by_schedule : 0 ≡ validate_table table → (r : Refusal) → number_of r ≡ validate_schedule schedule → SweepJudged table schedule (Err r)
  unfolding validate_sweep
  by_schedule valid r e =
      refused_sweep r
      (e ∙ rw (eq-eqb (validate_table table) 0 (sym valid), ne_eqb (validate_schedule schedule) 0 (λ z. refuses r (e ∙ z))))

  module _ {d : Decoded} (decodes : Decodes table (Ok d)) where
    module _ {records : ℕ} (valid : ScheduleJudged schedule (Ok records)) where
      pub records_are : records ≡ commands_in schedule
      records_are = valid.records_is ∙ ap (λ (n : ℕ). cond (eqb n 0) (commands_in schedule) 0) (sym valid.number_is)

      pub too_many : sweep_most < records → SweepJudged table schedule (Err Unswept)
      unfolding validate_sweep sweepable
      too_many h =
          refused_sweep Unswept
          (rw (
            eq-eqb (validate_table table) 0 (sym decodes.number_is),
            eq-eqb (validate_schedule schedule) 0 (sym valid.number_is),
            lt-leb (commands_in schedule) sweep_most (let e = records_are in omega arith),
          ))

      module _ (few : records ≤ sweep_most) where
        few-commands : leb (commands_in schedule) sweep_most ≡ true
        few-commands = le-leb (commands_in schedule) sweep_most (let e = records_are in omega arith)

        pub has_barred : any_barred (decode_schedule schedule) ≡ true → SweepJudged table schedule (Err Unswept)
        unfolding validate_sweep sweepable
        has_barred b =
            refused_sweep Unswept
            (rw (
              eq-eqb (validate_table table) 0 (sym decodes.number_is),
              eq-eqb (validate_schedule schedule) 0 (sym valid.number_is),
              few-commands,
              b,
            ))

        pub admits : any_barred (decode_schedule schedule) ≡ false
            → SweepJudged table schedule (Ok (record { counts = d.plan.counts; records = records }))
        unfolding validate_sweep sweepable
        admits b =
            let planned = decodes.accepted.planned in
            let e : 0 ≡ validate_sweep table schedule =
            rw (
              eq-eqb (validate_table table) 0 (sym decodes.number_is),
              eq-eqb (validate_schedule schedule) 0 (sym valid.number_is),
              few-commands,
              b,
            ) in
            record {
              number_is = e;
              admitted = (record { valid = sym e; boards-is = planned.boards-is; processes-is = planned.processes-is }, records_are);
            }
