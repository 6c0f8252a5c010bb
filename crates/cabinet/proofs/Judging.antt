-- A run judged: its table, its schedule, its buffers.
use Rattle.std.specs.Prelude.{Ok, Err}
use mathlib.Core.Path.{◌≡◌, ap, sym, ◌∙◌}
use mathlib.Core.Bool.{true, cond, ◌&&◌}
use mathlib.Core.List.{List}
use Prim.Native.Nat.{ℕ, ◌*◌, ◌/◌, ◌≤◌, ◌<◌}
use native.Mathlib.Omega.{arith}
use lib.Dec.{eqb, leb}
use borrow.Author.Tests.{le-leb, lt-leb, eq-eqb, ne_eqb}
use Rattle.facts.specs.Tests.{and_both}
use Rattle.numbers.specs.Runs.{number_of, refuses}
use Rattle.numbers.specs.declared.runs.Refusal.{Refusal}
use Rattle.records.specs.Commands.{ScheduleJudged}
use Rattle.rules.specs.Format.{processes_in, validate_table}
use Rattle.rules.specs.Schedule.{commands_in, validate_schedule}
use Rattle.rules.specs.Run.{validate_run}
use Rattle.rules.proofs.Valid.{processes-counted}
use Rattle.table.specs.Plan.{Decodes}
use Rattle.table.specs.declared.Decoded.{Decoded}
use Rattle.cabinet.specs.Judged.{lengths_in, judged_buffers, RunJudged}
use Rattle.cabinet.specs.declared.judge.Lengths.{Lengths}

-- ---- the buffers

module _ (records processes : ℕ) (lengths : Lengths) where
  pub answers_short : lengths.answers / 6 < records → 11 ≡ judged_buffers records processes lengths
  unfolding judged_buffers
  answers_short h = rw (lt-leb (6 * records) lengths.answers (omega arith))

  module _ (g : records ≤ lengths.answers / 6) where
    pub reasons_short : lengths.reasons < records → 11 ≡ judged_buffers records processes lengths
    unfolding judged_buffers
    reasons_short h = rw (le-leb (6 * records) lengths.answers (omega arith), lt-leb records lengths.reasons h)

    module _ (h : records ≤ lengths.reasons) where
      enough : leb (6 * records) lengths.answers && leb records lengths.reasons ≡ true
      enough = and_both (leb (6 * records) lengths.answers) _ (le-leb (6 * records) lengths.answers (omega arith)) (le-leb records lengths.reasons h)

      pub report_short : lengths.report / 20 < processes → 12 ≡ judged_buffers records processes lengths
      unfolding judged_buffers
      report_short k = rw (enough, lt-leb (20 * processes) lengths.report (omega arith))

      module _ (k : processes ≤ lengths.report / 20) where
        pub origins_short : lengths.origins / 2 < records → 51 ≡ judged_buffers records processes lengths
        unfolding judged_buffers
        origins_short l = rw (enough, le-leb (20 * processes) lengths.report (omega arith), lt-leb (2 * records) lengths.origins (omega arith))

        pub long_enough : records ≤ lengths.origins / 2 → 0 ≡ judged_buffers records processes lengths
        unfolding judged_buffers
        long_enough l = rw (enough, le-leb (20 * processes) lengths.report (omega arith), le-leb (2 * records) lengths.origins (omega arith))

-- ---- the run

module _ (table schedule : List ℕ) (lengths : Lengths) where
  -- where neither the table nor the schedule is refused the buffers decide
  buffers_decide : 0 ≡ validate_table table → 0 ≡ validate_schedule schedule → {records processes : ℕ} → records ≡ commands_in schedule
      → processes ≡ processes_in table → judged_buffers records processes lengths ≡ validate_run table schedule (lengths_in lengths)
  unfolding validate_run judged_buffers
  buffers_decide sound valid e f = rw (e, f, eq-eqb (validate_table table) 0 (sym sound), eq-eqb (validate_schedule schedule) 0 (sym valid))

  -- refused, by its number
  refused_run : (r : Refusal) → number_of r ≡ validate_run table schedule (lengths_in lengths) → RunJudged table schedule lengths (Err r)
  refused_run r e = record { number_is = e; admitted = tt }

  pub by_table : (r : Refusal) → number_of r ≡ validate_table table → RunJudged table schedule lengths (Err r)
  unfolding validate_run
  by_table r e = refused_run r (e ∙ rw (ne_eqb (validate_table table) 0 (λ z. refuses r (e ∙ z))))

  module _ {d : Decoded} (decodes : Decodes table (Ok d)) where
    pub by_schedule : (r : Refusal) → number_of r ≡ validate_schedule schedule → RunJudged table schedule lengths (Err r)
    unfolding validate_run
    by_schedule r e =
        refused_run r
        (e ∙ rw (eq-eqb (validate_table table) 0 (sym decodes.number_is), ne_eqb (validate_schedule schedule) 0 (λ z. refuses r (e ∙ z))))

    module _ {records : ℕ} (valid : ScheduleJudged schedule (Ok records)) where
      many : records ≡ commands_in schedule
      many = valid.records_is ∙ ap (λ (n : ℕ). cond (eqb n 0) (commands_in schedule) 0) (sym valid.number_is)

      number-is : judged_buffers records d.plan.counts.processes lengths ≡ validate_run table schedule (lengths_in lengths)
      number-is =
          buffers_decide decodes.number_is valid.number_is many
          (decodes.accepted.planned.processes-is ∙ processes-counted table)

      pub by_buffers : (r : Refusal) → number_of r ≡ judged_buffers records d.plan.counts.processes lengths → RunJudged table schedule lengths (Err r)
      by_buffers r e = refused_run r (e ∙ number-is)

      pub admits : 0 ≡ judged_buffers records d.plan.counts.processes lengths
          → RunJudged table schedule lengths (Ok (record { decoded = d; records = records }))
      admits e = record { number_is = e ∙ number-is; admitted = (decodes.accepted, many) }
