-- A whole run: the plan suits the table, the records are played, and what comes of it is the rules' run.
use Rattle.std.specs.Prelude.{Ok, Err}
use mathlib.Core.Path.{◌≡◌, refl, ap, sym, ◌∙◌, subst}
use mathlib.Core.Bool.{Bool, true, false, cond}
use mathlib.Core.List.{List}
use Prim.Native.Nat.{ℕ, ◌*◌, ◌≤◌}
use native.Mathlib.Omega.{arith}
use lib.Dec.{eqb}
use lib.ListN.{length}
use borrow.Author.Tests.{eqb-true, ne_eqb}
use Rattle.numbers.specs.Runs.{number_of, refuses}
use Rattle.numbers.specs.declared.runs.Refusal.{Refusal}
use Rattle.rules.specs.Transparency.{FailureTransparency}
use Rattle.table.specs.Plan.{Plans}
use Rattle.table.specs.declared.Decoded.{Decoded}
use Rattle.rules.specs.Table.{Table}
use Rattle.rules.specs.Judge.{Accepted}
use Rattle.rules.specs.Format.{decode_table}
use Rattle.rules.specs.Schedule.{commands_most, commands_in, decode_schedule}
use Rattle.rules.specs.Moves.{Command}
use Rattle.rules.specs.Undo.{opened, play_from}
use Rattle.rules.specs.Transparent.{ended}
use Rattle.rules.specs.Run.{Buffers, buffers_of, lengths_of, ran_of, validate_run, ran_from, refused_with, run, accepted}
use Rattle.rules.proofs.Valid.{processes-counted, decoded_accepted}
use Rattle.rules.proofs.AcceptedRun.{one_shown-each, table-valid, schedule_valid, answers-fit, reasons-fit, report-fits, origins-fit}
use Rattle.rules.proofs.Standing.{standing_in, ended_is}
use Rattle.rules.proofs.Theorem.{failure_transparency}
use Rattle.state.specs.declared.entry.Entry.{Entry}
use Rattle.state.specs.declared.store.Store.{Store}
use Rattle.state.specs.Moved.{Reachable}
use Rattle.plan.specs.Plan.{plan_of}
use Rattle.stretch.specs.Plays.{sheets_of, Roomy}
use Rattle.stretch.proofs.Sheets.{answers-front, reasons-front, origins-front}
use Rattle.rules.proofs.Scheduled.{commands-counted, scheduled}
use Rattle.undo.specs.Sessions.{PlaysAll}
use Rattle.outcome.specs.Starts.{Placed}
use Rattle.outcome.specs.Reports.{Reports}
use Rattle.outcome.specs.Quiets.{Quiets}
use Rattle.outcome.proofs.Reporting.{reports_own}
use Rattle.outcome.proofs.Own.{ReportsOwn, QuietsOwn}
use Rattle.outcome.proofs.Quieting.{quiets_own}
use Rattle.cabinet.specs.Conducts.{Conducts}
use Rattle.cabinet.specs.Runs.{Runs}

-- ---- an accepted run

passed : (table schedule : List ℕ) (buffers : Buffers) → validate_run table schedule (lengths_of buffers) ≡ 0 → accepted table schedule buffers ≡ true
unfolding accepted ran_from
passed table schedule buffers h = rw h

-- an accepted run has room for its records
has_room : (table schedule : List ℕ) (buffers : Buffers) → accepted table schedule buffers ≡ true
    → Roomy (commands_in schedule) (sheets_of buffers.answers buffers.reasons buffers.origins)
has_room table schedule buffers acc = record {
  answers-room = answers-fit table schedule buffers acc;
  reasons-room = reasons-fit table schedule buffers acc;
  origins-room = origins-fit table schedule buffers acc;
}

-- of a report and an answer to "quiet" that are those of the lent plan and store
module _ (table schedule : List ℕ) (d : Decoded) (answers reasons report origins answers' reasons' report' origins' : List ℕ) (s : Store)
    (entries : List Entry) (quiet : Bool)
    (plays : PlaysAll (plan_of table d.plan) schedule d.placements (sheets_of answers reasons origins) s entries (sheets_of answers' reasons' origins'))
    (reports : ReportsOwn s d.plan.counts.processes report report') (quiets : QuietsOwn table d.plan s quiet) where
  abbrev t : Table
  t = decode_table table

  abbrev commands : List Command
  commands = decode_schedule schedule

  -- the session's cabinet is one that commands reach: those that stand
  reach : Accepted t → Reachable t (ended t commands)
  reach ok = record { accepted = ok; commands = standing_in t commands; is-reached = ended_is t commands }

  pub conducts : Conducts table schedule d (buffers_of answers reasons report origins) quiet (buffers_of answers' reasons' report' origins')
  unfolding ran_from
  conducts = record {
    conducted = λ ok plans.
        let before = buffers_of answers reasons report origins in
        let acc = passed table schedule before ok in
        let at : Accepted t = decoded_accepted table (table-valid table schedule before acc) in
        let planned = plans.planned in
        let placed : Placed t d.placements d.plan.counts.processes =
        record { processes-is = planned.processes-is; placement_at_lem = λ p h. (plans.primary_at p h, plans.standby_at p h) } in
        let shown = plays.shown t at planned placed in
        let many : commands_in schedule ≡ length commands = sym (commands-counted schedule) in
        let roomy : Roomy (length (play_from t (opened t) commands).answers) (sheets_of answers reasons origins) =
        rw (one_shown-each t (opened t) commands, commands-counted schedule) (has_room table schedule before acc) in
        let room : 20 * d.plan.counts.processes ≤ length report = rw (planned.processes-is, processes-counted table) (report-fits table schedule before acc) in
        let end = ended t commands in
        let w = reports.reported t entries end (reach at) shown.holds planned.processes-is room in
        let q = quiets.answers t entries end (reach at) planned shown.holds in
        let a = answers-front shown.wrote roomy in
        let b = reasons-front shown.wrote roomy in
        let o = origins-front shown.wrote roomy in
        λ i. record { number = 0; records = many i; quiet = q i; buffers = record { answers = a i; reasons = b i; report = w i; origins = o i } };
  }

-- and of what `write_report` and `quiescent` promise
pub conducts_beside : (table schedule : List ℕ) (d : Decoded) (answers reasons report origins answers' reasons' report' origins' : List ℕ) (s : Store)
    (entries : List Entry) (quiet : Bool)
    → PlaysAll (plan_of table d.plan) schedule d.placements (sheets_of answers reasons origins) s entries (sheets_of answers' reasons' origins')
    → Reports s d.plan.counts.processes report report' → Quiets table d.plan s quiet
    → Conducts table schedule d (buffers_of answers reasons report origins) quiet (buffers_of answers' reasons' report' origins')
conducts_beside table schedule d answers reasons report origins answers' reasons' report' origins' s entries quiet plays reports quiets =
    conducts table schedule d answers reasons report origins answers' reasons' report' origins' s entries quiet plays
    (record { reported = reports_own reports; same_length = reports.same_length }) (record { answers = quiets_own quiets })

-- ---- the call

module _ (table schedule : List ℕ) (before : Buffers) where
  -- refused
  pub refuses_run : (r : Refusal) → number_of r ≡ validate_run table schedule (lengths_of before) → Runs table schedule before (Err r) before
  unfolding run refused_with
  refuses_run r e = record {
    ran = rw (← e, ne_eqb (number_of r) 0 (refuses r));
    failure_transparent = λ z. absurd (refuses r z);
  }

  module _ (ok : 0 ≡ validate_run table schedule (lengths_of before)) where
    -- not refused, it has room for its records
    pub roomy : Roomy (commands_in schedule) (sheets_of before.answers before.reasons before.origins)
    roomy = has_room table schedule before (passed table schedule before (sym ok))

    pub accepts : {d : Decoded} {records : ℕ} → Plans table d → records ≡ commands_in schedule → (quiet : Bool) (after : Buffers)
        → Conducts table schedule d before quiet after → Runs table schedule before (Ok (record { records = records; quiet = quiet })) after
    unfolding run
    accepts plans many quiet after h =
        let acc = passed table schedule before (sym ok) in
        let same : ran_of 0 _ quiet after ≡ run table schedule before =
        ap (λ (m : ℕ). ran_of 0 m quiet after) many ∙ h.conducted (sym ok) plans ∙ ap (λ (m : ℕ). cond (eqb m 0) (ran_from (decode_table table) (decode_schedule schedule) before) (refused_with m before)) ok in
        record {
          ran = same;
          failure_transparent = λ _. subst (FailureTransparency table schedule) (sym same) (failure_transparency table schedule before acc);
        }

-- ---- a run has at most 10,000 records

few_of : (b : Bool) (n : ℕ) (t : Table) (schedule : List ℕ) (buffers : Buffers) → (b ≡ true → commands_in schedule ≤ commands_most)
    → (cond b (ran_from t (decode_schedule schedule) buffers) (refused_with n buffers)).records ≤ commands_most
unfolding ran_from refused_with
few_of true n t schedule buffers h = rw (commands-counted schedule) (h refl)
few_of false n t schedule buffers h = omega arith

pub run-few : (table schedule : List ℕ) (buffers : Buffers) → (run table schedule buffers).records ≤ commands_most
unfolding run
run-few table schedule buffers =
    few_of (eqb (validate_run table schedule (lengths_of buffers)) 0) _ (decode_table table) schedule buffers
    (λ e. (scheduled schedule (schedule_valid table schedule buffers (passed table schedule buffers (eqb-true _ 0 e)))).few)
