-- The call: refused with a number alone, or the view of the cabinet that the records leave, at the front of the lent list.
use Rattle.std.specs.Prelude.{Ok, Err}
use mathlib.Core.Path.{◌≡◌, ap, sym, ◌∙◌}
use mathlib.Core.List.{List, ◌++◌}
use Prim.Native.Nat.{ℕ, ◌+◌, ◌≤◌, ◌<◌}
use native.Mathlib.Omega.{arith}
use lib.Dec.{leb}
use lib.ListN.{length, drop}
use lib.Seq.{sets, sets-eq}
use borrow.Author.Tests.{eq-eqb, ne_eqb, le-leb, lt-leb, leb-true}
use Rattle.numbers.specs.Runs.{number_of, refuses}
use Rattle.numbers.specs.declared.runs.Refusal.{Refusal}
use Rattle.numbers.specs.declared.runs.Refusal.TheVariants.{ViewShort}
use Rattle.table.specs.Plan.{Plans, Decodes}
use Rattle.table.specs.declared.Decoded.{Decoded}
use Rattle.rules.specs.Bytes.{written}
use Rattle.rules.specs.Table.{Table}
use Rattle.rules.specs.Judge.{Accepted}
use Rattle.rules.specs.Transparent.{ended}
use Rattle.rules.specs.Format.{validate_table, decode_table}
use Rattle.rules.specs.Schedule.{commands_in, validate_schedule, decode_schedule}
use Rattle.rules.proofs.Valid.{test_passed, decoded_accepted}
use Rattle.rules.proofs.AcceptedRun.{number_passed}
use Rattle.rules.proofs.Scheduled.{scheduled}
use Rattle.plan.specs.Plan.{plan_of}
use Rattle.outcome.specs.Starts.{Placed}
use Rattle.state.specs.declared.entry.Entry.{Entry}
use Rattle.state.specs.declared.store.Store.{Store}
use Rattle.stretch.specs.Plays.{Sheets, sheets_of, Roomy}
use Rattle.undo.specs.Sessions.{PlaysAll}
use Rattle.layout.specs.View.{view_most, viewed_of, view, validate_view, viewed}
use Rattle.layout.specs.Lists.{view_of}
use Rattle.view.specs.Judged.{ViewJudged}
use Rattle.view.specs.Shows.{Shows}
use Rattle.view.specs.Views.{Views}
use Rattle.layout.proofs.Whole.{view-is, view-long}

-- ---- the number

module _ (table schedule : List ℕ) (room : ℕ) where
  -- refused, by its number
  refused_view : (r : Refusal) → number_of r ≡ validate_view table schedule room → ViewJudged table schedule room (Err r)
  refused_view r e = record { number_is = e; decoded = tt }

  pub by_table : (r : Refusal) → number_of r ≡ validate_table table → ViewJudged table schedule room (Err r)
  unfolding validate_view
  by_table r e = refused_view r (e ∙ rw (ne_eqb (validate_table table) 0 (λ z. refuses r (e ∙ z))))

  pub by_schedule : 0 ≡ validate_table table → (r : Refusal) → number_of r ≡ validate_schedule schedule → ViewJudged table schedule room (Err r)
  unfolding validate_view
  by_schedule valid r e =
      refused_view r
      (e ∙ rw (eq-eqb (validate_table table) 0 (sym valid), ne_eqb (validate_schedule schedule) 0 (λ z. refuses r (e ∙ z))))

  module _ {d : Decoded} (decodes : Decodes table (Ok d)) where
    module _ (valid : 0 ≡ validate_schedule schedule) where
      pub too_short : room < view_most → ViewJudged table schedule room (Err ViewShort)
      unfolding validate_view
      too_short h =
          refused_view ViewShort
          (rw (eq-eqb (validate_table table) 0 (sym decodes.number_is), eq-eqb (validate_schedule schedule) 0 (sym valid), lt-leb view_most room h))

      pub long_enough : view_most ≤ room → ViewJudged table schedule room (Ok d)
      unfolding validate_view
      long_enough h = record {
        number_is =
            rw (eq-eqb (validate_table table) 0 (sym decodes.number_is), eq-eqb (validate_schedule schedule) 0 (sym valid), le-leb view_most room h);
        decoded = decodes.accepted;
      }

-- ---- what is accepted

module _ (table schedule : List ℕ) (room : ℕ) (valid : validate_view table schedule room ≡ 0) where
  table-sound : validate_table table ≡ 0
  unfolding validate_view
  table-sound = (number_passed (validate_table table) _ valid).0

  schedule_sound : validate_schedule schedule ≡ 0
  unfolding validate_view
  schedule_sound = (number_passed (validate_schedule schedule) _ (number_passed (validate_table table) _ valid).1).0

  room-enough : view_most ≤ room
  unfolding validate_view
  room-enough =
      leb-true view_most room
      (test_passed (leb view_most room) 53 0 (number_passed (validate_schedule schedule) _ (number_passed (validate_table table) _ valid).1).1)

-- ---- the view at the front of the list

front : (v out : List ℕ) → length v ≤ length out → sets out 0 v ≡ written v out
front v out h =
    let z : 0 + length v ≡ length v = omega arith in
    sets-eq v out 0 (omega arith) ∙ ap (λ (n : ℕ). v ++ drop n out) z

module _ (table schedule : List ℕ) (d : Decoded) (before after : List ℕ) (s : Store) (entries : List Entry) (sheets sheets' : Sheets)
    (plays : PlaysAll (plan_of table d.plan) schedule d.placements sheets s entries sheets')
    (laid : after ≡ sets before 0 (view_of d.plan.counts s entries)) where
  pub shows : Shows table schedule d before after
  shows = record {
    shown = λ ok plans.
        let t : Table = decode_table table in
        let at : Accepted t = decoded_accepted table (table-sound table schedule (length before) ok) in
        let planned = plans.planned in
        let placed : Placed t d.placements d.plan.counts.processes =
        record { processes-is = planned.processes-is; placement_at_lem = λ p h. (plans.primary_at p h, plans.standby_at p h) } in
        let shown = plays.shown t at planned placed in
        let is : view_of d.plan.counts s entries ≡ view t (ended t (decode_schedule schedule)) = view-is at planned shown.holds in
        let long : length (view t (ended t (decode_schedule schedule))) ≡ view_most = sym (ap (λ (x : List ℕ). length x) is) ∙ view-long d.plan.counts s entries in
        let room = room-enough table schedule (length before) ok in
        laid ∙ ap (λ (x : List ℕ). sets before 0 x) is ∙ front (view t (ended t (decode_schedule schedule))) before (omega arith);
  }

-- ---- the call

module _ (table schedule before : List ℕ) where
  pub refuses_view : (r : Refusal) → number_of r ≡ validate_view table schedule (length before) → Views table schedule before (number_of r) before
  unfolding viewed
  refuses_view r e = rw (← e, ne_eqb (number_of r) 0 (refuses r))

  module _ (ok : 0 ≡ validate_view table schedule (length before)) where
    -- not refused, there is room for a view, and in lists of 10,000 records for what all records answer
    pub room_for_view : view_most ≤ length before
    room_for_view = room-enough table schedule (length before) (sym ok)

    pub room_for_answers : (answers reasons origins : List ℕ) → length answers ≡ 60000 → length reasons ≡ 10000 → length origins ≡ 20000
        → Roomy (commands_in schedule) (sheets_of answers reasons origins)
    room_for_answers answers reasons origins la lr lo =
        let few : commands_in schedule ≤ 10000 = (scheduled schedule (schedule_sound table schedule (length before) (sym ok))).few in
        record { answers-room = omega arith; reasons-room = omega arith; origins-room = omega arith }

    pub accepts : {d : Decoded} → Plans table d → (after : List ℕ) → Shows table schedule d before after → Views table schedule before 0 after
    unfolding viewed
    accepts plans after h = rw (← ok) (ap (viewed_of 0) (h.shown (sym ok) plans))
