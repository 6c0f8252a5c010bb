-- The loop. Whatever a record is, its answer comes after the judging: what is known there, `round`, serves every arm. Syncs, moves 5 to 7
-- and refused records meet before they are written: `meets` says what each of them comes to.
use mathlib.Core.Path.{refl, ap, sym, ◌∙◌}
use Prim.Native.Nat.{ℕ, ◌<◌}
use native.Mathlib.Omega.{arith}
use lib.ListN.{get_or, set}
use Rattle.plan.specs.Plan.{plan_of}
use Rattle.rules.specs.Moves.{Command, no_origin}
use Rattle.rules.specs.Schedule.{commands_in}
use Rattle.state.specs.Store.{blank_entry, lists_at}
use Rattle.step.specs.Parts.{sent_as}
use Rattle.step.specs.Issues.{synced_as}
use Rattle.bus.proofs.Injecting.{injects_own}
use Rattle.step.proofs.Beside.{steps_own, issues_own}
use Rattle.bus.proofs.Originating.{carried_told}
use Rattle.bus.proofs.Transmitting.{transmits_own}
use Rattle.stretch.specs.Plays.{sheets_of, RoomAt}
use Rattle.stretch.proofs.Sheets.{has_room}
use Rattle.stretch.proofs.Playing.{at_first, Turned, turned_same, on, comes_refused, comes_made, comes_mended, Round, at_last, at_undo, none-joined, one_joined, default_free}
use Rattle.stretch.proofs.Mending.{mended_inside}
use Rattle.play.proofs.play.play.Goals as goal
use Rattle.play.proofs.play.play.Goals.{After-due_of-d, in-Some, in_default-at, then-d-ne0+else-mv-eq-UNDO, else-d-ne0+in-2, in-Some-at, in_default-at-2, else-d-ne0+in_default, in-Some-at-2, in_default-at-3}

-- ---- once a record is judged

round : (c : After-due_of-d) → Round
    (plan_of c.args.table.now c.args.plan.now) c.args.schedule.now c.args.stretch.from c.last-end.result c.args.store.now c.args.stretch.entries
    (sheets_of c.args.answers.now c.args.reasons.now c.args.origins.now) c.loop-i.i c.loop-i.store c.loop-i.entries
    (sheets_of c.loop-i.answers c.loop-i.reasons c.loop-i.origins) c.due_of-d.result
round c = record {
  so_far = c.loop-i.invariant.0;
  few = (let a = c.last-end.ensures in omega arith);
  below = c.loop-i-test.true;
  due = record {
    command-is = c.due_of-d.ensures.command-is ∙ c.command_of-c.ensures;
    a_small = c.due_of-d.ensures.a_small;
    number_is = c.due_of-d.ensures.number_is;
  };
}

room : (c : After-due_of-d) → RoomAt c.loop-i.i (sheets_of c.loop-i.answers c.loop-i.reasons c.loop-i.origins)
room c = has_room c.requires c.loop-i.invariant.0.long (let a = c.last-end.ensures in let b = c.loop-i-test.true in omega arith)

pub loop-i-init : goal.loop-i-init
loop-i-init c = (at_first _ _ _ _ _ _ _, λ _. ap (λ (x : Command). x.move) c.command_at-ahead.ensures)

pub command_of-c-requires : goal.command_of-c-requires
command_of-c-requires c =
    let a = c.last-end.ensures in
    let b = c.loop-i-test.true in
    let inside : c.loop-i.i < commands_in c.args.schedule.now = omega arith in
    (inside, c.loop-i.invariant.1 inside)

pub returns-then-mv-eq-UNDO : goal.returns-then-mv-eq-UNDO
returns-then-mv-eq-UNDO c = at_undo c.last-end.ensures (round (goal.at.returns-then-mv-eq-UNDO c).After-due_of-d) c.if-mv-eq-UNDO.true

pub write-requires : goal.write-requires
write-requires c = room (goal.at.write-requires c).After-due_of-d

pub loop-i-preserved-then-m-code : goal.loop-i-preserved-then-m-code
loop-i-preserved-then-m-code c =
    let g = (goal.at.loop-i-preserved-then-m-code c).After-due_of-d in
    let q = c.loop-i in
    let m = c.step-m in (
      on (round g)
          (comes_made (round g) c.if-d-ne0.false 1 refl c.in-1.is (steps_own c.args.table.now c.args.plan.now q.store _ _ _ m.ensures.steps m.ensures.backups_stay)
          (λ t now ok holds b. (
            b,
            elim c.match-m.branch [
              | in-Some v ↦ v.entries-is
                  ∙ ap (set q.entries v.in-Some.at)
                  (v.word_entry.ensures ∙ ap (sent_as m.result.answer) (c.place_of-place.ensures (let y = ok.processes_high in omega arith)))
                  ∙ one_joined q.entries m.result.at v.in-Some.at _ v.in-Some.is
              | in_default-at v ↦ v.entries-is ∙ none-joined q.entries m.result.at _ v.in_default-at.is
            ],
          ))
          (λ t now u b asked w. refl))
          c.write.ensures,
      c.move_at-ahead.ensures,
    )

pub write-requires-in-1 : goal.write-requires-in-1
write-requires-in-1 c = room (goal.at.write-requires-in-1 c).After-due_of-d

pub loop-i-preserved-in-1 : goal.loop-i-preserved-in-1
loop-i-preserved-in-1 c =
    let g = (goal.at.loop-i-preserved-in-1 c).After-due_of-d in
    let q = c.loop-i in
    let m = c.step-m in (
      on (round g)
          (comes_made (round g) c.if-d-ne0.false 1 refl c.in-1.is (steps_own c.args.table.now c.args.plan.now q.store _ _ _ m.ensures.steps m.ensures.backups_stay)
          (λ t now ok holds b. (
            b,
            elim c.match-m.branch [
              | in-Some v ↦ v.entries-is
                  ∙ ap (set q.entries v.in-Some.at)
                  (v.word_entry.ensures ∙ ap (sent_as m.result.answer) (c.place_of-place.ensures (let y = ok.processes_high in omega arith)))
                  ∙ one_joined q.entries m.result.at v.in-Some.at _ v.in-Some.is
              | in_default-at v ↦ v.entries-is ∙ none-joined q.entries m.result.at _ v.in_default-at.is
            ],
          ))
          (λ t now u b asked w. refl))
          c.write-in-1.ensures,
      c.move_at-ahead.ensures,
    )

-- where an entry joins there is a place for it
pub bounds-entries-at : goal.bounds-entries-at
bounds-entries-at c = (c.step-m.ensures.steps c.args.plan.now.counts (lists_at c.loop-i.store)).at-inside c.in-Some.at c.in-Some.is

pub offset_bounds-entries-at : goal.offset_bounds-entries-at
offset_bounds-entries-at c =
    let h = (c.step-m.ensures.steps c.args.plan.now.counts (lists_at c.loop-i.store)).at-inside c.in-Some.at c.in-Some.is in omega arith

pub bounds-entries-at-in-Some-at : goal.bounds-entries-at-in-Some-at
bounds-entries-at-in-Some-at c = (c.issue-m.ensures.issues (plan_of c.args.table.now c.args.plan.now) (lists_at c.loop-i.store) c.loop-i.store.totals).at-inside c.in-Some-at.at c.in-Some-at.is

pub offset_bounds-entries-at-in-Some-at : goal.offset_bounds-entries-at-in-Some-at
offset_bounds-entries-at-in-Some-at c =
    let h = (c.issue-m.ensures.issues (plan_of c.args.table.now c.args.plan.now) (lists_at c.loop-i.store) c.loop-i.store.totals).at-inside c.in-Some-at.at c.in-Some-at.is in omega arith

pub bounds-entries-at-in-Some-at-2 : goal.bounds-entries-at-in-Some-at-2
bounds-entries-at-in-Some-at-2 c = mended_inside c.mend-m.ensures c.in-Some-at-2.at c.in-Some-at-2.is

pub offset_bounds-entries-at-in-Some-at-2 : goal.offset_bounds-entries-at-in-Some-at-2
offset_bounds-entries-at-in-Some-at-2 c = let h = mended_inside c.mend-m.ensures c.in-Some-at-2.at c.in-Some-at-2.is in omega arith

pub write_from-requires : goal.write_from-requires
write_from-requires c = room (goal.at.write_from-requires c).After-due_of-d

pub loop-i-preserved-in-3 : goal.loop-i-preserved-in-3
loop-i-preserved-in-3 c =
    let g = (goal.at.loop-i-preserved-in-3 c).After-due_of-d in
    let q = c.loop-i in (
      on (round g)
          (comes_made (round g) c.if-d-ne0.false 3 refl c.in-3.is (transmits_own c.transmit-r.ensures c.args.table.now)
          (λ t now ok holds b. (
            record {
              board-there = b;
              oldest-is = default_free q.entries c.oldest_of-at.result _ _ (let y = holds.shape.entries-length in let v = c.oldest_of-at.ensures.0 in omega arith)
                  ∙ ap (λ (k : ℕ). get_or q.entries k blank_entry) (c.oldest_of-at.ensures.1 (let y = ok.boards_high in omega arith));
            },
            refl,
          ))
          (λ t now u b asked w. carried_told u.reached u.planned u.holds _ b _ asked.oldest-is _ _ c.carried-o.ensures (λ e. w refl e)))
          c.write_from.ensures,
      c.move_at-ahead.ensures,
    )

pub write_from-requires-in-4 : goal.write_from-requires-in-4
write_from-requires-in-4 c = room (goal.at.write_from-requires-in-4 c).After-due_of-d

pub loop-i-preserved-in-4 : goal.loop-i-preserved-in-4
loop-i-preserved-in-4 c =
    let g = (goal.at.loop-i-preserved-in-4 c).After-due_of-d in
    let q = c.loop-i in (
      on (round g)
          (comes_made (round g) c.if-d-ne0.false 4 refl c.in-4.is (injects_own _ c.inject-r.ensures.injects c.inject-r.ensures.queues_stay c.args.table.now)
          (λ t now ok holds b. (b, refl))
          (λ t now u b asked w. sym c.fed.ensures))
          c.write_from-in-4.ensures,
      c.move_at-ahead.ensures,
    )

pub write-requires-in-loop-i : goal.write-requires-in-loop-i
write-requires-in-loop-i c = room (goal.at.write-requires-in-loop-i c).After-due_of-d

pub loop-i-preserved : goal.loop-i-preserved
loop-i-preserved c =
    let g = (goal.at.loop-i-preserved c).After-due_of-d in
    let q = c.loop-i in
    let d = c.due_of-d.result in
    let meets : Turned
    (plan_of c.args.table.now c.args.plan.now) q.store q.entries d c.if-d-ne0.store c.if-d-ne0.entries c.if-d-ne0.r no_origin =
    elim c.if-d-ne0.branch [
      | then-d-ne0+else-mv-eq-UNDO w ↦ turned_same w.store-is w.entries-is w.r-is
          (comes_refused (round g) w.if-d-ne0.true w.if-mv-eq-UNDO.false w.turned_away-r.ensures)
      | else-d-ne0+in-2 w ↦ turned_same w.store-is w.entries-is w.r-is
          (comes_made (round g) w.if-d-ne0.false 2 refl w.in-2.is (issues_own q.store _ _ _ w.issue-m.ensures.issues w.issue-m.ensures.mails_stay w.issue-m.ensures.backups_stay w.issue-m.ensures.totals_stay _)
          (λ t now ok holds b. (
            b,
            elim w.match-m-2.branch [
              | in-Some-at v ↦ v.entries-is
                  ∙ ap (set q.entries v.in-Some-at.at)
                  (v.sync_entry.ensures ∙ ap (synced_as d.a) (w.checkpoint_of-checkpoint.ensures (let y = ok.processes_high in omega arith)))
                  ∙ one_joined q.entries w.issue-m.result.at v.in-Some-at.at _ v.in-Some-at.is
              | in_default-at-2 v ↦ v.entries-is ∙ none-joined q.entries w.issue-m.result.at _ v.in_default-at-2.is
            ],
          ))
          (λ t now u b asked v. refl))
      | else-d-ne0+in_default w ↦ turned_same w.store-is w.entries-is w.r-is
          (comes_mended (round g) w.if-d-ne0.false (λ e. absurd (omega arith)) (λ e. absurd (omega arith)) (λ e. absurd (omega arith))
          (λ e. absurd (omega arith)) w.mend-m.ensures
          (elim w.match-m-3.branch [
            | in-Some-at-2 v ↦ v.entries-is ∙ ap (set q.entries v.in-Some-at-2.at) v.transfer_entry.ensures
                ∙ one_joined q.entries w.mend-m.result.at v.in-Some-at-2.at _ v.in-Some-at-2.is
            | in_default-at-3 v ↦ v.entries-is ∙ none-joined q.entries w.mend-m.result.at _ v.in_default-at-3.is
          ]))
    ] in
    (on (round g) meets c.write-in-loop-i.ensures, c.move_at-ahead.ensures)

pub returns : goal.returns
returns c = at_last c.last-end.ensures c.loop-i.invariant.0 (λ h. let a = c.loop-i-test.false in omega arith)
