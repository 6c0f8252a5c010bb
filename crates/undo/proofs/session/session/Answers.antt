-- The loop of `session`: each round keeps `Going`. A round has a move 8, which is refused or takes a record back, or a stretch.
use mathlib.Core.Path.{◌≡◌, ap, ◌∙◌}
use Prim.Native.Nat.{◌+◌, ◌-◌, ◌<◌, min}
use native.Mathlib.Omega.{arith}
use Rattle.rules.specs.Schedule.{commands_in}
use Rattle.stretch.specs.Plays.{sheets_of, AsLong}
use Rattle.stretch.proofs.Sheets.{has_room}
use Rattle.undo.specs.History.{held_most, Fitting}
use Rattle.undo.proofs.Going.{room_less, going_first, going_last, going_refused, some-kept, going_undone, one_done_lem, stretch_fits, going_forward, going_followed}
use Rattle.std.proofs.Common.{sym}
use Rattle.undo.proofs.session.session.Goals as goal
use Rattle.undo.proofs.session.session.Goals.{After-command_at-c, After-write, After-play-left}

-- ---- once the record is read

below : (c : After-command_at-c) → c.loop-i.i < commands_in c.args.schedule.now
below c = let a = c.count-records.ensures in let b = c.loop-i-test.true in omega arith

-- ---- once a move 8 is answered

some : (c : After-write) → c.undo_answer-r.result.code ≡ 7 → 0 < c.loop-i.kept
some c seven =
    some-kept c.loop-i.invariant.1 c.command_at-c.result c.command_at-c.ensures (let a = c.count-records.ensures in let b = c.loop-i-test.true in omega arith)
    c.if-c-eq-UNDO.true c.undo_answer-r.ensures.1 c.undo_answer-r.ensures.0 c.write.ensures seven

-- ---- once a stretch is played

ends : (c : After-play-left) → c.least.result ≡ min (c.loop-i.i + (held_most - c.loop-i.held)) (commands_in c.args.schedule.now)
ends c = c.least.ensures ∙ ap (min (c.loop-i.i + (held_most - c.loop-i.held))) c.count-records.ensures

further : (c : After-play-left) → c.loop-i.i < c.play-left.result.from
further c =
    one_done_lem c.loop-i.invariant.1 c.command_at-c.result c.command_at-c.ensures (let a = c.count-records.ensures in let b = c.loop-i-test.true in omega arith)
    c.if-c-eq-UNDO.false c.loop-i.invariant.0 (ends c) c.play-left.ensures

fits : (c : After-play-left) → Fitting c.args.schedule.now c.loop-i.i c.play-left.result.from c.loop-i.held
fits c =
    stretch_fits c.loop-i.invariant.1 c.command_at-c.result c.command_at-c.ensures (let a = c.count-records.ensures in let b = c.loop-i-test.true in omega arith)
    c.if-c-eq-UNDO.false c.loop-i.invariant.0 (ends c) c.play-left.ensures

long : (c : After-play-left) → AsLong (sheets_of c.loop-i.answers c.loop-i.reasons c.loop-i.origins)
    (sheets_of c.play-left.new.answers c.play-left.new.reasons c.play-left.new.origins)
long c = record { answers-long = c.play-left.auto.answers; reasons-long = c.play-left.auto.reasons; origins-long = c.play-left.auto.origins }

pub loop-i-init : goal.loop-i-init
loop-i-init c = (omega arith, going_first _ _ _ _ _)

pub write-requires : goal.write-requires
write-requires c = has_room c.requires c.loop-i.invariant.1.long (below (goal.at.write-requires c).After-command_at-c)

pub overflow_sub-held : goal.overflow_sub-held
overflow_sub-held c = let a = some (goal.at.overflow_sub-held c).After-write (c.if-r-code.true ∙ c.code.ensures) in let b = c.loop-i.invariant.1.enough in omega arith

pub overflow_sub-kept : goal.overflow_sub-kept
overflow_sub-kept c = let a = some (goal.at.overflow_sub-kept c).After-write (c.if-r-code.true ∙ c.code.ensures) in omega arith

pub loop-i-preserved-then-r-code : goal.loop-i-preserved-then-r-code
loop-i-preserved-then-r-code c = (
  (let a = c.loop-i.invariant.0 in omega arith),
  going_undone c.loop-i.invariant.1 c.command_at-c.result c.command_at-c.ensures (below (goal.at.loop-i-preserved-then-r-code c).After-command_at-c) c.if-c-eq-UNDO.true
      c.undo_answer-r.ensures.1 c.undo_answer-r.ensures.0 c.write.ensures (c.if-r-code.true ∙ c.code.ensures) c.replay-before.ensures,
)

pub loop-i-preserved-else-r-code : goal.loop-i-preserved-else-r-code
loop-i-preserved-else-r-code c = (
  c.loop-i.invariant.0,
  going_refused c.loop-i.invariant.1 c.command_at-c.result c.command_at-c.ensures (below (goal.at.loop-i-preserved-else-r-code c).After-command_at-c) c.if-c-eq-UNDO.true
      c.undo_answer-r.ensures.1 c.undo_answer-r.ensures.0 c.write.ensures (λ e. c.if-r-code.false (e ∙ sym c.code.ensures)),
)

pub overflow_add-k : goal.overflow_add-k
overflow_add-k c = let a = below (goal.at.overflow_add-k c).After-command_at-c in omega arith

pub play-left-requires : goal.play-left-requires
play-left-requires c =
    room_less c.requires c.loop-i.invariant.1.long
    (let a = c.least.ensures in let b = c.count-records.ensures in omega arith)

pub remember-requires : goal.remember-requires
remember-requires c = fits (goal.at.remember-requires c).After-play-left

pub overflow_sub-held-in-loop-i-2 : goal.overflow_sub-held-in-loop-i-2
overflow_sub-held-in-loop-i-2 c = let a = further (goal.at.overflow_sub-held-in-loop-i-2 c).After-play-left in omega arith

pub overflow_add-held : goal.overflow_add-held
overflow_add-held c = let a = (fits (goal.at.overflow_add-held c).After-play-left).fits in omega arith

pub overflow_sub-i : goal.overflow_sub-i
overflow_sub-i c = let a = further (goal.at.overflow_sub-i c).After-play-left in omega arith

pub overflow_add-kept : goal.overflow_add-kept
overflow_add-kept c = let a = (fits (goal.at.overflow_add-kept c).After-play-left).fits in let b = c.loop-i.invariant.1.enough in omega arith

pub follow-followed-requires : goal.follow-followed-requires
follow-followed-requires c = c.remember.ensures.same_length ∙ c.loop-i.invariant.1.whole

pub loop-i-smaller-then-held-eq-HELD : goal.loop-i-smaller-then-held-eq-HELD
loop-i-smaller-then-held-eq-HELD c = let a = further (goal.at.loop-i-smaller-then-held-eq-HELD c).After-play-left in let b = c.loop-i-test.true in omega arith

pub loop-i-preserved-then-held-eq-HELD : goal.loop-i-preserved-then-held-eq-HELD
loop-i-preserved-then-held-eq-HELD c = (
  omega arith,
  going_followed
      (going_forward c.loop-i.invariant.1 c.command_at-c.result c.command_at-c.ensures (below (goal.at.loop-i-preserved-then-held-eq-HELD c).After-command_at-c) c.if-c-eq-UNDO.false c.loop-i.invariant.0
      (ends (goal.at.loop-i-preserved-then-held-eq-HELD c).After-play-left) c.play-left.ensures (long (goal.at.loop-i-preserved-then-held-eq-HELD c).After-play-left) c.remember.ensures c.least-kept.ensures)
      c.if-held-eq-HELD.true c.follow-followed.ensures,
)

pub loop-i-smaller : goal.loop-i-smaller
loop-i-smaller c = let a = further (goal.at.loop-i-smaller c).After-play-left in let b = c.loop-i-test.true in omega arith

pub loop-i-preserved : goal.loop-i-preserved
loop-i-preserved c = (
  (let a = (fits (goal.at.loop-i-preserved c).After-play-left).fits in let b = c.if-held-eq-HELD.false in omega arith),
  going_forward c.loop-i.invariant.1 c.command_at-c.result c.command_at-c.ensures (below (goal.at.loop-i-preserved c).After-command_at-c) c.if-c-eq-UNDO.false c.loop-i.invariant.0
      (ends (goal.at.loop-i-preserved c).After-play-left) c.play-left.ensures (long (goal.at.loop-i-preserved c).After-play-left) c.remember.ensures c.least-kept.ensures,
)

pub returns : goal.returns
returns c = going_last c.loop-i.invariant.1 (let a = c.loop-i-test.false in let b = c.count-records.ensures in omega arith)
