use mathlib.Core.Path.{refl}
use Rattle.records.proofs.Judged.{short_9, field_9, broken_9, many_9, tested, version_10, accepted_0}
use native.Mathlib.Omega.{arith}
use Rattle.records.proofs.schedule.judge_schedule.Goals as goal

pub returns-then-len-lt-FIRST_COMMAND : goal.returns-then-len-lt-FIRST_COMMAND
returns-then-len-lt-FIRST_COMMAND c = short_9 _ _ c.if-len-lt-FIRST_COMMAND.true (refl, refl)

pub overflow_add-field : goal.overflow_add-field
overflow_add-field c = omega (arith, c.pair-field.ensures.0, c.shared_slice_known-3-1.given 0, c.shared_slice_known-3-1.given 1)

pub returns-then-field-len : goal.returns-then-field-len
returns-then-field-len c = field_9 _ _ _ c.pair-field.ensures.0 c.if-field-len.true (refl, refl)

pub returns-then-records-len : goal.returns-then-records-len
returns-then-records-len c = broken_9 _ _ c.if-records-len.true (refl, refl)

pub returns-then-records-gt-COMMANDS_MOST : goal.returns-then-records-gt-COMMANDS_MOST
returns-then-records-gt-COMMANDS_MOST c = many_9 _ _ c.if-records-gt-COMMANDS_MOST.true (refl, refl)

pub returns-then-version-ne1 : goal.returns-then-version-ne1
returns-then-version-ne1 c = version_10 _ _ (tested _ _ c.pair-field.ensures.0 c.if-len-lt-FIRST_COMMAND.false c.if-field-len.false c.if-records-len.false c.if-records-gt-COMMANDS_MOST.false) c.if-version-ne1.true (refl, refl)

pub returns : goal.returns
returns c = accepted_0 _ _ (tested _ _ c.pair-field.ensures.0 c.if-len-lt-FIRST_COMMAND.false c.if-field-len.false c.if-records-len.false c.if-records-gt-COMMANDS_MOST.false) c.if-version-ne1.false refl refl
