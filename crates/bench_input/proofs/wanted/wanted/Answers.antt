use native.Mathlib.Omega.{arith}
use Rattle.bench_input.proofs.Reading.{returns_short, returns_over, returns_all}
use Rattle.bench_input.proofs.wanted.wanted.Goals as goal

pub returns-then-have-lt2 : goal.returns-then-have-lt2
returns-then-have-lt2 c = returns_short c.args.have.now c.if-have-lt2.true

pub returns-then-field-gt-TABLE_MOST : goal.returns-then-field-gt-TABLE_MOST
returns-then-field-gt-TABLE_MOST c = returns_over c.args.have.now c.length_field-field.result c.if-have-lt2.false c.length_field-field.ensures.0 c.if-field-gt-TABLE_MOST.true

pub returns : goal.returns
returns c = returns_all c.args.have.now c.length_field-field.result c.if-have-lt2.false c.length_field-field.ensures.0 (omega arith)
