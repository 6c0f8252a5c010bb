use native.Mathlib.Omega.{arith}
use Rattle.label_line.proofs.Tables.{makes, refuses}
use Rattle.label_line.proofs.make_table.Goals as goal

pub returns-then-first-gt-SERIAL_MOST : goal.returns-then-first-gt-SERIAL_MOST
returns-then-first-gt-SERIAL_MOST c = refuses c.args.first c.if-first-gt-SERIAL_MOST.true

pub returns : goal.returns
returns c = makes c.args.first (omega arith) c.if-first-gt-SERIAL_MOST.false c.line_bytes.ensures
