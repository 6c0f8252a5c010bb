-- `line_bytes`: the frame, and eleven instructions put into it.
use Rattle.label_line.proofs.Tables.{line_made}
use Rattle.label_line.proofs.line_bytes.Goals as goal

pub returns : goal.returns
returns c =
    let c10 = c in
    let c9 = c10 in
    let c8 = c9 in
    let c7 = c8 in
    let c6 = c7 in
    let c5 = c6 in
    let c4 = c5 in
    let c3 = c4 in
    let c2 = c3 in
    let c1 = c2 in
    rw (
      c.set_instruction-11.ensures,
      c10.set_instruction-10.ensures,
      c9.set_instruction-9.ensures,
      c8.set_instruction-8.ensures,
      c7.set_instruction-7.ensures,
      c6.set_instruction-6.ensures,
      c5.set_instruction-5.ensures,
      c4.set_instruction-4.ensures,
      c3.set_instruction-3.ensures,
      c2.set_instruction-2.ensures,
      c1.set_instruction.ensures,
      c1.frame-t.ensures,
    )
    (line_made c1.args.first)
