-- `set_instruction`: six bytes at a place.
use Rattle.label_line.specs.Puts.{instruction_in}
use Rattle.label_line.proofs.set_instruction.Goals as goal

pub returns : goal.returns
unfolding instruction_in
returns c = c.put_six.ensures
