use Rattle.state.proofs.moved.refused.Goals as goal

pub returns : goal.returns
returns c = rw (c.alone.ensures, c.refusal.ensures)
