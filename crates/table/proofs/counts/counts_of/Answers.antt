use Rattle.table.proofs.counts.counts_of.Goals as goal

pub returns : goal.returns
returns c =
    rw (c.byte_wide-3.ensures.0, c.byte-3.ensures, c.byte_wide-2.ensures.0, c.byte-2.ensures, c.byte_wide.ensures.0, c.byte.ensures)
