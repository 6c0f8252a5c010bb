use mathlib.Core.Path.{sym, ◌∙◌}
use Rattle.table.proofs.boards.placement_of.Goals as goal

pub returns-then-not-boards_ok : goal.returns-then-not-boards_ok
returns-then-not-boards_ok c =
    record { says = rw (← c.byte-primary.ensures, ← c.byte-standby.ensures) (sym c.if-not-boards_ok.true ∙ c.boards_ok.ensures); found = tt }

pub returns : goal.returns
returns c =
    record {
      says = rw (← c.byte-primary.ensures, ← c.byte-standby.ensures) (sym c.if-not-boards_ok.false ∙ c.boards_ok.ensures);
      found = record {
        primary-is = c.byte_word.ensures.0 ∙ c.byte-primary.ensures;
        standby-is = c.byte_word-2.ensures.0 ∙ c.byte-standby.ensures;
        limit_is = c.byte_word-3.ensures.0 ∙ c.limit_of.ensures;
        n_is = c.byte_word-4.ensures.0 ∙ c.program_length.ensures;
        head_is = c.record_head.ensures.0;
        size_is = c.record_length.ensures;
      };
    }
