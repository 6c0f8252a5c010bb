-- `others`: refused, fed or mended, by what judging says of the record and by its move.
use Rattle.std.proofs.Common.{refl, ap, arith}
use Rattle.rules.specs.Moves.{no_origin}
use Rattle.bus.specs.Origins.{origin_in}
use Rattle.bus.proofs.Injecting.{injects_own}
use Rattle.state.specs.Moved.{alone_of}
use Rattle.stretch.proofs.Mending.{any_entry}
use Rattle.stretch.proofs.others.others.Goals as goal

pub returns-then-d-ne0 : goal.returns-then-d-ne0
returns-then-d-ne0 c =
    let some = c.if-d-ne0.true in
    record {
      moved = alone_of c.turned_away.result;
      origin = no_origin;
      at_is = refl;
      writes = c.write.ensures;
      refused = λ _. ((refl, refl), ap alone_of c.turned_away.ensures);
      fed = λ z. absurd (some z);
      mended = λ z. absurd (some z);
    }

pub returns-in-4 : goal.returns-in-4
returns-in-4 c =
    let none = c.if-d-ne0.false in
    record {
      moved = alone_of c.inject-r.result;
      origin = origin_in c.fed.result;
      at_is = refl;
      writes = c.write_from.ensures;
      refused = λ n. absurd (n none);
      fed = λ _ _. (c.fed.ensures, λ table. any_entry refl (injects_own _ c.inject-r.ensures.injects c.inject-r.ensures.queues_stay table));
      mended = λ _ n. absurd (n c.in-4.is);
    }

pub returns-in_default : goal.returns-in_default
returns-in_default c =
    let none = c.if-d-ne0.false in
    record {
      moved = c.mend-m.result;
      origin = no_origin;
      at_is = refl;
      writes = c.write-in_default.ensures;
      refused = λ n. absurd (n none);
      fed = λ _ e. absurd (omega arith);
      mended = λ _ _. (c.mend-m.ensures, refl);
    }
