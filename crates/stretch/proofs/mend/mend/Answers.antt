-- `mend`: by the number of the move. Where no entry joins, any entry may be named as the one that would.
use mathlib.Core.Path.{refl}
use native.Mathlib.Omega.{arith}
use Rattle.rejoin.proofs.Rejoining.{rejoins_own}
use Rattle.stretch.proofs.Mending.{any_entry}
use Rattle.stretch.proofs.mend.mend.Goals as goal

pub returns-in-5 : goal.returns-in-5
returns-in-5 c =
    let is = c.in-5.is in
    record {
      crashes = λ _ table. any_entry c.alone.ensures (c.crash.ensures.crashes table);
      rejoins = λ e. absurd (omega arith);
      rebackups = λ e. absurd (omega arith);
      others = λ n _ _. absurd (n is);
    }

pub returns-in-6 : goal.returns-in-6
returns-in-6 c =
    let is = c.in-6.is in
    record {
      crashes = λ e. absurd (omega arith);
      rejoins = λ _ table. any_entry c.alone-in-6.ensures (rejoins_own c.rejoin.ensures.rejoins c.rejoin.ensures.processes_stay c.rejoin.ensures.totals_stay _);
      rebackups = λ e. absurd (omega arith);
      others = λ _ n _. absurd (n is);
    }

pub returns-in-7 : goal.returns-in-7
returns-in-7 c =
    let is = c.in-7.is in
    record {
      crashes = λ e. absurd (omega arith);
      rejoins = λ e. absurd (omega arith);
      rebackups = λ _ table. c.rebackup.ensures.rebackups table _;
      others = λ _ _ n. absurd (n is);
    }

pub returns-in_default : goal.returns-in_default
returns-in_default c =
    record {
      crashes = λ e. absurd (omega arith);
      rejoins = λ e. absurd (omega arith);
      rebackups = λ e. absurd (omega arith);
      others = λ _ _ _. (refl, c.refused_for.ensures);
    }
