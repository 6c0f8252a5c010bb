use mathlib.Core.Path.{sym, ◌∙◌, subst}
use Prim.Native.Nat.{ℕ}
use Rattle.backup.specs.Replica.{on_ports}
use Rattle.backup.specs.Place.{messages}
use Rattle.std.proofs.Common.{◌≡◌, false}
use Rattle.backup_lent.specs.Steps.{Tallied}
use Rattle.backup_lent.proofs.Lending.{out_of_range, off_port, in_range, fits_so}
use borrow.Author.Rules.{rules}
use Rattle.backup_lent.proofs.look.Goals as goal

pub returns-then-not-within : goal.returns-then-not-within
returns-then-not-within c = let a = c.args in out_of_range a.saved.now a.head.now (search rules) (sym c.within.ensures ∙ c.if-not-within.true)

pub census-requires : goal.census-requires
census-requires c =
    let w = c.wide.ensures.0 in
    let r = in_range c.args.head.now (sym c.within.ensures ∙ c.if-not-within.false) in
    search rules

pub returns-in-Some : goal.returns-in-Some
returns-in-Some c =
    let a = c.args in
    rw c.whole.ensures
    (fits_so a.saved.now a.head.now (search rules) (search rules) (sym c.within.ensures ∙ c.if-not-within.false) c.in-Some.n
    (subst (λ (n : ℕ). Tallied a.saved.now n c.in-Some.n) c.wide.ensures.0 c.in-Some.ensures))

pub returns-in-None : goal.returns-in-None
returns-in-None c =
    let a = c.args in
    off_port a.saved.now a.head.now (search rules) (subst (λ (n : ℕ). on_ports (messages n a.saved.now) ≡ false) c.wide.ensures.0 c.in-None.ensures)
