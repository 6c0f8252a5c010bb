use mathlib.Core.Path.{ap, ◌∙◌, subst}
use Prim.Native.Nat.{ℕ, ◌%◌}
use lib.ListN.{get_or}
use Rattle.numbers.specs.Backup.{number_in}
use Rattle.backup.specs.Replica.{arrive}
use Rattle.backup.specs.Place.{Called}
use Rattle.plan.specs.Plan.{port_in}
use Rattle.process.specs.Row.{mail_in, packed_at}
use Rattle.process.proofs.Transferring.{copying_start, copying_on, copying_end}
use Rattle.process.proofs.transfer.copy.Goals as goal

pub loop-i-init : goal.loop-i-init
loop-i-init c = copying_start _ _ _ _ _ _

pub loop-i-preserved : goal.loop-i-preserved
loop-i-preserved c =
    let a = c.args in
    let l = c.loop-i in
    let k = c.arrive_in in
    let at = c.place.ensures in
    let channel = c.wide-k.ensures.0 ∙ c.channel_of.ensures ∙ ap (λ (j : ℕ). (mail_in (get_or a.mail.now j 0)).channel) at in
    let port = ap (λ (n : ℕ). port_in a.wires.now (n % 32)) channel in
    let word = c.word_of.ensures ∙ ap (λ (j : ℕ). (mail_in (get_or a.mail.now j 0)).word) at in
    copying_on a.mail.now a.first a.len a.wires.now a.log.now a.head.now l.log l.head l.i l.invariant (number_in k.result) k.new.log k.new.head
    c.loop-i-test.true
    (subst (λ (q : ℕ). Called l.log l.head k.new.log k.new.head (number_in k.result) (λ v. arrive v q (mail_in (packed_at a.first a.mail.now l.i)).word)) port
    (subst (λ (w : ℕ). Called l.log l.head k.new.log k.new.head (number_in k.result) (λ v. arrive v (port_in a.wires.now (c.wide-k.result % 32)) w)) word k.ensures.called))

pub returns : goal.returns
returns c =
    let a = c.args in
    let l = c.loop-i in
    copying_end a.mail.now a.first a.len a.wires.now a.log.now a.head.now l.log l.head l.i l.invariant c.loop-i-test.false
