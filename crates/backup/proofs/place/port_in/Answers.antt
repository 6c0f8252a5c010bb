use Rattle.std.proofs.Common.{◌∙◌, arith}
use Rattle.backup.specs.PlaceLaws.{promotion_few, port_at}
use Rattle.backup.proofs.place.port_in.Goals as goal

pub returns-then-i-lt-LOG : goal.returns-then-i-lt-LOG
returns-then-i-lt-LOG c =
    let a = c.args in
    record {
      value = λ h. c.port_of.ensures;
      by_index = λ head s l. c.port_of.ensures ∙ port_at a.log.now head s a.i l;
    }

pub returns-else-i-lt-LOG : goal.returns-else-i-lt-LOG
returns-else-i-lt-LOG c =
    let a = c.args in
    let n = c.if-i-lt-LOG.false in
    record {
      value = λ h. absurd (omega arith);
      by_index = λ head s l. absurd (let f = promotion_few a.log.now head s in omega arith);
    }
