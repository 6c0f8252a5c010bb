use Rattle.backup.proofs.InPlace.{count_24, count-done, count-number_24, count-number_0}
use Rattle.backup.proofs.place.count_in.Goals as goal

pub returns-then-head-ge-SENT_MOST : goal.returns-then-head-ge-SENT_MOST
returns-then-head-ge-SENT_MOST c = let h = c.args.head.now in record {
  by_index = λ log. count_24 log h c.if-head-ge-SENT_MOST.true;
  value = count-number_24 h c.if-head-ge-SENT_MOST.true;
}

pub returns : goal.returns
returns c =
    let h = c.args.head.now in
    let n = c.if-head-ge-SENT_MOST.false in
    record {
      by_index = λ log. count-done log h n;
      value = count-number_0 h n;
    }
