use Rattle.std.proofs.Common.{◌≡◌, ℕ, ◌-◌, ◌≤◌, sym, refl, ap, ◌∙◌, subst, arith}
use Rattle.backup.specs.Rounds.{all_taken, sync_rounds-none, sync_rounds_all, sync_rounds-some}
use Rattle.backup.specs.Place.{view_in, taken_of, checkpoint_of, Dropped, with_len}
use Rattle.backup.proofs.InPlace.{view-length}
use Rattle.backup.proofs.Compacting.{dropped-none, dropped_all}
use Rattle.backup.proofs.place.drop_taken.Goals as goal

pub returns-then-all-eq0 : goal.returns-then-all-eq0
returns-then-all-eq0 c =
    let a = c.args in
    let z = sym c.together-all.ensures ∙ c.if-all-eq0.true in
    let n : a.head.now.len - all_taken (taken_of a.c) ≡ a.head.now.len = omega arith in
    record {
      dropped = dropped-none a.log.now a.head.now.len (taken_of a.c) refl z;
      head_after = sym (ap (with_len a.head.now) n);
      value = sym (sync_rounds-none (view_in a.log.now a.head.now) (checkpoint_of a.c) z);
    }

pub returns-then-all-len : goal.returns-then-all-len
returns-then-all-len c =
    let a = c.args in
    let w = c.wide-len.ensures.0 in
    let z = c.together-all.ensures in
    let n : c.less.result ≡ a.head.now.len - all_taken (taken_of a.c) = (let l = c.less.ensures in omega arith) in
    let few : a.head.now.len ≤ all_taken (taken_of a.c) = (let t = c.if-all-len.true in omega arith) in
    record {
      dropped = dropped_all a.log.now a.head.now.len (taken_of a.c) few;
      head_after = ap (with_len a.head.now) n;
      value = sym (sync_rounds_all (view_in a.log.now a.head.now) (checkpoint_of a.c) (λ e. c.if-all-eq0.false (z ∙ e)) (let l = view-length a.log.now a.head.now in omega arith));
    }

pub returns : goal.returns
returns c =
    let a = c.args in
    let w = c.wide-len.ensures.0 in
    let z = c.together-all.ensures in
    let n : c.less.result ≡ a.head.now.len - all_taken (taken_of a.c) = (let l = c.less.ensures in omega arith) in
    let t = c.if-all-len.false in
    let p = c.compact in
    let l = view-length a.log.now a.head.now in
    record {
      dropped = subst (λ (n : ℕ). Dropped a.log.now n (taken_of a.c) p.new.log) w p.ensures.dropped;
      head_after = ap (with_len a.head.now) n;
      value =
          p.ensures.value ∙ w ∙ sym l
          ∙ sym (sync_rounds-some (view_in a.log.now a.head.now) (checkpoint_of a.c) (λ e. c.if-all-eq0.false (z ∙ e)) (omega arith));
    }
