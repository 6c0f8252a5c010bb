-- A sync in place that says only its total: as `metered_sync_in`, with what `drop_taken` does in one test.
use Rattle.std.proofs.Common.{◌≡◌, ℕ, ◌-◌, ◌%◌, ◌^◌, ◌≤◌, true, false, List, sym, refl, ap, ◌∙◌, subst, arith, Result, Ok, Err}
use Rattle.std.specs.Prelude.{is_err}
use Rattle.facts.specs.Tests.{by_eq, no_way}
use Rattle.backup.specs.Limits.{log_most}
use Rattle.backup.specs.Rounds.{all_taken}
use Rattle.backup.specs.Place.{landed_in, restated_in, sync_number_in, taken_of, Dropped, Totals, with_len}
use Rattle.backup.specs.declared.place.Head.{Head}
use Rattle.backup.specs.declared.place.Checkpoint.{Checkpoint}
use Rattle.numbers.specs.declared.backup.BackupRefusal.{BackupRefusal}
use Rattle.numbers.specs.Backup.{number_in}
use Rattle.backup.proofs.Compacting.{dropped-none, dropped_all}
use Rattle.backup.proofs.Syncing.{lands_few, sync-refused, reports-refused, sync-done, reports-done}
use Rattle.backup.proofs.place.sync_total.Goals as goal
use Rattle.backup.proofs.place.sync_total.Goals.{then-some_stay, else-some_stay}

-- refused: nothing changes, and nothing was dropped
totals-refused : {A : Type 0} (log : List ℕ) (head : Head) (c : Checkpoint) (r : Result A BackupRefusal) → number_in r ≡ sync_number_in head c → is_err r ≡ true
    → Totals log head c log head 0
totals-refused log head c (Ok x) e t = absurd (no_way (cc))
totals-refused log head c (Err r) e t =
    record { landed = Err r; called = sync-refused log head c r e; reports = reports-refused log head c r e; total-is = refl }

not-refused : {A : Type 0} (r : Result A BackupRefusal) → is_err r ≡ false → number_in r ≡ 0
not-refused (Ok x) f = refl
not-refused (Err r) f = absurd (no_way (cc))

pub returns-then-is_err : goal.returns-then-is_err
returns-then-is_err c =
    totals-refused c.args.log.now c.args.head.now c.args.c c.lands.result c.lands.ensures (sym c.is_err.ensures.value ∙ c.if-is_err.true)

pub compact-requires : goal.compact-requires
compact-requires c =
    let a = c.args in
    let z : sync_number_in a.head.now a.c ≡ 0 = sym c.lands.ensures ∙ not-refused c.lands.result (sym c.is_err.ensures.value ∙ c.if-is_err.false) in
    let few : c.restate.new.head.len ≤ log_most = rw c.restate.ensures (lands_few a.head.now a.c z) in
    let w = c.wide-len.ensures.0 in
    let inside = c.some_stay.ensures.0 c.if-some_stay.true in
    record { len_le_log_most = omega arith; all_le_len = omega arith; all_value = c.together-all.ensures }

pub returns : goal.returns
unfolding restated_in
returns c =
    let a = c.args in
    let l = a.log.now in
    let h = a.head.now in
    let z : sync_number_in h a.c ≡ 0 = sym c.lands.ensures ∙ not-refused c.lands.result (sym c.is_err.ensures.value ∙ c.if-is_err.false) in
    let all = c.together-all.ensures in
    let len = c.wide-len.ensures.0 in
    let stay = c.some_stay.ensures in
    let s = c.restate in
    let dropped : Dropped l s.new.head.len (taken_of a.c) c.if-some_stay.log =
    elim c.if-some_stay.branch [
      | then-some_stay v ↦ subst (Dropped l s.new.head.len (taken_of a.c)) (sym v.log-is)
          (subst (λ (n : ℕ). Dropped l n (taken_of a.c) v.compact.new.log) len v.compact.ensures.dropped)
      | else-some_stay v ↦ subst (Dropped l s.new.head.len (taken_of a.c)) (sym v.log-is)
          (by_eq c.together-all.result 0
          (λ e. dropped-none l s.new.head.len (taken_of a.c) refl (sym all ∙ e))
          (λ n. dropped_all l s.new.head.len (taken_of a.c) (let m = stay.1 v.if-some_stay.false (omega arith) in omega arith)))
    ] in
    let left : c.less.result ≡ s.new.head.len - all_taken (taken_of a.c) = (let m = c.less.ensures in omega arith) in
    let k = sync-done l h c.if-some_stay.log a.c z (subst (λ (x : Head). Dropped l x.len (taken_of a.c) c.if-some_stay.log) s.ensures dropped) in
    subst (λ (x : Head). Totals l h a.c c.if-some_stay.log x (c.together-all.result % 2 ^ 32))
    (sym (ap (with_len s.new.head) left ∙ ap (λ (x : Head). with_len x (x.len - all_taken (taken_of a.c))) s.ensures))
    (record {
      landed = Ok (landed_in (with_len (restated_in h a.c) ((restated_in h a.c).len - all_taken (taken_of a.c))) a.c);
      called = k;
      reports = reports-done l h a.c _ _ k refl;
      total-is = ap (λ (n : ℕ). n % 2 ^ 32) all;
    })
