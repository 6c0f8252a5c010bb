-- The calls by value: a backup is laid out as a log and a head, called there, and put together again.
use mathlib.Core.Path.{◌≡◌, refl, ap, sym, ◌∙◌}
use mathlib.Core.Bool.{Bool, true, false}
use mathlib.Core.List.{List, [], ◌∷◌, ◌++◌}
use Prim.Native.Nat.{ℕ}
use lib.ListN.{get_or}
use Rattle.std.proofs.Common.{Ok, Err}
use Rattle.facts.specs.Lists.{written_out}
use Rattle.numbers.specs.declared.backup.BackupRefusal.{BackupRefusal}
use Rattle.numbers.specs.Backup.{number_of}
use Rattle.backup.specs.Limits.{ports}
use Rattle.backup.specs.Replica as value
use Rattle.backup.specs.Replica.{Replica, no_registers, fit, fail_over, sync, sync_number, synced}
use Rattle.backup.specs.Accepts.{answer-number, fail_over_accepted, fail_over_unfit}
use Rattle.backup.specs.Report.{Report, no_report, sync_report}
use Rattle.backup.proofs.InPlace.{some-number}
use Rattle.backup.proofs.ReportLaws.{sync_report-refused}
use Rattle.backup_lent.specs.Lent as lent
use Rattle.backup_lent.specs.Lent.{HandsOver, told}
use Rattle.backup_lent.proofs.Lending.{four-ports}
use Rattle.backup_value.specs.Value.{view, promoted_by, head_of, backup_of, Answered}
use Rattle.backup_value.specs.declared.Backup.{Backup}

-- a struct and its two lists stand for the same value
pub view_laid : (b : Backup) → lent.view_in b.log (head_of b) ≡ view b
unfolding view lent.view_in
view_laid b = refl

view_closed : (log head : List ℕ) → view (backup_of log head) ≡ lent.view_in log head
unfolding view lent.view_in
view_closed log head = refl

module _ (b : Backup) (log' head' : List ℕ) (call : Replica → value.Reply) where
  -- done: the two arrays, put together
  pub answered-done : lent.Answered b.log (head_of b) log' head' 0 call → Answered b (Ok (backup_of log' head')) call
  unfolding view lent.view_in
  answered-done a = record {
    number_is = a.number_is;
    value_is = view_closed log' head' ∙ a.value_is;
    untouched = λ n. absurd (n refl);
    fit_again = λ f. ap fit (view_closed log' head') ∙ a.fit_again f;
  }

  -- refused: the arrays are as they were, and so the definition leaves the value
  pub answered-refused : (r : BackupRefusal) → lent.Answered b.log (head_of b) log' head' (number_of r) call → Answered b (Err r) call
  unfolding view lent.view_in
  answered-refused r a =
      let u = a.untouched (some-number r) in
      let v : lent.view_in log' head' ≡ lent.view_in b.log (head_of b) = λ i. lent.view_in (u.0 i) (u.1 i) in
      record {
        number_is = a.number_is;
        value_is = sym v ∙ a.value_is;
        untouched = λ _. refl;
        fit_again = λ f. f;
      }

-- a sync's eight numbers give its report again
pub report_so : (t : List ℕ) (v : Replica) (c : value.Checkpoint) → t ≡ told (sync_report v c)
    → ◌≡◌ {A = Report} (record {
      dropped = get_or t 0 0 ∷ get_or t 1 0 ∷ get_or t 2 0 ∷ get_or t 3 0 ∷ [];
      remained = get_or t 4 0 ∷ get_or t 5 0 ∷ get_or t 6 0 ∷ get_or t 7 0 ∷ [];
    }) (sync_report v c)
report_so t v c h =
    let r : Report = sync_report v c in
    let d = written_out r.dropped ports 0 (four-ports v c).0 in
    let e = written_out r.remained ports 0 (four-ports v c).1 in
    rw (h ∙ (λ i. d i ++ e i)) (λ i. record { dropped = sym d i; remained = sym e i })

-- a refused sync reports nothing, as the definition has it, whose number is the same
pub report-refused : (b : Backup) (r : BackupRefusal) (c : value.Checkpoint) → Answered b (Err r) (λ v. sync v c) → no_report ≡ sync_report (view b) c
unfolding sync
report-refused b r c a =
    sym (sync_report-refused (view b) c (λ z. some-number r (a.number_is ∙ answer-number (sync_number (view b) c) (view b) (synced (view b) c) ∙ z)))

-- what is handed over: the saved words by the head that was handed
pub promoted-done : (b : Backup) (handed : List ℕ) → HandsOver b.log (head_of b) 0 handed → promoted_by (Ok (backup_of b.log handed)) ≡ fail_over (view b)
unfolding promoted_by view lent.view_in
promoted-done b handed h = h.handed_is

-- refused: what the definition hands over is known by its number
pub promoted-refused : (b : Backup) (r : BackupRefusal) (handed : List ℕ) → HandsOver b.log (head_of b) (number_of r) handed → promoted_by (Err r) ≡ fail_over (view b)
unfolding promoted_by
promoted-refused b r handed h = go (fit (view b)) refl
  where
    number : number_of r ≡ (fail_over (view b)).number
    number = ap (λ (f : value.FailOver). f.number) h.handed_is ∙ ap (λ (v : Replica). (fail_over v).number) (view_laid b)

    go : (f : Bool) → fit (view b) ≡ f → promoted_by (Err r) ≡ fail_over (view b)
    go true e = absurd (some-number r (number ∙ ap (λ (f : value.FailOver). f.number) (fail_over_accepted (view b) e)))
    go false e =
        let u = fail_over_unfit (view b) e in
        ap (λ (n : ℕ). record { number = n; log = []; pc = 0; registers = no_registers; sent = 0 }) (number ∙ ap (λ (f : value.FailOver). f.number) u) ∙ sym u
