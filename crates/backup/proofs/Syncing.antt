-- A checkpoint in place: the head tells its number, what was taken is dropped, and the head is written anew.
use Rattle.std.proofs.Common.{◌≡◌, ℕ, zero, suc, ◌-◌, ◌<◌, ◌≤◌, Bool, true, false, cond, ltb, List, length, sym, refl, ap, ◌∙◌, arith, ltb-false, le-ltb, Ok, Err}
use Rattle.facts.specs.Tests.{any_same}
use Rattle.facts.specs.Lists.{listed_same, written_out}
use Rattle.backup.specs.Limits.{log_most, ports, pc_most}
use Rattle.backup.specs.Replica.{Replica, saved_on, taken_on, lacking, answer, sync, sync_number, synced}
use Rattle.backup.proofs.Drops.{saved-remaining}
use Rattle.backup.specs.Accepts.{fit_parts, enough, answer-number, answer-done, sync-accepted}
use Rattle.backup.proofs.Drops.{synced-fit}
use Rattle.backup.specs.Place.{view_in, tally_in, Sound, Called, taken_of, checkpoint_of, lacks_in, sync_number_in, Dropped, restated_in, report_of, landed_in, Reports}
use Rattle.backup.specs.Place.{with_len}
use Rattle.backup.specs.Report.{sync_report}
use Rattle.backup.proofs.ReportLaws.{sync_report-accepted, sync_report-refused, gone_taken}
use Rattle.backup.specs.Rounds.{all_taken, sync_rounds, OnePass, one_pass_by}
use Rattle.numbers.specs.Backup.{number_of}
use Rattle.numbers.specs.declared.backup.BackupRefusal.{BackupRefusal}
use Rattle.numbers.specs.declared.backup.BackupRefusal.TheVariants.{Unfit, Bad, Full, Taken, Count}
use Rattle.backup.specs.declared.place.Checkpoint.{Checkpoint}
use Rattle.backup.specs.declared.place.Head.{Head}
use Rattle.backup.proofs.InPlace.{Left, some-number, refused_so, accepted_so, same-replica, view-length}

-- of a sound backup the tallies tell what the definition asks of the log
lacks_same : (log : List ℕ) (head : Head) (taken : List ℕ) → Sound log head → lacking taken (view_in log head).log ≡ lacks_in head taken
lacks_same log head taken s =
    any_same (λ p. ltb (saved_on p (view_in log head).log) (taken_on taken p)) (λ p. ltb (tally_in head p) (taken_on taken p)) ports
    (λ p l. ap (λ (n : ℕ). ltb n (taken_on taken p)) (sym (s.tallies p l)))

-- ---- its number

-- of a sound backup the head tells the definition's number
sync-number-same : (log : List ℕ) (head : Head) (c : Checkpoint) → Sound log head → sync_number (view_in log head) (checkpoint_of c) ≡ sync_number_in head c
unfolding sync_number
sync-number-same log head c s =
    let n : head.len ≤ log_most = (let f = (fit_parts (view_in log head) s.is-fit).few in let l = view-length log head in omega arith) in
    rw (s.is-fit, le-ltb log_most head.len n, lacks_same log head (taken_of c) s)

-- what a head that is not refused has
record Lands (head : Head) (c : Checkpoint) : Type 0 where
  few : head.len ≤ log_most
  pc_small : c.pc ≤ pc_most
  has : lacks_in head (taken_of c) ≡ false

lands_by : (head : Head) (c : Checkpoint) → sync_number_in head c ≡ 0 → Lands head c
lands_by head c h = go (ltb log_most head.len) (ltb pc_most c.pc) (lacks_in head (taken_of c)) refl refl refl h
  where
    go : (a b d : Bool) → ltb log_most head.len ≡ a → ltb pc_most c.pc ≡ b → lacks_in head (taken_of c) ≡ d
        → ◌≡◌ {A = ℕ} (cond a 20 (cond b 21 (cond d 23 0))) 0 → Lands head c
    go true b d x y w e = absurd (omega arith)
    go false true d x y w e = absurd (omega arith)
    go false false true x y w e = absurd (omega arith)
    go false false false x y w e = record { few = ltb-false log_most head.len x; pc_small = ltb-false pc_most c.pc y; has = w }

-- ---- refused

module _ (log : List ℕ) (head : Head) (c : Checkpoint) (r : BackupRefusal) (e : number_of r ≡ sync_number_in head c) where
  pub sync-refused : Called log head log head (number_of r) (λ v. sync v (checkpoint_of c))
  unfolding sync
  sync-refused =
      refused_so log head (number_of r) (λ v. sync v (checkpoint_of c))
      (λ s. ap (λ (k : ℕ). answer k (view_in log head) (synced (view_in log head) (checkpoint_of c))) (sync-number-same log head c s ∙ sym e) ∙ answered r)
    where
      answered : (x : BackupRefusal) → answer (number_of x) (view_in log head) (synced (view_in log head) (checkpoint_of c)) ≡ record { number = number_of x; replica = view_in log head }
      answered Unfit = refl
      answered Bad = refl
      answered Full = refl
      answered Taken = refl
      answered Count = refl

  -- no round
  pub rounds_refused : OnePass (view_in log head) (checkpoint_of c) (number_of r) 0
  unfolding sync_rounds
  rounds_refused = one_pass_by (view_in log head) (checkpoint_of c) (number_of r) 0 (none r)
    where
      none : (x : BackupRefusal) → 0 ≡ sync_rounds (number_of x) (view_in log head) (checkpoint_of c)
      none Unfit = refl
      none Bad = refl
      none Full = refl
      none Taken = refl
      none Count = refl

  -- all 0, by the definition too, since it gives the same number
  pub reports-refused : Reports log head c (Err r)
  reports-refused = record {
    refused_none = λ _. refl;
    report-is = λ s. sym (sync_report-refused (view_in log head) (checkpoint_of c) (λ z. some-number r (e ∙ sym (sync-number-same log head c s) ∙ z)));
  }

-- ---- done

module _ (head : Head) (c : Checkpoint) where
  -- the head afterwards
  pub landed_head : Head
  landed_head = with_len (restated_in head c) (head.len - all_taken (taken_of c))

  tally_landed : (p : ℕ) → p < ports → tally_in landed_head p ≡ tally_in head p - taken_on (taken_of c) p
  unfolding landed_head restated_in
  tally_landed zero l = refl
  tally_landed (suc zero) l = refl
  tally_landed (suc (suc zero)) l = refl
  tally_landed (suc (suc (suc zero))) l = refl
  tally_landed (suc (suc (suc (suc p)))) l = absurd (omega arith)

  pub lands_few : sync_number_in head c ≡ 0 → (restated_in head c).len ≤ log_most
  unfolding restated_in
  lands_few z = (lands_by head c z).few

module _ (log : List ℕ) (head : Head) (log' : List ℕ) (c : Checkpoint) (z : sync_number_in head c ≡ 0) (d : Dropped log (restated_in head c).len (taken_of c) log') where
  -- what a sound backup comes to
  left_by : Sound log head → Left log' (landed_head head c) (synced (view_in log head) (checkpoint_of c))
  unfolding landed_head restated_in view_in
  left_by s = record {
    log-length = d.same_length ∙ s.log-length;
    saved-length = refl;
    view = same-replica (d.rest s.log-length (fit_parts (view_in log head) s.is-fit).on_ports_lem (lacks_same log head (taken_of c) s ∙ (lands_by head c z).has)) refl refl refl;
    is-fit = synced-fit (view_in log head) (checkpoint_of c) s.is-fit (lands_by head c z).pc_small;
    tallies = λ p l.
        tally_landed head c p l ∙ ap (λ (n : ℕ). n - taken_on (taken_of c) p) (s.tallies p l) ∙ sym (saved-remaining p (taken_of c) (view_in log head).log);
  }

  pub sync-done : Called log head log' (with_len (restated_in head c) ((restated_in head c).len - all_taken (taken_of c))) 0 (λ v. sync v (checkpoint_of c))
  unfolding landed_head restated_in
  sync-done =
      accepted_so log head log' (landed_head head c) (λ v. sync v (checkpoint_of c)) (synced (view_in log head) (checkpoint_of c))
      (λ s.
      sync-accepted (view_in log head) (checkpoint_of c) s.is-fit (lands_by head c z).pc_small
      (enough (taken_of c) (view_in log head).log (lacks_same log head (taken_of c) s ∙ (lands_by head c z).has)))
      left_by
      (λ s i a b. d.behind i a)

-- its rounds are those of a drop on the head as it was
pub rounds_done : (log : List ℕ) (head : Head) (c : Checkpoint) (rounds : ℕ) → rounds ≡ sync_rounds 0 (view_in log (restated_in head c)) (checkpoint_of c)
    → OnePass (view_in log head) (checkpoint_of c) 0 rounds
unfolding sync_rounds view_in restated_in
rounds_done log head c rounds e = one_pass_by (view_in log head) (checkpoint_of c) 0 rounds e

-- ---- the report

module _ (log : List ℕ) (head : Head) (c : Checkpoint) where
  -- done: what was taken has gone, and the tallies are what remains
  pub reports-done : (log' : List ℕ) (head' : Head) → Called log head log' head' 0 (λ v. sync v (checkpoint_of c)) → length head'.saved ≡ ports
      → Reports log head c (Ok (landed_in head' c))
  unfolding sync
  reports-done log' head' k four = record { refused_none = λ z. absurd (z refl); report-is = by_port }
    where
      by_port : Sound log head → report_of (Ok (landed_in head' c)) ≡ sync_report (view_in log head) (checkpoint_of c)
      by_port s =
          let v : Replica = view_in log head in
          let z : sync_number v (checkpoint_of c) ≡ 0 = sym (answer-number (sync_number v (checkpoint_of c)) v (synced v (checkpoint_of c))) ∙ sym (k.number_is s) in
          let e : (sync v (checkpoint_of c)).replica ≡ synced v (checkpoint_of c) = answer-done (sync_number v (checkpoint_of c)) v (synced v (checkpoint_of c)) z in
          let gone : (p : ℕ) → p < ports → taken_on (taken_of c) p ≡ saved_on p v.log - saved_on p (synced v (checkpoint_of c)).log = λ p l. sym (gone_taken v (checkpoint_of c) z p l) in
          let there : (p : ℕ) → p < ports → tally_in head' p ≡ saved_on p (synced v (checkpoint_of c)).log =
          λ p l. (k.sound_again s).tallies p l ∙ ap (λ (x : Replica). saved_on p x.log) (k.value_is s ∙ e) in
          (λ i. record {
            dropped = listed_same (taken_on (taken_of c)) (λ p. saved_on p v.log - saved_on p (synced v (checkpoint_of c)).log) ports gone i;
            remained = (written_out head'.saved ports 0 four ∙ listed_same (tally_in head') (λ p. saved_on p (synced v (checkpoint_of c)).log) ports there) i;
          })
          ∙ sym (sync_report-accepted v (checkpoint_of c) z)
