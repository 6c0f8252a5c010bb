-- Laws of what a sync reports: for each port dropped is what was taken, and dropped and remaining together are what was saved; the total is
-- all that was taken, and at most the words saved.
use Rattle.std.specs.Prelude.{◌≡◌, ℕ, zero, suc, ◌+◌, ◌-◌, ◌<◌, ◌≤◌, length, ◌≢◌, slice_index, slice_index_or, refl}
use Rattle.std.proofs.Common.{ap, ◌∙◌, arith}
use Rattle.facts.specs.Tests.{by_eq}
use Rattle.facts.specs.Rings.{get_or_listed}
use Rattle.facts.specs.Sums.{sum_same}
use Rattle.backup.specs.Limits.{log_most, ports}
use Rattle.backup.specs.Replica.{Replica, Checkpoint, saved_on, taken_on, synced, sync_number}
use Rattle.backup.proofs.Drops.{saved-remaining, length-remaining}
use Rattle.backup.specs.Accepts.{fit_parts, enough, sync-parts}
use Rattle.backup.specs.Rounds.{all_taken}
use Rattle.backup.specs.Report.{Report, no_report, report_on, report_for, sync_report, total_dropped}

pub sync_report-accepted : (r : Replica) (c : Checkpoint) → sync_number r c ≡ 0 → sync_report r c ≡ report_on r.log (synced r c).log
unfolding sync_report
sync_report-accepted r c h = rw h

pub sync_report-refused : (r : Replica) (c : Checkpoint) → (sync_number r c ≢ 0) → sync_report r c ≡ no_report
unfolding sync_report
sync_report-refused r c h = go (sync_number r c) h
  where
    go : (n : ℕ) → (n ≢ 0) → report_for n r.log (synced r c).log ≡ no_report
    go zero k = absurd (k refl)
    go (suc n) k = refl

module _ (r : Replica) (c : Checkpoint) (h : sync_number r c ≡ 0) where
  -- what has gone from a port is what was taken on it
  pub gone_taken : (p : ℕ) → p < ports → saved_on p r.log - saved_on p (synced r c).log ≡ taken_on c.taken p
  gone_taken p l =
      let a = saved-remaining p c.taken r.log in
      let b = enough c.taken r.log (sync-parts r c h).1 p l in
      omega arith

  -- for each port: dropped is what was taken
  pub sync_report-dropped : (p : ℕ) → p < ports → slice_index (sync_report r c).dropped p ≡ taken_on c.taken p
  sync_report-dropped p l =
      ap (λ (x : Report). slice_index x.dropped p) (sync_report-accepted r c h)
      ∙ get_or_listed (λ q. saved_on q r.log - saved_on q (synced r c).log) ports p 0 l ∙ gone_taken p l

  -- dropped and remaining together are what was saved
  pub sync_report-whole : (p : ℕ) → p < ports → slice_index (sync_report r c).dropped p + slice_index (sync_report r c).remained p ≡ saved_on p r.log
  sync_report-whole p l =
      let a = sync_report-dropped p l in
      let b : slice_index_or (sync_report r c).remained p 0 ≡ saved_on p (synced r c).log =
      ap (λ (x : Report). slice_index x.remained p) (sync_report-accepted r c h) ∙ get_or_listed (λ q. saved_on q (synced r c).log) ports p 0 l in
      let d = saved-remaining p c.taken r.log in
      let e = enough c.taken r.log (sync-parts r c h).1 p l in
      omega arith

  -- the total is that of all that was taken
  pub total_dropped-taken : total_dropped (sync_report r c) ≡ all_taken c.taken
  total_dropped-taken = sum_same (λ p. slice_index (sync_report r c).dropped p) (taken_on c.taken) ports sync_report-dropped

-- and never more than was saved
pub total_dropped-few : (r : Replica) (c : Checkpoint) → total_dropped (sync_report r c) ≤ length r.log
total_dropped-few r c =
    by_eq (sync_number r c) 0
    (λ h.
    let a = total_dropped-taken r c h in
    let b = length-remaining c.taken r.log (fit_parts r (sync-parts r c h).0).on_ports_lem
    (enough c.taken r.log (sync-parts r c h).1) in
    omega arith)
    (λ n. let a : total_dropped (sync_report r c) ≡ 0 = ap total_dropped (sync_report-refused r c n) in omega arith)

-- nor more than a log holds
pub total_dropped_small : (r : Replica) (c : Checkpoint) → total_dropped (sync_report r c) ≤ log_most
total_dropped_small r c =
    by_eq (sync_number r c) 0
    (λ h. let a = total_dropped-few r c in let b = (fit_parts r (sync-parts r c h).0).few in omega arith)
    (λ n. let a : total_dropped (sync_report r c) ≡ 0 = ap total_dropped (sync_report-refused r c n) in omega arith)
