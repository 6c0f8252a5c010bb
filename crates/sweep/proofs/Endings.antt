-- How a run ends, by what it returned and wrote: `quiet`, and the hold-back bytes of the report.
use Rattle.std.specs.Prelude.{Result, Ok, Err}
use mathlib.Core.Path.{◌≡◌, refl, ap, sym, ◌∙◌}
use mathlib.Core.Bool.{Bool, true, false, not, cond}
use mathlib.Core.List.{List, [], ◌∷◌, ◌++◌, append_assoc}
use Prim.Native.Nat.{ℕ, zero, suc, ◌+◌, ◌*◌, ◌≤◌, ◌<◌}
use native.Mathlib.Omega.{arith}
use native.Mathlib.Numerals.{add-one}
use native.Mathlib.Nat.{not-suc-le-zero, le_of_suc-le-suc}
use lib.Dec.{eqb, leb}
use lib.ListN.{length, get_or, take, replicate, length-replicate}
use lib.Seq.{get_or-append-add, sets}
use borrow.Author.Tests.{eq-eqb, ne_eqb, le-leb}
use Rattle.facts.specs.Tests.{any_below, no_way, and_both, any_same, none_below}
use Rattle.rules.specs.Sizes.{sweep_most, processes_most}
use Rattle.rules.specs.Cabinet.{Process, Cabinet, nobody, process_at, quiescent}
use Rattle.rules.specs.Bytes.{byte_at, all_bytes, written}
use Rattle.rules.specs.Format.{processes_in, decode_table, validate_table}
use Rattle.rules.specs.Schedule.{commands_in, decode_schedule, validate_schedule}
use Rattle.rules.specs.Run.{Buffers, buffers_of, Ran, report_bytes, validate_run, ran_from, accepted}
use Rattle.rules.specs.Transparent.{ended}
use Rattle.rules.specs.Sweep.{Ending, quiet_end, held_end, free_end, some_held, ending_of, ending_at}
use Rattle.rules.proofs.Valid.{processes-counted, decoded_accepted}
use Rattle.rules.proofs.AcceptedRun.{run_is, quiet_is}
use Rattle.rules.proofs.Scheduled.{scheduled}
use Rattle.rules.proofs.Buffers.{processes-end}
use Rattle.numbers.specs.declared.runs.Refusal.{Refusal}
use Rattle.cabinet.specs.Runs.{ran_by, Runs}
use Rattle.cabinet.specs.declared.run.Ended.{Ended}
use Rattle.plan.specs.declared.Counts.{Counts}
use Rattle.sweep.specs.Pulled.{pulled_bytes, HasPlace}
use Rattle.sweep.specs.Counted.{Counted, count_one, some_held_in, Ends, Admitted}
use Rattle.sweep.specs.declared.tally.Tally.{Tally}
use Rattle.sweep.proofs.Pulling.{has_place, length_pulled, pulled_count, pulled_valid, pulled_decoded, front-is}
use Rattle.sweep.proofs.Admitting.{table-sound, schedule_sound, records-few}

-- ---- a report's byte

-- the fourth byte of a process's twenty
held_byte : (l : List Process) (rest : List ℕ) (p : ℕ) → p < length l → byte_at (all_bytes report_bytes l ++ rest) (20 * p + 3) ≡ (get_or l p nobody).suppress
held_byte [] rest p h = absurd (not-suc-le-zero h)
held_byte (x ∷ l) rest zero h = refl
held_byte (x ∷ l) rest (suc p) h =
    let e : 20 * suc p + 3 ≡ 20 + (20 * p + 3) = omega arith in
    ap (λ (n : ℕ). byte_at (all_bytes report_bytes (x ∷ l) ++ rest) n) e
    ∙ ap (λ (m : List ℕ). byte_at m (20 + (20 * p + 3))) (append_assoc (report_bytes x) (all_bytes report_bytes l) rest)
    ∙ get_or-append-add (report_bytes x) (all_bytes report_bytes l ++ rest) (20 * p + 3) 0
    ∙ held_byte l rest p (le_of_suc-le-suc h)

held-report : (c : Cabinet) (buffer : List ℕ) (n : ℕ) → n ≡ length c.processes → some_held_in (written (all_bytes report_bytes c.processes) buffer) n ≡ some_held c
unfolding some_held
held-report c buffer n e =
    rw e
    (any_same (λ p. not (eqb (byte_at (written (all_bytes report_bytes c.processes) buffer) (20 * p + 3)) 0)) (λ p. not (eqb (process_at c p).suppress 0)) (length c.processes)
    (λ p h. ap (λ (v : ℕ). not (eqb v 0)) (held_byte c.processes _ p h)))

-- ---- and the look through them

some_such : (f : ℕ → Bool) (n j : ℕ) → j < n → f j ≡ true → any_below f n ≡ true
some_such f n j l e = go (any_below f n) refl
  where
    go : (b : Bool) → any_below f n ≡ b → any_below f n ≡ true
    go true k = k
    go false k = absurd (no_way (let z = none_below f n k j l in cc))

module _ (report : List ℕ) where
  pub held_found : (n processes p : ℕ) → (processes ≤ 16 → n ≡ processes) → p < n → (byte_at report (20 * p + 3) ≡ 0 → ⊥)
      → processes ≤ 16 → true ≡ some_held_in report processes
  held_found n processes p same l other low =
      let e = same low in
      sym (some_such (λ q. not (eqb (byte_at report (20 * q + 3)) 0)) processes p (omega arith) (ap not (ne_eqb (byte_at report (20 * p + 3)) 0 other)))

  pub held_on : (p : ℕ) → some_held_in report p ≡ false → byte_at report (20 * p + 3) ≡ 0 → some_held_in report (p + 1) ≡ false
  held_on p none e = rw (add-one, eq-eqb (byte_at report (20 * p + 3)) 0 e) none

  pub held_none : (n processes p : ℕ) → (processes ≤ 16 → n ≡ processes) → p ≤ n → some_held_in report p ≡ false → n ≤ p → processes ≤ 16
      → false ≡ some_held_in report processes
  held_none n processes p same l none end low = let e = same low in let f : p ≡ processes = omega arith in sym (rw f at none)

-- ---- a run that is accepted

-- the lent buffers are those that the call left
buffers_by : (r : Result Ended Refusal) (after : Buffers) → (ran_by r after).buffers ≡ after
buffers_by (Ok e) after = refl
buffers_by (Err e) after = refl

module _ (table schedule : List ℕ) (before : Buffers) (fit : 6 * suc sweep_most ≤ length before.answers) (fit' : suc sweep_most ≤ length before.reasons)
    (fit'' : 20 * processes_most ≤ length before.report) (fit''' : 2 * suc sweep_most ≤ length before.origins) (valid : validate_table table ≡ 0) (sound : validate_schedule schedule ≡ 0)
    (few : commands_in schedule ≤ suc sweep_most) where
  runs_through : accepted table schedule before ≡ true
  unfolding accepted validate_run ran_from
  runs_through =
      let n = (decoded_accepted table valid).processes_high in
      let m = processes-counted table in
      let enough = and_both (leb (6 * commands_in schedule) (length before.answers)) (leb (commands_in schedule) (length before.reasons))
      (le-leb (6 * commands_in schedule) (length before.answers) (omega arith)) (le-leb (commands_in schedule) (length before.reasons) (omega arith)) in
      rw (valid, sound, enough, le-leb (20 * processes_in table) (length before.report) (omega arith), le-leb (2 * commands_in schedule) (length before.origins) (omega arith))

  module _ (r : Result Ended Refusal) (after : Buffers) (runs : Runs table schedule before r after) where
    abbrev end : Cabinet
    end = ended (decode_table table) (decode_schedule schedule)

    ends-quiet : (ran_by r after).quiet ≡ quiescent (decode_table table) end
    ends-quiet = ap (λ (x : Ran). x.quiet) runs.ran ∙ quiet_is table schedule before runs_through

    reported : after.report ≡ written (all_bytes report_bytes end.processes) before.report
    unfolding ran_from
    reported =
        ap (λ (b : Buffers). b.report) (sym (buffers_by r after))
        ∙ ap (λ (x : Ran). x.buffers.report) (runs.ran ∙ run_is table schedule before runs_through)

    pub ended_so : (processes : ℕ) → processes ≡ length (decode_table table).processes
        → ending_of (decode_table table) end ≡ cond (ran_by r after).quiet quiet_end (cond (some_held_in after.report processes) held_end free_end)
    unfolding ending_of
    ended_so processes e =
        let many : processes ≡ length end.processes = e ∙ sym (processes-end (decode_table table) (decode_schedule schedule)) in
        rw (ends-quiet, reported, held-report end before.report processes many)

-- ---- the ending, counted: with the buffers of a sweep

-- a fresh array
abbrev zeros : ℕ → List ℕ
zeros n = replicate n 0

length-zeros : (n : ℕ) → length (zeros n) ≡ n
length-zeros n = length-replicate {A = ℕ} n 0

-- six bytes, one and two for each record, twenty for each process
abbrev buffers : Buffers
buffers = buffers_of (zeros 3006) (zeros 501) (zeros 320) (zeros 1002)

module _ (table schedule : List ℕ) (processes : ℕ) (r : Result Ended Refusal) (after : Buffers) (runs : Runs table schedule buffers r after) where
  ends_so : (e : Ending) → (processes ≤ processes_most → cond (ran_by r after).quiet quiet_end (cond (some_held_in after.report processes) held_end free_end) ≡ e)
      → (tally : Tally) → Counted (count_one e) tally → Ends table schedule processes tally
  ends_so e same tally counted = record {
    ends = λ valid sound few many.
        let high = (decoded_accepted table valid).processes_high in
        let n = length-zeros 3006 in
        let n' = length-zeros 501 in
        let n'' = length-zeros 320 in
        let n''' = length-zeros 1002 in
        rw (ended_so table schedule buffers (omega arith) (omega arith) (omega arith) (omega arith) valid sound few r after runs processes many ∙ same (omega arith)) counted;
  }

  pub quiet-ends : (ran_by r after).quiet ≡ true → Ends table schedule processes (record { quiet = 1; held = 0; free = 0 })
  quiet-ends q = ends_so quiet_end (λ _. rw q) _ (record { quiet_is = refl; held-is = refl; free-is = refl })

  module _ (unquiet : (ran_by r after).quiet ≡ false) (held : Bool) (is_held_lem : processes ≤ processes_most → held ≡ some_held_in after.report processes) where
    pub held-ends : held ≡ true → Ends table schedule processes (record { quiet = 0; held = 1; free = 0 })
    held-ends h = ends_so held_end (λ low. rw (unquiet, ← is_held_lem low, h)) _ (record { quiet_is = refl; held-is = refl; free-is = refl })

    pub free-ends : held ≡ false → Ends table schedule processes (record { quiet = 0; held = 0; free = 1 })
    free-ends h = ends_so free_end (λ low. rw (unquiet, ← is_held_lem low, h)) _ (record { quiet_is = refl; held-is = refl; free-is = refl })

-- ---- with the crash put in

module _ (table schedule : List ℕ) (counts : Counts) (place : ℕ) (ok : Admitted table schedule counts) (h : place ≤ commands_in schedule) where
  abbrev sound_schedule : validate_schedule schedule ≡ 0
  sound_schedule = schedule_sound table schedule ok.valid

  abbrev swept : commands_in schedule ≤ sweep_most
  swept = records-few table schedule ok.valid

  pub pull_place : HasPlace schedule place
  pull_place = has_place schedule place (scheduled schedule sound_schedule) swept h

  module _ (b : ℕ) (l : List ℕ) (put : l ≡ sets (zeros 3009) 0 (pulled_bytes schedule place b)) where
    -- the front of what the crash was put into is the run's schedule
    front : take (length schedule + 6) l ≡ pulled_bytes schedule place b
    front =
        let many = length_pulled schedule place b pull_place in
        let short = pull_place.short in
        let room = length-zeros 3009 in
        ap (take (length schedule + 6)) put ∙ front-is (zeros 3009) (pulled_bytes schedule place b) (length schedule + 6) (omega arith) (omega arith)

    pub pull-long : length schedule + 6 ≡ length (take (length schedule + 6) l)
    pull-long = let many = length_pulled schedule place b pull_place in let e = ap length front in omega arith

    pub pull-counted : (r : Tally) → Ends table (take (length schedule + 6) l) counts.processes r
        → Counted (count_one (ending_at (decode_table table) (decode_schedule schedule) place b)) r
    unfolding ending_at
    pull-counted r ends =
        let here : Ends table (pulled_bytes schedule place b) counts.processes r = rw front at ends in
        let few = swept in
        let count = pulled_count schedule place b sound_schedule swept h in
        rw (pulled_decoded schedule place b sound_schedule swept h) at
        (here.ends (table-sound table schedule ok.valid) (pulled_valid schedule place b sound_schedule swept h) (omega arith) ok.processes-is)
