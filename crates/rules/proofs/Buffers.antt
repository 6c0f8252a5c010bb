-- The lent buffers: a run leaves them as long as they were, and what stands behind the written bytes as it was.
use mathlib.Core.Path.{◌≡◌, refl, ap, sym, ◌∙◌}
use mathlib.Core.Bool.{Bool, true, false, cond}
use mathlib.Core.List.{List, [], ◌∷◌, map}
use Prim.Native.Nat.{ℕ, ◌*◌, ◌≤◌}
use native.Mathlib.Omega.{arith}
use native.Mathlib.Nat.{mul-zero, mul-suc}
use lib.Dec.{eqb}
use lib.ListN.{length, drop, set, length-append, length-drop, length-set, length-map}
use lib.Seq.{drop-append_seam}
use Rattle.facts.specs.Tests.{no_way}
use Rattle.rules.specs.Table.{Table}
use Rattle.rules.specs.Cabinet.{Process, Cabinet, started, placed}
use Rattle.rules.specs.Moves.{Command, deliver}
use Rattle.rules.specs.Undo.{opened, play_from}
use Rattle.rules.specs.Reasons.{reason_of}
use Rattle.rules.specs.Transparent.{finished, shown, shown_from, ended}
use Rattle.rules.specs.Bytes.{all_bytes, written}
use Rattle.rules.specs.Format.{processes_in, decode_table}
use Rattle.rules.specs.Schedule.{commands_in, decode_schedule}
use Rattle.rules.specs.Run.{Buffers, lengths_of, answer_bytes, origin_bytes, report_bytes, validate_run, ran_from, refused_with, run}
use Rattle.rules.specs.Run.{accepted}
use Rattle.rules.proofs.Guards.{Leaves, after_run}
use Rattle.rules.proofs.Crashed.{crash-length}
use Rattle.rules.proofs.Valid.{processes-counted}
use Rattle.rules.proofs.Scheduled.{commands-counted}
use Rattle.rules.proofs.Standing.{standing_in, ended_is}
use Rattle.rules.proofs.AcceptedRun.{one_shown-each, shown-length, shown_from-length, run_is}
use Rattle.rules.proofs.AcceptedRun.{answers-fit, reasons-fit, report-fits, origins-fit}

-- ---- written bytes

-- bytes for every element, k for each
pub length_bytes : {A : Type 0} (bytes : A → List ℕ) (k : ℕ) (l : List A) → ((x : A) → length (bytes x) ≡ k) → length (all_bytes bytes l) ≡ k * length l
length_bytes bytes k [] h = sym (mul-zero k)
length_bytes bytes k (x ∷ l) h =
    rw (length-append (bytes x) (all_bytes bytes l), h x, length_bytes bytes k l h) (let e = mul-suc k (length l) in omega arith)

length-written : (new buffer : List ℕ) → length new ≤ length buffer → length (written new buffer) ≡ length buffer
length-written new buffer h = simp (length-append, length-drop) (omega arith)

behind-written : (new buffer : List ℕ) (n : ℕ) → length new ≡ n → drop n (written new buffer) ≡ drop n buffer
behind-written new buffer n e = rw (← e) (drop-append_seam new (drop (length new) buffer))

-- ---- the number of processes stays

abbrev Many : ℕ → Cabinet → Type 0
Many n c = length c.processes ≡ n

module _ (t : Table) (n : ℕ) (c : Cabinet) (h : Many n c) where
  -- one process is replaced
  one : (p : ℕ) (x : Process) → length (set c.processes p x) ≡ n
  one p x = length-set c.processes p x ∙ h

  keep_many : (r : Command) → Leaves t c r (Many n)
  unfolding deliver
  keep_many r = record {
    computes = λ _ _ _ _. one r.a _;
    takes = λ _ _ _ _ _. one r.a _;
    suppresses = λ _ _ _ _ _ _. one r.a _;
    sends = λ _ _ _ _ _ _ _ _. one r.a _;
    issues = λ _ _ _ _. one r.a _;
    transmits = λ _ _ mail pc rest e. length-set (set c.processes _ _) _ _ ∙ one _ _;
    syncs = λ _ _ p k rest e. one p _;
    injects = λ _ _ _. one _ _;
    completes = λ _ _ p rest e. one p _;
    crashes = λ _ _ _. crash-length t r.a 0 c.processes ∙ h;
    rejoins = λ _ _. h;
    rebackups = λ _ _ _ _ _ _ _. one r.a _;
  }

pub processes_stay : (t : Table) (commands : List Command) → length (finished t commands).processes ≡ length t.processes
unfolding started
processes_stay t commands =
    after_run t (λ c r h. keep_many t (length t.processes) c h r) (started t) commands (length-map t.processes placed)

pub processes-end : (t : Table) (commands : List Command) → length (ended t commands).processes ≡ length t.processes
processes-end t commands = rw (ended_is t commands) (processes_stay t (standing_in t commands))

-- ---- the buffers of a run

module _ (table schedule : List ℕ) where
  answer_bytes_lem : length (all_bytes answer_bytes (shown (decode_table table) (decode_schedule schedule))) ≡ 6 * commands_in schedule
  answer_bytes_lem =
      length_bytes answer_bytes 6 (shown (decode_table table) (decode_schedule schedule)) (λ x. refl)
      ∙ ap (λ (n : ℕ). 6 * n) (shown-length (decode_table table) (decode_schedule schedule) ∙ commands-counted schedule)

  reason_bytes : length (map reason_of (play_from (decode_table table) (opened (decode_table table)) (decode_schedule schedule)).answers) ≡ commands_in schedule
  reason_bytes =
      let t = decode_table table in
      let l = (play_from t (opened t) (decode_schedule schedule)).answers in
      length-map l reason_of ∙ one_shown-each t (opened t) (decode_schedule schedule) ∙ commands-counted schedule

  report_bytes_lem : length (all_bytes report_bytes (ended (decode_table table) (decode_schedule schedule)).processes) ≡ 20 * processes_in table
  report_bytes_lem =
      length_bytes report_bytes 20 (ended (decode_table table) (decode_schedule schedule)).processes (λ x. refl)
      ∙ ap (λ (n : ℕ). 20 * n) (processes-end (decode_table table) (decode_schedule schedule) ∙ processes-counted table)

  origin_bytes_lem : length (all_bytes origin_bytes (shown_from (decode_table table) (decode_schedule schedule))) ≡ 2 * commands_in schedule
  origin_bytes_lem =
      length_bytes origin_bytes 2 (shown_from (decode_table table) (decode_schedule schedule)) (λ x. refl)
      ∙ ap (λ (n : ℕ). 2 * n) (shown_from-length (decode_table table) (decode_schedule schedule) ∙ commands-counted schedule)

-- What a run leaves of a lent buffer: its length, and the bytes behind the first n.
pub record Lent (n : ℕ) (before after : List ℕ) : Type 0 where
  pub as_long : length after ≡ length before
  pub untouched : drop n after ≡ drop n before

lent : (new buffer : List ℕ) (n : ℕ) → length new ≡ n → n ≤ length buffer → Lent n buffer (written new buffer)
lent new buffer n e h = record { as_long = length-written new buffer (omega arith); untouched = behind-written new buffer n e }

module _ (table schedule : List ℕ) (buffers : Buffers) (h : accepted table schedule buffers ≡ true) where
  pub answers-lent : Lent (6 * commands_in schedule) buffers.answers (run table schedule buffers).buffers.answers
  unfolding ran_from
  answers-lent =
      rw (run_is table schedule buffers h)
      (lent (all_bytes answer_bytes (shown (decode_table table) (decode_schedule schedule))) buffers.answers (6 * commands_in schedule)
      (answer_bytes_lem table schedule) (answers-fit table schedule buffers h))

  pub reasons-lent : Lent (commands_in schedule) buffers.reasons (run table schedule buffers).buffers.reasons
  unfolding ran_from
  reasons-lent =
      let t = decode_table table in
      rw (run_is table schedule buffers h)
      (lent (map reason_of (play_from t (opened t) (decode_schedule schedule)).answers) buffers.reasons (commands_in schedule)
      (reason_bytes table schedule) (reasons-fit table schedule buffers h))

  pub report-lent : Lent (20 * processes_in table) buffers.report (run table schedule buffers).buffers.report
  unfolding ran_from
  report-lent =
      rw (run_is table schedule buffers h)
      (lent (all_bytes report_bytes (ended (decode_table table) (decode_schedule schedule)).processes) buffers.report (20 * processes_in table)
      (report_bytes_lem table schedule) (report-fits table schedule buffers h))

  pub origins-lent : Lent (2 * commands_in schedule) buffers.origins (run table schedule buffers).buffers.origins
  unfolding ran_from
  origins-lent =
      rw (run_is table schedule buffers h)
      (lent (all_bytes origin_bytes (shown_from (decode_table table) (decode_schedule schedule))) buffers.origins (2 * commands_in schedule)
      (origin_bytes_lem table schedule) (origins-fit table schedule buffers h))

-- what is not accepted is refused
refused_of_lem : (b : Bool) (number : ℕ) (t : Table) (commands : List Command) (buffers : Buffers)
    → eqb (cond b (ran_from t commands buffers) (refused_with number buffers)).number 0 ≡ false
    → cond b (ran_from t commands buffers) (refused_with number buffers) ≡ refused_with number buffers
unfolding ran_from
refused_of_lem true number t commands buffers h = absurd (no_way (cc))
refused_of_lem false number t commands buffers h = refl

-- "A refused one [..] returns the number alone, no records, not quiet, and writes to no lent buffer"
pub refused-is : (table schedule : List ℕ) (buffers : Buffers) → accepted table schedule buffers ≡ false
    → run table schedule buffers ≡ refused_with (validate_run table schedule (lengths_of buffers)) buffers
unfolding accepted
refused-is table schedule buffers h =
    let number = validate_run table schedule (lengths_of buffers) in
    refused_of_lem (eqb number 0) number (decode_table table) (decode_schedule schedule) buffers h
