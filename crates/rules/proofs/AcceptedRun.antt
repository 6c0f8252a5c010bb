-- An accepted run: its table is valid, what it returns and writes, and how failure transparency of its commands becomes that of its bytes.
use mathlib.Core.Path.{◌≡◌, refl, ap, sym, ◌∙◌}
use mathlib.Core.Bool.{Bool, true, false, cond, ◌&&◌}
use mathlib.Core.List.{List, [], ◌∷◌, map}
use Prim.Native.Nat.{ℕ, suc, ◌*◌, ◌≤◌}
use lib.Dec.{eqb, leb}
use lib.ListN.{length, length-map}
use lib.Seq.{take_at}
use borrow.Author.Tests.{eqb-true, eqb-false, leb-true}
use Rattle.facts.specs.Tests.{and_left, and_right}
use Rattle.rules.specs.Table.{Table}
use Rattle.rules.specs.Cabinet.{Cabinet, quiescent}
use Rattle.rules.specs.Moves.{Command, numbers, origin_of, turn, run_from}
use Rattle.rules.specs.Undo.{Session, opened, stride, play_from}
use Rattle.rules.specs.Reasons.{reason_of}
use Rattle.rules.specs.Judge.{Accepted}
use Rattle.rules.specs.Transparent.{shown, shown_from, ended, ListTransparent}
use Rattle.rules.specs.Format.{or_number, processes_in, decode_table, validate_table}
use Rattle.rules.specs.Schedule.{commands_in, decode_schedule, validate_schedule}
use Rattle.rules.specs.Run.{Buffers, lengths_of, validate_run, ran_from, refused_with, run, accepted}
use Rattle.rules.specs.Transparency.{answers_in, reasons_in, origins_in, FailureTransparency}
use Rattle.rules.proofs.Valid.{test_passed, further-passed, decoded_accepted}
use Rattle.rules.proofs.ReadBack.{answers_back, origins_back}

-- ---- accepted is the number 0, of all of them

number-zero : (number : ℕ) (t : Table) (commands : List Command) (buffers : Buffers)
    → eqb (cond (eqb number 0) (ran_from t commands buffers) (refused_with number buffers)).number 0 ≡ true
    → number ≡ 0
unfolding refused_with
number-zero number t commands buffers h = go (eqb number 0) refl h
  where
    go : (b : Bool) → eqb number 0 ≡ b → eqb (cond b (ran_from t commands buffers) (refused_with number buffers)).number 0 ≡ true → number ≡ 0
    go true e k = eqb-true number 0 e
    go false e k = eqb-true number 0 k

-- a number that is handed on unless it is 0
pub number_passed : (n further : ℕ) → or_number (eqb n 0) n further ≡ 0 → (n ≡ 0) × (further ≡ 0)
number_passed n further h = go (eqb n 0) refl h
  where
    go : (b : Bool) → eqb n 0 ≡ b → or_number b n further ≡ 0 → (n ≡ 0) × (further ≡ 0)
    go true e k = (eqb-true n 0 e, k)
    go false e k = absurd (eqb-false n 0 e k)

-- every command has its answer
pub one_answer-each : (t : Table) (c : Cabinet) (commands : List Command) → length (run_from t c commands).answers ≡ length commands
unfolding run_from
one_answer-each t c [] = refl
one_answer-each t c (r ∷ rs) = ap suc (one_answer-each t (turn t c r).cabinet rs)

pub one_shown-each : (t : Table) (s : Session) (commands : List Command) → length (play_from t s commands).answers ≡ length commands
unfolding play_from
one_shown-each t s [] = refl
one_shown-each t s (r ∷ rs) = ap suc (one_shown-each t (stride t s r).session rs)

pub shown-length : (t : Table) (commands : List Command) → length (shown t commands) ≡ length commands
shown-length t commands = length-map (play_from t (opened t) commands).answers numbers ∙ one_shown-each t (opened t) commands

pub shown_from-length : (t : Table) (commands : List Command) → length (shown_from t commands) ≡ length commands
shown_from-length t commands = length-map (play_from t (opened t) commands).answers origin_of ∙ one_shown-each t (opened t) commands

module _ (table schedule : List ℕ) (buffers : Buffers) (h : accepted table schedule buffers ≡ true) where
  pub run-valid : validate_run table schedule (lengths_of buffers) ≡ 0
  unfolding accepted
  run-valid = number-zero (validate_run table schedule (lengths_of buffers)) (decode_table table) (decode_schedule schedule) buffers h

  pub run_is : run table schedule buffers ≡ ran_from (decode_table table) (decode_schedule schedule) buffers
  unfolding run
  run_is = rw run-valid

  pub table-valid : validate_table table ≡ 0
  unfolding validate_run
  table-valid = (number_passed (validate_table table) _ run-valid).0

  pub table-accepted : Accepted (decode_table table)
  table-accepted = decoded_accepted table table-valid

  pub schedule_valid : validate_schedule schedule ≡ 0
  unfolding validate_run
  schedule_valid = (number_passed (validate_schedule schedule) _ (number_passed (validate_table table) _ run-valid).1).0

  -- what numbers 11, of two buffers, 12 and 51 ask
  room_tested : ((leb (6 * commands_in schedule) (length buffers.answers) && leb (commands_in schedule) (length buffers.reasons)) ≡ true)
      × (leb (20 * processes_in table) (length buffers.report) ≡ true)
      × (leb (2 * commands_in schedule) (length buffers.origins) ≡ true)
  unfolding validate_run
  room_tested =
      let eleven = leb (6 * commands_in schedule) (length buffers.answers) && leb (commands_in schedule) (length buffers.reasons) in
      let twelve = leb (20 * processes_in table) (length buffers.report) in
      let fifty-one = leb (2 * commands_in schedule) (length buffers.origins) in
      let both = (number_passed (validate_schedule schedule) _ (number_passed (validate_table table) _ run-valid).1).1 in
      let after-eleven = further-passed eleven 10 _ both in
      let after-twelve = further-passed twelve 11 _ after-eleven in
      (test_passed eleven 10 _ both, test_passed twelve 11 _ after-eleven, test_passed fifty-one 50 _ after-twelve)

  pub answers-fit : 6 * commands_in schedule ≤ length buffers.answers
  answers-fit = leb-true _ _ (and_left (leb (6 * commands_in schedule) (length buffers.answers)) _ room_tested.0)

  pub reasons-fit : commands_in schedule ≤ length buffers.reasons
  reasons-fit = leb-true _ _ (and_right (leb (6 * commands_in schedule) (length buffers.answers)) _ room_tested.0)

  pub report-fits : 20 * processes_in table ≤ length buffers.report
  report-fits = leb-true _ _ room_tested.1

  pub origins-fit : 2 * commands_in schedule ≤ length buffers.origins
  origins-fit = leb-true _ _ room_tested.2

  -- ---- the answers, read out of the buffer

  pub answers_read : answers_in (run table schedule buffers) ≡ shown (decode_table table) (decode_schedule schedule)
  unfolding ran_from
  answers_read =
      let t = decode_table table in
      let commands = decode_schedule schedule in
      rw (run_is, ← shown-length t commands) (answers_back (shown t commands) _)

  -- the origins, read out of theirs
  pub origins_read : origins_in (run table schedule buffers) ≡ shown_from (decode_table table) (decode_schedule schedule)
  unfolding ran_from
  origins_read =
      let t = decode_table table in
      let commands = decode_schedule schedule in
      rw (run_is, ← shown_from-length t commands) (origins_back (shown_from t commands) _)

  -- the reasons, read out of theirs
  pub reasons_read : reasons_in (run table schedule buffers)
      ≡ map reason_of (play_from (decode_table table) (opened (decode_table table)) (decode_schedule schedule)).answers
  unfolding ran_from
  reasons_read =
      let t = decode_table table in
      let commands = decode_schedule schedule in
      let l = (play_from t (opened t) commands).answers in
      rw (run_is) (take_at (map reason_of l) _ (length commands) (length-map l reason_of ∙ one_shown-each t (opened t) commands))

  pub quiet_is : (run table schedule buffers).quiet ≡ quiescent (decode_table table) (ended (decode_table table) (decode_schedule schedule))
  unfolding ran_from
  quiet_is = rw run_is

  -- ---- from commands to bytes

  pub of_bytes : ListTransparent (decode_table table) (decode_schedule schedule) → FailureTransparency table schedule (run table schedule buffers)
  of_bytes x = record {
    actions = x.actions;
    end = x.end;
    ran = x.ran;
    injected = rw (answers_read, origins_read) x.injected;
    same-trace = rw (answers_read, origins_read) x.same-trace;
    same_end = λ q. x.same_end (sym quiet_is ∙ q);
    no_step = λ q. x.no_step (sym quiet_is ∙ q);
  }

-- Demand 3 of every accepted run, once it is proved of every accepted table and every list of commands.
pub transparent_runs : ((t : Table) → Accepted t → (commands : List Command) → ListTransparent t commands)
    → (table schedule : List ℕ) (buffers : Buffers) → accepted table schedule buffers ≡ true
    → FailureTransparency table schedule (run table schedule buffers)
transparent_runs all table schedule buffers h =
    of_bytes table schedule buffers h (all (decode_table table) (table-accepted table schedule buffers h) (decode_schedule schedule))
