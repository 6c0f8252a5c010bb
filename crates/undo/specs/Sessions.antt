-- A session: a schedule's records from the start on, moves 8 among them (document 02, W-214).
use Rattle.std.specs.Prelude.{cond, ◌&&◌, List, ℕ, eqb}
use Rattle.numbers.specs.declared.answers.Reason.TheVariants.{TakenBack, WordNotZero, NoneKept}
use Rattle.records.specs.declared.schedule.Command as code
use Rattle.rules.specs.Table.{Table}
use Rattle.rules.specs.Judge.{Accepted}
use Rattle.rules.specs.Cabinet.{started}
use Rattle.rules.specs.Moves.{Command}
use Rattle.rules.specs.Undo.{opened, play_from}
use Rattle.rules.specs.Schedule.{decode_schedule}
use Rattle.plan.specs.declared.Placement.{Placement}
use Rattle.plan.specs.Plan.{Plan, Planned}
use Rattle.outcome.specs.Starts.{Placed}
use Rattle.state.specs.declared.entry.Entry.{Entry}
use Rattle.state.specs.declared.moved.Answer.{Answer}
use Rattle.state.specs.declared.store.Store.{Store}
use Rattle.state.specs.Store.{Holds}
use Rattle.state.specs.Moved.{answer_for, refusal_for}
use Rattle.stretch.specs.Plays.{Sheets, Wrote, Suited}

-- What a move 8 is answered where k records are kept: "with a and word 0 (else 32, cause 1)", "53, no record is kept to go back to, move 8's
-- last refusal", else 7 "with 0 and 0".
abbrev pub undo_answer_of : code.Command → ℕ → Answer
undo_answer_of c k = cond (eqb c.a 0 && eqb c.word 0) (cond (eqb k 0) (refusal_for NoneKept c.a) (answer_for TakenBack 0 0)) (refusal_for WordNotZero c.a)

-- These commands were done from the start on: the store holds the session's cabinet, and what they answer is written at the buffers' front.
pub record Shown (t : Table) (commands : List Command) (s : Store) (entries : List Entry) (before after : Sheets) : Type 0 where
  pub holds : Holds t s entries (play_from t (opened t) commands).session.cabinet
  pub wrote : Wrote before 0 (play_from t (opened t) commands).answers after

-- those of a whole schedule, on a store that holds the start
pub record Sessions (l : Plan) (schedule : List ℕ) (s : Store) (entries : List Entry) (before : Sheets) (s' : Store) (entries' : List Entry)
    (after : Sheets) : Type 0 where
  pub shown : (t : Table) → Suited t l (started t) s entries → Shown t (decode_schedule schedule) s' entries' before after

-- The records of a schedule from the start on, whatever the store held: of a table that is accepted, whose the plan and the boards are.
pub record PlaysAll (l : Plan) (schedule : List ℕ) (placements : List Placement) (before : Sheets) (s : Store) (entries : List Entry) (after : Sheets)
    : Type 0 where
  pub shown : (t : Table) → Accepted t → Planned t l → Placed t placements l.counts.processes
      → Shown t (decode_schedule schedule) s entries before after
