-- What a record is answered that is refused before its move is made: where the judging gives a number, its code and the cause by the move are
-- those of the reason that it says.
use Rattle.std.proofs.Common.{◌≡◌, refl, sym, ap, ◌∙◌, ℕ, Bool, true, false, cond, leb, arith, Option, Some, None}
use Rattle.numbers.specs.declared.answers.Reason.{Reason}
use Rattle.numbers.specs.declared.answers.Reason.TheVariants.{NoSuchMove, WordNotZero, NoSuchProcess, NoSuchBoard, NoSuchChannel}
use Rattle.numbers.specs.Answers.{code_in, cause_in}
use Rattle.plan.specs.declared.Counts.{Counts}
use Rattle.records.specs.declared.schedule.Command.{Command}
use Rattle.rules.specs.Moves.{Move, step_move, issue_move, transmit_move, inject_move, crash_move, rejoin_move, rebackup_move, unknown, move_of}
use Rattle.state.specs.Moved.{refusal_of, refusal_for}
use Rattle.command.proofs.Judging.{is-unknown}
use Rattle.command.specs.Judges.{absent_of, stray_of, judge_of, worded_of, number_said, cause_by, turned_away}

-- an unknown move has cause 0, as `cause` tells it
pub unknown_cause : (mv : ℕ) → (mv ≡ 1 → ⊥) → (mv ≡ 2 → ⊥) → (mv ≡ 3 → ⊥) → (mv ≡ 4 → ⊥) → (mv ≡ 5 → ⊥) → (mv ≡ 6 → ⊥) → (mv ≡ 7 → ⊥)
    → (number : ℕ) → cause_by number (move_of mv) ≡ 0
unfolding cause_by
unknown_cause mv h1 h2 h3 h4 h5 h6 h7 number = ap (cause_by number) (is-unknown mv h1 h2 h3 h4 h5 h6 h7)

-- of a move, what may be said of its record: nothing, or a reason whose code isn't 0 and whose cause is the move's
data Told (m : Move) (said : Option Reason) : Type 0 where
  lets : said ≡ None → Told m said
  stops : (reason : Reason) → said ≡ Some reason → (code_in reason ≡ 0 → ⊥) → cause_by (code_in reason) m ≡ cause_in reason → Told m said

past : (b : Bool) (reason : Reason) (m : Move) → (code_in reason ≡ 0 → ⊥) → cause_by (code_in reason) m ≡ cause_in reason → Told m (cond b (Some reason) None)
past true reason m n e = stops reason refl n e
past false reason m n e = lets refl

told : (counts : Counts) (c : Command) → Told (move_of c.mv) (judge_of counts c)
unfolding judge_of absent_of stray_of cause_by
told counts c = go (worded_of c.mv c.word) (move_of c.mv)
  where
    go : (w : Bool) (m : Move) → Told m (cond w (Some (stray_of m)) (absent_of counts c.a m))
    go true step_move = stops WordNotZero refl (λ z. omega arith) refl
    go true issue_move = stops WordNotZero refl (λ z. omega arith) refl
    go true transmit_move = stops WordNotZero refl (λ z. omega arith) refl
    go true inject_move = stops WordNotZero refl (λ z. omega arith) refl
    go true crash_move = stops WordNotZero refl (λ z. omega arith) refl
    go true rejoin_move = stops WordNotZero refl (λ z. omega arith) refl
    go true rebackup_move = stops WordNotZero refl (λ z. omega arith) refl
    go true unknown = stops NoSuchMove refl (λ z. omega arith) refl
    go false step_move = past (leb counts.processes c.a) NoSuchProcess step_move (λ z. omega arith) refl
    go false issue_move = past (leb counts.processes c.a) NoSuchProcess issue_move (λ z. omega arith) refl
    go false transmit_move = past (leb counts.boards c.a) NoSuchBoard transmit_move (λ z. omega arith) refl
    go false inject_move = past (leb counts.channels c.a) NoSuchChannel inject_move (λ z. omega arith) refl
    go false crash_move = past (leb counts.boards c.a) NoSuchBoard crash_move (λ z. omega arith) refl
    go false rejoin_move = past (leb counts.boards c.a) NoSuchBoard rejoin_move (λ z. omega arith) refl
    go false rebackup_move = past (leb counts.processes c.a) NoSuchProcess rebackup_move (λ z. omega arith) refl
    go false unknown = stops NoSuchMove refl (λ z. omega arith) refl

-- a record without a number is let through
pub let_by : (counts : Counts) (c : Command) → number_said (judge_of counts c) ≡ 0 → judge_of counts c ≡ None
let_by counts c z = go (told counts c)
  where
    go : Told (move_of c.mv) (judge_of counts c) → judge_of counts c ≡ None
    go (lets e) = e
    go (stops reason e n cause) = absurd (n (sym (ap number_said e) ∙ z))

-- one with a number has a reason, and is answered with that
pub record Because (said : Option Reason) (mv a : ℕ) : Type 0 where
  pub reason : Reason
  pub is-reason : said ≡ Some reason
  pub answer-is : turned_away (number_said said) mv a ≡ refusal_for reason a

pub because : (counts : Counts) (c : Command) (a : ℕ) → (number_said (judge_of counts c) ≡ 0 → ⊥) → Because (judge_of counts c) c.mv a
because counts c a n = go (told counts c)
  where
    go : Told (move_of c.mv) (judge_of counts c) → Because (judge_of counts c) c.mv a
    go (lets e) = absurd (n (ap number_said e))
    go (stops reason e some cause) = record {
      reason = reason;
      is-reason = e;
      answer-is =
          ap (λ (o : Option Reason). turned_away (number_said o) c.mv a) e
          ∙ ap (λ (k : ℕ). refusal_of (code_in reason) k a) cause;
    }
