-- 32 and 33: where one of them applies the rules refuse with it, for the same reason, and otherwise they make the move.
use mathlib.Core.Path.{◌≡◌, refl, ap, sym, ◌∙◌, subst}
use mathlib.Core.Bool.{Bool, true, false, not, cond, ◌&&◌}
use mathlib.Core.List.{List}
use Prim.Native.Nat.{ℕ, zero, suc, ◌<◌, ◌≤◌}
use native.Mathlib.Omega.{arith}
use lib.Dec.{eqb, leb}
use lib.ListN.{length}
use borrow.Author.Tests.{leb-false}
use Rattle.std.proofs.Common.{Option, Some, None}
use Rattle.numbers.specs.declared.answers.Reason.{Reason}
use Rattle.numbers.specs.declared.answers.Reason.TheVariants.{NoSuchMove, WordNotZero}
use Rattle.plan.specs.declared.Counts.{Counts}
use Rattle.plan.specs.Plan.{Plan, Planned}
use Rattle.records.specs.declared.schedule.Command as code
use Rattle.records.specs.Commands.{command_of}
use Rattle.rules.specs.Table.{Table}
use Rattle.rules.specs.Cabinet.{Cabinet}
use Rattle.rules.specs.Moves.{Command, Refusal, unknown_move, stray_word, no_process, no_board, no_channel, Result, refuse, settle, guard}
use Rattle.rules.specs.Moves.{step, issue, transmit, inject, crash, rejoin, rebackup, Move, step_move, issue_move, transmit_move, inject_move, crash_move}
use Rattle.rules.specs.Moves.{rejoin_move, rebackup_move, unknown, move_of, perform, judged, turn, origin_of, no_origin}
use Rattle.rules.proofs.Decoded.{is_feed, move_of_feed, move_of-unknown}
use Rattle.state.specs.declared.entry.Entry.{Entry}
use Rattle.state.specs.declared.moved.Answer.{Answer}
use Rattle.state.specs.declared.store.Store.{Store}
use Rattle.state.specs.Store.{Holds}
use Rattle.state.specs.Moved.{Answered, refusal_for}
use Rattle.state.proofs.Refusing.{reason_for, turned_away_lem}
use Rattle.command.specs.Judges.{beyond_of, absent_of, stray_of, judge_of}

-- ---- a move that is none of the seven

module _ (mv : ℕ) (h1 : mv ≡ 1 → ⊥) (h2 : mv ≡ 2 → ⊥) (h3 : mv ≡ 3 → ⊥) (h4 : mv ≡ 4 → ⊥) (h5 : mv ≡ 5 → ⊥) (h6 : mv ≡ 6 → ⊥) (h7 : mv ≡ 7 → ⊥) where
  pub is-unknown : move_of mv ≡ unknown
  is-unknown = move_of-unknown mv h1 h2 h3 h4 h5 h6 h7

  pub unknown-absent : (counts : Counts) (a : ℕ) → absent_of counts a (move_of mv) ≡ Some NoSuchMove
  unfolding absent_of
  unknown-absent counts a = ap (absent_of counts a) is-unknown

  pub unknown-stray : stray_of (move_of mv) ≡ NoSuchMove
  unfolding stray_of
  unknown-stray = ap stray_of is-unknown

-- and one that is
pub known-stray : (mv : ℕ) → 1 ≤ mv → mv ≤ 7 → stray_of (move_of mv) ≡ WordNotZero
unfolding stray_of
known-stray zero low high = absurd (omega arith)
known-stray (suc zero) low high = refl
known-stray (suc (suc zero)) low high = refl
known-stray (suc (suc (suc zero))) low high = refl
known-stray (suc (suc (suc (suc zero)))) low high = refl
known-stray (suc (suc (suc (suc (suc zero))))) low high = refl
known-stray (suc (suc (suc (suc (suc (suc zero)))))) low high = refl
known-stray (suc (suc (suc (suc (suc (suc (suc zero))))))) low high = refl
known-stray (suc (suc (suc (suc (suc (suc (suc (suc n)))))))) low high = absurd (omega arith)

-- ---- what the rules make of a record

-- a result is a refusal, and the code names it
record Refuses (result : Result) (o : Option Reason) : Type 0 where
  why : Refusal
  result_is : result ≡ refuse why
  named : o ≡ Some (reason_for why)

-- The rule that a move is, of the process, board or channel a, and how many of those a table has: of an unknown one none.
abbrev pub rule_of : Move → ℕ → Table → Cabinet → ℕ → Result
rule_of step_move word t c a = step t c a
rule_of issue_move word t c a = issue t c a
rule_of transmit_move word t c a = transmit t c a
rule_of inject_move word t c a = inject t c (record { channel = a; word = word })
rule_of crash_move word t c a = crash t c a
rule_of rejoin_move word t c a = rejoin t c a
rule_of rebackup_move word t c a = rebackup t c a
rule_of unknown word t c a = refuse unknown_move

abbrev pub most_of : Move → Table → ℕ
most_of step_move t = length t.processes
most_of issue_move t = length t.processes
most_of transmit_move t = t.boards
most_of inject_move t = length t.channels
most_of crash_move t = t.boards
most_of rejoin_move t = t.boards
most_of rebackup_move t = length t.processes
most_of unknown t = 0

-- a result is a rule's own, of a number that there is
pub record Passes (result rule : Result) (a most : ℕ) : Type 0 where
  pub result_is : result ≡ rule
  pub a-inside : a < most

-- one of the two, by whether the code names a reason
data Tested (result rule : Result) (a most : ℕ) (o : Option Reason) : Type 0 where
  stops : Refuses result o → Tested result rule a most o
  goes : o ≡ None → Passes result rule a most → Tested result rule a most o

-- ---- the tests, one before the other

module _ (rule : Result) (a most : ℕ) where
  -- a check, of the rules and of the code
  tested_guard : (b : Bool) (why : Refusal) (rest : Result) (o : Option Reason) → (b ≡ false → Tested rest rule a most o)
      → Tested (guard b why rest) rule a most (cond b (Some (reason_for why)) o)
  unfolding guard
  tested_guard true why rest o then = stops (record { why = why; result_is = refl; named = refl })
  tested_guard false why rest o then = then refl

  tested_unknown : (b : Bool) → Tested (refuse unknown_move) rule a most (cond b (Some NoSuchMove) (Some NoSuchMove))
  tested_unknown true = stops (record { why = unknown_move; result_is = refl; named = refl })
  tested_unknown false = stops (record { why = unknown_move; result_is = refl; named = refl })

module _ (t : Table) (counts : Counts) (is-boards : counts.boards ≡ t.boards) (is-processes : counts.processes ≡ length t.processes)
    (is-channels : counts.channels ≡ length t.channels) (c : Cabinet) (x : Command) where
  abbrev a : ℕ
  a = x.a

  abbrev stray : Bool
  stray = not (eqb x.word 0)

  -- 33, and before it 32 for a word
  beyond : (why : Refusal) (n most : ℕ) (rule : Result) → n ≡ most → Tested (guard (leb most a) why rule) rule a most (beyond_of a n (reason_for why))
  beyond why n most rule e =
      subst (λ (k : ℕ). Tested (guard (leb most a) why rule) rule a most (beyond_of a k (reason_for why))) (sym e)
      (tested_guard rule a most (leb most a) why rule None
      (λ h. goes refl (record { result_is = refl; a-inside = leb-false most a h })))

  worded : (why : Refusal) (n most : ℕ) (rule : Result) → n ≡ most
      → Tested (guard stray stray_word (guard (leb most a) why rule)) rule a most (cond stray (Some WordNotZero) (beyond_of a n (reason_for why)))
  worded why n most rule e =
      tested_guard rule a most stray stray_word (guard (leb most a) why rule) (beyond_of a n (reason_for why)) (λ _. beyond why n most rule e)

  performed : (m : Move)
      → Tested (perform t c x m) (rule_of m x.word t c a) a (most_of m t) (cond (not (is_feed m) && stray) (Some (stray_of m)) (absent_of counts a m))
  unfolding perform absent_of stray_of
  performed step_move = worded no_process counts.processes _ (step t c a) is-processes
  performed issue_move = worded no_process counts.processes _ (issue t c a) is-processes
  performed transmit_move = worded no_board counts.boards _ (transmit t c a) is-boards
  performed inject_move = beyond no_channel counts.channels _ (inject t c (record { channel = a; word = x.word })) is-channels
  performed crash_move = worded no_board counts.boards _ (crash t c a) is-boards
  performed rejoin_move = worded no_board counts.boards _ (rejoin t c a) is-boards
  performed rebackup_move = worded no_process counts.processes _ (rebackup t c a) is-processes
  performed unknown = tested_unknown (refuse unknown_move) a 0 stray

module _ {result rule : Result} {a most : ℕ} {o : Option Reason} where
  must_stop : Tested result rule a most o → (reason : Reason) → o ≡ Some reason → Refuses result (Some reason)
  must_stop (stops r) reason e = record { why = r.why; result_is = r.result_is; named = sym e ∙ r.named }
  must_stop (goes e p) reason h = absurd (cc)

  must_go : Tested result rule a most o → o ≡ None → Passes result rule a most
  must_go (stops r) h = absurd (cc (r.named))
  must_go (goes e p) h = p

-- ---- what the loop over a schedule needs: o is what `judge` says of the record x, and a the process, board or channel that x names

module _ {t : Table} {l : Plan} (u : Planned t l) (x : code.Command) (o : Option Reason) (is-o : o ≡ judge_of l.counts x) (c : Cabinet)
    (a : ℕ) (is-a : a ≡ x.a) where
  abbrev result : Result
  result = judged t c (command_of x)

  tested : Tested result (rule_of (move_of x.mv) x.word t c x.a) x.a (most_of (move_of x.mv) t) o
  unfolding judged judge_of
  tested =
      let m : Move = move_of x.mv in
      let of : Option Reason → Type 0 = λ k. Tested (perform t c (command_of x) m) (rule_of m x.word t c x.a) x.a (most_of m t) k in
      subst of (sym is-o)
      (subst (λ (b : Bool). of (cond (not b && not (eqb x.word 0)) (Some (stray_of m)) (absent_of l.counts x.a m))) (move_of_feed x.mv)
      (performed t l.counts u.boards-is u.processes-is u.channels-is c (command_of x) m))

  -- A reason is the rules',
  pub refused : {s : Store} {entries : List Entry} {r : Answer} (reason : Reason) → Holds t s entries c → o ≡ Some reason → r ≡ refusal_for reason a
      → Answered t s entries c (command_of x) (judged t c (command_of x)) r
  refused {s} {entries} {r} reason h z e =
      let y = must_stop tested reason z in
      let same : reason ≡ reason_for y.why = cc (y.named) in
      turned_away_lem (command_of x) a y.why h y.result_is (sym is-a) (e ∙ ap (λ (k : Reason). refusal_for k a) same)

  -- and no word is on the bus.
  pub refused-origin : (reason : Reason) → o ≡ Some reason → origin_of (turn t c (command_of x)).answer ≡ no_origin
  unfolding turn origin_of
  refused-origin reason z = ap (λ (y : Result). origin_of (settle c (command_of x) y).answer) (must_stop tested reason z).result_is

  -- Where there is none the move is made, of a process, board or channel of the table.
  pub passes : (k : ℕ) → x.mv ≡ k → o ≡ None
      → Passes (judged t c (command_of x)) (rule_of (move_of k) x.word t c a) a (most_of (move_of k) t)
  passes k e z =
      subst (λ (j : ℕ). Passes result (rule_of (move_of j) x.word t c a) a (most_of (move_of j) t)) e
      (subst (λ (j : ℕ). Passes result (rule_of (move_of x.mv) x.word t c j) j (most_of (move_of x.mv) t)) (sym is-a) (must_go tested z))

  -- So what the move's own rule answers, the record is answered.
  pub made : {s : Store} {entries : List Entry} {r : Answer} (k : ℕ) → x.mv ≡ k → o ≡ None
      → Answered t s entries c (command_of x) (rule_of (move_of k) x.word t c a) r → Answered t s entries c (command_of x) (judged t c (command_of x)) r
  made {s} {entries} {r} k e z = subst (λ (y : Result). Answered t s entries c (command_of x) y r) (sym (passes k e z).result_is)

  -- And no unknown move passes.
  pub known : o ≡ None → (x.mv ≡ 1 → ⊥) → (x.mv ≡ 2 → ⊥) → (x.mv ≡ 3 → ⊥) → (x.mv ≡ 4 → ⊥) → (x.mv ≡ 5 → ⊥) → (x.mv ≡ 6 → ⊥) → (x.mv ≡ 7 → ⊥) → ⊥
  known z h1 h2 h3 h4 h5 h6 h7 =
      let y = subst (λ (m : Move). x.a < most_of m t) (is-unknown x.mv h1 h2 h3 h4 h5 h6 h7) (must_go tested z).a-inside in
      omega arith
