-- A done move: what it promises of any store, and how its promise is told from the rules' answer. No entry joins, or one at a place below 512.
use Rattle.std.proofs.Common.{◌≡◌, ℕ, ◌<◌, Bool, List, length, set, sym, refl, subst, arith, Some}
use Rattle.numbers.specs.declared.answers.Reason.{Reason}
use Rattle.plan.specs.Plan.{Plan, Planned}
use Rattle.rules.specs.Table.{Table}
use Rattle.rules.specs.Cabinet.{Cabinet}
use Rattle.rules.specs.Moves as moves
use Rattle.rules.specs.Moves.{Command, Result, accept, numbers, numbered}
use Rattle.rules.specs.Reasons.{cause_of}
use Rattle.state.specs.declared.entry.Entry.{Entry}
use Rattle.state.specs.declared.moved.Answer.{Answer}
use Rattle.state.specs.declared.moved.Moved.{Moved}
use Rattle.state.specs.declared.queue.Queue.{Queue}
use Rattle.state.specs.declared.store.Store.{Store}
use Rattle.state.specs.Queue.{dead_in}
use Rattle.state.specs.Store.{Holds}
use Rattle.state.specs.Moved.{Reachable, Answered, SameLengths, Makes, Reasoned, answer_for, moved_of, alone_of}

-- of a process of the table, the index that its number is clamped to is the number
pub its_index : {t : Table} {c : Cabinet} {p a : ℕ} → Reachable t c → a < length t.processes → (a < 16 → p ≡ a) → p ≡ a
its_index reach ha is-p = is-p (let z = reach.accepted.processes_high in omega arith)

-- and of a board
pub its_board : {t : Table} {c : Cabinet} {b a : ℕ} → Reachable t c → a < t.boards → (a < 16 → b ≡ a) → b ≡ a
its_board reach ha is_b = is_b (let z = reach.accepted.boards_high in omega arith)

-- so that what is said of the index's queue, whether its board is dead, is said of the board
pub dead_so : (queues : List Queue) {b a : ℕ} (x : Bool) → dead_in queues b ≡ x → {t : Table} {c : Cabinet} → Reachable t c → a < t.boards → (a < 16 → b ≡ a)
    → dead_in queues a ≡ x
dead_so queues x e reach ha is_b = subst (λ (i : ℕ). dead_in queues i ≡ x) (its_board reach ha is_b) e

-- the rules accept
pub answered : {t : Table} {s : Store} {entries : List Entry} {c : Cabinet} {command : Command} {result : Result} {r : Answer} (d : Cabinet) (x : moves.Answer)
    → result ≡ accept d x → numbers x ≡ numbered r.code r.a r.word → cause_of x ≡ r.cause → Holds t s entries d → Answered t s entries c command result r
answered {t} {s} {entries} {c} {command} {result} {r} d x e g cause h =
    subst (λ (z : Result). Answered t s entries c command z r) (sym e) (record { answer-is = g; cause_is = cause; holds = h })

-- an answer for a reason has that one
pub for_reason : (reason : Reason) (a word : ℕ) → Reasoned (answer_for reason a word)
for_reason reason a word = record { reason = reason; reason-is = refl }

-- what a move makes of a store that holds a cabinet, and of its entries
abbrev Made : (Table → Cabinet → ℕ → Result) → (Table → List Entry → Type 0) → Plan → Store → ℕ → (List Entry → List Entry) → Store → Answer → Type 0
Made rule asks l s a stored s' answer =
    (t : Table) (entries : List Entry) (c : Cabinet) (command : Command) → Reachable t c → Planned t l → Holds t s entries c → command.a ≡ a
    → asks t entries → Answered t s' (stored entries) c command (rule t c a) answer

module _ {rule : Table → Cabinet → ℕ → Result} {asks : Table → List Entry → Type 0} {joins : ℕ} {l : Plan} {s : Store} {a : ℕ} {entry : Entry} {s' : Store} {r : Moved}
    (answer : Answer) (why : Reasoned answer) (done : answer.code < 32) (same : SameLengths s s') where
  -- no entry joins
  pub makes_alone : r ≡ alone_of answer → Made rule asks l s a (λ entries. entries) s' answer → Makes rule asks joins l s a entry s' r
  makes_alone e made =
      subst (λ (x : Moved). Makes rule asks joins l s a entry s' x) (sym e)
      (record { made = made; reasoned = why; untouched = λ h. absurd (omega arith); none_joins = λ _. refl; at-inside = λ k z. cc; same_lengths = same })

  -- an entry joins, at a place
  pub makes-joined : (at : ℕ) → at < 512 → answer.code ≡ joins → r ≡ moved_of answer (Some at) → Made rule asks l s a (λ entries. set entries at entry) s' answer
      → Makes rule asks joins l s a entry s' r
  makes-joined at below says e made =
      subst (λ (x : Moved). Makes rule asks joins l s a entry s' x) (sym e)
      (record {
        made = made;
        reasoned = why;
        untouched = λ h. absurd (omega arith);
        none_joins = λ n. absurd (n says);
        at-inside = λ k z. let e : at ≡ k = cc in omega arith;
        same_lengths = same;
      })

-- a move supposes less
pub makes_under : {rule : Table → Cabinet → ℕ → Result} {asks : Table → List Entry → Type 0} (less : Table → List Entry → Type 0) {joins : ℕ} {l : Plan} {s : Store}
    {a : ℕ} {entry : Entry} {s' : Store} {r : Moved}
    → ((t : Table) (entries : List Entry) (c : Cabinet) → Reachable t c → Planned t l → Holds t s entries c → less t entries → asks t entries)
    → Makes rule asks joins l s a entry s' r → Makes rule less joins l s a entry s' r
makes_under less enough m = record {
  made = λ t entries c command reach planned h f i. m.made t entries c command reach planned h f (enough t entries c reach planned h i);
  reasoned = m.reasoned;
  untouched = m.untouched;
  none_joins = m.none_joins;
  at-inside = m.at-inside;
  same_lengths = m.same_lengths;
}
