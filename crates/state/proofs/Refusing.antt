-- A refused move: the answer repeats a with word 0, no entry joins, and everything stays. What refuses it the rules and the code name each in
-- their own way.
use Rattle.std.proofs.Common.{◌≡◌, ℕ, List, sym, refl, ap, subst}
use Rattle.rules.specs.Table.{Table}
use Rattle.rules.specs.Cabinet.{Cabinet}
use Rattle.rules.specs.Moves.{Command, Result, Refusal, refuse, refusal_number, numbers, numbered}
use Rattle.rules.specs.Moves.{unknown_move, stray_word, no_process, no_board, no_channel, transmit_dead, crash_dead, is_halted}
use Rattle.rules.specs.Moves.{no_word_to_take, no_word_for_first, events_full, instructions_full, send_blocked, sync_blocked, rebackup_blocked}
use Rattle.rules.specs.Moves.{send_held, inject_held, no_backup, sync_waits, rebackup_waits, outbox_empty, not_outside, not_backed, board_live}
use Rattle.rules.specs.Moves.{unready, has_backup, none_kept}
use Rattle.rules.specs.Reasons.{refusal_cause, cause_of}
use Rattle.numbers.specs.declared.answers.Reason.{Reason}
use Rattle.numbers.specs.declared.answers.Reason.TheVariants.{NoSuchMove, WordNotZero, NoSuchProcess, NoSuchBoard, NoSuchChannel, CarryOfDead, CrashOfDead, Halted}
use Rattle.numbers.specs.declared.answers.Reason.TheVariants.{NoWordForTake, NoWordForFirst, OwesForActs, OwesForInstructions, QueueFullForSend, QueueFullForSync}
use Rattle.numbers.specs.declared.answers.Reason.TheVariants.{QueueFullForResync, HeldForSend, HeldForFeed, NoBackup, SyncWaiting, ResyncWaiting, QueueEmpty, NotFromOutside}
use Rattle.numbers.specs.declared.answers.Reason.TheVariants.{SomeUnbacked, BoardLive, NotReady, HasBackup, NoneKept}
use Rattle.numbers.specs.Answers.{code_in, cause_in}
use Rattle.plan.specs.Plan.{Plan, Planned}
use Rattle.state.specs.declared.entry.Entry.{Entry}
use Rattle.state.specs.declared.moved.Answer.{Answer}
use Rattle.state.specs.declared.moved.Moved.{Moved}
use Rattle.state.specs.declared.store.Store.{Store}
use Rattle.state.specs.Store.{Holds}
use Rattle.state.specs.Moved.{Reachable, Answered, SameLengths, Makes, refusal_for, refused_for}

-- what the code says where the rules refuse so
abbrev pub reason_for : Refusal → Reason
reason_for unknown_move = NoSuchMove
reason_for stray_word = WordNotZero
reason_for no_process = NoSuchProcess
reason_for no_board = NoSuchBoard
reason_for no_channel = NoSuchChannel
reason_for transmit_dead = CarryOfDead
reason_for crash_dead = CrashOfDead
reason_for is_halted = Halted
reason_for no_word_to_take = NoWordForTake
reason_for no_word_for_first = NoWordForFirst
reason_for events_full = OwesForActs
reason_for instructions_full = OwesForInstructions
reason_for send_blocked = QueueFullForSend
reason_for sync_blocked = QueueFullForSync
reason_for rebackup_blocked = QueueFullForResync
reason_for send_held = HeldForSend
reason_for inject_held = HeldForFeed
reason_for no_backup = NoBackup
reason_for sync_waits = SyncWaiting
reason_for rebackup_waits = ResyncWaiting
reason_for outbox_empty = QueueEmpty
reason_for not_outside = NotFromOutside
reason_for not_backed = SomeUnbacked
reason_for board_live = BoardLive
reason_for unready = NotReady
reason_for has_backup = HasBackup
reason_for none_kept = NoneKept

its_code : (why : Refusal) → refusal_number why ≡ code_in (reason_for why)
unfolding refusal_number
its_code unknown_move = refl
its_code stray_word = refl
its_code no_process = refl
its_code no_board = refl
its_code no_channel = refl
its_code transmit_dead = refl
its_code crash_dead = refl
its_code is_halted = refl
its_code no_word_to_take = refl
its_code no_word_for_first = refl
its_code events_full = refl
its_code instructions_full = refl
its_code send_blocked = refl
its_code sync_blocked = refl
its_code rebackup_blocked = refl
its_code send_held = refl
its_code inject_held = refl
its_code no_backup = refl
its_code sync_waits = refl
its_code rebackup_waits = refl
its_code outbox_empty = refl
its_code not_outside = refl
its_code not_backed = refl
its_code board_live = refl
its_code unready = refl
its_code has_backup = refl
its_code none_kept = refl

its_cause : (why : Refusal) → refusal_cause why ≡ cause_in (reason_for why)
unfolding refusal_cause
its_cause unknown_move = refl
its_cause stray_word = refl
its_cause no_process = refl
its_cause no_board = refl
its_cause no_channel = refl
its_cause transmit_dead = refl
its_cause crash_dead = refl
its_cause is_halted = refl
its_cause no_word_to_take = refl
its_cause no_word_for_first = refl
its_cause events_full = refl
its_cause instructions_full = refl
its_cause send_blocked = refl
its_cause sync_blocked = refl
its_cause rebackup_blocked = refl
its_cause send_held = refl
its_cause inject_held = refl
its_cause no_backup = refl
its_cause sync_waits = refl
its_cause rebackup_waits = refl
its_cause outbox_empty = refl
its_cause not_outside = refl
its_cause not_backed = refl
its_cause board_live = refl
its_cause unready = refl
its_cause has_backup = refl
its_cause none_kept = refl

pub turned_away_lem : {t : Table} {s : Store} {entries : List Entry} {c : Cabinet} (command : Command) {result : Result} {r : Answer} (a : ℕ) (why : Refusal)
    → Holds t s entries c → result ≡ refuse why → command.a ≡ a → r ≡ refusal_for (reason_for why) a → Answered t s entries c command result r
unfolding numbers cause_of
turned_away_lem {t} {s} {entries} {c} command {result} {r} a why h e f g =
    subst (λ (x : Answer). Answered t s entries c command result x) (sym g)
    (subst (λ (x : Result). Answered t s entries c command x (refusal_for (reason_for why) a)) (sym e)
    (subst (λ (x : ℕ). Answered t s entries c command (refuse why) (refusal_for (reason_for why) x)) f
    (record { answer-is = ap (λ (n : ℕ). numbered n command.a 0) (its_code why); cause_is = its_cause why; holds = h })))

pub as_long : (s : Store) → SameLengths s s
as_long s = record { processes-same = refl; queues-same = refl; totals-same = refl }

-- a move that is refused for one reason, whatever reachable cabinet the store holds
pub makes-refused : {rule : Table → Cabinet → ℕ → Result} {asks : Table → List Entry → Type 0} {joins : ℕ} {l : Plan} {s : Store} {a : ℕ} {entry : Entry} {r : Moved}
    (reason : Reason) → r ≡ refused_for reason a
    → ((t : Table) (entries : List Entry) (c : Cabinet) (command : Command) → Reachable t c → Planned t l → Holds t s entries c → command.a ≡ a
    → asks t entries → Answered t s entries c command (rule t c a) (refusal_for reason a))
    → Makes rule asks joins l s a entry s r
makes-refused {rule} {asks} {joins} {l} {s} {a} {entry} reason e h =
    subst (λ (x : Moved). Makes rule asks joins l s a entry s x) (sym e)
    (record { made = h; reasoned = record { reason = reason; reason-is = refl }; untouched = λ _. refl; none_joins = λ _. refl; at-inside = λ k z. cc; same_lengths = as_long s })
