-- Progress, which no demand asks for: a cabinet stands still only by back-pressure, and a process with hold-back can always go on.
-- Definitions only; proofs/Progress.antt proves them of every state that commands reach.
use Rattle.std.specs.Prelude.{◌≡◌, Bool, true, false, not, List, [], ◌∷◌, ℕ, ◌≤◌, ◌<◌, eqb, ltb, length, get_or, replicate}
use Rattle.std.proofs.Math.Option.{some}
use Rattle.facts.specs.Tests.{all_of}
use Rattle.rules.specs.Table.{Table, Instruction, SET, ADD, TAKE, FIRST, SEND, JUMP, NONE, channel_at, code_of}
use Rattle.rules.specs.Machine.{Mail, BusWord, Machine, sent, halted, moved, bit, local_step}
use Rattle.rules.specs.Reference.{Reference, Action, step, reference_start, reference_run, act, injections}
use Rattle.rules.specs.Cabinet.{instructions_most, occupancy_most, Process, Cabinet, process_at, outbox_at, unread_on, full, idle, quiescent}
use Rattle.rules.specs.Moves.{Command, Answer, numbers, with_process, Move, step_move, issue_move, transmit_move, inject_move, crash_move}
use Rattle.rules.specs.Moves.{rejoin_move, rebackup_move, unknown, move_of, turn, run_from}
use Rattle.rules.specs.Transparent.{bus_of, fed_of, machines_of, answered, originated, finished}

-- ---- commands that are not refused

-- "1 step process a", "2 sync process a", "3 carry board a": what a cabinet does with nothing from outside
abbrev pub step_of : ℕ → Command
step_of p = record { move = 1; a = p; word = 0 }

abbrev pub sync_of : ℕ → Command
sync_of p = record { move = 2; a = p; word = 0 }

abbrev pub carry_of : ℕ → Command
carry_of b = record { move = 3; a = b; word = 0 }

-- the code of the answer to a command in cabinet c
abbrev pub code_at : Table → Cabinet → Command → ℕ
code_at t c r = (numbers (turn t c r).answer).code

-- no refusal: their numbers begin at 32
abbrev pub is_done : Answer → Bool
is_done a = ltb (numbers a).code 32

-- commands, one after the other from cabinet c, of which none is refused
abbrev pub AllDone : Table → Cabinet → List Command → Type 0
AllDone t c commands = all_of is_done (run_from t c commands).answers ≡ true

-- ---- something can be done

pub data Next (t : Table) (c : Cabinet) : Type 0 where
  -- the oldest entry of some queue is carried
  carries : (b : ℕ) → AllDone t c (carry_of b ∷ []) → Next t c
  -- some process does an instruction
  steps : (p : ℕ) → AllDone t c (step_of p ∷ []) → Next t c
  -- some process owes a sync, issues it, and then does an instruction
  syncs : (p : ℕ) → code_at t c (step_of p) ≡ 37 → AllDone t c (sync_of p ∷ step_of p ∷ []) → Next t c

-- ---- nothing can be done

-- Process p stands at a SEND that is not held back, to a channel that is held: a step answers 39, or 37 where it owes a sync too.
pub record Pressed (t : Table) (c : Cabinet) (p : ℕ) : Type 0 where
  pub word : Mail
  pub after : Machine
  pub sends : local_step (code_of t p) (process_at c p).machine ≡ moved after (sent word)
  pub not-held_back : (process_at c p).suppress ≡ 0
  pub held : full t c word.channel ≡ true
  -- a process of the table reads it, itself perhaps, and leaves 8 words of that channel unread
  pub reader : (channel_at t word.channel).reader < length t.processes
  pub unread : occupancy_most ≤ unread_on word.channel (process_at c (channel_at t word.channel).reader).machine.mailbox

-- Process p does nothing: it is halted or would answer 36, or stands before a held channel.
pub data Stands (t : Table) (c : Cabinet) (p : ℕ) : Type 0 where
  waits : idle (local_step (code_of t p) (process_at c p).machine) ≡ true → Stands t c p
  pressed : Pressed t c p → Stands t c p

-- A standstill by back-pressure: no queue has an entry, each process does nothing, and one of them stands before a held channel.
pub record Standstill (t : Table) (c : Cabinet) : Type 0 where
  pub empty : (b : ℕ) → outbox_at c b ≡ []
  pub each : (p : ℕ) → p < length t.processes → Stands t c p
  pub process : ℕ
  pub there : process < length t.processes
  pub before : Pressed t c process

-- Quiet, or something can be done, or a standstill by back-pressure.
pub data Progress (t : Table) (c : Cabinet) : Type 0 where
  quiet : quiescent t c ≡ true → Progress t c
  next : Next t c → Progress t c
  stands : Standstill t c → Progress t c

-- Quiet, or something can be done, and no standstill: what holds of some tables in every state, as of the label line.
pub data Flows (t : Table) (c : Cabinet) : Type 0 where
  at_rest : quiescent t c ≡ true → Flows t c
  flowing : Next t c → Flows t c

-- ---- a standstill lasts

-- a feed and a crash come from outside; the other moves are the cabinet's own, a return and a resync among them
abbrev pub is_outside : Move → Bool
is_outside inject_move = true
is_outside crash_move = true
is_outside step_move = false
is_outside issue_move = false
is_outside transmit_move = false
is_outside rejoin_move = false
is_outside rebackup_move = false
is_outside unknown = false

-- none of these commands comes from outside
abbrev pub all_inside : List Command → Bool
all_inside commands = all_of (λ (r : Command). not (is_outside (move_of r.move))) commands

-- Cabinet c has become d: each process has the registers, place and inbox that it had, and no step is accepted.
pub record StandsAs (t : Table) (c d : Cabinet) : Type 0 where
  pub same : machines_of d ≡ machines_of c
  pub no_step : (p : ℕ) → is_done (turn t d (step_of p)).answer ≡ false

-- ---- tables without a standstill

-- an instruction waits for a word of channel k; where it waits for none, nothing is asked of it
abbrev pub waits_for : Instruction → ℕ → Bool
waits_for (TAKE a c) k = eqb c k
waits_for (FIRST a mask) k = bit mask k
waits_for (SET a v) k = true
waits_for (ADD a b) k = true
waits_for (SEND a c) k = true
waits_for (JUMP a n) k = true
waits_for NONE k = true

-- A table in which words go upward: a channel between processes leads to one with a higher number, and whichever instruction waits, waits for
-- all channels that its process reads.
pub record Upward (t : Table) : Type 0 where
  pub up : (k : ℕ) → (channel_at t k).sender < length t.processes → (channel_at t k).reader < length t.processes
      → (channel_at t k).sender < (channel_at t k).reader
  pub any : (p : ℕ) → p < length t.processes → (i : ℕ) → i < length (code_of t p) → (k : ℕ) → (channel_at t k).reader ≡ p
      → waits_for (get_or (code_of t p) i (SET 0 0)) k ≡ true

-- A process has halted with 8 words unread on a channel.
pub record HaltedReader (t : Table) (c : Cabinet) : Type 0 where
  pub process : ℕ
  pub there : process < length t.processes
  pub ended : local_step (code_of t process) (process_at c process).machine ≡ halted
  pub channel : ℕ
  pub unread : occupancy_most ≤ unread_on channel (process_at c process).machine.mailbox

-- ---- the plain cabinet is not held

-- Some plain run explains what was done so far, as at a quiet end: the same feeds and bus order, the same registers, places and inboxes. A step of
-- process p is accepted there, where ours stands.
pub record PlainGoesOn (t : Table) (fed : List Mail) (trace : List BusWord) (machines : List Machine) (p : ℕ) : Type 0 where
  pub actions : List Action
  pub end : Reference
  pub ran : reference_run t (reference_start t) actions ≡ some end
  pub injected : injections actions ≡ fed
  pub same-trace : end.trace ≡ trace
  pub same_end : end.machines ≡ machines
  pub further : Reference
  pub goes_on : act t end (step p) ≡ some further

-- of a list of commands
abbrev pub ListGoesOn : Table → List Command → ℕ → Type 0
ListGoesOn t commands p =
    PlainGoesOn t (fed_of commands (answered t commands)) (bus_of (answered t commands) (originated t commands)) (machines_of (finished t commands)) p

-- ---- rolling forward ends

-- Process p of cabinet c: so many steps of it alone, none refused, and nothing is left to hold back; nothing else of the cabinet changes.
pub record CatchesUp (t : Table) (c : Cabinet) (p : ℕ) : Type 0 where
  pub steps : ℕ
  -- no more than a sync is owed after
  pub few : steps ≤ instructions_most
  pub done : AllDone t c (replicate steps (step_of p))
  pub process : Process
  pub caught_up : process.suppress ≡ 0
  pub only : (run_from t c (replicate steps (step_of p))).cabinet ≡ with_process p process c
