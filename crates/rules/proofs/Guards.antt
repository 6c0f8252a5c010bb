-- What a command does: the one walk over the moves and their checks. A property that holds where nothing is done, and after each thing that a
-- move can do (`Done`, a field for each, with what the checks have found), holds after every command.
use mathlib.Core.Path.{◌≡◌, refl}
use mathlib.Core.Bool.{Bool, true, false, not}
use mathlib.Core.List.{List, [], ◌∷◌}
use Prim.Native.Nat.{ℕ, zero, suc, ◌<◌}
use lib.Dec.{eqb, leb}
use lib.ListN.{length, set}
use borrow.Author.Tests.{leb-false, not-false, eqb-true}
use Rattle.facts.specs.Tests.{no_way, or_left, or_right}
use Rattle.backup.specs.Replica.{Checkpoint}
use Rattle.rules.specs.Table.{Table, environment, channel_at, code_of, limit_of, port_of}
use Rattle.rules.specs.Machine.{Mail, Machine, internal, took, sent, Outcome, halted, no_mail, moved, sent_from, local_step}
use Rattle.rules.specs.Cabinet.{outbox_most, Process, Item, message, checkpoint, transfer, Cabinet, process_at, outbox_at, dead_at, protected, other_board, some_unbacked, overrun, owing, full, crowded, waiting}
use Rattle.rules.specs.Moves.{Command, Refusal, Answer, step_done, issue_done, crash_done, rejoin_done, rebackup_done, transfer_kept, received, queued, suppressed, transmitted, injected, refused, Result, refuse, accept, guard, with_process, with_outbox, enqueue, advanced, counting, one_done, one_sent, one_taken, send, step_from, step, issued, snapshot, issue, deliver, counts, keeps, end_transfer, landed, transmit_item, transmit_oldest, transmit, inject, all_after_crash, crash, rejoin, begin_transfer, rebackup, Move, step_move, issue_move, transmit_move, inject_move, crash_move, rejoin_move, rebackup_move, unknown, move_of, perform, judged, settle, turn, run_from}

-- ---- what each move can do

-- the word of a feed
abbrev pub fed_mail : Command → Mail
fed_mail r = record { channel = r.a; word = r.word }

-- the cabinet after a crash of board b
abbrev pub crashed_by : Table → ℕ → Cabinet → Cabinet
crashed_by t b c = record { processes = all_after_crash t b 0 c.processes; outboxes = set c.outboxes b []; dead = set c.dead b true }

-- the cabinet after a return of board b
abbrev pub rejoined_by : ℕ → Cabinet → Cabinet
rejoined_by b c = record { processes = c.processes; outboxes = set c.outboxes b []; dead = set c.dead b false }

-- the cabinet after a resync of process p
abbrev pub rebackup_by : Table → ℕ → Cabinet → Cabinet
rebackup_by t p c = with_process p (begin_transfer t p (process_at c p)) (enqueue (process_at c p).board (transfer p) c)

-- what a command does in cabinet c, by its move, with the cabinet and the answer afterwards
module _ (t : Table) (c : Cabinet) (r : Command) (P : Move → Cabinet → Answer → Type 0) where
  -- the process and the board that it names
  abbrev x : Process
  x = process_at c r.a

  pub record Done : Type 0 where
    -- a SET, an ADD or a JUMP
    pub computes : r.a < length t.processes → (m : Machine) → local_step (code_of t r.a) x.machine ≡ moved m internal → overrun x ≡ false
        → P step_move (with_process r.a (advanced m (counting one_done x) x.suppress x) c) step_done
    -- a TAKE or a FIRST
    pub takes : r.a < length t.processes → (m : Machine) (mail : Mail) → local_step (code_of t r.a) x.machine ≡ moved m (took mail)
        → owing (limit_of t r.a) x ≡ false
        → P step_move (with_process r.a (advanced m (counting (one_taken (port_of t r.a mail.channel)) x) x.suppress x) c) (received mail)
    -- a SEND held back
    pub suppresses : r.a < length t.processes → (m : Machine) (mail : Mail) → local_step (code_of t r.a) x.machine ≡ moved m (sent mail)
        → (h : ℕ) → x.suppress ≡ suc h → P step_move (with_process r.a (advanced m x.since h x) c) (suppressed mail)
    -- a SEND whose word joins the queue
    pub sends : r.a < length t.processes → (m : Machine) (mail : Mail) → local_step (code_of t r.a) x.machine ≡ moved m (sent mail)
        → x.suppress ≡ 0 → owing (limit_of t r.a) x ≡ false → leb outbox_most (length (outbox_at c x.board)) ≡ false → full t c mail.channel ≡ false
        → P step_move
        (with_process r.a (advanced m (counting one_sent x) 0 x) (enqueue x.board (message mail x.machine.pc) c)) (queued mail)
    pub issues : r.a < length t.processes → protected x ≡ true → waiting r.a (outbox_at c x.board) ≡ false
        → leb outbox_most (length (outbox_at c x.board)) ≡ false
        → P issue_move (with_process r.a (issued x) (enqueue x.board (checkpoint r.a (snapshot x)) c)) issue_done
    -- a word is carried
    pub transmits : r.a < t.boards → dead_at c r.a ≡ false → (mail : Mail) (pc : ℕ) (rest : List Item)
        → outbox_at c r.a ≡ message mail pc ∷ rest
        → (let sender = (channel_at t mail.channel).sender in
        P transmit_move (deliver t mail (with_process sender (counts (process_at c sender)) (with_outbox r.a rest c)))
        (transmitted (sent_from sender pc mail)))
    -- a sync is carried
    pub syncs : r.a < t.boards → dead_at c r.a ≡ false → (p : ℕ) (s : Checkpoint) (rest : List Item) → outbox_at c r.a ≡ checkpoint p s ∷ rest
        → P transmit_move (with_process p (keeps s (process_at c p)) (with_outbox r.a rest c)) (landed p s (process_at c p))
    -- a resync is carried
    pub completes : r.a < t.boards → dead_at c r.a ≡ false → (p : ℕ) (rest : List Item) → outbox_at c r.a ≡ transfer p ∷ rest
        → P transmit_move (with_process p (end_transfer (process_at c p)) (with_outbox r.a rest c)) (transfer_kept p)
    pub injects : r.a < length t.channels → (channel_at t r.a).sender ≡ environment → full t c r.a ≡ false
        → P inject_move (deliver t (fed_mail r) c) (injected (fed_mail r))
    pub crashes : r.a < t.boards → dead_at c r.a ≡ false → some_unbacked c ≡ false → P crash_move (crashed_by t r.a c) crash_done
    pub rejoins : r.a < t.boards → dead_at c r.a ≡ true → P rejoin_move (rejoined_by r.a c) rejoin_done
    -- a resync
    pub rebackups : r.a < length t.processes → protected x ≡ false → dead_at c (other_board t r.a x) ≡ false → x.suppress ≡ 0 → crowded t c r.a ≡ false
        → waiting r.a (outbox_at c x.board) ≡ false → leb outbox_most (length (outbox_at c x.board)) ≡ false
        → P rebackup_move (rebackup_by t r.a c) rebackup_done

  -- ---- the walk

  -- refused, or the cabinet afterwards and the answer have the property
  data Yields (m : Move) : Result → Type 0 where
    unmoved : {why : Refusal} → Yields m (refuse why)
    leaves : {d : Cabinet} {a : Answer} → P m d a → Yields m (accept d a)

  after-guard : {m : Move} (test : Bool) (why : Refusal) (rest : Result) → (test ≡ false → Yields m rest) → Yields m (guard test why rest)
  unfolding guard
  after-guard true why rest h = unmoved
  after-guard false why rest h = h refl

  module _ (d : Done) where
    by_send : r.a < length t.processes → (m : Machine) (mail : Mail) → local_step (code_of t r.a) x.machine ≡ moved m (sent mail)
        → (h : ℕ) → x.suppress ≡ h → Yields step_move (send t c r.a x m mail h)
    unfolding send
    by_send l m mail e (suc h) f = leaves (d.suppresses l m mail e h f)
    by_send l m mail e zero f =
        after-guard _ _ _ λ limit. after-guard _ _ _ λ free. after-guard _ _ _ λ unheld. leaves (d.sends l m mail e f limit free unheld)

    by_outcome : r.a < length t.processes → (o : Outcome) → local_step (code_of t r.a) x.machine ≡ o → Yields step_move (step_from t c r.a x o)
    unfolding step_from
    by_outcome l halted e = unmoved
    by_outcome l no_mail e = unmoved
    by_outcome l (moved m internal) e = after-guard _ _ _ λ long. leaves (d.computes l m e long)
    by_outcome l (moved m (took mail)) e = after-guard _ _ _ λ limit. leaves (d.takes l m mail e limit)
    by_outcome l (moved m (sent mail)) e = by_send l m mail e x.suppress refl

    by_oldest : r.a < t.boards → dead_at c r.a ≡ false → (q : List Item) → outbox_at c r.a ≡ q → Yields transmit_move (transmit_oldest t c r.a q)
    unfolding transmit_oldest transmit_item
    by_oldest l alive [] e = unmoved
    by_oldest l alive (message mail pc ∷ rest) e = leaves (d.transmits l alive mail pc rest e)
    by_oldest l alive (checkpoint p s ∷ rest) e = leaves (d.syncs l alive p s rest e)
    by_oldest l alive (transfer p ∷ rest) e = leaves (d.completes l alive p rest e)

    by_move : (m : Move) → Yields m (perform t c r m)
    unfolding perform step issue transmit inject crash rejoin rebackup
    by_move step_move = after-guard _ _ _ λ _. after-guard _ _ _ λ h. by_outcome (leb-false _ _ h) (local_step (code_of t r.a) x.machine) refl
    by_move issue_move =
        after-guard _ _ _ λ _. after-guard _ _ _ λ h. after-guard _ _ _ λ safe. after-guard _ _ _ λ none-waits. after-guard _ _ _ λ free.
        leaves (d.issues (leb-false _ _ h) (not-false _ safe) none-waits free)
    by_move transmit_move =
        after-guard _ _ _ λ _. after-guard _ _ _ λ h. after-guard _ _ _ λ alive. by_oldest (leb-false _ _ h) alive (outbox_at c r.a) refl
    by_move inject_move =
        after-guard _ _ _ λ h. after-guard _ _ _ λ outside. after-guard _ _ _ λ free.
        leaves (d.injects (leb-false _ _ h) (eqb-true _ _ (not-false _ outside)) free)
    by_move crash_move =
        after-guard _ _ _ λ _. after-guard _ _ _ λ h. after-guard _ _ _ λ alive. after-guard _ _ _ λ safe.
        leaves (d.crashes (leb-false _ _ h) alive safe)
    by_move rejoin_move =
        after-guard _ _ _ λ _. after-guard _ _ _ λ h. after-guard _ _ _ λ fallen. leaves (d.rejoins (leb-false _ _ h) (not-false _ fallen))
    by_move rebackup_move =
        after-guard _ _ _ λ _. after-guard _ _ _ λ h. after-guard _ _ _ λ bare. after-guard _ _ _ λ ready. after-guard _ _ _ λ none-waits. after-guard _ _ _ λ free.
        leaves (d.rebackups (leb-false _ _ h) (or_left (protected x) (dead_at c (other_board t r.a x)) bare) (or_right (protected x) (dead_at c (other_board t r.a x)) bare)
        (eqb-true _ _ (not-false _ (or_left (not (eqb x.suppress 0)) (crowded t c r.a) ready)))
        (or_right (not (eqb x.suppress 0)) (crowded t c r.a) ready) none-waits free)
    by_move unknown = unmoved

    after-settle : (m : Move) {result : Result} → ((why : Refusal) → P m c (refused why r.a)) → Yields m result
        → P m (settle c r result).cabinet (settle c r result).answer
    after-settle m h (unmoved {why = why}) = h why
    after-settle m h (leaves g) = g

    pub yields_turn : ((m : Move) (why : Refusal) → P m c (refused why r.a)) → P (move_of r.move) (turn t c r).cabinet (turn t c r).answer
    unfolding turn judged
    yields_turn nothing-done = after-settle (move_of r.move) (nothing-done (move_of r.move)) (by_move (move_of r.move))

-- where a checked move is accepted, the check didn't apply
pub guard-accepted : (test : Bool) (why : Refusal) (rest : Result) {d : Cabinet} {a : Answer} → guard test why rest ≡ accept d a → rest ≡ accept d a
unfolding guard
guard-accepted true why rest e = absurd (no_way (cc))
guard-accepted false why rest e = e

-- ---- properties of the cabinet alone

-- what each thing that a command does leaves
abbrev pub Leaves : Table → Cabinet → Command → (Cabinet → Type 0) → Type 0
Leaves t c r P = Done t c r (λ _ d _. P d)

pub after_turn : {P : Cabinet → Type 0} (t : Table) (c : Cabinet) (r : Command) → P c → Leaves t c r P → P (turn t c r).cabinet
after_turn {P} t c r before d = yields_turn t c r (λ _ e _. P e) d (λ _ _. before)

-- what every command keeps, a list of them keeps
pub after_run : {P : Cabinet → Type 0} (t : Table) → ((c : Cabinet) (r : Command) → P c → Leaves t c r P) → (c : Cabinet) (commands : List Command) → P c
    → P (run_from t c commands).cabinet
unfolding run_from
after_run t each c [] h = h
after_run t each c (r ∷ rs) h = after_run t each (turn t c r).cabinet rs (after_turn t c r h (each c r h))
