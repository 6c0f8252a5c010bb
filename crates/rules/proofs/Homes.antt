-- A process runs on one of its two boards of the table, and its record, complete or being made, stands on the other: each move keeps it. So
-- `other_board` is what W-210 calls "its other table board".
use mathlib.Core.Logic.{◌≢◌}
use mathlib.Core.Path.{◌≡◌, refl, ap, sym, ◌∙◌, subst}
use mathlib.Core.Bool.{Bool, true, false, cond}
use mathlib.Core.Option.{Option, none, some}
use mathlib.Core.List.{List}
use Prim.Native.Nat.{ℕ, ◌<◌}
use lib.Dec.{eqb}
use lib.ListN.{length, get_or, set, length-set, length-map}
use lib.Seq.{get_or-set_same, get_or-set_other}
use borrow.Author.Tests.{eq-eqb}
use Rattle.facts.specs.Tests.{no_way, by_eq}
use Rattle.facts.specs.Indexing.{get_or_map}
use Rattle.backup.specs.Replica.{Checkpoint, initial, arrive, count, sync}
use Rattle.rules.specs.Table.{Table, placement_at, channel_at, port_of}
use Rattle.rules.specs.Machine.{Mail}
use Rattle.rules.specs.Cabinet.{Standby, Process, Cabinet, nobody, process_at, other_board, placed, started}
use Rattle.rules.specs.Moves.{Command, advanced, issued, receive, deliver, counts, keeps, end_transfer, copied, begin_transfer, promoted, unprotected, after_crash, run_from}
use Rattle.rules.specs.Rebackup.{Home}
use Rattle.rules.proofs.Frame.{SameSeat, same-boards, same_beside, called-board, called-backup-board, completed-board}
use Rattle.rules.proofs.Crashed.{crash-length, crash_at}
use Rattle.rules.proofs.Buffers.{processes_stay}
use Rattle.rules.proofs.Guards.{Leaves, after_run}

-- of a list of processes, of which the first is process 0
abbrev AllHome : Table → List Process → Type 0
AllHome t l = (p : ℕ) → p < length l → Home t p (get_or l p nobody)

abbrev AtHome : Table → Cabinet → Type 0
AtHome t c = AllHome t c.processes

-- ---- one process changes

home_same : {t : Table} {p : ℕ} {x y : Process} → SameSeat x y → Home t p y → Home t p x
home_same {t} {p} {x} {y} s h =
    record {
      runs = λ n. s.board ∙ h.runs (λ e. n (s.board ∙ e));
      other = λ k e. same_beside (λ b. b ≡ other_board t p x) s e
          (λ r f. h.other r f ∙ ap (λ (b : ℕ). cond (eqb b (placement_at t p).primary) (placement_at t p).standby (placement_at t p).primary) (sym s.board));
    }

home_set : (t : Table) (l : List Process) (p : ℕ) (y : Process) → AllHome t l → (p < length l → Home t p y) → AllHome t (set l p y)
home_set t l p y h hy j hj =
    let g : j < length l = rw length-set at hj in
    by_eq j p
    (λ e. subst (λ (i : ℕ). Home t i (get_or (set l p y) i nobody)) (sym e)
    (subst (Home t p) (sym (get_or-set_same l p y nobody (rw e at g))) (hy (rw e at g))))
    (λ n. subst (Home t j) (sym (get_or-set_other l p j y nobody n)) (h j g))

-- with its halves where they were
home_stays : (t : Table) (l : List Process) (p : ℕ) (y : Process) → AllHome t l → SameSeat y (get_or l p nobody) → AllHome t (set l p y)
home_stays t l p y h s = home_set t l p y h (λ hp. home_same s (h p hp))

home_deliver : (t : Table) (l : List Process) (mail : Mail) → AllHome t l
    → (let reader = (channel_at t mail.channel).reader in AllHome t (set l reader (receive t reader mail (get_or l reader nobody))))
unfolding receive
home_deliver t l mail h =
    let r : ℕ = (channel_at t mail.channel).reader in
    home_stays t l r _ h (record { board = refl; standby = called-board (λ k. arrive k (port_of t r mail.channel) mail.word) (get_or l r nobody).standby })

-- ---- crash

home_promoted : (t : Table) (p : ℕ) (x : Process) (s : Standby) → Home t p x → x.standby ≡ some s → Home t p (promoted t p s)
unfolding promoted
home_promoted t p x s h e =
    record {
      runs = λ n. go (eqb x.board (placement_at t p).primary) (h.other s e) n;
      other = λ k f. absurd (no_way (cc));
    }
  where
    go : (b : Bool) → s.board ≡ cond b (placement_at t p).standby (placement_at t p).primary → s.board ≢ (placement_at t p).primary → s.board ≡ (placement_at t p).standby
    go true f n = f
    go false f n = absurd (n f)

home_bare : (t : Table) (p : ℕ) (x : Process) → Home t p x → Home t p (unprotected x)
unfolding unprotected
home_bare t p x h = record { runs = h.runs; other = λ k f. absurd (no_way (cc)) }

home_after : (t : Table) (b p : ℕ) (x : Process) → Home t p x → Home t p (after_crash t b p x x.standby)
unfolding after_crash
home_after t b p x h = go x.standby refl
  where
    go : (o : Option Standby) → x.standby ≡ o → Home t p (after_crash t b p x o)
    go none e = h
    go (some s) e = by_board (eqb b x.board) (eqb b s.board)
      where
        by_board : (y z : Bool) → Home t p (cond y (promoted t p s) (cond z (unprotected x) x))
        by_board true z = home_promoted t p x s h e
        by_board false true = home_bare t p x h
        by_board false false = h

-- ---- each move

module _ (t : Table) (c : Cabinet) (h : AtHome t c) where
  -- a call of a backup leaves it where it is
  home_counts : (p : ℕ) → AllHome t (set c.processes p (counts (process_at c p)))
  unfolding counts
  home_counts p = home_stays t c.processes p _ h (record { board = refl; standby = called-backup-board count (process_at c p).standby })

  home_keeps : (p : ℕ) (k : Checkpoint) → AllHome t (set c.processes p (keeps k (process_at c p)))
  unfolding keeps
  home_keeps p k = home_stays t c.processes p _ h (record { board = refl; standby = called-backup-board (λ r. sync r k) (process_at c p).standby })

  home_end_transfer : (p : ℕ) → AllHome t (set c.processes p (end_transfer (process_at c p)))
  unfolding end_transfer
  home_end_transfer p = home_stays t c.processes p _ h (record { board = refl; standby = completed-board (process_at c p).standby })

  home_begin_transfer : (p : ℕ) → AllHome t (set c.processes p (begin_transfer t p (process_at c p)))
  unfolding begin_transfer
  home_begin_transfer p =
      home_set t c.processes p _ h
      (λ hp. record {
        runs = (h p hp).runs;
        other = λ s e.
            let same : record { board = other_board t p (process_at c p); replica = copied t p (process_at c p).machine; complete = false } ≡ s = cc in
            ap (λ (k : Standby). k.board) (sym same);
      })

  home_carried : (mail : Mail)
      → (let sender = (channel_at t mail.channel).sender in
      let reader = (channel_at t mail.channel).reader in
      let now = set c.processes sender (counts (process_at c sender)) in
      AllHome t (set now reader (receive t reader mail (get_or now reader nobody))))
  home_carried mail =
      let sender : ℕ = (channel_at t mail.channel).sender in
      home_deliver t (set c.processes sender (counts (process_at c sender))) mail (home_counts sender)

  keep_home : (r : Command) → Leaves t c r (AtHome t)
  unfolding advanced issued deliver
  keep_home r = record {
    computes = λ _ m _ _. home_stays t c.processes r.a _ h (same-boards refl refl);
    takes = λ _ m _ _ _. home_stays t c.processes r.a _ h (same-boards refl refl);
    suppresses = λ _ m _ _ _ _. home_stays t c.processes r.a _ h (same-boards refl refl);
    sends = λ _ m _ _ _ _ _ _. home_stays t c.processes r.a _ h (same-boards refl refl);
    issues = λ _ _ _ _. home_stays t c.processes r.a _ h (same-boards refl refl);
    transmits = λ _ _ mail _ _ _. home_carried mail;
    syncs = λ _ _ p k _ _. home_keeps p k;
    completes = λ _ _ p _ _. home_end_transfer p;
    injects = λ _ _ _. home_deliver t c.processes _ h;
    crashes = λ _ _ _ p hp.
        let l : p < length c.processes = rw (crash-length t r.a 0 c.processes) at hp in
        subst (Home t p) (sym (crash_at t r.a c.processes p l)) (home_after t r.a p (process_at c p) (h p l));
    rejoins = λ _ _. h;
    rebackups = λ _ _ _ _ _ _ _. home_begin_transfer r.a;
  }

start_home : (t : Table) → AtHome t (started t)
unfolding started placed
start_home t p hp =
    let l : p < length t.processes = rw length-map at hp in
    subst (Home t p) (sym (get_or_map placed t.processes p _ nobody l))
    (record {
      runs = λ n. absurd (n refl);
      other = λ s e.
          let same : record { board = (placement_at t p).standby; replica = initial; complete = true } ≡ s = cc in
          rw (eq-eqb (placement_at t p).primary (placement_at t p).primary refl) (ap (λ (k : Standby). k.board) (sym same));
    })

-- in every state that commands reach
pub at_home : (t : Table) (commands : List Command) (p : ℕ) → p < length t.processes → Home t p (process_at (run_from t (started t) commands).cabinet p)
at_home t commands p h = after_run {P = AtHome t} t (λ c r g. keep_home t c g r) (started t) commands (start_home t) p (rw (processes_stay t commands) h)
