-- The cabinet that the table gives has the invariant, beside the reference machine as it starts, and so has every state that commands reach.
use mathlib.Core.Path.{◌≡◌, refl, ap, sym, ◌∙◌, subst}
use mathlib.Core.Bool.{true, false}
use mathlib.Core.Option.{some}
use mathlib.Core.List.{List, []}
use Prim.Native.Nat.{ℕ, ◌<◌}
use native.Mathlib.Omega.{arith}
use lib.ListN.{length, length-map, length-replicate, replicate}
use Rattle.facts.specs.Indexing.{get_or_map, get_or_replicate_any}
use Rattle.backup.specs.Replica.{initial}
use Rattle.rules.specs.Table.{Table, Placement, placement_at}
use Rattle.rules.specs.Machine.{booted}
use Rattle.rules.specs.Reference.{reference_start}
use Rattle.rules.specs.Cabinet.{Standby, Process, placed, started, nobody, process_at, outbox_at}
use Rattle.rules.specs.Moves.{Command}
use Rattle.rules.specs.Judge.{Accepted}
use Rattle.rules.proofs.Runs.{here}
use Rattle.rules.proofs.Ahead.{level}
use Rattle.rules.proofs.Tables.{primary_ok, standby_ok, apart_ok}
use Rattle.rules.proofs.Good.{state_of, no_ports, trailing, Good, backed}
use Rattle.rules.proofs.Invariant.{mine, machine_at, Live, Seated, Invariant}
use Rattle.rules.proofs.Keep.{start_room}
use Rattle.rules.proofs.Turn.{FollowsRun, run_follows}

-- one process, where its placement says
good_placed : (t : Table) (p : ℕ) (x : Placement) → Good t p [] (placed x) booted
unfolding placed booted state_of
good_placed t p x =
    backed record {
      standby = record { board = x.standby; replica = initial; complete = true };
      is-standby = refl;
      kept = record { on_inputs = no_ports; short = omega arith; low = omega arith };
      no_suppress = refl;
      since = [];
      link = trailing record { complete = refl; before = []; replay = record { ran = here; sent_so = refl; sealed = refl }; ahead = level; one = omega arith };
      is-since = refl;
      few = record { instructions = omega arith; events = omega arith };
    }

module _ (t : Table) (ok : Accepted t) where
  live : (b : ℕ) → b < t.boards → Live t (replicate t.boards false) b
  live b h = record { there = h; live = get_or_replicate_any t.boards b false }

  seated-placed : (p : ℕ) → p < length t.processes → Seated t (replicate t.boards false) (placed (placement_at t p))
  unfolding placed
  seated-placed p h =
      let only : (s : Standby) → some (record { board = (placement_at t p).standby; replica = initial; complete = true }) ≡ some s → (placement_at t p).standby ≡ s.board =
      λ s e. (let same : record { board = (placement_at t p).standby; replica = initial; complete = true } ≡ s = cc in ap (λ (k : Standby). k.board) same) in
      record {
        at = live (placement_at t p).primary (primary_ok t ok p h);
        beside = λ s e. subst (Live t (replicate t.boards false)) (only s e) (live (placement_at t p).standby (standby_ok t ok p h));
        apart = λ s e f. apart_ok t ok p h (only s e ∙ f);
      }

  process-is : (p : ℕ) → p < length t.processes → process_at (started t) p ≡ placed (placement_at t p)
  unfolding started
  process-is p h = get_or_map placed t.processes p _ nobody h

  machine-is : (p : ℕ) → p < length t.processes → machine_at (reference_start t) p ≡ booted
  unfolding reference_start
  machine-is p h = get_or_map (λ _. booted) t.processes p (placement_at t p) booted h

  outbox_is : (b : ℕ) → outbox_at (started t) b ≡ []
  unfolding started
  outbox_is b = get_or_replicate_any t.boards b []

  processes : length (started t).processes ≡ length t.processes
  unfolding started
  processes = length-map t.processes placed

  machines : length (reference_start t).machines ≡ length t.processes
  unfolding reference_start
  machines = length-map t.processes (λ _. booted)

  outboxes : length (started t).outboxes ≡ t.boards
  unfolding started
  outboxes = length-replicate t.boards []

  none-dead : (started t).dead ≡ replicate t.boards false
  unfolding started
  none-dead = refl

  pub start_invariant : Invariant t (started t) (reference_start t)
  start_invariant =
      record {
        same_number = processes ∙ sym machines;
        all_processes = processes;
        all_outboxes = outboxes;
        all_boards = ap length none-dead ∙ length-replicate t.boards false;
        good = λ p hp.
            let h : p < length t.processes = rw processes at hp in
            subst (λ (x : Process). Good t p (mine t p (outbox_at (started t) x.board)) x (machine_at (reference_start t) p)) (sym (process-is p h))
            (rw (outbox_is, machine-is p h) (good_placed t p (placement_at t p)));
        own = λ b p h. ap (mine t p) (outbox_is b);
        seated = λ p hp. let h : p < length t.processes = rw processes at hp in rw (none-dead, process-is p h) (seated-placed p h);
      }

-- the run of any list of commands from the start
pub reached : (t : Table) → Accepted t → (commands : List Command) → FollowsRun t (started t) (reference_start t) commands
reached t ok commands = run_follows ok (started t) (reference_start t) (start_invariant t ok) (start_room t) commands
