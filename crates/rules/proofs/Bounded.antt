-- The bounds of one state, from the invariant and the room.
use mathlib.Core.Path.{◌≡◌, refl, ap, ◌∙◌, subst}
use mathlib.Core.Bool.{Bool, true, false, cond}
use mathlib.Core.Option.{some}
use mathlib.Core.List.{List, [], ◌∷◌, ◌++◌}
use Prim.Native.Nat.{ℕ, ◌≤◌, ◌<◌}
use native.Mathlib.Omega.{arith}
use lib.Dec.{eqb}
use lib.ListN.{length}
use Rattle.facts.specs.Counts.{occurs}
use Rattle.backup.specs.Limits.{log_most, sent_most}
use Rattle.backup.specs.Replica.{Checkpoint, FailOver, counted, taken_on, remaining, arrive_number, sync_number}
use Rattle.rules.specs.Table.{Table, channel_at, code_of, limit_of, port_of}
use Rattle.rules.specs.Machine.{Machine}
use Rattle.rules.specs.Reference.{Reference}
use Rattle.rules.specs.Cabinet.{instructions_most, Standby, Since, Process, Item, checkpoint, Cabinet, process_at, outbox_at, is_some, occupancy}
use Rattle.rules.specs.Judge.{Accepted}
use Rattle.rules.specs.Bounds.{mails, issued_takes, BackupBounds, Bounds}
use Rattle.rules.proofs.Runs.{◌then◌, tally}
use Rattle.rules.proofs.Ahead.{up_to_issue}
use Rattle.rules.proofs.Tables.{few-ports, limit_high}
use Rattle.rules.proofs.Good.{state_of, Link, trailing, coming, Good, backed, alone, late, Backed, Kept, good_backed, good_span, good_small, backed_sent, good_kept, good_suppress}
use Rattle.rules.proofs.Links.{coming_no_checkpoint}
use Rattle.rules.proofs.Backups.{run_low, arrive-number, count-number, counted-kept, sync-number, takes_over}
use Rattle.rules.proofs.Invariant.{Invariant, mine, mine_same, machine_at, owner}
use Rattle.rules.proofs.Room.{Room}
use Rattle.rules.proofs.Sizes.{mailbox-few, mailbox-limited, occupied-few, roomy}
use Rattle.rules.proofs.Saved.{tally_busy, backed_saved}

module _ (t : Table) (ok : Accepted t) (c : Cabinet) (s : Reference) (inv : Invariant t c s) (rm : Room t [] c) (p : ℕ) (hp : p < length c.processes) where
  in_table : p < length t.processes
  in_table = rw inv.all_processes at hp

  -- ---- the backup

  -- a checkpoint that is the oldest of p's own items finds what it says was taken
  oldest-syncs : {q : List Item} {y : Process} {m : Machine} {x : Checkpoint} (h : Backed t p (checkpoint p x ∷ q) y m) → sync_number h.standby.replica x ≡ 0
  oldest-syncs {q} {y} {m} {x} h = go h.link
    where
      go : Link t p h.standby (checkpoint p x ∷ q) m h.since y.machine → sync_number h.standby.replica x ≡ 0
      go (trailing l) =
          let v = up_to_issue l.ahead in
          let same : x ≡ record { pc = v.mid.pc; registers = v.mid.registers; taken = tally t p (l.before ++ v.acts) } = (let a = v.is-snapshot in cc) in
          let few : h.standby.replica.sent < sent_most = (let a = backed_sent h in let b = limit_high t ok p in omega arith) in
          sync-number t ok p in_table h.standby.replica h.kept few (l.replay.ran then v.to_mid) x
          (ap (λ (z : Checkpoint). z.pc) same) (ap (λ (z : Checkpoint). z.registers) same) (ap (λ (z : Checkpoint). z.taken) same)
      go (coming l) = absurd (coming_no_checkpoint l)

  module _ (b : Standby) (e : (process_at c p).standby ≡ some b) where
    few-sent : b.replica.sent ≤ limit_of t p
    few-sent = (good_small (inv.good p hp) e).few-sent

    kept : Kept t p b.replica
    kept = good_kept (inv.good p hp) e

    below : b.replica.sent < sent_most
    below = let a = few-sent in let d = limit_high t ok p in omega arith

    -- what the invariant says of the backup of p
    by_backed : (P : Standby → Type 0) → ((h : Backed t p (mine t p (outbox_at c (process_at c p).board)) (process_at c p) (machine_at s p)) → P h.standby) → P b
    by_backed P f = good_backed P (inv.good p hp) e f

    -- room in the log, also where it has counted a word of its own
    arrives-there : (k : ℕ) → (channel_at t k).reader ≡ p → length b.replica.log < log_most → (own : Bool)
        → arrive_number (cond own (counted b.replica) b.replica) (port_of t p k) ≡ 0
    arrives-there k reads room true =
        arrive-number t ok p in_table (counted b.replica) (counted-kept t ok p in_table b.replica kept below) (let a = few-sent in let d = limit_high t ok p in omega arith)
        (record { channel = k; word = 0 }) reads room
    arrives-there k reads room false = arrive-number t ok p in_table b.replica kept below (record { channel = k; word = 0 }) reads room

    -- it is the reader's backup
    of_reader : (k : ℕ) → (channel_at t k).reader ≡ p → (process_at c (channel_at t k).reader).standby ≡ some b
    of_reader k reads = ap (λ (j : ℕ). (process_at c j).standby) reads ∙ e

    syncs-there : (d : ℕ) (x : Checkpoint) (rest : List Item) → outbox_at c d ≡ checkpoint p x ∷ rest → sync_number b.replica x ≡ 0
    syncs-there d x rest oldest =
        let o = owner t c s d (checkpoint p x) rest inv oldest in
        let items : mine t p (outbox_at c (process_at c p).board) ≡ checkpoint p x ∷ mine t p rest =
        ap (λ (j : ℕ). mine t p (outbox_at c j)) o.runs ∙ ap (mine t p) oldest ∙ mine_same t p (checkpoint p x) rest refl in
        good_backed (λ y. sync_number y.replica x ≡ 0) (subst (λ (q : List Item). Good t p q (process_at c p) (machine_at s p)) items (inv.good p hp)) e oldest-syncs

    backup_bounds : BackupBounds t c p b
    unfolding occupancy
    backup_bounds =
        record {
          board = ((inv.seated p hp).beside b e).there;
          live = ((inv.seated p hp).beside b e).live;
          apart = (inv.seated p hp).apart b e;
          log = (let a = (good_small (inv.good p hp) e).log-fits in let d = mailbox-limited t ok [] c p in_table (rm p hp) (ap is_some e) in omega arith);
          sent_twice = (let a = few-sent in omega arith);
          sent = few-sent;
          events = by_backed (λ _. (process_at c p).since.events ≤ limit_of t p) (λ h. let a = ap (λ (n : Since). n.events) h.is-since in let d = h.few.events in omega arith);
          instructions = by_backed (λ _. (process_at c p).since.instructions ≤ instructions_most)
              (λ h. let a = ap (λ (n : Since). n.instructions) h.is-since in let d = h.few.instructions in omega arith);
          taken = λ port. by_backed (λ _. taken_on (process_at c p).since.taken port ≤ limit_of t p)
              (λ h. let a = tally_busy t p h.since port in let d = h.few.events in rw h.is-since (omega arith));
          occupied = λ k reads. rw reads (let a = (rm p hp).room k reads in let z : occurs k (rm p hp).again ≡ 0 = ap (occurs k) ((rm p hp).none_yet (ap is_some e)) in omega arith);
          saved = by_backed
              (λ y. mails t p (remaining (process_at c p).since.taken (remaining (issued_takes p (outbox_at c (process_at c p).board)) y.replica.log)) ≡ (process_at c p).machine.mailbox)
              (backed_saved t p (few-ports t ok p in_table) (outbox_at c (process_at c p).board));
          counts = λ d x pc rest oldest own. count-number t ok p in_table b.replica kept below;
          arrives = λ d x pc rest oldest reads.
              arrives-there x.channel reads ((roomy t ok c s inv rm).for_oldest d x pc rest oldest b (of_reader x.channel reads))
              (eqb (channel_at t x.channel).sender p);
          feeds = λ k outside reads free. arrives-there k reads ((roomy t ok c s inv rm).for_feed k outside free b (of_reader k reads)) false;
          syncs = syncs-there;
          promotes = ap (λ (f : FailOver). f.number) (takes_over t ok p in_table b.replica kept below);
        }

  -- ---- the process

  low : {items : List Item} {x : Process} {m : Machine} → Good t p items x m → x.machine.pc ≤ length (code_of t p)
  unfolding state_of
  low (backed h) = run_low t ok p in_table (good_span (backed h) h.is-standby).ran h.kept.low
  low (alone h) = h.low
  low (late h) = h.low

  pub bounds : Bounds t c p
  bounds =
      record {
        board = (inv.seated p hp).at.there;
        live = (inv.seated p hp).at.live;
        pc = low (inv.good p hp);
        limit = limit_high t ok p;
        mailbox = mailbox-few t ok [] c p in_table (rm p hp);
        suppress = good_suppress (inv.good p hp);
        occupied = occupied-few t ok [] c p in_table (rm p hp);
        backup = backup_bounds;
      }
