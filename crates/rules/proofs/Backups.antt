-- Inside the cabinet no call of a backup is refused: each does what its name says.
use mathlib.Core.Path.{◌≡◌, refl, ap, sym, ◌∙◌}
use mathlib.Core.Bool.{Bool, true, false, cond}
use mathlib.Core.Option.{Option, some}
use mathlib.Core.List.{List, [], ◌∷◌, ◌++◌, map, map-append}
use Prim.Native.Nat.{ℕ, ◌≤◌, ◌<◌}
use native.Mathlib.Omega.{arith}
use lib.ListN.{length, length-append}
use borrow.Author.Tests.{lt-ltb}
use Rattle.backup.specs.Limits.{log_most, ports, sent_most, pc_most}
use Rattle.backup.specs.Replica.{Message, Replica, Checkpoint, Reply, on_ports, fit, arrived, arrive_number, arrive, counted, count_number, count, synced, sync_number, sync, fail_over, remaining}
use Rattle.backup.proofs.Drops.{shorter}
use Rattle.backup.specs.Accepts as accepts
use Rattle.backup.specs.Accepts.{parts-fit, fail_over_accepted}
use Rattle.rules.specs.Table.{Table, channel_at, code_of, inputs, port_of}
use Rattle.rules.specs.Machine.{Mail, Machine, Act, delivered}
use Rattle.rules.specs.Cabinet.{Standby, is_complete}
use Rattle.rules.specs.Moves.{on_replica, on_backup, recovered}
use Rattle.rules.specs.Judge.{Accepted}
use Rattle.rules.proofs.Runs.{Run, here, more, tally}
use Rattle.rules.proofs.Tables.{Stands, input, few-ports, step_low}
use Rattle.rules.proofs.Good.{mail_of, state_of, PortsBelow, no_ports, one_port, Kept}
use Rattle.rules.proofs.Tally.{remaining-ports, run_logged}

-- a call on a process's record, where it has one
pub called : (call : Replica → Reply) {o : Option Standby} {s : Standby} {r : Replica} → o ≡ some s → (call s.replica).replica ≡ r
    → on_replica call o ≡ some (record { board = s.board; replica = r; complete = s.complete })
called call {s = s} e f = ap (on_replica call) e ∙ ap (λ (r : Replica). some (record { board = s.board; replica = r; complete = s.complete })) f

-- the same on a backup, and on a record that is being made, which is none yet
pub called-backup : (call : Replica → Reply) {o : Option Standby} {s : Standby} {r : Replica} → o ≡ some s → s.complete ≡ true → (call s.replica).replica ≡ r
    → on_backup call o ≡ some (record { board = s.board; replica = r; complete = s.complete })
called-backup call {o} {s} e h f = ap (λ (b : Bool). cond b (on_replica call o) o) (ap is_complete e ∙ h) ∙ called call {s = s} e f

pub not-called : (call : Replica → Reply) {o : Option Standby} {s : Standby} → o ≡ some s → s.complete ≡ false → on_backup call o ≡ some s
not-called call {o} e h = ap (λ (b : Bool). cond b (on_replica call o) o) (ap is_complete e ∙ h) ∙ e

on_ports_lem : {n : ℕ} {log : List Message} → n ≤ ports → PortsBelow n log → on_ports log ≡ true
on_ports_lem few no_ports = refl
on_ports_lem few (one_port {m = m} h r) = rw (lt-ltb m.port ports (omega arith)) (on_ports_lem few r)

snoc_ports : {n : ℕ} {log : List Message} (m : Message) → PortsBelow n log → m.port < n → PortsBelow n (log ++ (m ∷ []))
snoc_ports m no_ports h = one_port h no_ports
snoc_ports m (one_port g r) h = one_port g (snoc_ports m r h)

module _ (t : Table) (ok : Accepted t) (p : ℕ) (hp : p < length t.processes) where
  low_fits : {n : ℕ} → n ≤ length (code_of t p) → n ≤ pc_most
  low_fits h = let a = ok.short p hp in omega arith

  pub run_low : {a b : Machine} {acts : List Act} → Run (code_of t p) a acts b → a.pc ≤ length (code_of t p) → b.pc ≤ length (code_of t p)
  run_low here h = h
  run_low (more e r) h = run_low r (step_low t ok p hp e)

  module _ (r : Replica) (kept : Kept t p r) (few : r.sent < sent_most) where
    pub is-fit : fit r ≡ true
    is-fit =
        parts-fit r record {
          few = kept.short;
          on_ports_lem = on_ports_lem (few-ports t ok p hp) kept.on_inputs;
          sent_small = omega arith;
          pc_small = low_fits kept.low;
        }

    -- a word arrives on one of its channels
    module _ (mail : Mail) (reads : (channel_at t mail.channel).reader ≡ p) where
      stands : Stands mail.channel (inputs t p)
      stands = input t ok mail.channel p hp reads

      pub arrive-number : length r.log < log_most → arrive_number r (port_of t p mail.channel) ≡ 0
      arrive-number room =
          let a = stands.below in
          let b = few-ports t ok p hp in
          accepts.arrive-number r (port_of t p mail.channel) is-fit (omega arith) room

      pub arrives : length r.log < log_most → (arrive r (port_of t p mail.channel) mail.word).replica ≡ arrived r (port_of t p mail.channel) mail.word
      unfolding arrive
      arrives room = rw (arrive-number room)

      pub arrived_state : state_of t p (arrived r (port_of t p mail.channel) mail.word) ≡ delivered mail (state_of t p r)
      unfolding state_of delivered
      arrived_state =
          let m : Message = record { port = port_of t p mail.channel; word = mail.word } in
          let same : mail_of t p m ≡ mail = ap (λ (k : ℕ). record { channel = k; word = mail.word }) stands.back in
          ap (λ (l : List Mail). record { registers = r.registers; pc = r.pc; mailbox = l })
          (map-append (mail_of t p) r.log (m ∷ []) ∙ ap (λ (y : Mail). map (mail_of t p) r.log ++ (y ∷ [])) same)

      pub arrived-kept : length r.log < log_most → Kept t p (arrived r (port_of t p mail.channel) mail.word)
      arrived-kept room =
          record {
            on_inputs = snoc_ports _ kept.on_inputs stands.below;
            short = (let a = length-append r.log (record { port = port_of t p mail.channel; word = mail.word } ∷ []) in omega arith);
            low = kept.low;
          }

    -- a word of its own is transmitted
    pub count-number : count_number r ≡ 0
    count-number = accepts.count-number r is-fit few

    pub counts_it : (count r).replica ≡ counted r
    unfolding count
    counts_it = rw count-number

    pub counted-kept : Kept t p (counted r)
    counted-kept = record { on_inputs = kept.on_inputs; short = kept.short; low = kept.low }

    -- its checkpoint is transmitted: the state after a run from the backup's
    module _ {acts : List Act} {b : Machine} (ran : Run (code_of t p) (state_of t p r) acts b) (s : Checkpoint)
        (is-pc : s.pc ≡ b.pc) (is-registers : s.registers ≡ b.registers) (is-taken : s.taken ≡ tally t p acts) where
      low_there : b.pc ≤ length (code_of t p)
      unfolding state_of
      low_there = run_low ran kept.low

      pub sync-number : sync_number r s ≡ 0
      unfolding state_of
      sync-number =
          let v = run_logged t p (few-ports t ok p hp) r.log ran refl kept.on_inputs in
          let a = low_fits low_there in
          accepts.sync-number r s is-fit (omega arith) (λ i _. rw is-taken (v.enough i))

      pub syncs : (sync r s).replica ≡ synced r s
      unfolding sync
      syncs = rw sync-number

      pub synced_state : state_of t p (synced r s) ≡ b
      unfolding state_of
      synced_state =
          let v = run_logged t p (few-ports t ok p hp) r.log ran refl kept.on_inputs in
          let left : map (mail_of t p) (remaining s.taken r.log) ≡ b.mailbox = rw is-taken (sym v.left) in
          λ i. record { registers = is-registers i; pc = is-pc i; mailbox = left i }

      pub synced-kept : Kept t p (synced r s)
      synced-kept =
          record {
            on_inputs = remaining-ports kept.on_inputs s.taken;
            short = (let a = shorter s.taken r.log in let c = kept.short in omega arith);
            low = rw is-pc low_there;
          }

    -- it takes over
    pub takes_over : fail_over r ≡ record { number = 0; log = r.log; pc = r.pc; registers = r.registers; sent = r.sent }
    takes_over = fail_over_accepted r is-fit

    pub recovers : recovered t p (fail_over r) ≡ state_of t p r
    unfolding recovered state_of
    recovers = rw takes_over
