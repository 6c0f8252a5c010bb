-- What holds of one process beside its machine in the reference: four machines over the same arrivals, the one in its backup, the
-- reference one, snapshots that wait in an outbox, and the running one, lie on one deterministic path.
use mathlib.Core.Path.{◌≡◌, ap, subst}
use mathlib.Core.Bool.{true, false}
use mathlib.Core.Option.{none, some}
use mathlib.Core.List.{List, [], ◌∷◌, ◌++◌, map}
use Prim.Native.Nat.{ℕ, zero, suc, ◌+◌, ◌*◌, ◌≤◌, ◌<◌}
use native.Mathlib.Omega.{arith}
use lib.ListN.{length, length-map, length-append}
use Rattle.facts.specs.Tests.{no_way}
use Rattle.backup.specs.Limits.{log_most}
use Rattle.backup.specs.Replica.{Message, Replica}
use Rattle.rules.specs.Table.{Table, Instruction, code_of, limit_of, inputs, channel_on}
use Rattle.rules.specs.Machine.{Mail, Machine, Act}
use Rattle.rules.specs.Cabinet.{instructions_most, Standby, Process, Item, transfer, is_complete, protected}
use Rattle.rules.proofs.Runs.{Run, ◌then◌, sends, last_send, count_of, busy, busy_append, sends_busy, Within, run-shorter}
use Rattle.rules.proofs.Ahead.{Ahead, checkpoints, ahead_total, ahead_left}

-- ---- a replica

abbrev pub mail_of : Table → ℕ → Message → Mail
mail_of t p m = record { channel = channel_on t p m.port; word = m.word }

-- the machine that a replica of process p would go on as
unfoldable pub state_of : Table → ℕ → Replica → Machine
state_of t p r = record { registers = r.registers; pc = r.pc; mailbox = map (mail_of t p) r.log }

-- every port of a log is below n
pub data PortsBelow (n : ℕ) : List Message → Type 0 where
  no_ports : PortsBelow n []
  one_port : {m : Message} {log : List Message} → m.port < n → PortsBelow n log → PortsBelow n (m ∷ log)

-- what holds of a replica of process p by itself
pub record Kept (t : Table) (p : ℕ) (r : Replica) : Type 0 where
  pub on_inputs : PortsBelow (length (inputs t p)) r.log
  pub short : length r.log ≤ log_most
  pub low : r.pc ≤ length (code_of t p)

-- ---- the process

-- from a to b with n sends, and b stands right after the last of them
pub record Replay (code : List Instruction) (a : Machine) (n : ℕ) (acts : List Act) (b : Machine) : Type 0 where
  pub ran : Run code a acts b
  pub sent_so : n ≡ sends acts
  pub sealed : last_send true acts ≡ true

-- How a backup s, the reference machine m and the running machine b lie on the path. `items` are the process's own in its board's outbox,
-- `since` the acts since the last checkpoint or transfer was issued.

-- a complete backup is behind m, which stands right after the last word transmitted since the backup's state, and m is behind b
pub record Trailing (t : Table) (p : ℕ) (s : Standby) (items : List Item) (m : Machine) (since : List Act) (b : Machine) : Type 0 where
  pub complete : s.complete ≡ true
  pub before : List Act
  pub replay : Replay (code_of t p) (state_of t p s.replica) s.replica.sent before m
  pub ahead : Ahead t p before m items since b
  pub one : checkpoints items ≤ 1

-- of one that is being made the state is the process at its transfer's issue, with all that has arrived since: m is behind it, by the items in
-- front of the transfer, and it is behind b, by those behind the transfer
pub record Coming (t : Table) (p : ℕ) (s : Standby) (items : List Item) (m : Machine) (since : List Act) (b : Machine) : Type 0 where
  pub incomplete : s.complete ≡ false
  pub uncounted : s.replica.sent ≡ 0
  pub old : List Item
  pub new : List Item
  pub is_items : items ≡ old ++ (transfer p ∷ new)
  pub before : List Act
  pub until : List Act
  pub to_snapshot : Ahead t p before m old until (state_of t p s.replica)
  pub ahead : Ahead t p [] (state_of t p s.replica) new since b
  pub none_else : checkpoints old + checkpoints new ≡ 0

pub data Link (t : Table) (p : ℕ) (s : Standby) (items : List Item) (m : Machine) (since : List Act) (b : Machine) : Type 0 where
  trailing : Trailing t p s items m since b → Link t p s items m since b
  coming : Coming t p s items m since b → Link t p s items m since b

-- with a backup, or one that is being made
pub record Backed (t : Table) (p : ℕ) (items : List Item) (x : Process) (m : Machine) : Type 0 where
  pub standby : Standby
  pub is-standby : x.standby ≡ some standby
  pub kept : Kept t p standby.replica
  pub no_suppress : x.suppress ≡ 0
  pub since : List Act
  pub link : Link t p standby items m since x.machine
  pub is-since : x.since ≡ count_of t p since
  pub few : Within (limit_of t p) since

-- with no backup, ahead of the reference machine
pub record Alone (t : Table) (p : ℕ) (items : List Item) (x : Process) (m : Machine) : Type 0 where
  pub no_standby : x.standby ≡ none
  pub no_suppress : x.suppress ≡ 0
  pub before : List Act
  pub since : List Act
  pub ahead : Ahead t p before m items since x.machine
  pub one : checkpoints items ≤ 1
  pub low : x.machine.pc ≤ length (code_of t p)

-- with no backup, still rolling forward to the reference machine
pub record Late (t : Table) (p : ℕ) (items : List Item) (x : Process) (m : Machine) : Type 0 where
  pub no_standby : x.standby ≡ none
  pub no_items : items ≡ []
  pub few : x.suppress ≤ limit_of t p
  pub acts : List Act
  pub short : length acts ≤ instructions_most
  pub replay : Replay (code_of t p) x.machine x.suppress acts m
  pub low : x.machine.pc ≤ length (code_of t p)

pub data Good (t : Table) (p : ℕ) (items : List Item) (x : Process) (m : Machine) : Type 0 where
  backed : Backed t p items x m → Good t p items x m
  alone : Alone t p items x m → Good t p items x m
  late : Late t p items x m → Good t p items x m

-- ---- what follows for the sizes

-- where it is complete
pub backed_trailing : {t : Table} {p : ℕ} {items : List Item} {x : Process} {m : Machine} (h : Backed t p items x m) → protected x ≡ true
    → Trailing t p h.standby items m h.since x.machine
backed_trailing {t} {p} {items} {x} {m} h safe = go h.link
  where
    go : Link t p h.standby items m h.since x.machine → Trailing t p h.standby items m h.since x.machine
    go (trailing l) = l
    go (coming l) = absurd (no_way (let a = l.incomplete in let b = ap is_complete h.is-standby in cc))

-- a process with a standby is backed by it
pub good_backed : {t : Table} {p : ℕ} {items : List Item} {x : Process} {m : Machine} {s : Standby} (P : Standby → Type 0)
    → Good t p items x m → x.standby ≡ some s → ((h : Backed t p items x m) → P h.standby) → P s
good_backed P (backed h) e f = subst P (let a = h.is-standby in cc) (f h)
good_backed P (alone h) e f = absurd (no_way (let a = h.no_standby in cc))
good_backed P (late h) e f = absurd (no_way (let a = h.no_standby in cc))

-- the acts between the backup's state and the running machine
pub record Span (t : Table) (p : ℕ) (x : Process) (s : Standby) : Type 0 where
  pub acts : List Act
  pub ran : Run (code_of t p) (state_of t p s.replica) acts x.machine
  -- since the last issue, and between it and the one before, which may wait still
  pub instructions : length acts ≤ 2 * instructions_most
  pub events : busy acts ≤ 2 * limit_of t p

once : (n k : ℕ) → k ≤ 1 → n * k ≤ n
once n zero h = omega arith
once n (suc zero) h = omega arith
once n (suc (suc k)) h = absurd (omega arith)

backed_span : {t : Table} {p : ℕ} {items : List Item} {x : Process} {m : Machine} (h : Backed t p items x m) → Span t p x h.standby
backed_span {t} {p} {items} {x} {m} h = go h.link
  where
    go : Link t p h.standby items m h.since x.machine → Span t p x h.standby
    go (trailing l) =
        let v = ahead_total l.ahead in
        let c = l.one in
        let o = once (limit_of t p) (checkpoints items) c in
        record {
          acts = l.before ++ v.acts;
          ran = l.replay.ran then v.ran;
          instructions = omega (arith, v.instructions, h.few.instructions, length-append l.before v.acts);
          events = omega (arith, v.events, h.few.events, busy_append l.before v.acts);
        }
    go (coming l) =
        let v = ahead_total l.ahead in
        let c = l.none_else in
        let o = once (limit_of t p) (checkpoints l.new) (omega arith) in
        record {
          acts = v.acts;
          ran = v.ran;
          instructions = omega (arith, v.instructions, h.few.instructions);
          events = omega (arith, v.events, h.few.events);
        }

pub good_span : {t : Table} {p : ℕ} {items : List Item} {x : Process} {m : Machine} {s : Standby} → Good t p items x m → x.standby ≡ some s → Span t p x s
good_span {t} {p} {x = x} g e = good_backed (Span t p x) g e backed_span

-- at most the limit counted, and at most twice as many words more than are unread
pub record Small (t : Table) (p : ℕ) (x : Process) (s : Standby) : Type 0 where
  pub few-sent : s.replica.sent ≤ limit_of t p
  pub log-fits : length s.replica.log ≤ length x.machine.mailbox + 2 * limit_of t p

pub backed_sent : {t : Table} {p : ℕ} {items : List Item} {x : Process} {m : Machine} (h : Backed t p items x m) → h.standby.replica.sent ≤ limit_of t p
backed_sent {t} {p} {items} {x} {m} h = go h.link
  where
    go : Link t p h.standby items m h.since x.machine → h.standby.replica.sent ≤ limit_of t p
    go (trailing l) =
        let a = (ahead_left l.ahead h.few).events in
        let b = sends_busy l.before in
        let c = l.replay.sent_so in
        omega arith
    go (coming l) = let a = l.uncounted in omega arith

backed_small : {t : Table} {p : ℕ} {items : List Item} {x : Process} {m : Machine} (h : Backed t p items x m) → Small t p x h.standby
unfolding state_of
backed_small {t} {p} h =
    let v = backed_span h in
    let a = run-shorter v.ran in
    let b = length-map h.standby.replica.log (mail_of t p) in
    let c = v.events in
    record { few-sent = backed_sent h; log-fits = omega arith }

pub good_small : {t : Table} {p : ℕ} {items : List Item} {x : Process} {m : Machine} {s : Standby} → Good t p items x m → x.standby ≡ some s → Small t p x s
good_small {t} {p} {x = x} g e = good_backed (Small t p x) g e backed_small

pub good_kept : {t : Table} {p : ℕ} {items : List Item} {x : Process} {m : Machine} {s : Standby} → Good t p items x m → x.standby ≡ some s
    → Kept t p s.replica
good_kept {t} {p} g e = good_backed (λ s. Kept t p s.replica) g e (λ h. h.kept)

pub good_suppress : {t : Table} {p : ℕ} {items : List Item} {x : Process} {m : Machine} → Good t p items x m → x.suppress ≤ limit_of t p
good_suppress (backed h) = let a = h.no_suppress in omega arith
good_suppress (alone h) = let a = h.no_suppress in omega arith
good_suppress (late h) = h.few
