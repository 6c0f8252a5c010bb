-- A delivery: what it makes of a channel's total, and of the store.
use Rattle.std.proofs.Common.{◌≡◌, ℕ, ◌+◌, ◌<◌, ◌≤◌, List, length, sym, refl, ap, ◌∙◌, subst, arith, length-set}
use lib.Seq.{set_out}
use Rattle.facts.specs.Counts.{same}
use Rattle.facts.specs.Rings.{listed-length}
use Rattle.backup.specs.Limits.{log_most}
use Rattle.plan.specs.declared.Plan as plan
use Rattle.plan.specs.Plan.{reader_in, port_in}
use Rattle.process.specs.declared.process.Process as code
use Rattle.process.specs.Row.{process_of, machine_of, mail_at}
use Rattle.process.specs.Change.{Became, Received}
use Rattle.rules.specs.Table.{Table, environment, channel_at, port_of}
use Rattle.rules.specs.Judge.{Accepted}
use Rattle.rules.specs.Machine.{delivered}
use Rattle.rules.specs.Cabinet.{Cabinet, Process, process_at, occupancy}
use Rattle.rules.specs.Moves.{with_process, receive, deliver}
use Rattle.rules.proofs.Counting.{unread_append}
use Rattle.state.specs.declared.entry.Entry.{Entry}
use Rattle.state.specs.declared.store.Store.{Store}
use Rattle.state.specs.Store.{Totalled, Holds, lists_at, process_in}
use Rattle.state.specs.Moved.{SameLengths}
use Rattle.state.proofs.Reading.{at_process}
use Rattle.state.proofs.Totals.{occupancy-more}
use Rattle.state.proofs.Changing.{put_process, changed}
use Rattle.state.proofs.Ends.{read_inside}
use Rattle.bus.specs.Parts.{OnlyProcesses}
use Rattle.bus.specs.Delivers.{mail_of, Delivers}

-- ---- what it makes of the cabinet

-- a word that the outside reads goes to no process
pub deliver-outside : (t : Table) (c : Cabinet) (k word : ℕ) → length c.processes ≤ environment → (channel_at t k).reader ≡ environment
    → deliver t (mail_of k word) c ≡ c
unfolding deliver
deliver-outside t c k word few out =
    let r : ℕ = (channel_at t k).reader in
    ap (λ (l : List Process). record { processes = l; outboxes = c.outboxes; dead = c.dead })
    (set_out c.processes r (receive t r (mail_of k word) (process_at c r)) (omega arith))

-- one that a process reads is one word more of its channel
pub deliver-more : (t : Table) (c : Cabinet) (k word : ℕ) → (channel_at t k).reader < length c.processes
    → (i : ℕ) → occupancy t (deliver t (mail_of k word) c) i ≡ occupancy t c i + same i k
unfolding deliver receive delivered
deliver-more t c k word l =
    let r : ℕ = (channel_at t k).reader in
    occupancy-more t c r l (receive t r (mail_of k word) (process_at c r)) k refl
    (λ i. unread_append i (process_at c r).machine.mailbox (mail_of k word))

-- ---- and of the store

-- a mailbox has as many words as the process says
pub mailbox-length : (x : code.Process) → length (process_of x).machine.mailbox ≡ x.unread
unfolding process_of machine_of
mailbox-length x = listed-length (mail_at x) x.unread

module _ {t : Table} {s : Store} {entries : List Entry} {c : Cabinet} (ok : Accepted t) (h : Holds t s entries c) (k word p : ℕ)
    (reads : (channel_at t k).reader ≡ p) (hp : p < length t.processes) (x : code.Process)
    (became : Became (lists_at s p) x (receive t p (mail_of k word))) where
  is : process_of x ≡ receive t p (mail_of k word) (process_at c p)
  is = became.process-is ∙ ap (receive t p (mail_of k word)) (sym (at_process h p hp))

  board-same : (process_of x).board ≡ (process_at c p).board
  unfolding receive
  board-same = ap (λ (y : Process). y.board) is

  then_is : with_process p (process_of x) c ≡ deliver t (mail_of k word) c
  unfolding deliver
  then_is = ap (λ (y : Process). with_process p y c) is ∙ ap (λ (q : ℕ). with_process q (receive t q (mail_of k word) (process_at c q)) c) (sym reads)

  pub received : (totals : List ℕ) → Totalled t totals (deliver t (mail_of k word) c)
      → Holds t (put_process s p x totals) entries (deliver t (mail_of k word) c)
  received totals u =
      subst (Holds t (put_process s p x totals) entries) then_is
      (changed h ok.processes_high p hp x totals became.kept_again became.seated_again became.waits_again board-same
      (subst (Totalled t totals) (sym then_is) u))

-- ---- what the call promises

pub lengths_only : {s s' : Store} → OnlyProcesses s s' → SameLengths s s'
lengths_only only = record {
  processes-same = only.processes-same;
  queues-same = ap (λ (l : List _). length l) only.queues-is;
  totals-same = ap (λ (l : List ℕ). length l) only.totals-is;
}

pub delivers : (l : plan.Plan) (s : Store) (channel word k reader p port : ℕ) → (channel < 32 → k ≡ channel) → reader ≡ reader_in l.wires k
    → (reader < 16 → p ≡ reader) → port ≡ port_in l.wires k → (x : code.Process) → Received (lists_at s p) x port channel word
    → Delivers l s channel word (put_process s p x s.totals)
delivers l s channel word k reader p port is-k is-reader is-p is-port x got = record {
  holds = λ t table counts programs queues totals totals' entries c ok planned h inside room totalled.
      let there : channel < length t.channels = read_inside ok channel inside in
      let e : k ≡ channel = is-k (let z = ok.channels_high in omega arith) in
      let r : ℕ = (channel_at t channel).reader in
      let its : reader ≡ r = is-reader ∙ ap (reader_in l.wires) e ∙ planned.reader_at channel there in
      let pr : p ≡ r = is-p (let z = ok.processes_high in omega arith) ∙ its in
      let hp : p < length t.processes = rw pr inside in
      let now-there : process_at c r ≡ process_in s p = ap (process_at c) (sym pr) ∙ at_process h p hp in
      let few : (lists_at s p).unread < log_most =
      (let a = room inside in
      let b = ap (λ (y : Process). length y.machine.mailbox) now-there in
      let d = mailbox-length (lists_at s p) in
      omega arith) in
      let its-port : port_of t p channel ≡ port =
      ap (λ (q : ℕ). port_of t q channel) pr ∙ sym (planned.port_at channel there inside) ∙ ap (port_in l.wires) (sym e) ∙ sym is-port in
      received ok h channel word p (sym pr) hp x (got.became (h.kept p hp) few t p its-port) totals' totalled;
  only = record { processes-same = length-set s.processes p x; queues-is = refl; totals-is = refl };
}
