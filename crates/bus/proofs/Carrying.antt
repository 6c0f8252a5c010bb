-- A word is carried: the sender's half, and then the reader's, which may be the same process.
use Rattle.std.proofs.Common.{◌≡◌, ℕ, ◌+◌, ◌%◌, ◌^◌, ◌<◌, ◌≢◌, List, length, get_or, set, sym, refl, ap, ◌∙◌, subst, arith, length-set, get_or-set_other, get_or-set_same}
use Rattle.facts.specs.Tests.{by_eq}
use Rattle.plan.specs.declared.Counts.{Counts}
use Rattle.plan.specs.declared.Plan as plan
use Rattle.plan.specs.declared.Program.{Program}
use Rattle.plan.specs.Plan.{sender_in, reader_in, plan_of, Planned}
use Rattle.process.specs.declared.process.Process as code
use Rattle.process.specs.Change.{Changes}
use Rattle.rules.specs.Table.{Table, environment, channel_at}
use Rattle.rules.specs.Judge.{Accepted}
use Rattle.rules.specs.Machine.{Mail}
use Rattle.rules.specs.Cabinet.{Cabinet, Process, nobody, process_at, occupancy}
use Rattle.rules.specs.Moves.{deliver, counts, with_process}
use Rattle.state.specs.declared.entry.Entry.{Entry}
use Rattle.state.specs.declared.moved.Answer.{Answer}
use Rattle.state.specs.declared.queue.Queue.{Queue}
use Rattle.state.specs.declared.store.Store.{Store}
use Rattle.state.specs.Store.{Totalled, Holds, lists_at}
use Rattle.state.proofs.Changing.{put_process, row_changed}
use Rattle.state.proofs.Reading.{how_many}
use Rattle.state.proofs.Totals.{occupancy-mailbox, totalled_less, retotalled}
use Rattle.state.proofs.Ends.{reader-inside}
use Rattle.bus.specs.Delivers.{mail_of, Delivers}
use Rattle.bus.specs.Transmitted.{transmitted_of}
use Rattle.bus.specs.Carries.{counted_at, Carries}
use Rattle.bus.proofs.Own.{DeliversOwn, delivers_own, CarriesOwn}
use Rattle.bus.proofs.Delivering.{deliver-outside, deliver-more, lengths_only}

-- the sender's backup counts: no mailbox changes
mailbox-stays : (l : List Process) (p q : ℕ) → p < length l
    → (get_or (set l p (counts (get_or l p nobody))) q nobody).machine.mailbox ≡ (get_or l q nobody).machine.mailbox
unfolding counts
mailbox-stays l p q h =
    by_eq q p
    (λ e. ap (λ (i : ℕ). (get_or (set l p (counts (get_or l p nobody))) i nobody).machine.mailbox) e
    ∙ ap (λ (x : Process). x.machine.mailbox) (get_or-set_same l p (counts (get_or l p nobody)) nobody h)
    ∙ ap (λ (i : ℕ). (get_or l i nobody).machine.mailbox) (sym e))
    (λ n. ap (λ (x : Process). x.machine.mailbox) (get_or-set_other l p q (counts (get_or l p nobody)) nobody n))

module _ (l : plan.Plan) (s : Store) (channel word k sender p : ℕ) (x : code.Process) (r : Answer)
    (is-k : channel < 32 → k ≡ channel) (is-sender : sender ≡ sender_in l.wires k) (is-p : sender < 16 → p ≡ sender)
    (counted : Changes (lists_at s p) x counts) (is-answer : r ≡ transmitted_of channel word) where
  -- the store once the sender's backup has counted
  abbrev counted_store : Store
  counted_store = put_process s p x s.totals

  module _ {t : Table} {table between : List ℕ} {counts' : Counts} {programs : List Program} {queues : List Queue} {entries : List Entry} {c : Cabinet}
      (ok : Accepted t) (planned : Planned t (plan_of table (record l { counts = counts'; programs = programs })))
      (h : Holds t (record s { queues = queues; totals = between }) entries c) (there : channel < length t.channels)
      (inside : (channel_at t channel).sender < length t.processes) where
    its_channel : k ≡ channel
    its_channel = is-k (let z = ok.channels_high in omega arith)

    there-is : (channel_at t channel).sender < length c.processes
    there-is = rw (how_many h) inside

    -- the sender's half
    sender-counts : Holds t (record counted_store { queues = queues; totals = between }) entries (counted_at t channel c)
    unfolding counts
    sender-counts =
        let its : sender ≡ (channel_at t channel).sender = is-sender ∙ ap (sender_in l.wires) its_channel ∙ planned.sender_at channel there in
        let pr : p ≡ (channel_at t channel).sender = is-p (let z = ok.processes_high in omega arith) ∙ its in
        let hp : p < length t.processes = rw pr inside in
        let first = row_changed h ok.processes_high p hp x counts (counted (h.kept p hp)) refl refl in
        subst (λ (q : ℕ). Holds t (record counted_store { queues = queues; totals = between }) entries (with_process q (counts (process_at c q)) c)) pr first

    -- it changes no mailbox, and so no count
    counted_same : (i : ℕ) → occupancy t (counted_at t channel c) i ≡ occupancy t c i
    unfolding counts
    counted_same = occupancy-mailbox t c (channel_at t channel).sender there-is (counts (process_at c (channel_at t channel).sender)) refl

    its_reader : (reader : ℕ) → reader ≡ reader_in l.wires k → reader ≡ (channel_at t channel).reader
    its_reader reader is-reader = is-reader ∙ ap (reader_in l.wires) its_channel ∙ planned.reader_at channel there

  -- to a process: the totals are true again, on the lent plan and store themselves
  pub carries-inside : (reader : ℕ) → reader ≡ reader_in l.wires k → reader ≢ environment → (s' : Store)
      → DeliversOwn l counted_store channel word s' → CarriesOwn l s channel word s' r
  carries-inside reader is-reader within s' delivered = record {
    answer-is = is-answer;
    holds = λ t table between entries c ok planned h bus there inside room.
        let named = sender-counts ok planned h there inside in
        let to : (channel_at t channel).reader < length t.processes =
        reader-inside ok channel there (λ f. within (its_reader ok planned h there inside reader is-reader ∙ f)) in
        let true-again : Totalled t s.totals (deliver t (mail_of channel word) (counted_at t channel c)) = record {
          total-is = λ i li.
              let a = bus.total-is i li in
              let b = counted_same ok planned h there inside i in
              let d = deliver-more t (counted_at t channel c) channel word (rw (how_many named) to) i in
              omega arith;
          totals-length = bus.totals-length;
        } in
        delivered.holds t table between s'.totals entries (counted_at t channel c) ok planned named to
        (λ i. let a = room i in
        let b = ap (λ (y : List Mail). length y)
        (mailbox-stays c.processes (channel_at t channel).sender (channel_at t channel).reader (there-is ok planned h there inside)) in
        omega arith)
        (subst (λ (y : List ℕ). Totalled t y (deliver t (mail_of channel word) (counted_at t channel c))) (sym delivered.only.totals-is) true-again);
    queues-is = delivered.only.queues-is;
    same_lengths =
        let long = lengths_only delivered.only in
        record {
          processes-same = long.processes-same ∙ length-set s.processes p x;
          queues-same = long.queues-same;
          totals-same = long.totals-same;
        };
  }

  -- to the outside: one less
  pub carries-outside : (reader : ℕ) → reader ≡ reader_in l.wires k → reader ≡ environment → (less : ℕ)
      → (less + 1) % 2 ^ 32 ≡ get_or s.totals k 0 → less < 2 ^ 32
      → Carries l s channel word (put_process s p x (set s.totals k less)) r
  carries-outside reader is-reader out less wraps small = record {
    answer-is = is-answer;
    holds = λ t table counts' programs queues between entries c ok planned h bus there inside room.
        let named = sender-counts ok planned h there inside in
        let same-k : k ≡ channel = its_channel ok planned h there inside in
        let nobody-gets : deliver t (mail_of channel word) (counted_at t channel c) ≡ counted_at t channel c =
        deliver-outside t (counted_at t channel c) channel word (let a = how_many named in let b = ok.processes_high in omega arith)
        (sym (its_reader ok planned h there inside reader is-reader) ∙ out) in
        let true-again : Totalled t (set s.totals channel less) (counted_at t channel c) =
        totalled_less s.totals ok.channels_high channel there bus.totals-length less
        (λ i li. let a = bus.total-is i li in let b = counted_same ok planned h there inside i in omega arith)
        (wraps ∙ ap (λ (i : ℕ). get_or s.totals i 0) same-k) small in
        subst (Holds t (record (put_process s p x (set s.totals k less)) { queues = queues }) entries) (sym nobody-gets)
        (retotalled named (set s.totals k less) (subst (λ (i : ℕ). Totalled t (set s.totals i less) (counted_at t channel c)) (sym same-k) true-again));
    queues-is = refl;
    same_lengths = record {
      processes-same = length-set s.processes p x;
      queues-same = refl;
      totals-same = length-set s.totals k less;
    };
  }

-- to a process, on every plan and store that are the lent ones but for counts, programs and queues
pub carries_inside_beside : (l : plan.Plan) (s : Store) (channel word k sender p : ℕ) (x : code.Process) (r : Answer)
    → (channel < 32 → k ≡ channel) → sender ≡ sender_in l.wires k → (sender < 16 → p ≡ sender)
    → Changes (lists_at s p) x counts → r ≡ transmitted_of channel word → (reader : ℕ) → reader ≡ reader_in l.wires k → reader ≢ environment → (s' : Store)
    → Delivers l (put_process s p x s.totals) channel word s' → Carries l s channel word s' r
carries_inside_beside l s channel word k sender p x r is-k is-sender is-p counted is-answer reader is-reader within s' delivered = record {
  answer-is = is-answer;
  holds = λ t table counts' programs queues.
      (carries-inside (record l { counts = counts'; programs = programs }) (record s { queues = queues }) channel word k sender p x r is-k is-sender is-p counted
      is-answer reader is-reader within (record s' { queues = queues }) (delivers_own delivered counts' programs queues)).holds t table;
  queues-is = delivered.only.queues-is;
  same_lengths =
      let long = lengths_only delivered.only in
      record {
        processes-same = long.processes-same ∙ length-set s.processes p x;
        queues-same = long.queues-same;
        totals-same = long.totals-same;
      };
}
