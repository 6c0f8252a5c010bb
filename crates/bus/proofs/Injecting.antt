-- Move 4: the two refusals, and a word that is delivered.
use Rattle.std.proofs.Common.{◌≡◌, ℕ, ◌+◌, ◌%◌, ◌^◌, ◌<◌, Bool, true, false, ◌≢◌, List, length, get_or, set, sym, refl, ap, ◌∙◌, subst, arith, length-set, eq-eqb, ne_eqb}
use Rattle.numbers.specs.declared.answers.Reason.TheVariants.{Fed, NotFromOutside, HeldForFeed}
use Rattle.plan.specs.declared.Plan as plan
use Rattle.plan.specs.Plan.{Plan, plan_of, sender_in, reader_in, Planned}
use Rattle.rules.specs.Table.{Table, environment, channel_at}
use Rattle.rules.specs.Judge.{Accepted}
use Rattle.rules.specs.Cabinet.{Cabinet, full}
use Rattle.rules.specs.Moves.{refuse, accept, guard, not_outside, inject_held, inject, deliver, injected, numbers}
use Rattle.state.specs.declared.entry.Entry.{Entry}
use Rattle.state.specs.declared.moved.Answer.{Answer}
use Rattle.state.specs.declared.queue.Queue.{Queue}
use Rattle.state.specs.declared.store.Store.{Store}
use Rattle.state.specs.Store.{Totalled, Holds}
use Rattle.rules.specs.Reasons.{cause_of}
use Rattle.state.specs.Channel.{full_in}
use Rattle.state.specs.Moved.{MakesAlone, AChannel, refusal_for, alone_of}
use Rattle.state.proofs.Refusing.{turned_away_lem, makes-refused}
use Rattle.state.proofs.Making.{answered, makes_alone, for_reason}
use Rattle.state.proofs.Reading.{how_many}
use Rattle.state.proofs.Totals.{totalled_more}
use Rattle.state.proofs.Ends.{fed-inside}
use Rattle.state.proofs.Held.{full_is, occupancy_small}
use Rattle.state.proofs.Arrivals.{room_for_feed}
use Rattle.bus.specs.Parts.{with_totals}
use Rattle.bus.specs.Delivers.{mail_of, Delivers}
use Rattle.bus.specs.Transmitted.{injected_of}
use Rattle.bus.specs.Injects.{Injects}
use Rattle.bus.proofs.Own.{InjectsOwn, DeliversOwn, delivers_own}
use Rattle.bus.proofs.Delivering.{deliver-more, lengths_only}

module _ {t : Table} {s : Store} {entries : List Entry} {c : Cabinet} {l : Plan} (planned : Planned t l) (h : Holds t s entries c)
    (k word : ℕ) (hk : k < length t.channels) where
  -- its total says whether a channel is full
  its_full : full t c k ≡ full_in (reader_in l.wires k) (get_or s.totals k 0)
  its_full = full_is h.totalled k hk (reader_in l.wires k) (planned.reader_at k hk)

  refused_43 : sender_in l.wires k ≢ environment → inject t c (mail_of k word) ≡ refuse not_outside
  unfolding inject guard
  refused_43 n = rw (ne_eqb (channel_at t k).sender environment (λ e. n (planned.sender_at k hk ∙ e)))

  refused_39 : sender_in l.wires k ≡ environment → full_in (reader_in l.wires k) (get_or s.totals k 0) ≡ true
      → inject t c (mail_of k word) ≡ refuse inject_held
  unfolding inject guard
  refused_39 e b = rw (eq-eqb (channel_at t k).sender environment (sym (planned.sender_at k hk) ∙ e), its_full ∙ b)

  accepted_so : sender_in l.wires k ≡ environment → full_in (reader_in l.wires k) (get_or s.totals k 0) ≡ false
      → inject t c (mail_of k word) ≡ accept (deliver t (mail_of k word) c) (injected (mail_of k word))
  unfolding inject guard
  accepted_so e b = rw (eq-eqb (channel_at t k).sender environment (sym (planned.sender_at k hk) ∙ e), its_full ∙ b)

-- ---- what the move promises

module _ (l : plan.Plan) (s : Store) (a word k : ℕ) (r : Answer) (is-k : a < 32 → k ≡ a) (sender : ℕ) (is-sender : sender ≡ sender_in l.wires k) where
  -- of a channel of the table the clamped number is the number
  its_channel : {t : Table} → Accepted t → a < length t.channels → k ≡ a
  its_channel ok there = is-k (let z = ok.channels_high in omega arith)

  pub injects_43 : sender ≢ environment → r ≡ refusal_for NotFromOutside a → Injects l s a word s r
  injects_43 n e table counts programs queues =
      makes-refused NotFromOutside (ap alone_of e) (λ t entries c command reach planned h f there.
      let same : sender ≡ sender_in l.wires a = is-sender ∙ ap (sender_in l.wires) (its_channel reach.accepted there) in
      turned_away_lem command a not_outside h (refused_43 planned h a word there (λ z. n (same ∙ z))) f refl)

  module _ (fed : sender ≡ environment) (reader : ℕ) (is-reader : reader ≡ reader_in l.wires k) where
    -- the same of channel a
    its_sender : k ≡ a → sender_in l.wires a ≡ environment
    its_sender e = ap (sender_in l.wires) (sym e) ∙ sym is-sender ∙ fed

    its_test : (b : Bool) → full_in reader (get_or s.totals k 0) ≡ b → k ≡ a → full_in (reader_in l.wires a) (get_or s.totals a 0) ≡ b
    its_test b n e =
        ap (λ (i : ℕ). full_in (reader_in l.wires i) (get_or s.totals i 0)) (sym e) ∙ ap (λ (i : ℕ). full_in i (get_or s.totals k 0)) (sym is-reader) ∙ n

    pub injects_39 : full_in reader (get_or s.totals k 0) ≡ true → r ≡ refusal_for HeldForFeed a → Injects l s a word s r
    injects_39 b e table counts programs queues =
        makes-refused HeldForFeed (ap alone_of e) (λ t entries c command reach planned h f there.
        let same : k ≡ a = its_channel reach.accepted there in
        turned_away_lem command a inject_held h (refused_39 planned h a word there (its_sender same) (its_test true b same)) f refl)

    -- delivered, and one more of its channel, on the lent plan and store themselves
    pub injects_done : (s' : Store) (more : ℕ) → full_in reader (get_or s.totals k 0) ≡ false → more ≡ (get_or s'.totals k 0 + 1) % 2 ^ 32
        → r ≡ injected_of a word → DeliversOwn l s a word s' → InjectsOwn l s a word (with_totals s' (set s'.totals k more)) r
    unfolding numbers cause_of
    injects_done s' more b is-more e d table =
        let long = lengths_only d.only in
        makes_alone (injected_of a word) (for_reason Fed a word) (omega arith)
        (record {
          processes-same = long.processes-same;
          queues-same = long.queues-same;
          totals-same = length-set s'.totals k more ∙ long.totals-same;
        })
        (ap alone_of e)
        (λ t entries c command reach planned h f there.
        let same-k : k ≡ a = its_channel reach.accepted there in
        let same-totals : s'.totals ≡ s.totals = d.only.totals-is in
        let free = its_test false b same-k in
        let so = accepted_so planned h a word there (its_sender same-k) free in
        let to : (channel_at t a).reader < length t.processes =
        fed-inside reach.accepted a there (sym (planned.sender_at a there) ∙ its_sender same-k) in
        let true-again : Totalled t (set s.totals a more) (deliver t (mail_of a word) c) =
        totalled_more s.totals reach.accepted.channels_high a there h.totalled.totals-length more
        (λ i li. let x = h.totalled.total-is i li in let y = deliver-more t c a word (rw (how_many h) to) i in omega arith)
        (is-more ∙ ap (λ (x : List ℕ). (get_or x k 0 + 1) % 2 ^ 32) same-totals ∙ ap (λ (i : ℕ). (get_or s.totals i 0 + 1) % 2 ^ 32) same-k)
        (let x = h.totalled.total-is a there in let y = occupancy_small reach a in omega arith) in
        let true-there : Totalled t (set s'.totals k more) (deliver t (mail_of a word) c) =
        subst (λ (x : List ℕ). Totalled t (set x k more) (deliver t (mail_of a word) c)) (sym same-totals)
        (subst (λ (i : ℕ). Totalled t (set s.totals i more) (deliver t (mail_of a word) c)) (sym same-k) true-again) in
        let done = d.holds t table s.totals (set s'.totals k more) entries c reach.accepted planned h to
        (room_for_feed reach a (its_full planned h a word there ∙ free)) true-there in
        answered _ (injected (mail_of a word)) so refl refl done)

-- and on every plan and store that are the lent ones but for counts, programs and queues
pub injects_done_beside : (l : plan.Plan) (s : Store) (a word k : ℕ) (r : Answer) → (a < 32 → k ≡ a) → (sender : ℕ) → sender ≡ sender_in l.wires k
    → sender ≡ environment → (reader : ℕ) → reader ≡ reader_in l.wires k → (s' : Store) (more : ℕ) → full_in reader (get_or s.totals k 0) ≡ false
    → more ≡ (get_or s'.totals k 0 + 1) % 2 ^ 32 → r ≡ injected_of a word → Delivers l s a word s' → Injects l s a word (with_totals s' (set s'.totals k more)) r
injects_done_beside l s a word k r is-k sender is-sender fed reader is-reader s' more b is-more e d table counts programs queues =
    injects_done (record l { counts = counts; programs = programs }) (record s { queues = queues }) a word k r is-k sender is-sender fed reader is-reader
    (record s' { queues = queues }) more b is-more e (delivers_own d counts programs queues) table

-- of the plan and the store that it is lent, whose queues stay
pub injects_own : {l : plan.Plan} {s : Store} {a : ℕ} (word : ℕ) {s' : Store} {r : Answer} → Injects l s a word s' r → s'.queues ≡ s.queues
    → InjectsOwn l s a word s' r
injects_own {l} {s} {a} word {s'} {r} m stay table =
    subst (λ (q : List Queue). MakesAlone (λ t c k. inject t c (mail_of k word)) (AChannel a) (plan_of table l) s a (record s' { queues = q }) r) (sym stay)
    (m table l.counts l.programs s.queues)
