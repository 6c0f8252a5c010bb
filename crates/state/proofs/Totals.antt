-- The totals: what a change of one process's mailbox or of one board's queue makes of a channel's unread words and words in queues together,
-- and which list of totals is true afterwards.
use Rattle.std.proofs.Common.{◌≡◌, ℕ, suc, ◌+◌, ◌%◌, ◌^◌, ◌<◌, ◌≤◌, Bool, true, false, cond, eqb, ◌≢◌, List, [], ◌∷◌, length, get_or, set, sym, refl, ap, ◌∙◌, arith, length-set, get_or-set_other, get_or-set_same}
use Rattle.facts.specs.Tests.{by_eq}
use Rattle.facts.specs.Counts.{same, same_yes, same_no}
use Rattle.facts.specs.Lists.{listed}
use Rattle.facts.specs.Rings.{get_or_listed, listed-length}
use Rattle.rules.specs.Table.{Table, channel_at}
use Rattle.rules.specs.Machine.{Mail}
use Rattle.rules.specs.Cabinet.{Cabinet, Process, Item, nobody, process_at, unread_on, in_flight, occupancy}
use Rattle.rules.specs.Moves.{with_process, with_outbox}
use Rattle.state.specs.declared.entry.Entry.{Entry}
use Rattle.state.specs.declared.store.Store.{Store}
use Rattle.state.specs.Store.{Totalled, Holds}

-- a mailbox has no more words of one channel than words
pub unread-few : (k : ℕ) (l : List Mail) → unread_on k l ≤ length l
unread-few k [] = omega arith
unread-few k (x ∷ l) = go (eqb k x.channel) (unread-few k l)
  where
    go : (b : Bool) → unread_on k l ≤ length l → cond b (suc (unread_on k l)) (unread_on k l) ≤ suc (length l)
    go true h = omega arith
    go false h = omega arith

-- ---- the count made afresh

module _ (t : Table) (c : Cabinet) where
  -- a process's mailbox loses and gets words; none of a channel that the process doesn't read
  pub occupancy-process : (p : ℕ) → p < length c.processes → (x : Process) (gone came : ℕ → ℕ)
      → ((k : ℕ) → (channel_at t k).reader ≡ p → unread_on k x.machine.mailbox + gone k ≡ unread_on k (process_at c p).machine.mailbox + came k)
      → ((k : ℕ) → (channel_at t k).reader ≢ p → gone k ≡ came k) → (k : ℕ) → occupancy t (with_process p x c) k + gone k ≡ occupancy t c k + came k
  unfolding occupancy
  occupancy-process p hp x gone came its others k =
      by_eq (channel_at t k).reader p
      (λ e.
      let now-there : get_or (set c.processes p x) (channel_at t k).reader nobody ≡ x = rw e (get_or-set_same c.processes p x nobody hp) in
      let a = ap (λ (y : Process). unread_on k y.machine.mailbox) now-there in
      let b = ap (λ (q : ℕ). unread_on k (process_at c q).machine.mailbox) e in
      let d = its k e in
      omega arith)
      (λ n.
      let a = ap (λ (y : Process). unread_on k y.machine.mailbox) (get_or-set_other c.processes p (channel_at t k).reader x nobody n) in
      let d = others k n in
      omega arith)

  -- its mailbox stays
  pub occupancy-mailbox : (p : ℕ) → p < length c.processes → (x : Process) → x.machine.mailbox ≡ (process_at c p).machine.mailbox
      → (k : ℕ) → occupancy t (with_process p x c) k ≡ occupancy t c k
  occupancy-mailbox p hp x e k =
      let a = occupancy-process p hp x (λ _. 0) (λ _. 0) (λ i _. ap (λ (l : List Mail). unread_on i l + 0) e) (λ i _. refl) k in
      omega arith

  -- its mailbox gets a word of a channel that it reads, or loses one
  module _ (p : ℕ) (hp : p < length c.processes) (x : Process) (i : ℕ) (reads : (channel_at t i).reader ≡ p) where
    apart : (k : ℕ) → (channel_at t k).reader ≢ p → same k i ≡ 0
    apart k n = same_no k i (λ e. n (ap (λ (j : ℕ). (channel_at t j).reader) e ∙ reads))

    pub occupancy-more : ((k : ℕ) → unread_on k x.machine.mailbox ≡ unread_on k (process_at c p).machine.mailbox + same k i)
        → (k : ℕ) → occupancy t (with_process p x c) k ≡ occupancy t c k + same k i
    occupancy-more e k =
        let a = occupancy-process p hp x (λ _. 0) (λ j. same j i) (λ j _. let b = e j in omega arith) (λ j n. sym (apart j n)) k in
        omega arith

    pub occupancy_less : ((k : ℕ) → unread_on k (process_at c p).machine.mailbox ≡ unread_on k x.machine.mailbox + same k i)
        → (k : ℕ) → occupancy t c k ≡ occupancy t (with_process p x c) k + same k i
    occupancy_less e k =
        let a = occupancy-process p hp x (λ j. same j i) (λ _. 0) (λ j _. let b = e j in omega arith) (λ j n. apart j n) k in
        omega arith

  -- a board's queue loses and gets words
  pub occupancy_outbox : (b : ℕ) (q : List Item) (k gone came : ℕ) → in_flight k (set c.outboxes b q) + gone ≡ in_flight k c.outboxes + came
      → occupancy t (with_outbox b q c) k + gone ≡ occupancy t c k + came
  unfolding occupancy
  occupancy_outbox b q k gone came e = omega arith

-- ---- lists of totals

-- the count made afresh, as a list
pub totalled-afresh : (t : Table) (c : Cabinet) → length t.channels ≤ 32 → Totalled t (listed (occupancy t c) 32) c
totalled-afresh t c few =
    record { total-is = λ k l. get_or_listed (occupancy t c) 32 k 0 (omega arith); totals-length = listed-length (occupancy t c) 32 }

-- no count changed
pub totalled-same : {t : Table} {totals : List ℕ} {c d : Cabinet} → Totalled t totals c → ((k : ℕ) → occupancy t d k ≡ occupancy t c k) → Totalled t totals d
totalled-same h e = record { total-is = λ k l. h.total-is k l ∙ sym (e k); totals-length = h.totals-length }

-- one word more, or one less, of channel i
module _ {t : Table} {c : Cabinet} (totals : List ℕ) (few : length t.channels ≤ 32) (i : ℕ) (hi : i < length t.channels) (long : length totals ≡ 32) where
  pub totalled_more : (more : ℕ) → ((k : ℕ) → k < length t.channels → occupancy t c k ≡ get_or totals k 0 + same k i)
      → more ≡ (get_or totals i 0 + 1) % 2 ^ 32 → get_or totals i 0 < 1000 → Totalled t (set totals i more) c
  totalled_more more e is-more small = record {
    total-is = λ k l. let a = e k l in by_eq k i
        (λ f. let d = same_yes k i f in
        let b : get_or (set totals i more) k 0 ≡ more = rw f (get_or-set_same totals i more 0 (omega arith)) in
        let g = ap (λ (j : ℕ). get_or totals j 0) f in
        omega arith)
        (λ n. let d = same_no k i n in let b = get_or-set_other totals i k more 0 n in omega arith);
    totals-length = length-set totals i more ∙ long;
  }

  pub totalled_less : (less : ℕ) → ((k : ℕ) → k < length t.channels → get_or totals k 0 ≡ occupancy t c k + same k i)
      → (less + 1) % 2 ^ 32 ≡ get_or totals i 0 → less < 2 ^ 32 → Totalled t (set totals i less) c
  totalled_less less e is-less small = record {
    total-is = λ k l. let a = e k l in by_eq k i
        (λ f. let d = same_yes k i f in
        let b : get_or (set totals i less) k 0 ≡ less = rw f (get_or-set_same totals i less 0 (omega arith)) in
        let g = ap (λ (j : ℕ). get_or totals j 0) f in
        omega arith)
        (λ n. let d = same_no k i n in let b = get_or-set_other totals i k less 0 n in omega arith);
    totals-length = length-set totals i less ∙ long;
  }

-- the store with the totals replaced
abbrev pub put_totals : Store → List ℕ → Store
put_totals s totals = record { processes = s.processes; queues = s.queues; totals = totals }

-- a store that holds a cabinet holds it with any totals that are true
pub retotalled : {t : Table} {s : Store} {entries : List Entry} {c : Cabinet} → Holds t s entries c → (totals : List ℕ) → Totalled t totals c
    → Holds t (put_totals s totals) entries c
retotalled h totals u = record {
  processes = h.processes;
  outboxes = h.outboxes;
  dead = h.dead;
  kept = h.kept;
  seated = h.seated;
  first_small = h.first_small;
  count_small = h.count_small;
  totalled = u;
  waits-is = h.waits-is;
  shape = record {
    processes-length = h.shape.processes-length;
    queues-length = h.shape.queues-length;
    entries-length = h.shape.entries-length;
  };
}
