-- Room in a reader's mailbox for the word that is about to arrive: the oldest entry of a queue, or a feed on a channel that is not full.
use Rattle.std.proofs.Common.{◌≡◌, ℕ, ◌+◌, ◌<◌, ◌≤◌, false, List, [], ◌∷◌, ◌++◌, length, set, sym, refl, ap, ◌∙◌, subst, arith, length-append, get_or-set_same}
use Rattle.facts.specs.Counts.{same, occurs, same_no}
use Rattle.backup.specs.Limits.{log_most}
use Rattle.rules.specs.Table.{Table, environment, channel_at}
use Rattle.rules.specs.Machine.{Mail, delivered}
use Rattle.rules.specs.Judge.{Accepted}
use Rattle.rules.specs.Cabinet.{Process, Item, message, Cabinet, nobody, process_at, outbox_at, limited, unread_on, in_flight, full}
use Rattle.rules.proofs.Counting.{unread_append, flight_leave}
use Rattle.rules.proofs.Room.{Roomed, admit}
use Rattle.rules.proofs.Sizes.{mailbox-short}
use Rattle.state.specs.Moved.{Reachable}
use Rattle.state.proofs.Known.{known}

-- a word on its way to process p, in a queue or pending: p with the word has no more than a mailbox may have
module _ (t : Table) (ok : Accepted t) (pending : List ℕ) (c : Cabinet) (p : ℕ) (hp : p < length t.processes) (hc : p < length c.processes) (r : Roomed t pending c p)
    (mail : Mail) (reads : (channel_at t mail.channel).reader ≡ p) (qs : List (List Item))
    (on-the-way : (k : ℕ) → in_flight k qs + same k mail.channel ≤ in_flight k c.outboxes + occurs k pending) where
  abbrev with_word : Process
  with_word = record {
    machine = delivered mail (process_at c p).machine;
    board = (process_at c p).board;
    suppress = (process_at c p).suppress;
    since = (process_at c p).since;
    standby = (process_at c p).standby;
  }

  abbrev arrived : Cabinet
  arrived = record { processes = set c.processes p with_word; outboxes = qs; dead = c.dead }

  here : process_at arrived p ≡ with_word
  here = get_or-set_same c.processes p with_word nobody hc

  more : (k : ℕ) → unread_on k (process_at arrived p).machine.mailbox ≡ unread_on k (process_at c p).machine.mailbox + same k mail.channel
  unfolding delivered
  more k = ap (λ (x : Process). unread_on k x.machine.mailbox) here ∙ unread_append k (process_at c p).machine.mailbox mail

  roomed : Roomed t [] arrived p
  roomed = record {
    again = r.again;
    few = r.few;
    none_yet = λ g. r.none_yet (ap limited (sym here) ∙ g);
    room = λ k e. let a = more k in let b = r.room k e in let d = on-the-way k in omega arith;
    own = λ k n. let a = more k in let b = r.own k n in let d = same_no k mail.channel (λ e. n (ap (λ (j : ℕ). (channel_at t j).reader) e ∙ reads)) in omega arith;
  }

  room_for : length (process_at c p).machine.mailbox < log_most
  unfolding delivered
  room_for =
      let a : length ((process_at c p).machine.mailbox ++ (mail ∷ [])) ≤ log_most =
      subst (λ (x : Process). length x.machine.mailbox ≤ log_most) here (mailbox-short t ok [] arrived p hp roomed) in
      let b = length-append (process_at c p).machine.mailbox (mail ∷ []) in
      omega arith

module _ {t : Table} {c : Cabinet} (r : Reachable t c) where
  inside : (p : ℕ) → p < length t.processes → p < length c.processes
  inside p l = rw (known r).invariant.all_processes l

  -- the oldest entry of a queue is a word
  pub room_for_oldest : (b : ℕ) (x : Mail) (pc : ℕ) (rest : List Item) → outbox_at c b ≡ message x pc ∷ rest
      → (channel_at t x.channel).reader < length t.processes
      → length (process_at c (channel_at t x.channel).reader).machine.mailbox < log_most
  room_for_oldest b x pc rest e l =
      let p : ℕ = (channel_at t x.channel).reader in
      room_for t r.accepted [] c p l (inside p l) ((known r).room p (inside p l)) x refl (set c.outboxes b rest)
      (λ k. let a = flight_leave k c.outboxes b (message x pc) rest e in omega arith)

  -- a feed that is not refused
  pub room_for_feed : (k : ℕ) → full t c k ≡ false → (channel_at t k).reader < length t.processes
      → length (process_at c (channel_at t k).reader).machine.mailbox < log_most
  room_for_feed k free l =
      let p : ℕ = (channel_at t k).reader in
      let few : length c.processes ≤ environment = (let a = (known r).invariant.all_processes in let b = r.accepted.processes_high in omega arith) in
      room_for t r.accepted (k ∷ []) c p l (inside p l) (admit t c k few free (known r).room p (inside p l)) (record { channel = k; word = 0 }) refl c.outboxes
      (λ i. omega arith)
