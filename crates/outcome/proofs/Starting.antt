-- The start in the store: seating, process by process, and that an empty store with its processes seated holds the table's start.
use mathlib.Core.Path.{◌≡◌, refl, ap, sym, ◌∙◌, subst}
use mathlib.Core.Logic.{◌≢◌}
use mathlib.Core.Bool.{true, false}
use mathlib.Core.Option.{some}
use mathlib.Core.List.{List, [], ◌∷◌, map}
use Prim.Native.Nat.{ℕ, zero, suc, ◌+◌, ◌≤◌, ◌<◌, min}
use native.Mathlib.Omega.{arith}
use lib.ListN.{length, get_or, set, replicate, length-set, length-map, length-replicate, get_or-replicate, get_or-eq_default}
use lib.Seq.{get_or-set_same, get_or-set_other}
use borrow.Author.Tests.{eq-eqb, ne_eqb}
use Rattle.facts.specs.Tests.{by_eq, by_lt}
use Rattle.facts.specs.Lists.{listed, listed_same, map-listed, written_out}
use Rattle.facts.specs.Indexing.{get_or_map, get_or_replicate_any}
use Rattle.facts.specs.Rings.{ring}
use Rattle.backup.specs.Limits.{log_most}
use Rattle.backup.specs.Replica.{Replica}
use Rattle.backup.specs.Place as place
use Rattle.backup.specs.PlaceLaws.{fresh_in}
use Rattle.plan.specs.declared.Placement.{Placement}
use Rattle.process.specs.declared.process.Process as code
use Rattle.process.specs.Row.{no_process, zero_process, machine_of, standby_of, process_of, Kept, Seated}
use Rattle.rules.specs.Table.{Table, nowhere, placement_at, channel_at}
use Rattle.rules.specs.Judge.{Accepted}
use Rattle.rules.specs.Machine.{Mail, booted}
use Rattle.rules.specs.Cabinet as rules
use Rattle.rules.specs.Cabinet.{Process, placed, started, nobody, process_at, outbox_at, unread_on, in_flight, occupancy, waiting}
use Rattle.rules.specs.Moves.{with_standby}
use Rattle.rules.proofs.Tables.{apart_ok}
use Rattle.rules.proofs.Counting.{flight_none}
use Rattle.state.specs.declared.entry.Entry.{Entry}
use Rattle.state.specs.declared.store.Store.{Store}
use Rattle.state.specs.Queue.{no_queue, dead_in}
use Rattle.state.specs.Store.{flag, Totalled, Holds, lists_at, process_in, outbox_in}
use Rattle.outcome.specs.Starts.{boards_of, seated_in, Seats, Starts}

-- ---- a list of one value

listed_one : {A : Type 0} (a : A) (n : ℕ) → replicate n a ≡ listed (λ _. a) n
listed_one a zero = refl
listed_one {A} a (suc n) = ap (λ (l : List A). a ∷ l) (listed_one a n)

-- ---- a fresh backup and a seated process

abbrev pub zeros : ℕ → List ℕ
zeros n = replicate n 0

-- a store with nothing in it
abbrev pub empty_store : Store
empty_store = record { processes = replicate 16 zero_process; queues = replicate 16 no_queue; totals = zeros 32 }

fresh : place.Fresh (zeros log_most) place.fresh_head
fresh = fresh_in (zeros log_most) refl

abbrev seated_process : Placement → code.Process
seated_process boards = seated_in zero_process boards

seated-kept : (x : Placement) → Kept (seated_process x)
seated-kept x = record {
  registers-length = refl;
  taken-length = refl;
  mail-length = refl;
  unread = omega arith;
  oldest = omega arith;
  events = omega arith;
  taken = λ i. rw (get_or_replicate_any {A = ℕ} 4 i 0) (omega arith);
  instructions = omega arith;
  flag = omega arith;
  sound = fresh.is-sound;
}

-- the two boards of a process of the table
abbrev boards_at : Table → ℕ → Placement
boards_at t p = record { primary = (placement_at t p).primary; standby = (placement_at t p).standby }

-- it is the process that the table places there
seated-is : (t : Table) (p : ℕ) → process_of (seated_process (boards_at t p)) ≡ placed (placement_at t p)
unfolding process_of machine_of standby_of placed booted
seated-is t p =
    let x = placement_at t p in
    ap (λ (r : Replica). with_standby (some (record { board = x.standby; replica = r; complete = true })) (placed x)) fresh.value_is

-- on the first of its two boards, with the second as the other
seated-there : (x : Placement) → x.standby ≢ x.primary → Seated x.primary x.standby (seated_process x)
seated-there x n = record { runs_on = rw (ne_eqb x.standby x.primary n); other-is = rw (eq-eqb x.primary x.primary refl) }

-- ---- seated processes, and all else empty

module _ (t : Table) (ok : Accepted t) (xs : List code.Process) (xs-length : length xs ≡ 16)
    (seated_at : (p : ℕ) → p < length t.processes → get_or xs p no_process ≡ seated_process (boards_at t p))
    (entries : List Entry) (entries-length : length entries ≡ 512) where
  abbrev s : Store
  s = record { processes = xs; queues = replicate 16 no_queue; totals = zeros 32 }

  process_at_lem : (p : ℕ) → p < length t.processes → process_in s p ≡ placed (placement_at t p)
  process_at_lem p h = ap process_of (seated_at p h) ∙ seated-is t p

  all_processes : (started t).processes ≡ listed (process_in s) (length t.processes)
  unfolding started
  all_processes =
      ap (map placed) (written_out t.processes (length t.processes) nowhere refl)
      ∙ map-listed placed (placement_at t) (length t.processes)
      ∙ listed_same (λ p. placed (placement_at t p)) (process_in s) (length t.processes) (λ p h. sym (process_at_lem p h))

  queue_at_lem : (b : ℕ) → get_or s.queues b no_queue ≡ no_queue
  queue_at_lem b = get_or_replicate_any 16 b no_queue

  -- no entry in any queue
  none-queued : (b : ℕ) → [] ≡ outbox_in s.queues entries b
  unfolding outbox_in ring
  none-queued b = rw (queue_at_lem b)

  live_at : (b : ℕ) → false ≡ dead_in s.queues b
  live_at b = rw (queue_at_lem b)

  -- also where the table has no such process
  mailbox-is : (p : ℕ) → (process_at (started t) p).machine.mailbox ≡ []
  unfolding started placed booted nobody
  mailbox-is p =
      by_lt p (length t.processes)
      (λ h. ap (λ (x : Process). x.machine.mailbox) (get_or_map placed t.processes p nowhere nobody h))
      (λ h. ap (λ (x : Process). x.machine.mailbox)
      (get_or-eq_default (map placed t.processes) nobody {n = p} (let a = length-map t.processes placed in omega arith)))

  outbox_is : (b : ℕ) → outbox_at (started t) b ≡ []
  unfolding started
  outbox_is b = get_or_replicate_any {A = List rules.Item} t.boards b []

  in_flight_lem : (k : ℕ) → in_flight k (started t).outboxes ≡ 0
  unfolding started
  in_flight_lem k = flight_none k t.boards

  kept_at : (p : ℕ) → p < length t.processes → Kept (lists_at s p)
  kept_at p h = rw (seated_at p h) (seated-kept (boards_at t p))

  -- nothing of any process waits
  waits_at : (p : ℕ) → p < length t.processes → (lists_at s p).waits ≡ flag (waiting p (outbox_at (started t) (process_at (started t) p).board))
  waits_at p h = ap (λ (x : code.Process). x.waits) (seated_at p h) ∙ ap (λ (l : List rules.Item). flag (waiting p l)) (sym (outbox_is (process_at (started t) p).board))

  -- no word is unread or in a queue
  start_totalled : Totalled t s.totals (started t)
  unfolding occupancy
  start_totalled = record {
    total-is = λ k h.
        let a = ap (λ (l : List Mail). unread_on k l) (mailbox-is (channel_at t k).reader) in
        let b = in_flight_lem k in
        get_or_replicate_any {A = ℕ} 32 k 0 ∙ omega arith;
    totals-length = refl;
  }

  pub start_held : Holds t s entries (started t)
  unfolding started
  start_held = record {
    processes = all_processes;
    outboxes = listed_one {A = List rules.Item} [] t.boards ∙ listed_same (λ _. []) (outbox_in s.queues entries) t.boards (λ b h. none-queued b);
    dead = listed_one false t.boards ∙ listed_same (λ _. false) (dead_in s.queues) t.boards (λ b h. live_at b);
    kept = kept_at;
    seated = λ p h. rw (seated_at p h) (seated-there (boards_at t p) (apart_ok t ok p h));
    waits-is = waits_at;
    first_small = λ b h. rw (queue_at_lem b) (omega arith);
    count_small = λ b h. rw (queue_at_lem b) (omega arith);
    totalled = start_totalled;
    shape = record { processes-length = xs-length; queues-length = refl; entries-length = entries-length };
  }

-- ---- seating, process by process

module _ {xs : List code.Process} {placements : List Placement} {xs' : List code.Process} {i : ℕ} (h : Seats xs placements i xs') where
  pub seats_more : {x : code.Process} → x ≡ seated_in (get_or xs' i no_process) (boards_of placements i) → Seats xs placements (i + 1) (set xs' i x)
  seats_more {x} e = record {
    same_length = length-set xs' i x ∙ h.same_length;
    seated_at = λ z p k m.
        by_eq p i
        (λ f. subst (λ (j : ℕ). get_or (set xs' i x) j no_process ≡ seated_in (get_or xs j no_process) (boards_of placements j)) (sym f)
        (get_or-set_same xs' i x no_process (let a = h.same_length in omega arith) ∙ e
        ∙ ap (λ (y : code.Process). seated_in y (boards_of placements i)) (h.others i (omega arith))))
        (λ f. get_or-set_other xs' i p x no_process f ∙ h.seated_at z p k (omega arith));
    others = λ p k. get_or-set_other xs' i p x no_process (λ f. omega arith) ∙ h.others p (omega arith);
  }

  pub seats_all : {most processes : ℕ} → most ≡ min processes 16 → i ≤ most → most ≤ i → Seats xs placements processes xs'
  seats_all m k l = record {
    same_length = h.same_length;
    seated_at = λ z p u v. h.seated_at z p u (omega arith);
    others = λ p u. h.others p (omega arith);
  }

-- ---- all of the start

pub starts : {xs : List code.Process} {placements : List Placement} {processes : ℕ} (none : Entry) → Seats empty_store.processes placements processes xs
    → Starts placements processes (record { processes = xs; queues = empty_store.queues; totals = empty_store.totals }) (replicate 512 none)
starts {xs} {placements} none h = record {
  holds = λ t ok places.
      start_held t ok xs h.same_length
      (λ p u.
      let v : p < 16 = (let a = ok.processes_high in omega arith) in
      let boards : boards_of placements p ≡ boards_at t p = (let e = places.placement_at_lem p u in λ j. record { primary = e.0 j; standby = e.1 j }) in
      h.seated_at refl p v (rw places.processes-is u) ∙ (λ j. seated_in (get_or-replicate 16 p zero_process no_process v j) (boards j)))
      (replicate 512 none) (length-replicate 512 none);
}
