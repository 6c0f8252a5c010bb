-- What the room gives: how long an inbox and a log are at most, and room in the log for each word that is about to arrive.
use mathlib.Core.Logic.{◌≢◌}
use mathlib.Core.Path.{◌≡◌, refl, ap, sym, ◌∙◌}
use mathlib.Core.Bool.{true}
use mathlib.Core.Option.{none, some}
use mathlib.Core.List.{List, [], ◌∷◌, ◌++◌, map}
use Prim.Native.Nat.{ℕ, ◌+◌, ◌*◌, ◌≤◌, ◌<◌, max}
use native.Mathlib.Omega.{arith}
use lib.ListN.{length, length-append, length-map, get_or-eq_default}
use Rattle.facts.specs.Tests.{no_way, by_eq, by_lt}
use Rattle.facts.specs.Counts.{total, total_append, total-occurs, total-most, same, occurs, same_no, length_by_counts}
use Rattle.backup.specs.Limits.{log_most}
use Rattle.rules.specs.Table.{Table, environment, channel_at, limit_of, inputs, channel_on}
use Rattle.rules.specs.Machine.{Mail}
use Rattle.rules.specs.Reference.{Reference}
use Rattle.rules.specs.Cabinet.{occupancy_most, saved_most, Standby, Process, message, Cabinet, nobody, process_at, limited, is_some, unread_on, in_flight, occupancy}
use Rattle.rules.specs.Judge.{Accepted}
use Rattle.rules.proofs.Tables.{few-ports, limit_high}
use Rattle.rules.proofs.Good.{good_small}
use Rattle.rules.proofs.Invariant.{Invariant, RoomFor, Roomy}
use Rattle.rules.proofs.Inputs.{inputs_once, input_reader, no_input}
use Rattle.rules.proofs.Counting.{unread-occurs, flight_leave}
use Rattle.rules.proofs.Room.{Roomed, Room, admit}

-- ---- the length of an inbox

module _ (t : Table) (ok : Accepted t) (pending : List ℕ) (c : Cabinet) (p : ℕ) (hp : p < length t.processes) (r : Roomed t pending c p) where
  -- unread words, and others that are in flight to p or pending
  words-few : (coming : List ℕ) → ((k : ℕ) → occurs k coming ≤ in_flight k c.outboxes + occurs k pending)
      → ((k : ℕ) → (channel_at t k).reader ≢ p → occurs k coming ≡ 0)
      → length coming + length (process_at c p).machine.mailbox ≤ occupancy_most * length (inputs t p) + length r.again
  words-few coming on-the-way own-coming =
      let mailbox : List Mail = (process_at c p).machine.mailbox in
      let unread : List ℕ = map (λ (x : Mail). x.channel) mailbox in
      let both : (k : ℕ) → occurs k (coming ++ unread) ≡ occurs k coming + unread_on k mailbox =
      λ k. (let a = total_append (same k) coming unread in let b = unread-occurs k mailbox in omega arith) in
      let other : (k : ℕ) → (channel_at t k).reader ≢ p → occurs k (coming ++ unread) ≡ 0 =
      λ k n. (let a = both k in let b = own-coming k n in let d = r.own k n in omega arith) in
      let few : (k : ℕ) → occurs k (coming ++ unread) ≤ occupancy_most + occurs k r.again =
      λ k. by_eq (channel_at t k).reader p
      (λ e. let a = both k in let b = on-the-way k in let d = r.room k e in omega arith)
      (λ n. let a = other k n in omega arith) in
      let a = length_by_counts occupancy_most (inputs t p) (coming ++ unread) r.again (λ k z. other k (no_input t ok p hp k z)) few in
      let b = length-append coming unread in
      let d = length-map mailbox (λ (x : Mail). x.channel) in
      omega arith

  pub mailbox-few : length (process_at c p).machine.mailbox ≤ saved_most (limit_of t p)
  mailbox-few =
      let a = words-few [] (λ k. omega arith) (λ k n. refl) in
      let b = few-ports t ok p hp in
      let d = r.few in
      omega arith

  pub mailbox-short : length (process_at c p).machine.mailbox ≤ log_most
  mailbox-short = let a = mailbox-few in let b = limit_high t ok p in omega arith

  -- a limited process has had nothing again
  pub mailbox-limited : limited (process_at c p) ≡ true → length (process_at c p).machine.mailbox + 2 * limit_of t p ≤ saved_most (limit_of t p)
  mailbox-limited safe =
      let a = words-few [] (λ k. omega arith) (λ k n. refl) in
      let b = few-ports t ok p hp in
      let d : length r.again ≡ 0 = ap length (r.none_yet safe) in
      omega arith

  -- one more word is on its way to a limited process
  pub mailbox-shorter : (k : ℕ) → (channel_at t k).reader ≡ p → ((i : ℕ) → same i k ≤ in_flight i c.outboxes + occurs i pending)
      → limited (process_at c p) ≡ true → length (process_at c p).machine.mailbox + 2 * limit_of t p < log_most
  mailbox-shorter k reads on-the-way safe =
      let one : (i : ℕ) → occurs i (k ∷ []) ≡ same i k = λ i. omega arith in
      let a = words-few (k ∷ []) (λ i. let h = on-the-way i in let o = one i in omega arith)
      (λ i n. let z = same_no i k (λ e. n (ap (λ (j : ℕ). (channel_at t j).reader) e ∙ reads)) in let o = one i in omega arith) in
      let b = few-ports t ok p hp in
      let d : length r.again ≡ 0 = ap length (r.none_yet safe) in
      let l = limit_high t ok p in
      omega arith

  -- over its channels
  pub occupied-few : total (λ k. max (occupancy t c k) occupancy_most) (inputs t p) ≤ saved_most (limit_of t p)
  unfolding occupancy
  occupied-few =
      let each : (i : ℕ) → i < length (inputs t p)
      → max (occupancy t c (channel_on t p i)) occupancy_most ≤ occupancy_most + occurs (channel_on t p i) r.again =
      λ i h. (let reads = input_reader t p i h in let g = r.room (channel_on t p i) reads in rw reads (omega arith)) in
      let a = total-most (λ k. max (occupancy t c k) occupancy_most) (λ k. occurs k r.again) occupancy_most (inputs t p) each in
      let b = total-occurs (inputs t p) r.again (inputs_once t p) in
      let d = few-ports t ok p hp in
      let e = r.few in
      omega arith

-- ---- room in a log for each word that is about to arrive

module _ (t : Table) (ok : Accepted t) (c : Cabinet) (s : Reference) (inv : Invariant t c s) where
  -- a process with a standby is one of the cabinet's
  there : (p : ℕ) (k : Standby) → (process_at c p).standby ≡ some k → p < length c.processes
  unfolding nobody
  there p k e =
      by_lt p (length c.processes) (λ h. h)
      (λ h. absurd (no_way (let a : none ≡ some k = sym (ap (λ (x : Process). x.standby) (get_or-eq_default c.processes nobody h)) ∙ e in cc)))

  log-short : (pending : List ℕ) → Room t pending c → (k : ℕ) → ((i : ℕ) → same i k ≤ in_flight i c.outboxes + occurs i pending) → RoomFor t c k
  log-short pending rm k on-the-way b e =
      let p : ℕ = (channel_at t k).reader in
      let hp : p < length c.processes = there p b e in
      let a = (good_small (inv.good p hp) e).log-fits in
      let d = mailbox-shorter t ok pending c p (rw inv.all_processes at hp) (rm p hp) k refl on-the-way (ap is_some e) in
      omega arith

  pub roomy : Room t [] c → Roomy t c
  roomy rm =
      let small : length c.processes ≤ environment = (let a = inv.all_processes in let b = ok.processes_high in omega arith) in
      record {
        for_feed = λ k _ free. log-short (k ∷ []) (admit t c k small free rm) k (λ i. omega arith);
        for_oldest = λ b x pc rest e.
            log-short [] rm x.channel (λ i. let a = flight_leave i c.outboxes b (message x pc) rest e in omega arith);
        for_copies = λ p hp. record { short = mailbox-short t ok [] c p (rw inv.all_processes at hp) (rm p hp); own = (rm p hp).own };
      }
