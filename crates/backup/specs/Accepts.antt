-- When a call of the backup is accepted, what it then gives, and that a fit value stays fit.
use Rattle.std.specs.Prelude.{◌≡◌, ℕ, zero, suc, ◌<◌, ◌≤◌, Bool, true, false, cond, not, ◌&&◌, ltb, List, [], ◌∷◌, length, nat_le, nat_lt, refl}
use Rattle.std.proofs.Common.{arith, length-append, le-ltb, lt-ltb, le-leb, leb-true, ltb-false}
use Rattle.std.proofs.lemmas.Bool.{lt-leb}
use Rattle.facts.specs.Tests.{none_below, no_such, and_left, and_right, and_both, all_append}
use Rattle.backup.specs.Limits.{log_most, ports, sent_most, pc_most}
use Rattle.backup.specs.Replica.{no_registers, Message, Replica, Checkpoint, fit, on_ports, answer, arrived}
use Rattle.backup.specs.Replica.{arrive_number, arrive, counted, count_number, count, saved_on, taken_on, lacking, synced}
use Rattle.backup.specs.Replica.{sync_number, sync, fail_over}

-- ---- fitness, part by part

pub record Fit (r : Replica) : Type 0 where
  pub few : length r.log ≤ log_most
  pub on_ports_lem : on_ports r.log ≡ true
  pub sent_small : r.sent ≤ sent_most
  pub pc_small : r.pc ≤ pc_most

pub fit_parts : (r : Replica) → fit r ≡ true → Fit r
unfolding fit
fit_parts r h =
    let a = nat_le (length r.log) log_most in
    let b = on_ports r.log in
    let c = nat_le r.sent sent_most in
    let d = nat_le r.pc pc_most in
    let rest = and_right a (b && (c && d)) h in
    let last = and_right b (c && d) rest in
    record {
      few = leb-true (length r.log) log_most (and_left a (b && (c && d)) h);
      on_ports_lem = and_left b (c && d) rest;
      sent_small = leb-true r.sent sent_most (and_left c d last);
      pc_small = leb-true r.pc pc_most (and_right c d last);
    }

pub parts-fit : (r : Replica) → Fit r → fit r ≡ true
unfolding fit
parts-fit r h =
    rw (le-leb (length r.log) log_most h.few, h.on_ports_lem, le-leb r.sent sent_most h.sent_small, le-leb r.pc pc_most h.pc_small)

-- ---- an answer's parts

pub answer-number : (n : ℕ) (old new : Replica) → (answer n old new).number ≡ n
answer-number zero old new = refl
answer-number (suc n) old new = refl

pub answer-done : (n : ℕ) (old new : Replica) → n ≡ 0 → (answer n old new).replica ≡ new
answer-done zero old new h = refl
answer-done (suc n) old new h = absurd (omega arith)

-- ---- unfit: 20, whatever the call

pub arrive_unfit : (r : Replica) (port word : ℕ) → fit r ≡ false → arrive r port word ≡ record { number = 20; replica = r }
unfolding arrive arrive_number
arrive_unfit r port word f = rw f

pub count_unfit : (r : Replica) → fit r ≡ false → count r ≡ record { number = 20; replica = r }
unfolding count count_number
count_unfit r f = rw f

pub sync_unfit : (r : Replica) (c : Checkpoint) → fit r ≡ false → sync r c ≡ record { number = 20; replica = r }
unfolding sync sync_number
sync_unfit r c f = rw f

-- ---- arrive

pub arrive-number : (r : Replica) (port : ℕ) → fit r ≡ true → port < ports → length r.log < log_most → arrive_number r port ≡ 0
unfolding arrive_number
arrive-number r port f p l = rw (f, lt-leb ports port p, lt-leb log_most (length r.log) l)

pub arrive-accepted : (r : Replica) (port word : ℕ) → fit r ≡ true → port < ports → length r.log < log_most
    → arrive r port word ≡ record { number = 0; replica = arrived r port word }
unfolding arrive
arrive-accepted r port word f p l = rw (arrive-number r port f p l)

pub arrived-fit : (r : Replica) (port word : ℕ) → fit r ≡ true → port < ports → length r.log < log_most → fit (arrived r port word) ≡ true
arrived-fit r port word f p l =
    let h = fit_parts r f in
    let m : Message = record { port = port; word = word } in
    parts-fit (arrived r port word) record {
      few = (let a = length-append r.log (m ∷ []) in omega arith);
      on_ports_lem = all_append (λ (x : Message). ltb x.port ports) r.log (m ∷ []) h.on_ports_lem
          (and_both (nat_lt port ports) true (lt-ltb port ports p) refl);
      sent_small = h.sent_small;
      pc_small = h.pc_small;
    }

-- ---- count

pub count-number : (r : Replica) → fit r ≡ true → r.sent < sent_most → count_number r ≡ 0
unfolding count_number
count-number r f l = rw (f, lt-leb sent_most r.sent l)

pub count-accepted : (r : Replica) → fit r ≡ true → r.sent < sent_most → count r ≡ record { number = 0; replica = counted r }
unfolding count
count-accepted r f l = rw (count-number r f l)

pub counted-fit : (r : Replica) → fit r ≡ true → r.sent < sent_most → fit (counted r) ≡ true
counted-fit r f l =
    let h = fit_parts r f in
    parts-fit (counted r) record { few = h.few; on_ports_lem = h.on_ports_lem; sent_small = l; pc_small = h.pc_small }

-- ---- sync

pub not-lacking : (taken : List ℕ) (log : List Message) → ((p : ℕ) → p < ports → taken_on taken p ≤ saved_on p log) → lacking taken log ≡ false
not-lacking taken log h = no_such (λ p. ltb (saved_on p log) (taken_on taken p)) ports (λ p l. le-ltb (saved_on p log) (taken_on taken p) (h p l))

pub enough : (taken : List ℕ) (log : List Message) → lacking taken log ≡ false → (p : ℕ) → p < ports → taken_on taken p ≤ saved_on p log
enough taken log h p l = ltb-false (saved_on p log) (taken_on taken p) (none_below (λ q. ltb (saved_on q log) (taken_on taken q)) ports h p l)

-- a sync is never refused if each port has at least what is taken and the program counter is small enough
pub sync-number : (r : Replica) (c : Checkpoint) → fit r ≡ true → c.pc ≤ pc_most
    → ((p : ℕ) → p < ports → taken_on c.taken p ≤ saved_on p r.log)
    → sync_number r c ≡ 0
unfolding sync_number
sync-number r c f p h = rw (f, le-ltb pc_most c.pc p, not-lacking c.taken r.log h)

-- and one that is accepted had a fit value, with enough on each port
pub sync-parts : (r : Replica) (c : Checkpoint) → sync_number r c ≡ 0 → (fit r ≡ true) × (lacking c.taken r.log ≡ false)
unfolding sync_number
sync-parts r c h = go (fit r) (nat_lt pc_most c.pc) (lacking c.taken r.log) h
  where
    go : (f p l : Bool) → ◌≡◌ {A = ℕ} (cond (not f) 20 (cond p 21 (cond l 23 0))) 0 → (f ≡ true) × (l ≡ false)
    go false p l e = absurd (omega arith)
    go true true l e = absurd (omega arith)
    go true false true e = absurd (omega arith)
    go true false false e = (refl, refl)

pub sync-accepted : (r : Replica) (c : Checkpoint) → fit r ≡ true → c.pc ≤ pc_most
    → ((p : ℕ) → p < ports → taken_on c.taken p ≤ saved_on p r.log)
    → sync r c ≡ record { number = 0; replica = synced r c }
unfolding sync
sync-accepted r c f p h = rw (sync-number r c f p h)

-- ---- take over

pub fail_over_accepted : (r : Replica) → fit r ≡ true
    → fail_over r ≡ record { number = 0; log = r.log; pc = r.pc; registers = r.registers; sent = r.sent }
unfolding fail_over
fail_over_accepted r f = rw f

pub fail_over_unfit : (r : Replica) → fit r ≡ false → fail_over r ≡ record { number = 20; log = []; pc = 0; registers = no_registers; sent = 0 }
unfolding fail_over
fail_over_unfit r f = rw f
