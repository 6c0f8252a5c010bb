-- The record of a resync is made by calls of the record alone, none of which is refused, in every state that commands reach.
use mathlib.Core.Path.{◌≡◌, ap, sym, ◌∙◌, subst}
use mathlib.Core.List.{List, [], ◌∷◌, ◌++◌, map, append_assoc, append-nil}
use Prim.Native.Nat.{ℕ, suc, ◌+◌, ◌≤◌, ◌<◌}
use native.Mathlib.Omega.{arith}
use lib.ListN.{length, length-append, length-map}
use Rattle.backup.specs.Limits.{log_most}
use Rattle.backup.specs.Replica.{Message, Replica, initial, arrived, synced, arrive_number, sync_number}
use Rattle.backup.specs.Accepts as accepts
use Rattle.rules.specs.Table.{Table, code_of, port_of}
use Rattle.rules.specs.Machine.{Mail, Machine}
use Rattle.rules.specs.Cabinet.{unread_on, process_at, started}
use Rattle.rules.specs.Moves.{Command, copied, run_from}
use Rattle.rules.specs.Judge.{Accepted}
use Rattle.rules.specs.Rebackup.{snapshot_of, all_arrived, copied_so_far, CopyCalls}
use Rattle.rules.proofs.Tally.{none-taken}
use Rattle.rules.proofs.Counting.{unread_both}
use Rattle.rules.proofs.Backups.{arrive-number, is-fit}
use Rattle.rules.proofs.Good.{no_ports, Kept}
use Rattle.rules.proofs.Copies.{message_of, Own, first_own, copied-kept}
use Rattle.rules.proofs.Sizes.{roomy}
use Rattle.rules.proofs.Start.{reached}
use Rattle.rules.proofs.Reached.{bounded}

-- the words stand behind those that were there
all_arrived_lem : (t : Table) (p : ℕ) (r : Replica) (l : List Mail)
    → all_arrived t p r l ≡ record { log = r.log ++ map (message_of t p) l; sent = r.sent; pc = r.pc; registers = r.registers }
all_arrived_lem t p r [] = ap (λ (l : List Message). record { log = l; sent = r.sent; pc = r.pc; registers = r.registers }) (sym (append-nil r.log))
all_arrived_lem t p r (x ∷ l) =
    all_arrived_lem t p (arrived r (port_of t p x.channel) x.word) l
    ∙ ap (λ (k : List Message). record { log = k; sent = r.sent; pc = r.pc; registers = r.registers }) (append_assoc r.log (message_of t p x ∷ []) (map (message_of t p) l))

-- machine m with only these words unread
abbrev holding : Machine → List Mail → Machine
holding m words = record { registers = m.registers; pc = m.pc; mailbox = words }

so_far_is : (t : Table) (p : ℕ) (m : Machine) (words : List Mail) → copied_so_far t p m words ≡ copied t p (holding m words)
unfolding copied
so_far_is t p m words = all_arrived_lem t p (synced initial (snapshot_of m)) words

module _ (t : Table) (ok : Accepted t) (p : ℕ) (hp : p < length t.processes) (m : Machine) (own : Own t p m.mailbox)
    (short : length m.mailbox ≤ log_most) (low : m.pc ≤ length (code_of t p)) where
  -- a part of its words, in front, and the next one
  module _ (sofar rest : List Mail) (x : Mail) (e : m.mailbox ≡ sofar ++ (x ∷ rest)) where
    own_then : (k : ℕ) → unread_on k sofar + unread_on k (x ∷ rest) ≡ unread_on k m.mailbox
    own_then k = sym (ap (unread_on k) e ∙ unread_both k sofar (x ∷ rest))

    own_sofar : Own t p sofar
    own_sofar k n = let a = own_then k in let b = own k n in omega arith

    own_rest : Own t p (x ∷ rest)
    own_rest k n = let a = own_then k in let b = own k n in omega arith

    next : Kept t p (copied t p (holding m sofar)) → length sofar < log_most → arrive_number (copied t p (holding m sofar)) (port_of t p x.channel) ≡ 0
    unfolding copied
    next kept room =
        let b = length-map sofar (message_of t p) in
        arrive-number t ok p hp (copied t p (holding m sofar)) kept (omega arith) x (first_own t ok p hp x rest own_rest) (omega arith)

    arrives-next : arrive_number (copied_so_far t p m sofar) (port_of t p x.channel) ≡ 0
    arrives-next =
        let a : length m.mailbox ≡ length sofar + suc (length rest) = ap length e ∙ length-append sofar (x ∷ rest) in
        let kept : Kept t p (copied t p (holding m sofar)) = copied-kept t ok p hp (holding m sofar) own_sofar (omega arith) low in
        subst (λ (r : Replica). arrive_number r (port_of t p x.channel) ≡ 0) (sym (so_far_is t p m sofar)) (next kept (omega arith))

  syncs-first : sync_number initial (snapshot_of m) ≡ 0
  syncs-first =
      let a = ok.short p hp in
      accepts.sync-number initial (snapshot_of m)
      (is-fit t ok p hp initial (record { on_inputs = no_ports; short = omega arith; low = omega arith }) (omega arith)) (omega arith) (λ i _. let b = none-taken i in omega arith)

  copy_calls : CopyCalls t p m
  copy_calls = record { syncs = syncs-first; arrives = arrives-next; makes = so_far_is t p m m.mailbox }

-- in every state that commands reach
pub copied_by_calls : {t : Table} → Accepted t → (commands : List Command) (p : ℕ) → p < length t.processes
    → CopyCalls t p (process_at (run_from t (started t) commands).cabinet p).machine
copied_by_calls {t} ok commands p h =
    let f = reached t ok commands in
    let there : p < length (run_from t (started t) commands).cabinet.processes = rw f.follows.invariant.all_processes h in
    let copies = (roomy t ok _ f.follows.end f.follows.invariant f.room).for_copies p there in
    copy_calls t ok p h _ copies.own copies.short (bounded ok commands p h).pc
