-- A channel is held where its total says so, and no total is large.
use Rattle.std.proofs.Common.{◌≡◌, ℕ, ◌+◌, ◌<◌, ◌≤◌, List, length, get_or, ap, arith}
use lib.ListN.{get_or-eq_default}
use Rattle.facts.specs.Tests.{by_lt}
use Rattle.backup.specs.Limits.{log_most}
use Rattle.rules.specs.Table.{Table, channel_at}
use Rattle.rules.specs.Machine.{booted}
use Rattle.rules.specs.Cabinet.{Cabinet, Process, nobody, outbox_most, process_at, occupancy, full}
use Rattle.state.specs.Store.{Totalled}
use Rattle.state.specs.Moved.{Reachable}
use Rattle.state.specs.Channel.{full_in}
use Rattle.state.proofs.Known.{known}
use Rattle.state.proofs.Reaching.{bounds, channel_bounds}
use Rattle.state.proofs.Totals.{unread-few}

pub full_is : {t : Table} {totals : List ℕ} {c : Cabinet} → Totalled t totals c → (k : ℕ) → k < length t.channels
    → (reader : ℕ) → reader ≡ (channel_at t k).reader → full t c k ≡ full_in reader (get_or totals k 0)
unfolding full
full_is h k hk reader e = rw (e, h.total-is k hk)

module _ {t : Table} {c : Cabinet} (r : Reachable t c) where
  -- also where the table has no such process
  mailbox-few : (p : ℕ) → length (process_at c p).machine.mailbox ≤ log_most
  unfolding nobody booted
  mailbox-few p =
      by_lt p (length t.processes)
      (λ l. let b = bounds r p l in let d = b.limit in let e = b.mailbox in omega arith)
      (λ l. let a : process_at c p ≡ nobody = get_or-eq_default c.processes nobody {n = p} (let b = (known r).invariant.all_processes in omega arith) in
      let b = ap (λ (x : Process). length x.machine.mailbox) a in
      omega arith)

  pub occupancy_small : (k : ℕ) → occupancy t c k ≤ log_most + outbox_most
  unfolding occupancy
  occupancy_small k =
      let p : ℕ = (channel_at t k).reader in
      let a = unread-few k (process_at c p).machine.mailbox in
      let b = mailbox-few p in
      let d = (channel_bounds r k).few in
      omega arith
