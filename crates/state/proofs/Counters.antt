-- What is counted of a limited process is little: its instructions, its events, and its takes on each port. Of another nothing is counted.
use Rattle.std.proofs.Common.{◌≡◌, ℕ, ◌<◌, ◌≤◌, true, length, get_or, refl, arith}
use mathlib.Core.Option.{Option, none, some}
use Rattle.facts.specs.Tests.{no_way}
use Rattle.rules.specs.Table.{Table}
use Rattle.rules.specs.Cabinet.{instructions_most, limit_most, Standby, Cabinet, process_at, is_some, limited}
use Rattle.rules.specs.Bounds.{BackupBounds}
use Rattle.state.specs.Moved.{Reachable}
use Rattle.state.proofs.Reaching.{bounds}

module _ {t : Table} {c : Cabinet} (r : Reachable t c) (p : ℕ) (hp : p < length t.processes) (h : limited (process_at c p) ≡ true) where
  -- it has a standby, whose bounds hold
  by_standby : (P : Type 0) → ((s : Standby) → BackupBounds t c p s → P) → P
  by_standby P f = go (process_at c p).standby refl h
    where
      go : (o : Option Standby) → (process_at c p).standby ≡ o → is_some o ≡ true → P
      go none e g = absurd (no_way (cc))
      go (some s) e g = f s ((bounds r p hp).backup s e)

  pub events-few : (process_at c p).since.events ≤ limit_most
  events-few = by_standby _ (λ s b. let a = b.events in let l = (bounds r p hp).limit in omega arith)

  pub instructions-few : (process_at c p).since.instructions ≤ instructions_most
  instructions-few = by_standby _ (λ s b. b.instructions)

  pub takes-few : (port : ℕ) → get_or (process_at c p).since.taken port 0 ≤ limit_most
  takes-few port = by_standby _ (λ s b. let a = b.taken port in let l = (bounds r p hp).limit in omega arith)
