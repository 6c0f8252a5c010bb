-- The bounds hold in every state that a list of commands reaches, for each process and channel (proofs/Outboxes.antt: for each board).
use mathlib.Core.List.{List}
use Prim.Native.Nat.{ℕ, ◌<◌}
use lib.ListN.{length}
use Rattle.rules.specs.Table.{Table}
use Rattle.rules.specs.Cabinet.{started}
use Rattle.rules.specs.Moves.{Command, run_from}
use Rattle.rules.specs.Judge.{Accepted}
use Rattle.rules.specs.Bounds.{Bounds, ChannelBounds}
use Rattle.rules.proofs.Start.{reached}
use Rattle.rules.proofs.Outboxes.{outboxes_bounded}
use Rattle.rules.proofs.Flight.{channel_bounds}
use Rattle.rules.proofs.Bounded.{bounds}

module _ {t : Table} (ok : Accepted t) (commands : List Command) where
  pub bounded : (p : ℕ) → p < length t.processes → Bounds t (run_from t (started t) commands).cabinet p
  bounded p h =
      let f = (reached t ok commands).follows in
      bounds t ok (run_from t (started t) commands).cabinet f.end f.invariant (reached t ok commands).room p (rw f.invariant.all_processes h)

  pub channels_bounded : (k : ℕ) → ChannelBounds t (run_from t (started t) commands).cabinet k
  channels_bounded k =
      let f = (reached t ok commands).follows in
      channel_bounds t (run_from t (started t) commands).cabinet f.end f.invariant (outboxes_bounded t commands) k
