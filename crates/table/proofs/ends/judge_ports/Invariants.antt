use Prim.Native.Nat.{◌≤◌}
use Rattle.table.proofs.PortsPass.{Ended, Porting}
use Rattle.table.proofs.ends.judge_ports.Given as goal

abbrev pub invariant-loop-k : goal.invariant-loop-k
invariant-loop-k l = (l.channels ≤ 32) × (l.processes ≤ 16) × Ended l.table l.wires l.k × Porting l.table l.wires l.programs l.k
