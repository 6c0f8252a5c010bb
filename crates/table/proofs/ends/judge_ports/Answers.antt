use mathlib.Core.Path.{◌∙◌, refl}
use Prim.Native.Nat.{ℕ, ◌+◌, ◌<◌}
use native.Mathlib.Omega.{arith}
use lib.ListN.{set}
use Rattle.rules.specs.Format.{processes_in, channels_in}
use Rattle.rules.proofs.Valid.{counted}
use Rattle.plan.specs.declared.Wire.{Wire}
use Rattle.table.proofs.PortsPass.{Ended, ended_start, ended_on, porting_start, porting_past, porting_on, porting_refused, porting_end}
use Rattle.table.proofs.ends.judge_ports.Goals as goal
use Rattle.table.proofs.ends.judge_ports.Goals.{else-reader-processes, then-reader-processes+else-port-ge-PORTS}

pub loop-k-init : goal.loop-k-init
loop-k-init c =
    let t = c.args.table.now in
    let n = counted t c.requires in (
      (let e = c.byte_wide-channels.ensures.0 in let f = c.byte.ensures in let g = n.channels_high in omega arith),
      (let f = c.byte-processes.ensures in let g = n.processes_high in omega arith),
      ended_start t _,
      porting_start t _ _ n.processes_high refl refl refl,
    )

pub returns-then-port-ge-PORTS : goal.returns-then-port-ge-PORTS
returns-then-port-ge-PORTS c =
    let t = c.args.table.now in
    let l = c.loop-k in
    let b = c.byte-reader in
    let same = c.byte_wide-p.ensures.0 in
    porting_refused t _ _ l.k l.invariant.3 (let a = c.loop-k-test.true in let e = c.byte_wide-channels.ensures.0 in let d = c.byte.ensures in omega arith)
    c.byte_wide-p.result (same ∙ b.ensures) (let a = c.if-reader-processes.true in let d = c.byte-processes.ensures in omega arith) c.if-port-ge-PORTS.true

pub loop-k-preserved : goal.loop-k-preserved
loop-k-preserved c =
    let t = c.args.table.now in
    let l = c.loop-k in
    let b = c.byte-reader in
    let m = c.byte-processes.ensures in
    let n = c.byte_wide-channels.ensures.0 ∙ c.byte.ensures in
    let x = l.invariant in
    let long = x.3.wires-long in
    let here : l.k < channels_in t = let k = c.loop-k-test.true in omega arith in
    let wire : ℕ → Wire = λ port. record { sender = c.byte_word.result; reader = c.byte_word-in-loop-k.result; port = port } in
    let ended : (port : ℕ) → Ended t (set l.wires l.k (wire port)) (l.k + 1) =
    λ port. ended_on x.2 (wire port) (omega arith) (c.byte_word.ensures.0 ∙ c.byte-sender.ensures) (c.byte_word-in-loop-k.ensures.0 ∙ b.ensures) in
    elim c.if-reader-processes.branch [
      | then-reader-processes+else-port-ge-PORTS w ↦
          (let same = w.byte_wide-p.ensures.0 in
          let few : w.byte_wide-p.result < processes_in t = let h = w.if-reader-processes.true in omega arith in
          let low = w.if-port-ge-PORTS.false in
          rw (w.port-is, w.programs-is)
          (x.0, x.1, ended _, porting_on t _ l.programs l.k x.3 here w.byte_wide-p.result (same ∙ b.ensures) few low (omega arith) (omega arith) (wire _) refl _ w.wide.ensures.0))
      | else-reader-processes w ↦
          rw (w.port-is, w.programs-is)
          (x.0, x.1, ended _, porting_past t _ _ l.k x.3 here (wire 0) (let h = w.if-reader-processes.false in let e = b.ensures in omega arith))
    ]

pub returns : goal.returns
returns c =
    let l = c.loop-k in
    porting_end c.args.table.now _ _ l.invariant.2 l.invariant.3 (let a = c.loop-k-test.false in let b = c.byte_wide-channels.ensures.0 in let d = c.byte.ensures in omega arith)
