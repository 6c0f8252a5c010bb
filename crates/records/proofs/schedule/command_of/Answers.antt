use mathlib.Core.Path.{ap, sym, ◌∙◌}
use Prim.Native.Nat.{ℕ, ◌+◌, ◌*◌}
use Rattle.rules.specs.Moves.{Command}
use Rattle.rules.specs.Schedule.{commands_in, command, decode_schedule}
use Rattle.records.specs.declared.six.Six.{Six}
use Rattle.records.specs.Six.{six_at}
use Rattle.records.proofs.Sixes.{six_from}
use Rattle.records.proofs.schedule.command_of.Goals as goal

pub returns : goal.returns
unfolding decode_schedule
returns c =
    let s = c.args in
    let l = s.schedule.now in
    let there = six_from command (commands_in l) l 3 s.i (command 0 0 0) c.requires.0 in
    let six = six_at l (3 + 6 * s.i) in
    ap (λ (x : Six). command s.mv x.second x.word) c.six_at-s.ensures
    ∙ ap (λ (m : ℕ). command m six.second six.word) (c.requires.1 ∙ ap (λ (x : Command). x.move) there)
    ∙ sym there
