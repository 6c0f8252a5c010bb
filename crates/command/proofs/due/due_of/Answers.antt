-- The command, with its a as a word.
use mathlib.Core.Path.{ap, sym, ◌∙◌}
use Prim.Native.Nat.{ℕ}
use Rattle.rules.specs.Schedule.{command}
use Rattle.command.specs.Judges.{judge_of, number_said}
use Rattle.command.proofs.due.due_of.Goals as goal

pub returns : goal.returns
returns c =
    let s = c.args in
    let x = s.c in
    let e = c.byte_word.ensures.0 in
    record {
      command-is = ap (λ (a : ℕ). command x.mv a x.word) e;
      a_small = c.byte_word.ensures.1;
      number_is =
          c.number_said.ensures
          ∙ ap number_said (c.judge.ensures ∙ ap (λ (a : ℕ). judge_of s.counts (record { mv = x.mv; a = a; word = x.word })) (sym e));
    }
