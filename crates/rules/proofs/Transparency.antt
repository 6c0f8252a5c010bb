-- Demand 3 of the rules: failure transparency of any list of commands, on any accepted table, in one theorem.
-- The reference machine lags behind: it is stepped only when a word of a process is transmitted (up to exactly that SEND), when a
-- checkpoint of it is transmitted (up to the snapshot), and at a quiet end (up to the running machine).
use mathlib.Core.Path.{◌≡◌, refl, ap, ◌∙◌}
use mathlib.Core.Bool.{Bool, true, false}
use mathlib.Core.List.{List, ◌++◌, append-nil}
use Rattle.facts.specs.Tests.{no_way}
use Rattle.rules.specs.Table.{Table}
use Rattle.rules.specs.Machine.{Mail}
use Rattle.rules.specs.Reference.{reference_start, injections}
use Rattle.rules.specs.Cabinet.{quiescent}
use Rattle.rules.specs.Moves.{Command}
use Rattle.rules.specs.Judge.{Accepted}
use Rattle.rules.specs.Transparent.{Transparent, ListTransparent, bus_of, fed_of, machines_of, answered, originated, finished}
use Rattle.rules.proofs.References.{run_append, injections_append}
use Rattle.rules.proofs.Follow.{Follows}
use Rattle.rules.proofs.Start.{reached}
use Rattle.rules.proofs.Quiet.{all_caught_up, same-machines, no_more}
use Rattle.rules.proofs.Standing.{standing_in, ended_is, answers_are, origins_are}

-- demand 3 of the cabinet's own moves, which take nothing back
abbrev pub MovesTransparent : Table → List Command → Type 0
MovesTransparent t commands =
    Transparent t (fed_of commands (answered t commands)) (bus_of (answered t commands) (originated t commands))
    (quiescent t (finished t commands)) (machines_of (finished t commands))

-- at a quiet end the reference machine goes on to the running machines
finish : (t : Table) (commands : List Command)
    → Follows t (finished t commands) (reference_start t) (bus_of (answered t commands) (originated t commands)) (fed_of commands (answered t commands))
    → (quiet : Bool) → quiescent t (finished t commands) ≡ quiet → MovesTransparent t commands
unfolding reference_start
finish t commands f false q =
    record {
      actions = f.actions;
      end = f.end;
      ran = f.ran;
      injected = f.injected;
      same-trace = f.traced;
      same_end = λ h. absurd (no_way (cc));
      no_step = λ h p. absurd (no_way (cc));
    }
finish t commands f true q =
    let r = all_caught_up f.invariant q in
    record {
      actions = f.actions ++ r.actions;
      end = r.end;
      ran = run_append t (reference_start t) f.actions r.actions f.end f.ran ∙ r.ran;
      injected = injections_append f.actions r.actions
          ∙ ap (λ (l : List Mail). injections f.actions ++ l) r.none-injected
          ∙ append-nil (injections f.actions)
          ∙ f.injected;
      same-trace = r.same-trace ∙ f.traced;
      same_end = λ _. same-machines f.invariant r;
      no_step = λ _. no_more f.invariant q r;
    }

pub moves_transparent : (t : Table) → Accepted t → (commands : List Command) → MovesTransparent t commands
moves_transparent t ok commands = finish t commands (reached t ok commands).follows (quiescent t (finished t commands)) refl

-- of any list, with records taken back or without: that of the records which stand
pub transparent : (t : Table) → Accepted t → (commands : List Command) → ListTransparent t commands
transparent t ok commands = rw (answers_are t commands, origins_are t commands, ended_is t commands) (moves_transparent t ok (standing_in t commands))
