-- Records that are held, done once more.
use Rattle.std.specs.Prelude.{◌≡◌, false, List, ◌++◌, ℕ, ◌≤◌, length}
use Rattle.rules.specs.Sizes.{kept_most}
use Rattle.rules.specs.Table.{Table}
use Rattle.rules.specs.Cabinet.{Cabinet}
use Rattle.rules.specs.Moves.{run_from}
use Rattle.rules.specs.Undo.{any_undo}
use Rattle.rules.specs.Schedule.{commands_in}
use Rattle.plan.specs.Plan.{Plan}
use Rattle.state.specs.declared.entry.Entry.{Entry}
use Rattle.state.specs.declared.store.Store.{Store}
use Rattle.state.specs.Store.{Holds}
use Rattle.stretch.specs.Plays.{Suited}
use Rattle.undo.specs.History.{held_most, history_length, held_in}

-- the first n of them, none of which is a move 8, from any cabinet that commands reach
pub record Replays (l : Plan) (history : List ℕ) (n : ℕ) (s : Store) (entries : List Entry) (s' : Store) (entries' : List Entry) : Type 0 where
  pub replayed : (t : Table) (c : Cabinet) → Suited t l c s entries → n ≤ commands_in history → any_undo (held_in history n) ≡ false
      → Holds t s' entries' (run_from t c (held_in history n)).cabinet

-- the first half of a full history, and the other half is held in its place
pub record Follows (l : Plan) (history : List ℕ) (s : Store) (entries : List Entry) (history' : List ℕ) (s' : Store) (entries' : List Entry)
    : Type 0 where
  pub same_length : length history' ≡ history_length
  pub in_two : held_in history held_most ≡ held_in history kept_most ++ held_in history' kept_most
  pub followed : (t : Table) (c : Cabinet) → Suited t l c s entries → any_undo (held_in history kept_most) ≡ false
      → Holds t s' entries' (run_from t c (held_in history kept_most)).cabinet
