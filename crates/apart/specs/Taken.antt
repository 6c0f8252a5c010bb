-- The promise of `take_apart`.
use Rattle.std.specs.Prelude.{◌≡◌, cond, List, ℕ, ◌*◌, length, take, Result, is_ok, IfOk}
use Rattle.numbers.specs.Runs.{number_in}
use Rattle.numbers.specs.declared.runs.Refusal.{Refusal}
use Rattle.rules.specs.Sizes.{limit_bytes}
use Rattle.rules.specs.Bytes.{written}
use Rattle.rules.specs.Encode.{Lists, apart, validate_apart, WritesAs}
use Rattle.apart.specs.declared.Taken.{Taken}

-- the four lists that are lent
pub record Lent : Type 0 where
  pub ends : List ℕ
  pub placements : List ℕ
  pub limits : List ℕ
  pub instructions : List ℕ

abbrev pub lent : List ℕ → List ℕ → List ℕ → List ℕ → Lent
lent ends placements limits instructions = record { ends = ends; placements = placements; limits = limits; instructions = instructions }

-- what is returned, and the fronts of the four lists, as lists of the rules
abbrev pub lists_in : Taken → Lent → Lists
lists_in r m = record {
  version = r.version;
  boards = r.boards;
  processes = r.processes;
  channels = r.channels;
  ends = take (2 * r.channels) m.ends;
  placements = take (3 * r.processes) m.placements;
  limits = take (limit_bytes r.version * r.processes) m.limits;
  instructions = take (3 * r.instructions) m.instructions;
}

-- a table's lists at the fronts of four others, and what is behind them as it was
abbrev pub written_in : Lists → Lent → Lent
written_in l m = record {
  ends = written l.ends m.ends;
  placements = written l.placements m.placements;
  limits = written l.limits m.limits;
  instructions = written l.instructions m.instructions;
}

-- a table, the lists before, what was returned, the lists after
pub record TakesApart (table : List ℕ) (before : Lent) (r : Result Taken Refusal) (after : Lent) : Type 0 where
  pub number_is : number_in r
      ≡ validate_apart table (length before.ends) (length before.placements) (length before.limits) (length before.instructions)
  -- the table's lists at the fronts; refused, all four as they were
  pub lists_written : after ≡ cond (is_ok r) (written_in (apart table) before) before
  pub counted : IfOk r (λ x. 3 * x.instructions ≡ length (apart table).instructions)
  -- "An accepted table, taken apart and written again, comes out byte for byte": of the numbers that are then in the lists
  pub lists_are : IfOk r (λ x. lists_in x after ≡ apart table)
  pub written_back : IfOk r (λ x. WritesAs table (lists_in x after))
