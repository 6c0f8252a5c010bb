-- What the view takes for granted, computed: lists of four have four numbers. A process with a fifth register, which no move makes, is another one
-- than a process without it, and has the same numbers.
use mathlib.Core.Path.{◌≡◌, refl, ap}
use mathlib.Core.Option.{none}
use mathlib.Core.List.{[], ◌∷◌}
use Prim.Native.Nat.{ℕ}
use native.Mathlib.Omega.{arith}
use lib.ListN.{length}
use Rattle.rules.specs.Machine.{booted}
use Rattle.rules.specs.Cabinet.{Process, none_since, nobody}
use Rattle.layout.specs.View.{process_numbers}

-- nobody, with a fifth register
unfoldable pub five : Process
unfolding booted
five = record {
  machine = record { registers = 0 ∷ 0 ∷ 0 ∷ 0 ∷ 7 ∷ []; pc = 0; mailbox = [] };
  board = 0;
  suppress = 0;
  since = none_since;
  standby = none;
}

pub same_numbers : process_numbers five ≡ process_numbers nobody
unfolding process_numbers five nobody booted
same_numbers = refl

pub another : five ≡ nobody → ⊥
unfolding five nobody booted
another e = let n : ◌≡◌ {A = ℕ} 5 4 = ap (λ (x : Process). length x.machine.registers) e in omega arith
