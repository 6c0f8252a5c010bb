-- Two words in one number: the higher times 2^32, plus the lower.
use Rattle.std.specs.Prelude.{ℕ, ◌+◌, ◌*◌, ◌/◌, ◌%◌}

abbrev pub pack : ℕ → ℕ → ℕ
pack high low = high * 4294967296 + low

abbrev pub high_in : ℕ → ℕ
high_in x = x / 4294967296

abbrev pub low_in : ℕ → ℕ
low_in x = x % 4294967296
