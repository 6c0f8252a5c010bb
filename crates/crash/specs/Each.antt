-- A pass over a list of numbers.
use Rattle.std.specs.Prelude.{◌≡◌, ℕ, ◌<◌, ◌≤◌, List, length, slice_index}

-- each of the first n numbers became what the function makes of its index and of it, and the rest is as it was
pub record Each (f : ℕ → ℕ → ℕ) (n : ℕ) (l l' : List ℕ) : Type 0 where
  pub same_length : length l' ≡ length l
  pub each_at : (i : ℕ) → i < n → i < length l → slice_index l' i ≡ f i (slice_index l i)
  pub rest_at : (i : ℕ) → n ≤ i → slice_index l' i ≡ slice_index l i
