-- FIRST's mask: its set bits counted, and its channels walked from the lowest on.
use mathlib.Core.Path.{◌≡◌, refl, ap, sym, ◌∙◌}
use mathlib.Core.Bool.{Bool, true, false, not, ◌&&◌}
use mathlib.Core.List.{List}
use Prim.Native.Nat.{ℕ, zero, suc, ◌-◌, ◌*◌, ◌%◌, ◌^◌, ◌≤◌, ◌<◌}
use native.Mathlib.Omega.{arith}
use native.Mathlib.Nat.{one-mul}
use lib.Dec.{leb}
use lib.Count.{ones, count_trailing_zeros}
use lib.Pow.{pow_pos, shl_exact}
use borrow.Author.Tests.{le-leb, lt-leb, not-true, not-false}
use Rattle.facts.specs.Ranges.{and_fails}
use Rattle.facts.specs.Bits.{count_below, count_ones, Lowest, lowest, each_none, each_fails, each-passes}
use Rattle.rules.specs.Table.{Table}
use Rattle.rules.specs.Machine.{bit}
use Rattle.rules.specs.Format.{decode_table}
use Rattle.rules.specs.Judge.{reads, bits}
use Rattle.table.specs.Judging.{end_is, channels_pass, mask_ok}
use Rattle.table.proofs.OneChannel.{reads-is}

bits-counted : (mask n : ℕ) → bits mask n ≡ count_below (bit mask) n
bits-counted mask zero = refl
bits-counted mask (suc n) = rw (bits-counted mask n)

-- the machine's count of ones
pub ones_are : (mask : ℕ) → mask < 2 ^ 32 → ones mask ≡ bits mask 32
ones_are mask h = sym (bits-counted mask 32 ∙ count_ones 32 mask h)

-- the channels of a mask that are left to be looked at pass where all of the mask do
pub record Left (t : Table) (p mask left : ℕ) : Type 0 where
  pub small : left < 2 ^ 32
  pub same : channels_pass t p mask ≡ channels_pass t p left

pub left_all : (t : Table) (p mask : ℕ) → mask < 2 ^ 32 → Left t p mask mask
left_all t p mask h = record { small = h; same = refl }

pub left_none : (t : Table) (p mask left : ℕ) → Left t p mask left → left ≡ 0 → true ≡ channels_pass t p mask
unfolding channels_pass
left_none t p mask left h e = sym (h.same ∙ ap (channels_pass t p) e ∙ each_none (reads t p) 32)

-- the lowest of them, which a 1 is shifted to
abbrev pub lowest_of : ℕ → ℕ
lowest_of left = count_trailing_zeros 32 left

abbrev pub shifted_to : ℕ → ℕ
shifted_to left = 1 * 2 ^ lowest_of left % 2 ^ 32

module _ {t : Table} {p mask left : ℕ} (h : Left t p mask left) (some : left ≡ 0 → ⊥) where
  pub low : (lowest_of left < 32) × Lowest left (lowest_of left)
  low = lowest 32 left (omega arith) h.small

  shifted : shifted_to left ≡ 2 ^ lowest_of left
  shifted = let l = low.0 in shl_exact 1 (lowest_of left) 32 (omega arith) (omega arith) ∙ one-mul (2 ^ lowest_of left)

  pub can_clear : shifted_to left ≤ left
  can_clear = let e = shifted in let w = low.1.within in omega arith

  pub clears : left - shifted_to left < left
  clears = let e = shifted in let w = low.1.within in let z = pow_pos (lowest_of left) in omega arith

-- what the code found of it
module _ (bytes : List ℕ) (p mask left : ℕ) (h : Left (decode_table bytes) p mask left) (some : left ≡ 0 → ⊥) (r : Bool) (found : r ≡ end_is bytes 7 (lowest_of left) p) where
  pub left_fails : not r ≡ true → false ≡ channels_pass (decode_table bytes) p mask
  unfolding channels_pass
  left_fails n =
      let t = decode_table bytes in
      let e : reads t p (lowest_of left) ≡ false = sym (reads-is bytes (lowest_of left) p) ∙ sym found ∙ not-true r n in
      sym (h.same ∙ each_fails (reads t p) 32 left (lowest_of left) (low h some).0 (low h some).1 e)

  pub left_passes : not r ≡ false → Left (decode_table bytes) p mask (left - shifted_to left)
  unfolding channels_pass
  left_passes n =
      let t = decode_table bytes in
      let e : reads t p (lowest_of left) ≡ true = sym (reads-is bytes (lowest_of left) p) ∙ sym found ∙ not-false r n in
      let small = h.small in
      record {
        small = omega arith;
        same = h.same ∙ each-passes (reads t p) 32 left (lowest_of left) (low h some).1 e ∙ ap (λ (x : ℕ). channels_pass t p (left - x)) (sym (shifted h some));
      }

-- ---- the whole mask

module _ (t : Table) (p mask : ℕ) (h : mask < 2 ^ 32) where
  -- by the machine's count
  by_ones : (leb 1 (ones mask) && (leb (ones mask) 4 && channels_pass t p mask)) ≡ mask_ok t p mask
  unfolding mask_ok
  by_ones = ap (λ (k : ℕ). leb 1 k && (leb k 4 && channels_pass t p mask)) (ones_are mask h)

  pub too_few : ones mask < 1 → false ≡ mask_ok t p mask
  too_few l = sym (ap (λ (b : Bool). b && (leb (ones mask) 4 && channels_pass t p mask)) (lt-leb 1 (ones mask) l)) ∙ by_ones

  pub too_many : 4 < ones mask → false ≡ mask_ok t p mask
  too_many l =
      sym (and_fails (leb 1 (ones mask)) _ (ap (λ (b : Bool). b && channels_pass t p mask) (lt-leb (ones mask) 4 l))) ∙ by_ones

  pub by_channels : 1 ≤ ones mask → ones mask ≤ 4 → (r : Bool) → r ≡ channels_pass t p mask → r ≡ mask_ok t p mask
  by_channels l m r e =
      e
      ∙ sym (ap (λ (b : Bool). b && channels_pass t p mask) (le-leb (ones mask) 4 m))
      ∙ sym (ap (λ (b : Bool). b && (leb (ones mask) 4 && channels_pass t p mask)) (le-leb 1 (ones mask) l))
      ∙ by_ones
