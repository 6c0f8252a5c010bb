-- The ends of a channel in the table's bytes are those that the rules decode.
use mathlib.Core.Path.{◌≡◌, refl, ap, sym, ◌∙◌}
use mathlib.Core.Bool.{false, ◌&&◌}
use mathlib.Core.List.{List}
use Prim.Native.Nat.{ℕ, zero, suc, ◌+◌, ◌*◌, ◌≤◌, ◌<◌}
use native.Mathlib.Omega.{arith}
use native.Mathlib.Nat.{not-suc-le-zero, le_of_suc-le-suc}
use lib.Dec.{eqb, ltb}
use lib.ListN.{length, get_or, drop}
use lib.Seq.{get_or-drop}
use borrow.Author.Tests.{lt-ltb, le-ltb}
use Rattle.facts.specs.Tests.{by_lt}
use Rattle.rules.specs.Table.{Channel, channel_at}
use Rattle.rules.specs.Bytes.{byte_at}
use Rattle.rules.specs.Format.{channels_in, pairs, decode_table}
use Rattle.rules.specs.Judge.{reads, sends}
use Rattle.rules.proofs.Valid.{channels-counted}
use Rattle.table.specs.Judging.{end_is}

-- the pair at byte i of a list
abbrev pub pair_at : List ℕ → ℕ → Channel
pair_at l i = record { sender = byte_at l i; reader = byte_at l (i + 1) }

pub pair-drop : (l : List ℕ) (at i : ℕ) → pair_at (drop at l) i ≡ pair_at l (at + i)
pair-drop l at i =
    ap (λ (b : ℕ). record { sender = b; reader = byte_at (drop at l) (i + 1) }) (get_or-drop at l i 0)
    ∙ ap (λ (b : ℕ). record { sender = byte_at l (at + i); reader = b }) (get_or-drop at l (i + 1) 0 ∙ ap (byte_at l) (omega arith))

pair_at_lem : (n : ℕ) (l : List ℕ) (k : ℕ) (d : Channel) → k < n → get_or (pairs n l) k d ≡ pair_at l (2 * k)
pair_at_lem zero l k d h = absurd (not-suc-le-zero h)
pair_at_lem (suc n) l zero d h = refl
pair_at_lem (suc n) l (suc k) d h = pair_at_lem n (drop 2 l) k d (le_of_suc-le-suc h) ∙ pair-drop l 2 (2 * k) ∙ ap (pair_at l) (omega arith)

-- channel k of the decoded table
pub channel-is : (bytes : List ℕ) (k : ℕ) → k < channels_in bytes → channel_at (decode_table bytes) k ≡ pair_at bytes (2 * k + 6)
unfolding decode_table
channel-is bytes k h = pair_at_lem (channels_in bytes) (drop 6 bytes) k _ h ∙ pair-drop bytes 6 (2 * k) ∙ ap (pair_at bytes) (omega arith)

-- an end's test from that of its byte
end_test : (bytes : List ℕ) (k p byte other : ℕ) → (k < channels_in bytes → byte ≡ other)
    → (ltb k (channels_in bytes) && eqb byte p) ≡ (ltb k (length (decode_table bytes).channels) && eqb other p)
end_test bytes k p byte other same =
    rw (channels-counted bytes) (by_lt k (channels_in bytes) (λ l. rw (same l)) (λ g. rw (le-ltb k (channels_in bytes) g)))

pub reads-is : (bytes : List ℕ) (k p : ℕ) → end_is bytes 7 k p ≡ reads (decode_table bytes) p k
reads-is bytes k p =
    end_test bytes k p (byte_at bytes (2 * k + 7)) (channel_at (decode_table bytes) k).reader
    (λ l. ap (byte_at bytes) (omega arith) ∙ sym (ap (λ (c : Channel). c.reader) (channel-is bytes k l)))

pub sends-is : (bytes : List ℕ) (k p : ℕ) → end_is bytes 6 k p ≡ sends (decode_table bytes) p k
sends-is bytes k p =
    end_test bytes k p (byte_at bytes (2 * k + 6)) (channel_at (decode_table bytes) k).sender
    (λ l. sym (ap (λ (c : Channel). c.sender) (channel-is bytes k l)))

-- ---- the code's test of an end, from the numbers that it read

module _ (bytes : List ℕ) (side k p channel channels : ℕ) (same : channel ≡ k) (count : channels ≡ channels_in bytes) where
  pub end_past : channels ≤ channel → false ≡ end_is bytes side k p
  end_past h = rw (le-ltb k (channels_in bytes) (omega arith))

  pub end_at : channel < channels → eqb (byte_at bytes (2 * channel + side)) p ≡ end_is bytes side k p
  end_at h = rw (same, lt-ltb k (channels_in bytes) (omega arith))
