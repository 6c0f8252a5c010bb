-- Number 5: where the ends of a channel stand, and the test of each pair.
use mathlib.Core.Path.{◌≡◌, ap, ap₂, sym, ◌∙◌}
use mathlib.Core.Bool.{Bool}
use mathlib.Core.List.{List}
use Prim.Native.Nat.{ℕ, ◌+◌, ◌*◌, ◌<◌}
use native.Mathlib.Omega.{arith}
use lib.ListN.{length}
use Rattle.facts.specs.Tests.{all_below}
use Rattle.facts.specs.Ranges.{all_same, all_listed}
use Rattle.rules.specs.Table.{environment, Channel, channel_at}
use Rattle.rules.specs.Judge.{ends_ok}
use Rattle.rules.specs.Bytes.{byte_at}
use Rattle.rules.specs.Format.{processes_in, channels_in, decode_table}
use Rattle.rules.proofs.Valid.{processes-counted, channels-counted}
use Rattle.table.specs.Parts.{pair_ok}
use Rattle.table.proofs.OneChannel.{channel-is}

-- ---- where the ends stand

abbrev pub sender_byte : List ℕ → ℕ → ℕ
sender_byte bytes k = byte_at bytes (2 * k + 6)

abbrev pub reader_byte : List ℕ → ℕ → ℕ
reader_byte bytes k = byte_at bytes (2 * k + 7)

module _ (bytes : List ℕ) (k : ℕ) (h : k < channels_in bytes) where
  pub sender_in_lem : sender_byte bytes k ≡ (channel_at (decode_table bytes) k).sender
  sender_in_lem = sym (ap (λ (c : Channel). c.sender) (channel-is bytes k h))

  pub reader_in_lem : reader_byte bytes k ≡ (channel_at (decode_table bytes) k).reader
  reader_in_lem = ap (byte_at bytes) (let e : 2 * k + 7 ≡ 2 * k + 6 + 1 = omega arith in e) ∙ sym (ap (λ (c : Channel). c.reader) (channel-is bytes k h))

-- ---- the test of each pair

pub pair_passes : List ℕ → ℕ → Bool
pair_passes bytes k = pair_ok (processes_in bytes) (sender_byte bytes k) (reader_byte bytes k)

pub ends_are : (bytes : List ℕ) → all_below (pair_passes bytes) (channels_in bytes) ≡ ends_ok (decode_table bytes)
unfolding ends_ok pair_passes
ends_are bytes =
    let t = decode_table bytes in
    let test : ℕ → Channel → Bool = λ n c. pair_ok n c.sender c.reader in
    all_same (pair_passes bytes) (λ k. test (processes_in bytes) (channel_at t k)) (channels_in bytes)
    (λ k h. ap₂ (pair_ok (processes_in bytes)) (sender_in_lem bytes k h) (reader_in_lem bytes k h))
    ∙ ap₂ (λ (n m : ℕ). all_below (λ k. test n (channel_at t k)) m) (sym (processes-counted bytes)) (sym (channels-counted bytes))
    ∙ sym (all_listed (test (length t.processes)) t.channels (record { sender = environment; reader = environment }))

-- the code's test of a pair is that
pub pair-passes : (bytes : List ℕ) (k processes sender reader : ℕ) {passes : Bool} → processes ≡ processes_in bytes → sender ≡ sender_byte bytes k
    → reader ≡ reader_byte bytes k → passes ≡ pair_ok processes sender reader → passes ≡ pair_passes bytes k
unfolding pair_passes
pair-passes bytes k processes sender reader n s r says =
    says ∙ ap (λ (m : ℕ). pair_ok m sender reader) n ∙ ap₂ (pair_ok (processes_in bytes)) s r
