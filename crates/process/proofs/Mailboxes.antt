-- A mailbox: an append.
use mathlib.Core.Path.{◌≡◌, ap, ◌∙◌}
use mathlib.Core.List.{List}
use Prim.Native.Nat.{ℕ, ◌+◌, ◌*◌, ◌/◌, ◌%◌, ◌^◌, ◌<◌}
use native.Mathlib.Omega.{arith}
use lib.ListN.{set, length-set}
use lib.Seq.{get_or-set_same, get_or-set_other}
use Rattle.facts.specs.Rings.{listed_push}
use Rattle.process.specs.Row.{place_in, pack_mail, mail_in, packed_at}
use Rattle.process.specs.Mailbox.{Appended}

mail_packed : (channel word : ℕ) → word < 2 ^ 32 → mail_in (pack_mail channel word) ≡ record { channel = channel; word = word }
mail_packed channel word h =
    let a : (channel * 4294967296 + word) / 4294967296 ≡ channel = omega arith in
    let b : (channel * 4294967296 + word) % 4294967296 ≡ word = omega arith in
    λ i. record { channel = a i; word = b i }

pub appended_at : (mail : List ℕ) (first n channel word : ℕ) → word < 2 ^ 32 → Appended mail first n channel word (set mail (place_in first n) (pack_mail channel word))
appended_at mail first n channel word h =
    let at = place_in first n in
    let x = pack_mail channel word in
    record {
      same_length = length-set mail at x;
      more = λ l s.
          listed_push (λ i. mail_in (packed_at first mail i)) (λ i. mail_in (packed_at first (set mail at x) i)) n _
          (λ i k. ap mail_in (get_or-set_other mail at (place_in first i) x 0 (λ e. omega arith)))
          (ap mail_in (get_or-set_same mail at x 0 (omega arith)) ∙ mail_packed channel word h);
    }
