-- Unread words counted in a mailbox, one word after another.
use Rattle.std.proofs.Common.{◌≡◌, ℕ, ◌+◌, List, ap, ◌∙◌, add-one}
use Rattle.facts.specs.Rings.{listed_more}
use Rattle.facts.specs.Counts.{same}
use Rattle.rules.specs.Cabinet.{unread_on}
use Rattle.rules.proofs.Counting.{unread_append}
use Rattle.process.specs.Row.{mail_in, packed_at, mails_in}

-- one word more of a mailbox whose oldest word stands at place `first`
pub one_word_more : (first : ℕ) (mail : List ℕ) (k i : ℕ)
    → unread_on k (mails_in first (i + 1) mail) ≡ unread_on k (mails_in first i mail) + same k (mail_in (packed_at first mail i)).channel
one_word_more first mail k i = rw add-one
    (ap (unread_on k) (listed_more (λ j. mail_in (packed_at first mail j)) i) ∙ unread_append k (mails_in first i mail) (mail_in (packed_at first mail i)))
