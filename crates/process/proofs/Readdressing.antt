-- A mailbox made of a log: what is true between two rounds.
use mathlib.Core.Path.{◌≡◌, refl, ap, sym, ◌∙◌}
use mathlib.Core.List.{List, [], ◌∷◌, ◌++◌, map, map-append}
use Prim.Native.Nat.{ℕ, suc, ◌+◌, ◌%◌, ◌≤◌, ◌<◌}
use native.Mathlib.Omega.{arith}
use native.Mathlib.Numerals.{add-one}
use lib.ListN.{length, get_or}
use Rattle.facts.specs.Lists.{prefix, prefix-more}
use Rattle.backup.specs.Limits.{log_most}
use Rattle.backup.specs.Place.{port_in, word_in, unpack, messages}
use Rattle.process.specs.Row.{mails_in}
use Rattle.process.specs.Mailbox.{Appended}
use Rattle.process.specs.Promotion.{readdressed, Readdressed}

-- i of len messages of the log stand in the mailbox
pub record Filling (mail₀ log : List ℕ) (len : ℕ) (channels mail : List ℕ) (i : ℕ) : Type 0 where
  pub looked : i ≤ len
  pub same_length : length mail ≡ length mail₀
  pub mails : length mail₀ ≡ log_most → mails_in 0 i mail ≡ map (readdressed channels) (messages i log)

pub filling_start : (mail log : List ℕ) (len : ℕ) (channels : List ℕ) → Filling mail log len channels mail 0
filling_start mail log len channels = record { looked = omega arith; same_length = refl; mails = λ h. refl }

messages-more : (n : ℕ) (log : List ℕ) → messages (suc n) log ≡ messages n log ++ (unpack (get_or log n 0) ∷ [])
messages-more n log = ap (map unpack) (prefix-more n log) ∙ map-append unpack (prefix n log) (get_or log n 0 ∷ [])

module _ (mail₀ log : List ℕ) (len : ℕ) (channels mail : List ℕ) (i : ℕ) (f : Filling mail₀ log len channels mail i) where
  pub filling_on : (port word : ℕ) (mail' : List ℕ) → i < len → len ≤ log_most → port ≡ port_in (get_or log i 0) % 4 → word ≡ word_in (get_or log i 0)
      → Appended mail 0 i (get_or channels port 0) word mail' → Filling mail₀ log len channels mail' (i + 1)
  filling_on port word mail' l k e g a = record {
    looked = omega arith;
    same_length = a.same_length ∙ f.same_length;
    mails = λ h.
        rw add-one
        (a.more (f.same_length ∙ h) (omega arith)
        ∙ (λ j. f.mails h j ++ (record { channel = get_or channels (e j) 0; word = g j } ∷ []))
        ∙ sym (map-append (readdressed channels) (messages i log) (unpack (get_or log i 0) ∷ []))
        ∙ ap (map (readdressed channels)) (sym (messages-more i log)));
  }

  pub filling_end : len ≤ i → Readdressed mail₀ log len channels mail
  filling_end h =
      let e : len ≡ i = (let l = f.looked in omega arith) in
      record { same_length = f.same_length; mails = rw e f.mails }
