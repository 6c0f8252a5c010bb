-- One action of the plain cabinet of the label line: it is refused, or it leads to a line whose words again fit together.
use mathlib.Core.Path.{◌≡◌, refl, ap, sym, ◌∙◌}
use mathlib.Core.Option.{none, some}
use mathlib.Core.List.{List, [], ◌∷◌, ◌++◌, map-append, append_assoc, append-nil}
use Prim.Native.Nat.{ℕ, zero, suc, ◌+◌, ◌^◌, ◌≤◌, ◌<◌}
use native.Mathlib.Omega.{arith}
use lib.ListN.{length, length-append}
use borrow.Author.Tests.{le-ltb}
use Rattle.rules.specs.Machine.{Mail, BusWord, sent_from, from_outside, Act, internal, took, sent}
use Rattle.rules.specs.Reference.{Action, inject, step, act}
use Rattle.rules.specs.Transparent.{without_origins}
use Rattle.label_line.specs.Line.{scanner, printer, outlet, line_table}
use Rattle.label_line.specs.Outlet.{words_on}
use Rattle.label_line.specs.Spaced.{done_by}
use Rattle.label_line.proofs.Sequences.{words_on_append, on_channel_snoc, word, word_labels, word_labels_snoc}
use Rattle.label_line.proofs.Phases.{Numbering, starting, unserialled, waiting, coded, code-sent, serial_sent, raised, cartons_taken, words_numbered, numbering_left, Printing, resting, listening, holding, handed, words_taken, words_handed, printing_left, Line, state_of, Lines}

-- the cartons fed, after one more action
abbrev pub fed_next : List ℕ → Action → List ℕ
fed_next fed (inject x) = fed ++ words_on scanner (x ∷ [])
fed_next fed (step p) = fed

-- most instructions that either program has left before its next take
abbrev pub left_most : ℕ
left_most = 4

-- what a process did, between the instructions that were left before its next take and those that are left then: a take begins anew
abbrev pub Spends : List Act → ℕ → ℕ → Type 0
Spends [] before after = before ≡ after
Spends (internal ∷ ks) before after = (before ≡ suc after) × (ks ≡ [])
Spends (took x ∷ ks) before after = (after ≤ left_most) × (ks ≡ [])
Spends (sent x ∷ ks) before after = (before ≡ suc after) × (ks ≡ [])

-- of both processes
pub record Spending (first : ℕ) (a : Line) (x : Action) (b : Line) : Type 0 where
  pub numbering : Spends (done_by (line_table first) 0 (state_of first a) x) (numbering_left a.numbering) (numbering_left b.numbering)
  pub printing : Spends (done_by (line_table first) 1 (state_of first a) x) (printing_left a.printing) (printing_left b.printing)

pub data Turn (first : ℕ) (fed : List ℕ) (a : Line) (x : Action) : Type 0 where
  no_turn : act (line_table first) (state_of first a) x ≡ none → Turn first fed a x
  turned : (b : Line) → act (line_table first) (state_of first a) x ≡ some (state_of first b) → Lines first (fed_next fed x) b
      → Spending first a x b → Turn first fed a x

abbrev mail : ℕ → ℕ → Mail
mail k w = record { channel = k; word = w }

raised_word : (n : ℕ) → word (word n + 1) ≡ word (n + 1)
raised_word n = omega arith

one_more : (first : ℕ) (done : List ℕ) (c : ℕ) → word (word (first + length done) + 1) ≡ word (first + length (done ++ (c ∷ [])))
one_more first done c =
    raised_word (first + length done) ∙ ap word (let e = length-append done (c ∷ []) in let g : first + length done + 1 ≡ first + length (done ++ (c ∷ [])) = omega arith in g)

-- the words at the outlet, with one more on the bus
abbrev printed : List BusWord → List ℕ
printed bus = words_on outlet (without_origins bus)

printed_more : (bus : List BusWord) (x : BusWord) → printed (bus ++ (x ∷ [])) ≡ printed bus ++ words_on outlet (x.mail ∷ [])
printed_more bus x =
    ap (words_on outlet) (map-append (λ (y : BusWord). y.mail) bus (x ∷ [])) ∙ words_on_append outlet (without_origins bus) (x.mail ∷ [])

-- which isn't on the outlet's channel
not_printed : (bus : List BusWord) (x : BusWord) → words_on outlet (x.mail ∷ []) ≡ [] → (l : List ℕ) → printed bus ≡ l → printed (bus ++ (x ∷ [])) ≡ l
not_printed bus x h l e = printed_more bus x ∙ ap (λ (z : List ℕ). printed bus ++ z) h ∙ append-nil (printed bus) ∙ e

-- one word more has gone to the printer program
sent_on : (l r pending : List ℕ) (w : ℕ) → l ≡ r ++ pending → l ++ (w ∷ []) ≡ r ++ (pending ++ (w ∷ []))
sent_on l r pending w e = ap (λ (z : List ℕ). z ++ (w ∷ [])) e ∙ append_assoc r pending (w ∷ [])

-- one word more has been taken
taken_on_lem : (l done rest : List ℕ) (w : ℕ) → l ≡ done ++ (w ∷ rest) → l ≡ (done ++ (w ∷ [])) ++ rest
taken_on_lem l done rest w e = e ∙ sym (append_assoc done (w ∷ []) rest)

abbrev line : Numbering → List ℕ → Printing → List ℕ → List BusWord → Line
line n unread p pending bus = record { numbering = n; unread = unread; printing = p; pending = pending; bus = bus }

module _ (first : ℕ) (small : first < 2 ^ 32) (fed : List ℕ) where
  numbering_turn : (n : Numbering) (unread : List ℕ) (p : Printing) (pending : List ℕ) (bus : List BusWord) → Lines first fed (line n unread p pending bus)
      → Turn first fed (line n unread p pending bus) (step 0)
  unfolding act done_by word_labels words_on
  numbering_turn starting unread p pending bus h =
      turned (line unserialled unread p pending bus) refl
      (record { fed_are = h.fed_are; sent_are = h.sent_are; printed_are = h.printed_are }) (record { numbering = (refl, refl); printing = refl })
  numbering_turn unserialled unread p pending bus h =
      let e : word (first + 0) ≡ first = omega arith in
      turned (line (waiting [] 0) unread p pending bus) (rw e)
      (record { fed_are = h.fed_are; sent_are = h.sent_are; printed_are = h.printed_are }) (record { numbering = (refl, refl); printing = refl })
  numbering_turn (waiting done c) [] p pending bus h = no_turn refl
  numbering_turn (waiting done c) (w ∷ unread) p pending bus h =
      turned (line (coded done w) unread p pending bus) refl
      (record { fed_are = taken_on_lem fed done unread w h.fed_are; sent_are = h.sent_are; printed_are = h.printed_are }) (record { numbering = (omega arith, refl); printing = refl })
  numbering_turn (coded done c) unread p pending bus h =
      turned (line (code-sent done c) unread p (pending ++ (c ∷ [])) (bus ++ (sent_from 0 3 (mail printer c) ∷ []))) (rw (on_channel_snoc printer pending c))
      (record {
        fed_are = h.fed_are;
        sent_are = sent_on (word_labels first done) (words_taken p) pending c h.sent_are;
        printed_are = not_printed bus (sent_from 0 3 (mail printer c)) refl (words_handed p) h.printed_are;
      })
      (record { numbering = (refl, refl); printing = refl })
  numbering_turn (code-sent done c) unread p pending bus h =
      let s : ℕ = word (first + length done) in
      turned (line (serial_sent done c) unread p (pending ++ (s ∷ [])) (bus ++ (sent_from 0 4 (mail printer s) ∷ []))) (rw (on_channel_snoc printer pending s))
      (record {
        fed_are = h.fed_are;
        sent_are =
            word_labels_snoc first done c ∙ sym (append_assoc (word_labels first done) (c ∷ []) (s ∷ []))
            ∙ sent_on (word_labels first done ++ (c ∷ [])) (words_taken p) pending s h.sent_are;
        printed_are = not_printed bus (sent_from 0 4 (mail printer s)) refl (words_handed p) h.printed_are;
      })
      (record { numbering = (refl, refl); printing = refl })
  numbering_turn (serial_sent done c) unread p pending bus h =
      turned (line (raised done c) unread p pending bus) (rw (one_more first done c))
      (record { fed_are = h.fed_are; sent_are = h.sent_are; printed_are = h.printed_are }) (record { numbering = (refl, refl); printing = refl })
  numbering_turn (raised done c) unread p pending bus h =
      turned (line (waiting (done ++ (c ∷ [])) c) unread p pending bus) refl
      (record { fed_are = h.fed_are; sent_are = h.sent_are; printed_are = h.printed_are }) (record { numbering = (refl, refl); printing = refl })

  printing_turn : (n : Numbering) (unread : List ℕ) (p : Printing) (pending : List ℕ) (bus : List BusWord) → Lines first fed (line n unread p pending bus)
      → Turn first fed (line n unread p pending bus) (step 1)
  unfolding act done_by words_on
  printing_turn n unread resting pending bus h =
      turned (line n unread (listening [] 0) pending bus) refl
      (record { fed_are = h.fed_are; sent_are = h.sent_are; printed_are = h.printed_are }) (record { numbering = refl; printing = (refl, refl) })
  printing_turn n unread (listening done w) [] bus h = no_turn refl
  printing_turn n unread (listening done w) (x ∷ pending) bus h =
      turned (line n unread (holding done x) pending bus) refl
      (record { fed_are = h.fed_are; sent_are = taken_on_lem (words_numbered first n) done pending x h.sent_are; printed_are = h.printed_are }) (record { numbering = refl; printing = (omega arith, refl) })
  printing_turn n unread (holding done w) pending bus h =
      turned (line n unread (handed done w) pending (bus ++ (sent_from 1 2 (mail outlet w) ∷ []))) refl
      (record {
        fed_are = h.fed_are;
        sent_are = h.sent_are;
        printed_are = printed_more bus (sent_from 1 2 (mail outlet w)) ∙ ap (λ (z : List ℕ). z ++ (w ∷ [])) h.printed_are;
      })
      (record { numbering = refl; printing = (refl, refl) })
  printing_turn n unread (handed done w) pending bus h =
      turned (line n unread (listening (done ++ (w ∷ [])) w) pending bus) refl
      (record { fed_are = h.fed_are; sent_are = h.sent_are; printed_are = h.printed_are }) (record { numbering = refl; printing = (refl, refl) })

  -- a word is fed: to the scanner's channel, or refused
  feed_turn : (k w : ℕ) (a : Line) → Lines first fed a → Turn first fed a (inject (mail k w))
  unfolding act done_by words_on
  feed_turn zero w a h =
      turned (line a.numbering (a.unread ++ (w ∷ [])) a.printing a.pending (a.bus ++ (from_outside (mail scanner w) ∷ []))) (rw (on_channel_snoc scanner a.unread w))
      (record {
        fed_are = sent_on fed (cartons_taken a.numbering) a.unread w h.fed_are;
        sent_are = h.sent_are;
        printed_are = not_printed a.bus (from_outside (mail scanner w)) refl (words_handed a.printing) h.printed_are;
      })
      (record { numbering = refl; printing = refl })
  feed_turn (suc zero) w a h = no_turn refl
  feed_turn (suc (suc zero)) w a h = no_turn refl
  feed_turn (suc (suc (suc k))) w a h = no_turn (rw (le-ltb (suc (suc (suc k))) 3 (omega arith)))

  step-turn : (p : ℕ) (a : Line) → Lines first fed a → Turn first fed a (step p)
  unfolding act
  step-turn zero a h = numbering_turn a.numbering a.unread a.printing a.pending a.bus h
  step-turn (suc zero) a h = printing_turn a.numbering a.unread a.printing a.pending a.bus h
  step-turn (suc (suc p)) a h = no_turn (rw (le-ltb (suc (suc p)) 2 (omega arith)))

  pub turn : (x : Action) (a : Line) → Lines first fed a → Turn first fed a x
  turn (inject x) a h = feed_turn x.channel x.word a h
  turn (step p) a h = step-turn p a h
