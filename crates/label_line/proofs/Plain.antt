-- A plain run of the label line: the outlet's words are a beginning of the labels of the cartons fed, and where no process could step
-- they are all of them.
use mathlib.Core.Path.{◌≡◌, refl, ap, sym, ◌∙◌, subst}
use mathlib.Core.Option.{none, some}
use mathlib.Core.List.{List, [], ◌∷◌, ◌++◌, append_assoc, append-nil, IsPrefix}
use Prim.Native.Nat.{ℕ, ◌^◌, ◌<◌}
use Rattle.facts.specs.Tests.{no_way}
use Rattle.rules.specs.Machine.{BusWord}
use Rattle.rules.specs.Reference.{Reference, Action, inject, step, act, and_then, reference_start, reference_run, injections}
use Rattle.rules.specs.Transparent.{without_origins}
use Rattle.label_line.specs.Line.{scanner, outlet, line_table}
use Rattle.label_line.specs.Outlet.{words_on}
use Rattle.label_line.proofs.Sequences.{words_on_append, word_labels, word_labels_snoc, word_labels_prefix, prefix_trans}
use Rattle.label_line.proofs.Phases.{Numbering, starting, unserialled, waiting, coded, code-sent, serial_sent, raised, cartons_taken, words_numbered, Printing, resting, listening, holding, handed, words_taken, words_handed, Line, state_of, Lines}
use Rattle.label_line.proofs.Turns.{fed_next, Turn, no_turn, turned, turn}

-- ---- the invariant of a run

-- a plain cabinet of the label line, once these cartons were fed
pub record PlainLine (first : ℕ) (fed : List ℕ) (s : Reference) : Type 0 where
  pub line : Line
  pub is : s ≡ state_of first line
  pub lines : Lines first fed line

abbrev pub start_line : Line
start_line = record { numbering = starting; unread = []; printing = resting; pending = []; bus = [] }

pub start_is : (first : ℕ) → reference_start (line_table first) ≡ state_of first start_line
unfolding reference_start
start_is first = refl

pub start_lines : (first : ℕ) → Lines first [] start_line
unfolding words_on
start_lines first = record { fed_are = refl; sent_are = refl; printed_are = refl }

-- the cartons fed, after a list of actions
abbrev fed_by : List ℕ → List Action → List ℕ
fed_by fed [] = fed
fed_by fed (x ∷ l) = fed_by (fed_next fed x) l

fed_by_injections : (fed : List ℕ) (l : List Action) → fed_by fed l ≡ fed ++ words_on scanner (injections l)
unfolding injections words_on
fed_by_injections fed [] = sym (append-nil fed)
fed_by_injections fed (inject x ∷ l) =
    fed_by_injections (fed ++ words_on scanner (x ∷ [])) l
    ∙ append_assoc fed (words_on scanner (x ∷ [])) (words_on scanner (injections l))
    ∙ ap (λ (z : List ℕ). fed ++ z) (sym (words_on_append scanner (x ∷ []) (injections l)))
fed_by_injections fed (step p ∷ l) = fed_by_injections fed l

module _ (first : ℕ) (small : first < 2 ^ 32) where
  runs : (l : List Action) (fed : List ℕ) (a : Line) → Lines first fed a → (e : Reference) → reference_run (line_table first) (state_of first a) l ≡ some e
      → PlainLine first (fed_by fed l) e
  unfolding reference_run
  runs [] fed a h e r = record { line = a; is = cc; lines = h }
  runs (x ∷ l) fed a h e r = go (runs l (fed_next fed x)) (turn first small fed x a h) r
    where
      go : ((b : Line) → Lines first (fed_next fed x) b → (e : Reference) → reference_run (line_table first) (state_of first b) l ≡ some e
          → PlainLine first (fed_by (fed_next fed x) l) e)
          → Turn first fed a x → and_then (act (line_table first) (state_of first a) x) (λ s. reference_run (line_table first) s l) ≡ some e
          → PlainLine first (fed_by (fed_next fed x) l) e
      go ih (no_turn n) r = absurd (no_way (let z = rw n at r in cc))
      go ih (turned b is lines _) r = ih b lines e (rw is at r)

  -- the invariant holds after every plain run
  pub plain_line : (l : List Action) (e : Reference) → reference_run (line_table first) (reference_start (line_table first)) l ≡ some e
      → PlainLine first (words_on scanner (injections l)) e
  plain_line l e r =
      subst (λ (fed : List ℕ). PlainLine first fed e) (fed_by_injections [] l)
      (runs l [] start_line (start_lines first) e (rw (start_is first) at r))

-- ---- a beginning

numbered-prefix : (first : ℕ) (n : Numbering) → IsPrefix (words_numbered first n) (word_labels first (cartons_taken n))
unfolding word_labels
numbered-prefix first starting = ([], refl)
numbered-prefix first unserialled = ([], refl)
numbered-prefix first (waiting done c) = ([], append-nil (word_labels first done))
numbered-prefix first (coded done c) = word_labels_prefix first done (c ∷ [])
numbered-prefix first (code-sent done c) =
    (_, append_assoc (word_labels first done) (c ∷ []) _ ∙ sym (word_labels_snoc first done c))
numbered-prefix first (serial_sent done c) = ([], append-nil _)
numbered-prefix first (raised done c) = ([], append-nil _)

handed_on_prefix : (p : Printing) → IsPrefix (words_handed p) (words_taken p)
handed_on_prefix resting = ([], refl)
handed_on_prefix (listening done w) = ([], append-nil done)
handed_on_prefix (holding done w) = (w ∷ [], refl)
handed_on_prefix (handed done w) = ([], append-nil _)

pub plain_begins : (first : ℕ) (fed : List ℕ) (s : Reference) → PlainLine first fed s → IsPrefix (words_on outlet (without_origins s.trace)) (word_labels first fed)
plain_begins first fed s h =
    let n = h.line.numbering in
    let p = h.line.printing in
    let l = h.lines in
    let outlet-is : words_on outlet (without_origins s.trace) ≡ words_handed p =
    ap (λ (z : Reference). words_on outlet (without_origins z.trace)) h.is ∙ l.printed_are in
    rw (outlet-is, l.fed_are)
    (prefix_trans (words_handed p) (words_taken p) (word_labels first (cartons_taken n ++ h.line.unread)) (handed_on_prefix p)
    (prefix_trans (words_taken p) (words_numbered first n) (word_labels first (cartons_taken n ++ h.line.unread)) (h.line.pending, sym l.sent_are)
    (prefix_trans (words_numbered first n) (word_labels first (cartons_taken n)) (word_labels first (cartons_taken n ++ h.line.unread)) (numbered-prefix first n)
    (word_labels_prefix first (cartons_taken n) h.line.unread))))

-- ---- the end

-- where neither program could step, each waits for a word and has none
numbering_ends : (first : ℕ) (fed : List ℕ) (n : Numbering) (unread : List ℕ) (p : Printing) (pending : List ℕ) (bus : List BusWord)
    → fed ≡ cartons_taken n ++ unread
    → act (line_table first) (state_of first (record { numbering = n; unread = unread; printing = p; pending = pending; bus = bus })) (step 0) ≡ none
    → words_numbered first n ≡ word_labels first fed
unfolding act
numbering_ends first fed starting unread p pending bus e h = absurd (no_way (cc))
numbering_ends first fed unserialled unread p pending bus e h = absurd (no_way (cc))
numbering_ends first fed (waiting done c) [] p pending bus e h = ap (word_labels first) (sym (append-nil done) ∙ sym e)
numbering_ends first fed (waiting done c) (w ∷ unread) p pending bus e h = absurd (no_way (cc))
numbering_ends first fed (coded done c) unread p pending bus e h = absurd (no_way (cc))
numbering_ends first fed (code-sent done c) unread p pending bus e h = absurd (no_way (cc))
numbering_ends first fed (serial_sent done c) unread p pending bus e h = absurd (no_way (cc))
numbering_ends first fed (raised done c) unread p pending bus e h = absurd (no_way (cc))

printing_ends : (first : ℕ) (words : List ℕ) (n : Numbering) (unread : List ℕ) (p : Printing) (pending : List ℕ) (bus : List BusWord)
    → words ≡ words_taken p ++ pending
    → act (line_table first) (state_of first (record { numbering = n; unread = unread; printing = p; pending = pending; bus = bus })) (step 1) ≡ none
    → words_handed p ≡ words
unfolding act
printing_ends first words n unread resting pending bus e h = absurd (no_way (cc))
printing_ends first words n unread (listening done w) [] bus e h = sym (append-nil done) ∙ sym e
printing_ends first words n unread (listening done w) (x ∷ pending) bus e h = absurd (no_way (cc))
printing_ends first words n unread (holding done w) pending bus e h = absurd (no_way (cc))
printing_ends first words n unread (handed done w) pending bus e h = absurd (no_way (cc))

pub plain_ends : (first : ℕ) (fed : List ℕ) (s : Reference) → PlainLine first fed s → ((p : ℕ) → act (line_table first) s (step p) ≡ none)
    → words_on outlet (without_origins s.trace) ≡ word_labels first fed
plain_ends first fed s h none-steps =
    let a = h.line in
    let l = h.lines in
    ap (λ (z : Reference). words_on outlet (without_origins z.trace)) h.is ∙ l.printed_are
    ∙ printing_ends first (words_numbered first a.numbering) a.numbering a.unread a.printing a.pending a.bus l.sent_are (rw h.is at (none-steps 1))
    ∙ numbering_ends first fed a.numbering a.unread a.printing a.pending a.bus l.fed_are (rw h.is at (none-steps 0))
