-- What the session's loop has in hand after some records: a store that holds the session's cabinet, and a base from which the records that are held
-- lead there. What each kind of record makes of it.
use mathlib.Core.Path.{◌≡◌, refl, ap, sym, ◌∙◌, subst}
use mathlib.Core.Bool.{Bool, true, false, cond}
use mathlib.Core.List.{List, [], ◌∷◌, ◌++◌}
use Prim.Native.Nat.{ℕ, zero, suc, ◌-◌, ◌≤◌, ◌<◌}
use native.Mathlib.Omega.{arith}
use lib.Dec.{eqb}
use lib.ListN.{length}
use borrow.Author.Tests.{eqb-true, eqb-false, eq-eqb, ne_eqb}
use Rattle.numbers.specs.declared.answers.Reason.TheVariants.{TakenBack, WordNotZero, NoneKept}
use Rattle.records.specs.Commands.{command_of}
use Rattle.records.specs.declared.schedule.Command as code
use Rattle.rules.specs.Table.{Table}
use Rattle.rules.specs.Cabinet.{Cabinet, started}
use Rattle.rules.specs.Moves as rules
use Rattle.rules.specs.Moves.{Command, undo_done, refused, none_kept, stray_word, numbered, numbers, origin_of, no_origin, run_from}
use Rattle.rules.specs.Reasons.{cause_of}
use Rattle.rules.specs.Undo.{Session, opened, is_undo, any_undo, is_bare, stride, play_from, Keeps}
use Rattle.rules.proofs.AcceptedRun.{one_shown-each}
use Rattle.rules.proofs.Recovery.{run-parts}
use Rattle.rules.proofs.Undo.{keeps-none, undo_refuses, undo-answers, keeps-undo, undo_strays, keeps_rebased, play_parts, many_kept, forward_many}
use Rattle.plan.specs.Plan.{Plan}
use Rattle.state.specs.declared.entry.Entry.{Entry}
use Rattle.state.specs.declared.moved.Answer.{Answer}
use Rattle.state.specs.declared.store.Store.{Store}
use Rattle.state.specs.Store.{Holds}
use Rattle.state.specs.Moved.{Reachable, answer_for, refusal_for}
use Rattle.stretch.specs.Plays.{Sheets, Writes, Wrote, Suited, Played}
use Rattle.stretch.proofs.Answers.{Fits}
use Rattle.stretch.proofs.Sheets.{wrote_none, wrote_one, wrote-more}
use Rattle.stretch.proofs.Playing.{reached_on}
use Rattle.undo.specs.Sessions.{undo_answer_of, Shown}

-- after these commands: base b with its entries, and k of the records that are held may be taken back
pub record InHand (t : Table) (l : Plan) (done : List Command) (s : Store) (entries : List Entry) (b : Store) (at_base : List Entry)
    (held : List Command) (k : ℕ) (before sheets : Sheets) : Type 0 where
  pub base : Cabinet
  pub base_suited : Suited t l base b at_base
  pub keeps : Keeps t base held k (play_from t (opened t) done).session
  pub shown : Shown t done s entries before sheets

pub hand_first : {t : Table} {l : Plan} {s : Store} {entries : List Entry} (sheets : Sheets) → Suited t l (started t) s entries
    → InHand t l [] s entries s entries [] 0 sheets sheets
unfolding play_from opened
hand_first {t} sheets u = record {
  base = started t;
  base_suited = u;
  keeps = keeps-none t (started t);
  shown = record { holds = u.holds; wrote = wrote_none sheets 0 };
}

-- ---- what a move 8 is answered

module _ (c : code.Command) (k : ℕ) {a : ℕ} (is-a : a ≡ c.a) {x : Answer} where
  pub answered-a : (c.a ≡ 0 → ⊥) → x ≡ refusal_for WordNotZero a → x ≡ undo_answer_of c k
  answered-a z e = e ∙ rw (ne_eqb c.a 0 z, is-a)

  pub answered-word : c.a ≡ 0 → (c.word ≡ 0 → ⊥) → x ≡ refusal_for WordNotZero a → x ≡ undo_answer_of c k
  answered-word z w e = e ∙ rw (eq-eqb c.a 0 z, ne_eqb c.word 0 w, is-a)

  pub answered-none : c.a ≡ 0 → c.word ≡ 0 → k ≡ 0 → x ≡ refusal_for NoneKept a → x ≡ undo_answer_of c k
  answered-none z w n e = e ∙ rw (eq-eqb c.a 0 z, eq-eqb c.word 0 w, eq-eqb k 0 n, is-a)

  pub answered_seven : c.a ≡ 0 → c.word ≡ 0 → (k ≡ 0 → ⊥) → x ≡ answer_for TakenBack 0 0 → x ≡ undo_answer_of c k
  answered_seven z w n e = e ∙ rw (eq-eqb c.a 0 z, eq-eqb c.word 0 w, ne_eqb k 0 n)

-- a 7 where its a and word are 0 and something is kept, and nowhere else
seven_only : (bare none : Bool) (a : ℕ) → (cond bare (cond none (refusal_for NoneKept a) (answer_for TakenBack 0 0)) (refusal_for WordNotZero a)).code ≡ 7
    → (bare ≡ true) × (none ≡ false)
seven_only true true a h = absurd (cc)
seven_only true false a h = (refl, refl)
seven_only false none a h = absurd (cc)

pub seven_kept : (c : code.Command) (k : ℕ) {x : Answer} → x ≡ undo_answer_of c k → x.code ≡ 7 → (is_bare (command_of c) ≡ true) × (k ≡ 0 → ⊥)
seven_kept c k e h =
    let s = seven_only (is_bare (command_of c)) (eqb k 0) c.a (ap (λ (y : Answer). y.code) (sym e) ∙ h) in
    (s.0, eqb-false k 0 s.1)

-- the answer of the rules
abbrev told : Command → ℕ → rules.Answer
told r k = cond (is_bare r) (cond (eqb k 0) (refused none_kept r.a) undo_done) (refused stray_word r.a)

told-fits : (r : Command) (k : ℕ) → r.a < 256 → Fits (told r k)
unfolding numbers
told-fits r k h = go (is_bare r) (eqb k 0)
  where
    go : (bare none : Bool) → Fits (cond bare (cond none (refused none_kept r.a) undo_done) (refused stray_word r.a))
    go true true = record { a_small = h }
    go true false = record { a_small = omega arith }
    go false none = record { a_small = h }

-- what the code writes for it
told_wrote : (c : code.Command) (k : ℕ) {x : Answer} → x ≡ undo_answer_of c k → c.a < 256 → {i : ℕ} {sheets sheets' : Sheets} → Writes sheets i x no_origin sheets'
    → Wrote sheets i (told (command_of c) k ∷ []) sheets'
unfolding numbers cause_of origin_of
told_wrote c k {x} e small {i} {sheets} {sheets'} w =
    wrote_one (subst (λ (y : Answer). Writes sheets i y no_origin sheets') e w) (told (command_of c) k)
    (same_numbers (is_bare (command_of c)) (eqb k 0)) (same_cause (is_bare (command_of c)) (eqb k 0))
    (same-origin (is_bare (command_of c)) (eqb k 0)) (told-fits (command_of c) k small)
  where
    same_numbers : (bare none : Bool)
        → (let y = cond bare (cond none (refusal_for NoneKept c.a) (answer_for TakenBack 0 0)) (refusal_for WordNotZero c.a) in
        numbers (cond bare (cond none (refused none_kept c.a) undo_done) (refused stray_word c.a)) ≡ numbered y.code y.a y.word)
    same_numbers true true = refl
    same_numbers true false = refl
    same_numbers false none = refl

    same_cause : (bare none : Bool)
        → cause_of (cond bare (cond none (refused none_kept c.a) undo_done) (refused stray_word c.a))
        ≡ (cond bare (cond none (refusal_for NoneKept c.a) (answer_for TakenBack 0 0)) (refusal_for WordNotZero c.a)).cause
    same_cause true true = refl
    same_cause true false = refl
    same_cause false none = refl

    same-origin : (bare none : Bool) → origin_of (cond bare (cond none (refused none_kept c.a) undo_done) (refused stray_word c.a)) ≡ no_origin
    same-origin true true = refl
    same-origin true false = refl
    same-origin false none = refl

-- ---- one step

module _ {t : Table} {l : Plan} {done : List Command} {s : Store} {entries : List Entry} {b : Store} {at_base : List Entry} {held : List Command} {k : ℕ}
    {before sheets : Sheets} (h : InHand t l done s entries b at_base held k before sheets) where
  abbrev session : Session
  session = (play_from t (opened t) done).session

  -- the store is fit to be played on
  pub now_suited : Suited t l (play_from t (opened t) done).session.cabinet s entries
  now_suited = record {
    reached = subst (Reachable t) (sym h.keeps.cabinet-is) (reached_on h.base_suited.reached held);
    planned = h.base_suited.planned;
    holds = h.shown.holds;
  }

  -- commands more, whatever they are
  hand_more : (rs held' : List Command) (k' : ℕ) {s' : Store} {entries' : List Entry} {sheets' : Sheets} {i : ℕ} {answers : List rules.Answer}
      → (play_from t session rs).answers ≡ answers → Keeps t h.base held' k' (play_from t session rs).session
      → Holds t s' entries' (play_from t session rs).session.cabinet → Wrote sheets i answers sheets' → i ≡ length done
      → InHand t l (done ++ rs) s' entries' b at_base held' k' before sheets'
  hand_more rs held' k' {s'} {entries'} {sheets'} {i} {answers} e keeps holds w at =
      let n = one_shown-each t (opened t) done in
      let all = play_parts t (opened t) done rs in
      record {
        base = h.base;
        base_suited = h.base_suited;
        keeps = rw all keeps;
        shown = record {
          holds = rw all holds;
          wrote = rw all (wrote-more h.shown.wrote (subst (λ (m : List rules.Answer). Wrote sheets i m sheets') (sym e) w) (omega arith));
        };
      }

  -- a stretch with no move 8
  pub hand_forward : {rs : List Command} {s' : Store} {entries' : List Entry} {sheets' : Sheets} {i : ℕ} → any_undo rs ≡ false
      → Played t (play_from t (opened t) done).session.cabinet rs s' entries' sheets i sheets' → i ≡ length done
      → InHand t l (done ++ rs) s' entries' b at_base (held ++ rs) (many_kept k (length rs)) before sheets'
  hand_forward {rs} {s'} {entries'} none p at =
      let f = forward_many t h.base k session held h.keeps rs none in
      let same : (play_from t session rs).session.cabinet ≡ (run_from t session.cabinet rs).cabinet =
      f.1.cabinet-is ∙ rw (run-parts t h.base held rs, h.keeps.cabinet-is) in
      hand_more rs (held ++ rs) (many_kept k (length rs)) f.0 f.1 (subst (Holds t s' entries') (sym same) p.holds) p.wrote at

  -- a move 8
  module _ (c : code.Command) (is-undo : c.mv ≡ 8) (small : c.a < 256) {x : Answer} (is_x : x ≡ undo_answer_of c k) {i : ℕ} {sheets' : Sheets}
      (w : Writes sheets i x no_origin sheets') (at : i ≡ length done) where
    abbrev r : Command
    r = command_of c

    eight : is_undo r ≡ true
    eight = eq-eqb c.mv 8 is-undo

    -- that is refused: nothing else is new
    pub hand_refused : (x.code ≡ 7 → ⊥) → InHand t l (done ++ (command_of c ∷ [])) s entries b at_base held k before sheets'
    unfolding play_from
    hand_refused other = go (is_bare r) refl (eqb k 0) refl
      where
        stays : (answer : rules.Answer) → stride t session r ≡ record { session = session; answer = answer } → told r k ≡ answer
            → InHand t l (done ++ (r ∷ [])) s entries b at_base held k before sheets'
        stays answer e f =
            hand_more (r ∷ []) held k (rw e) (rw e h.keeps) (rw e h.shown.holds)
            (subst (λ (y : rules.Answer). Wrote sheets i (y ∷ []) sheets') f (told_wrote c k is_x small w)) at

        go : (bare : Bool) → is_bare r ≡ bare → (none : Bool) → eqb k 0 ≡ none → InHand t l (done ++ (r ∷ [])) s entries b at_base held k before sheets'
        go false e none f = stays (refused stray_word r.a) (undo_strays t session r eight e) (rw e)
        go true e true f =
            let empty : Keeps t h.base held 0 session = subst (λ (n : ℕ). Keeps t h.base held n session) (eqb-true k 0 f) h.keeps in
            stays (refused none_kept r.a) (undo_refuses t h.base session held empty r eight e) (rw (e, f))
        go true e false f = absurd (other (ap (λ (y : Answer). y.code) is_x ∙ rw (e, f)))

    -- that takes back the last record that is held: the store holds what those before it make of the base
    pub hand_undone : {s' : Store} {entries' : List Entry} (front : List Command) (last : Command) → x.code ≡ 7 → held ≡ front ++ (last ∷ [])
        → Holds t s' entries' (run_from t h.base front).cabinet
        → InHand t l (done ++ (command_of c ∷ [])) s' entries' b at_base front (k - 1) before sheets'
    unfolding play_from
    hand_undone {s'} {entries'} front last seven e holds = go k refl
      where
        bare : is_bare r ≡ true
        bare = (seven_kept c k is_x seven).0

        go : (n : ℕ) → k ≡ n → InHand t l (done ++ (r ∷ [])) s' entries' b at_base front (k - 1) before sheets'
        go zero f = absurd ((seven_kept c k is_x seven).1 f)
        go (suc n) f =
            let keeps : Keeps t h.base (front ++ (last ∷ [])) (suc n) session =
            subst (λ (m : ℕ). Keeps t h.base (front ++ (last ∷ [])) m session) f (subst (λ (m : List Command). Keeps t h.base m k session) e h.keeps) in
            let one_less_lem : n ≡ k - 1 = omega arith in
            let then : Keeps t h.base front (k - 1) (stride t session r).session =
            subst (λ (m : ℕ). Keeps t h.base front m (stride t session r).session) one_less_lem (keeps-undo t h.base session front last keeps r eight bare) in
            let answers : (stride t session r).answer ≡ undo_done = undo-answers t h.base session front last keeps r eight bare in
            let wrote : Wrote sheets i (undo_done ∷ []) sheets' =
            subst (λ (y : rules.Answer). Wrote sheets i (y ∷ []) sheets') (rw (bare, ne_eqb k 0 (seven_kept c k is_x seven).1)) (told_wrote c k is_x small w) in
            hand_more (r ∷ []) front (k - 1) (ap (λ (y : rules.Answer). y ∷ []) answers) then (subst (Holds t s' entries') (sym then.cabinet-is) holds) wrote at

  -- ---- the base follows

  pub hand_followed : {b' : Store} {at-base' : List Entry} (old new : List Command) → held ≡ old ++ new → k ≤ length new
      → Holds t b' at-base' (run_from t h.base old).cabinet → InHand t l done s entries b' at-base' new k before sheets
  hand_followed old new e few holds = record {
    base = (run_from t h.base old).cabinet;
    base_suited = record { reached = reached_on h.base_suited.reached old; planned = h.base_suited.planned; holds = holds };
    keeps = keeps_rebased t h.base session old new (subst (λ (m : List Command). Keeps t h.base m k session) e h.keeps) few;
    shown = h.shown;
  }
