-- W-214, a session by records: the cabinets kept are those that the records kept make of an earlier cabinet (`Keeps`), so that code may
-- hold that cabinet and the records, and do them again.
use mathlib.Core.Path.{◌≡◌, refl, ap, sym, ◌∙◌, subst, subst₂}
use mathlib.Core.Bool.{true, false}
use mathlib.Core.List.{List, [], ◌∷◌, ◌++◌, append_assoc, append-nil}
use Prim.Native.Nat.{ℕ, zero, suc, ◌+◌, ◌-◌, ◌≤◌}
use native.Mathlib.Omega.{arith}
use lib.ListN.{length, take, get_or, replicate, length-append, length-take}
use lib.Seq.{append_snoc, take-suc, length-take-le, take_all, take-take, take-append-le}
use borrow.Author.Tests.{lt-ltb, le-ltb}
use Rattle.facts.specs.Tests.{by_lt, or_left, or_right}
use Rattle.rules.specs.Sizes.{kept_most}
use Rattle.rules.specs.Table.{Table}
use Rattle.rules.specs.Cabinet.{Cabinet}
use Rattle.rules.specs.Moves.{Command, stray_word, none_kept, undo_done, refused, turn, run_from}
use Rattle.rules.specs.Undo.{Session, is_undo, any_undo, is_bare, undo_key, stride, play_from, cabinets_before, Keeps, one_kept}
use Rattle.rules.proofs.Recovery.{run-parts, one_more}

-- ---- the cabinets before a list's records

module _ (t : Table) where
  -- the answer of one record more
  pub one_answer-more : (c : Cabinet) (rs : List Command) (r : Command)
      → (run_from t c (rs ++ (r ∷ []))).answers ≡ (run_from t c rs).answers ++ ((turn t (run_from t c rs).cabinet r).answer ∷ [])
  unfolding run_from
  one_answer-more c rs r = rw (run-parts t c rs (r ∷ []))

  -- of two lists
  before-parts : (c : Cabinet) (old new : List Command)
      → cabinets_before t c (old ++ new) ≡ cabinets_before t (run_from t c old).cabinet new ++ cabinets_before t c old
  unfolding cabinets_before run_from
  before-parts c [] new = sym (append-nil (cabinets_before t c new))
  before-parts c (r ∷ rs) new =
      let d = (turn t c r).cabinet in
      rw (before-parts d rs new) (append_assoc (cabinets_before t (run_from t d rs).cabinet new) (cabinets_before t d rs) (c ∷ []))

  before_more : (c : Cabinet) (rs : List Command) (r : Command)
      → cabinets_before t c (rs ++ (r ∷ [])) ≡ (run_from t c rs).cabinet ∷ cabinets_before t c rs
  unfolding cabinets_before
  before_more c rs r = before-parts c rs (r ∷ [])

  before-length : (c : Cabinet) (rs : List Command) → length (cabinets_before t c rs) ≡ length rs
  unfolding cabinets_before
  before-length c [] = refl
  before-length c (r ∷ rs) =
      let e = before-length (turn t c r).cabinet rs in
      rw (length-append (cabinets_before t (turn t c r).cabinet rs) (c ∷ [])) (omega arith)

-- ---- how many are kept

-- the newest of one more, as many as are kept
take_more : {A : Type 0} (k : ℕ) (x : A) (l : List A) → k ≤ kept_most → take kept_most (x ∷ take k l) ≡ take (one_kept k) (x ∷ l)
take_more k x l h =
    by_lt k kept_most
    (λ few. rw (lt-ltb k kept_most few) (ap (λ m. x ∷ m) (take_all (kept_most - 1) (take k l) (let e = length-take k l in omega arith))))
    (λ many. rw (le-ltb k kept_most many) (ap (λ m. x ∷ m) (take-take (kept_most - 1) k l (omega arith))))

few-more : (k : ℕ) → k ≤ kept_most → one_kept k ≤ kept_most
few-more k h = by_lt k kept_most (λ few. rw (lt-ltb k kept_most few) (omega arith)) (λ many. rw (le-ltb k kept_most many) (omega arith))

at_most_one : (k : ℕ) → one_kept k ≤ suc k
at_most_one k = by_lt k kept_most (λ few. rw (lt-ltb k kept_most few) (omega arith)) (λ many. rw (le-ltb k kept_most many) (omega arith))

-- ---- one record of a session: what code that holds a base, records and how many of them are kept may do

pub keeps-none : (t : Table) (c : Cabinet) → Keeps t c [] 0 (record { cabinet = c; kept = [] })
unfolding run_from cabinets_before
keeps-none t c = record { enough = omega arith; few = omega arith; cabinet-is = refl; kept_are = refl }

module _ (t : Table) (base : Cabinet) (s : Session) (records : List Command) where
  -- any record but a move 8
  pub keeps-forward : {k : ℕ} → Keeps t base records k s → (r : Command) → is_undo r ≡ false
      → Keeps t base (records ++ (r ∷ [])) (one_kept k) (stride t s r).session
  unfolding stride
  keeps-forward {k} h r e =
      rw e record {
        enough = let a = at_most_one k in let b = length-append records (r ∷ []) in let c = h.enough in omega arith;
        few = few-more k h.few;
        cabinet-is = rw (one_more t base records r, h.cabinet-is) refl;
        kept_are =
            rw (before_more t base records r, h.cabinet-is, h.kept_are)
            (take_more k (run_from t base records).cabinet (cabinets_before t base records) h.few);
      }

  -- its answer is the cabinet's own
  pub forward-answers : {k : ℕ} → Keeps t base records k s → (r : Command) → is_undo r ≡ false
      → (stride t s r).answer ≡ (turn t (run_from t base records).cabinet r).answer
  unfolding stride
  forward-answers h r e = rw (e, h.cabinet-is)

  -- a move 8 with nothing kept
  pub undo_refuses : Keeps t base records 0 s → (r : Command) → is_undo r ≡ true → is_bare r ≡ true
      → stride t s r ≡ record { session = s; answer = refused none_kept r.a }
  unfolding stride
  undo_refuses h r e bare = rw (e, bare, h.kept_are)

  -- a move 8 that takes back the last of the records
  undo-is : {k : ℕ} (last : Command) → Keeps t base (records ++ (last ∷ [])) (suc k) s → (r : Command) → is_undo r ≡ true → is_bare r ≡ true
      → stride t s r ≡ record {
        session = record { cabinet = (run_from t base records).cabinet; kept = take k (cabinets_before t base records) };
        answer = undo_done;
      }
  unfolding stride
  undo-is {k} last h r e bare = rw (e, bare, h.kept_are, before_more t base records last)

  pub undo-answers : {k : ℕ} (last : Command) → Keeps t base (records ++ (last ∷ [])) (suc k) s
      → (r : Command) → is_undo r ≡ true → is_bare r ≡ true → (stride t s r).answer ≡ undo_done
  undo-answers last h r e bare = rw (undo-is last h r e bare)

  pub keeps-undo : {k : ℕ} (last : Command) → Keeps t base (records ++ (last ∷ [])) (suc k) s
      → (r : Command) → is_undo r ≡ true → is_bare r ≡ true → Keeps t base records k (stride t s r).session
  keeps-undo {k} last h r e bare =
      rw (undo-is last h r e bare) record {
        enough = let a = h.enough in let b = length-append records (last ∷ []) in omega arith;
        few = let a = h.few in omega arith;
        cabinet-is = refl;
        kept_are = refl;
      }

  -- records that can't be taken back any more may be done for good
  pub keeps_rebased : (new : List Command) {k : ℕ} → Keeps t base (records ++ new) k s → k ≤ length new
      → Keeps t (run_from t base records).cabinet new k s
  keeps_rebased new {k} h few =
      let c : Cabinet = (run_from t base records).cabinet in
      record {
        enough = few;
        few = h.few;
        cabinet-is = h.cabinet-is ∙ rw (run-parts t base records new);
        kept_are =
            h.kept_are
            ∙ rw (before-parts t base records new)
            (take-append-le k (cabinets_before t c new) (cabinets_before t base records) (rw (before-length t c new) few));
      }

-- a move 8 whose a or word is not 0
pub undo_strays : (t : Table) (s : Session) (r : Command) → is_undo r ≡ true → is_bare r ≡ false
    → stride t s r ≡ record { session = s; answer = refused stray_word r.a }
unfolding stride
undo_strays t s r e stray = rw (e, stray)

-- any record but a move 8 is a turn of the cabinet
pub forward-turn : (t : Table) (s : Session) (r : Command) → is_undo r ≡ false
    → ((turn t s.cabinet r).cabinet ≡ (stride t s r).session.cabinet) × ((turn t s.cabinet r).answer ≡ (stride t s r).answer)
unfolding stride
forward-turn t s r e = (rw e, rw e)

-- ---- several records

-- two lists, one after the other
pub play_parts : (t : Table) (s : Session) (old new : List Command)
    → play_from t s (old ++ new) ≡ record {
      session = (play_from t (play_from t s old).session new).session;
      answers = (play_from t s old).answers ++ (play_from t (play_from t s old).session new).answers;
    }
unfolding play_from
play_parts t s [] new = refl
play_parts t s (r ∷ old) new = rw (play_parts t (stride t s r).session old new)

-- so many moves 8: each takes one record back, and those before them are left
pub undo_many : (t : Table) (base : Cabinet) (k j : ℕ) (s : Session) (records : List Command) → j + k ≤ length records
    → Keeps t base records (j + k) s
    → ((play_from t s (replicate j undo_key)).answers ≡ replicate j undo_done)
    × Keeps t base (take (length records - j) records) k (play_from t s (replicate j undo_key)).session
unfolding play_from
undo_many t base k zero s records e h =
    let h' : Keeps t base records k s = subst (λ (m : ℕ). Keeps t base records m s) (omega arith) h in
    (refl, rw (take_all (length records - 0) records (omega arith)) h')
undo_many t base k (suc j) s records e h =
    let n : ℕ = length records - 1 in
    let last : Command = get_or records n undo_key in
    let front : List Command = take n records in
    let next : Session = (stride t s undo_key).session in
    let whole : records ≡ front ++ (last ∷ []) = sym (take_all (suc n) records (omega arith)) ∙ take-suc records n undo_key (omega arith) in
    let long : length front ≡ n = length-take-le n records (omega arith) in
    let h' : Keeps t base (front ++ (last ∷ [])) (suc (j + k)) s =
    subst₂ (λ (l : List Command) (m : ℕ). Keeps t base l m s) whole (omega arith) h in
    let rest = undo_many t base k j next front (omega arith) (keeps-undo t base s front last h' undo_key refl refl) in
    let fewer : n - j ≡ length records - suc j = omega arith in
    let same : take (length front - j) front ≡ take (length records - suc j) records =
    rw long (take-take (n - j) n records (omega arith) ∙ ap (λ (m : ℕ). take m records) fewer) in (
      rw (undo-answers t base s front last h' undo_key refl refl, rest.0),
      subst (λ (l : List Command). Keeps t base l k (play_from t next (replicate j undo_key)).session) same rest.1,
    )

-- how many are kept after n records more
abbrev pub many_kept : ℕ → ℕ → ℕ
many_kept k zero = k
many_kept k (suc n) = many_kept (one_kept k) n

-- records none of which is a move 8: it is the cabinet's own run
pub forward_many : (t : Table) (base : Cabinet) (k : ℕ) (s : Session) (records : List Command) → Keeps t base records k s
    → (rs : List Command) → any_undo rs ≡ false
    → ((play_from t s rs).answers ≡ (run_from t s.cabinet rs).answers)
    × Keeps t base (records ++ rs) (many_kept k (length rs)) (play_from t s rs).session
unfolding play_from run_from
forward_many t base k s records h [] e = (refl, rw (append-nil records) h)
forward_many t base k s records h (r ∷ rs) e =
    let now : is_undo r ≡ false = or_left (is_undo r) (any_undo rs) e in
    let next : Session = (stride t s r).session in
    let turned = forward-turn t s r now in
    let rest = forward_many t base (one_kept k) next (records ++ (r ∷ [])) (keeps-forward t base s records h r now) rs
    (or_right (is_undo r) (any_undo rs) e) in
    let same : (run_from t next.cabinet rs).answers ≡ (run_from t (turn t s.cabinet r).cabinet rs).answers =
    ap (λ (c : Cabinet). (run_from t c rs).answers) (sym turned.0) in (
      (λ i. sym turned.1 i ∷ (rest.0 ∙ same) i),
      subst (λ (l : List Command). Keeps t base l (many_kept (one_kept k) (length rs)) (play_from t next rs).session)
          (append_snoc records r rs) rest.1,
    )
