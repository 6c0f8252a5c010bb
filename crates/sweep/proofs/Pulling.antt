-- A schedule with the crash put in: its bytes are a sound schedule, and its commands are the rules' `pulled_at`.
use Rattle.std.specs.Prelude.{Ok}
use mathlib.Core.Path.{◌≡◌, refl, ap, sym, ◌∙◌}
use mathlib.Core.List.{List, [], ◌∷◌, ◌++◌, append_assoc}
use Prim.Native.Nat.{ℕ, zero, suc, ◌+◌, ◌-◌, ◌*◌, ◌/◌, ◌%◌, ◌≤◌}
use native.Mathlib.Omega.{arith}
use lib.ListN.{length, take, drop, length-append, length-drop}
use lib.Seq.{sets, sets-eq, length-take-le, take_at, drop-drop}
use Rattle.facts.specs.Lists.{part-rest}
use Rattle.facts.specs.Laying.{sets_append, sets-front}
use Rattle.rules.specs.Sizes.{sweep_most}
use Rattle.rules.specs.Bytes.{sixes}
use Rattle.rules.specs.Format.{length_field, version_in}
use Rattle.rules.specs.Schedule.{commands_in, command, decode_schedule, validate_schedule}
use Rattle.rules.specs.Sweep.{pulled_at}
use Rattle.rules.proofs.Scheduled.{Scheduled, scheduled}
use Rattle.records.proofs.Judged.{Whole, accepted_0}
use Rattle.sweep.specs.Pulled.{crash_bytes, record_at, pulled_bytes, HasPlace}

pub has_place : (schedule : List ℕ) (place : ℕ) → Scheduled schedule → commands_in schedule ≤ sweep_most → place ≤ commands_in schedule → HasPlace schedule place
has_place schedule place s few h = let w = s.whole in record { there = omega arith; short = omega arith }

-- ---- six bytes put in between two records are one command more

pulled_sixes : (place n : ℕ) (body : List ℕ) (b : ℕ) → place ≤ n → 6 * n ≤ length body
    → sixes command (suc n) (take (6 * place) body ++ (crash_bytes b ++ drop (6 * place) body)) ≡ pulled_at (sixes command n body) place b
pulled_sixes zero n body b h l = refl
pulled_sixes (suc place) zero body b h l = absurd (omega arith)
pulled_sixes (suc place) (suc n) [] b h l = absurd (omega arith)
pulled_sixes (suc place) (suc n) (x0 ∷ []) b h l = absurd (omega arith)
pulled_sixes (suc place) (suc n) (x0 ∷ x1 ∷ []) b h l = absurd (omega arith)
pulled_sixes (suc place) (suc n) (x0 ∷ x1 ∷ x2 ∷ []) b h l = absurd (omega arith)
pulled_sixes (suc place) (suc n) (x0 ∷ x1 ∷ x2 ∷ x3 ∷ []) b h l = absurd (omega arith)
pulled_sixes (suc place) (suc n) (x0 ∷ x1 ∷ x2 ∷ x3 ∷ x4 ∷ []) b h l = absurd (omega arith)
pulled_sixes (suc place) (suc n) (x0 ∷ x1 ∷ x2 ∷ x3 ∷ x4 ∷ x5 ∷ body) b h l =
    let six : 6 * suc place ≡ suc (suc (suc (suc (suc (suc (6 * place)))))) = omega arith in
    rw (six, pulled_sixes place n body b (omega arith) (omega arith))

-- ---- the whole schedule

module _ (schedule : List ℕ) (place b : ℕ) where
  pub length_pulled : HasPlace schedule place → length (pulled_bytes schedule place b) ≡ 6 + length schedule
  unfolding pulled_bytes
  length_pulled h =
      let there = h.there in
      let before : length (take (suc (6 * place)) (drop 2 schedule)) ≡ suc (6 * place) =
      length-take-le (suc (6 * place)) (drop 2 schedule) (let e = length-drop 2 schedule in omega arith) in
      let behind = length-drop (record_at place) schedule in
      let all = length-append (take (suc (6 * place)) (drop 2 schedule)) (crash_bytes b ++ drop (record_at place) schedule) in
      omega arith

  -- one record more
  pulled_more : HasPlace schedule place → Scheduled schedule → commands_in (pulled_bytes schedule place b) ≡ suc (commands_in schedule)
  pulled_more h s = let e = length_pulled h in let w = s.whole in omega arith

version-kept : (schedule : List ℕ) (place b : ℕ) → 3 ≤ length schedule → version_in (pulled_bytes schedule place b) ≡ version_in schedule
unfolding pulled_bytes
version-kept [] place b h = absurd (omega arith)
version-kept (x0 ∷ []) place b h = absurd (omega arith)
version-kept (x0 ∷ x1 ∷ []) place b h = absurd (omega arith)
version-kept (x0 ∷ x1 ∷ v ∷ body) place b h = refl

field_true : (schedule : List ℕ) (place b : ℕ) → length_field (pulled_bytes schedule place b) ≡ length schedule + 4
unfolding pulled_bytes
field_true schedule place b = omega arith

commands_put : (schedule : List ℕ) (n place b : ℕ) → 3 ≤ length schedule → 3 + 6 * n ≤ length schedule → place ≤ n
    → sixes command (suc n) (drop 3 (pulled_bytes schedule place b)) ≡ pulled_at (sixes command n (drop 3 schedule)) place b
unfolding pulled_bytes
commands_put [] n place b h l k = absurd (omega arith)
commands_put (x0 ∷ []) n place b h l k = absurd (omega arith)
commands_put (x0 ∷ x1 ∷ []) n place b h l k = absurd (omega arith)
commands_put (x0 ∷ x1 ∷ v ∷ body) n place b h l k =
    let three : record_at place ≡ suc (suc (suc (6 * place))) = omega arith in
    rw three (pulled_sixes place n body b k (omega arith))

module _ (schedule : List ℕ) (place b : ℕ) (valid : validate_schedule schedule ≡ 0) (few : commands_in schedule ≤ sweep_most) (h : place ≤ commands_in schedule) where
  pub pulled_count : commands_in (pulled_bytes schedule place b) ≡ suc (commands_in schedule)
  pulled_count = let s = scheduled schedule valid in pulled_more schedule place b (has_place schedule place s few h) s

  pub pulled_valid : validate_schedule (pulled_bytes schedule place b) ≡ 0
  pulled_valid =
      let s = scheduled schedule valid in
      let long = s.long in
      let whole = s.whole in
      let p = pulled_bytes schedule place b in
      let e = length_pulled schedule place b (has_place schedule place s few h) in
      let f = field_true schedule place b in
      let n = pulled_count in
      let w : Whole p = record { long = omega arith; true_field = omega arith; whole = omega arith; few = omega arith } in
      sym (accepted_0 p (Ok (commands_in p)) w (version-kept schedule place b long ∙ s.version) refl refl).number_is

  pub pulled_decoded : decode_schedule (pulled_bytes schedule place b) ≡ pulled_at (decode_schedule schedule) place b
  unfolding decode_schedule
  pulled_decoded =
      let s = scheduled schedule valid in
      let whole = s.whole in
      rw pulled_count (commands_put schedule (commands_in schedule) place b s.long (omega arith) h)

-- ---- the bytes that the code puts together

-- what was copied to a part of a list, in that part's place, is a store of it
pub laid : (l src part : List ℕ) (at k : ℕ) → at + length src ≤ length l → k ≡ length src → part ≡ src
    → take at l ++ (part ++ drop k (drop at l)) ≡ sets l at src
laid l src part at k h m e =
    (λ i. take at l ++ (e i ++ drop (m i) (drop at l))) ∙ ap (λ (rest : List ℕ). take at l ++ (src ++ rest)) (drop-drop (length src) at l)
    ∙ sym (append_assoc (take at l) src (drop (at + length src) l)) ∙ sym (sets-eq src l at h)

-- stores one behind the other, the next of which begins where the last one ends
laid_on : (l a b : List ℕ) (at : ℕ) → at ≡ length a → sets (sets l 0 a) at b ≡ sets l 0 (a ++ b)
laid_on l a b at e = ap (λ (n : ℕ). sets (sets l 0 a) n b) (e ∙ omega arith) ∙ sets_append l 0 a b

-- the two length bytes, what stands before the crash, the crash, what stands behind it
pub put_together : (l schedule : List ℕ) (place b : ℕ) → HasPlace schedule place → (l1 l2 l3 l4 : List ℕ)
    → l1 ≡ sets l 0 ((length schedule + 4) / 256 ∷ (length schedule + 4) % 256 ∷ [])
    → l2 ≡ sets l1 2 (take (record_at place - 2) (drop 2 schedule))
    → l3 ≡ sets l2 (record_at place) (crash_bytes b)
    → l4 ≡ sets l3 (record_at place + 6) (take (length schedule - record_at place) (drop (record_at place) schedule))
    → l4 ≡ sets l 0 (pulled_bytes schedule place b)
unfolding pulled_bytes
put_together l schedule place b h l1 l2 l3 l4 e1 e2 e3 e4 =
    let there = h.there in
    let at : ℕ = record_at place in
    let two : List ℕ = (length schedule + 4) / 256 ∷ (length schedule + 4) % 256 ∷ [] in
    let before : List ℕ = take (suc (6 * place)) (drop 2 schedule) in
    let behind : List ℕ = drop at schedule in
    let less : at - 2 ≡ suc (6 * place) = omega arith in
    let long : length before ≡ suc (6 * place) = length-take-le (suc (6 * place)) (drop 2 schedule) (let e = length-drop 2 schedule in omega arith) in
    let longer = length-append before (crash_bytes b) in
    let f2 : l2 ≡ sets l 0 (two ++ before) = e2 ∙ (λ i. sets (e1 i) 2 (take (less i) (drop 2 schedule))) ∙ laid_on l two before 2 refl in
    let f3 : l3 ≡ sets l 0 ((two ++ before) ++ crash_bytes b) =
    e3 ∙ ap (λ (m : List ℕ). sets m at (crash_bytes b)) f2 ∙ laid_on l (two ++ before) (crash_bytes b) at (omega arith) in
    e4 ∙ (λ i. sets (f3 i) (at + 6) (part-rest schedule at i)) ∙ laid_on l ((two ++ before) ++ crash_bytes b) behind (at + 6) (omega arith)
    ∙ ap (sets l 0) (append_assoc (two ++ before) (crash_bytes b) behind)

-- the front of a list of which so many bytes were stored
pub front-is : (l new : List ℕ) (n : ℕ) → n ≡ length new → length new ≤ length l → take n (sets l 0 new) ≡ new
front-is l new n e h = ap (take n) (sets-front l new h) ∙ take_at new (drop (length new) l) n (sym e)
