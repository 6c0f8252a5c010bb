-- W-208 in one statement: the records before any place of a schedule are a schedule's, and a store that holds the cabinet after them has its totals.
use mathlib.Core.Path.{◌≡◌, refl, ap, ◌∙◌}
use mathlib.Core.List.{List, [], ◌∷◌}
use Prim.Native.Nat.{ℕ, zero, suc, ◌+◌, ◌*◌, ◌≤◌}
use native.Mathlib.Omega.{arith}
use lib.ListN.{length, take, drop}
use lib.Seq.{length-take-le}
use Rattle.rules.specs.Bytes.{sixes}
use Rattle.rules.specs.Cabinet.{occupancy}
use Rattle.rules.specs.Format.{decode_table}
use Rattle.rules.specs.Moves.{Command}
use Rattle.rules.specs.Schedule.{commands_in, command, decode_schedule}
use Rattle.rules.specs.Transparent.{ended}
use Rattle.rules.proofs.Valid.{decoded_accepted}
use Rattle.outcome.specs.Starts.{Placed}
use Rattle.cabinet.specs.Totals.{up_to, TotalsAfresh}

-- ---- the records before a place

front-sixes : (n m : ℕ) (body : List ℕ) → n ≤ m → 6 * m ≤ length body → sixes command n (take (6 * n) body) ≡ take n (sixes command m body)
front-sixes zero m body h l = refl
front-sixes (suc n) zero body h l = absurd (omega arith)
front-sixes (suc n) (suc m) [] h l = absurd (omega arith)
front-sixes (suc n) (suc m) (x0 ∷ []) h l = absurd (omega arith)
front-sixes (suc n) (suc m) (x0 ∷ x1 ∷ []) h l = absurd (omega arith)
front-sixes (suc n) (suc m) (x0 ∷ x1 ∷ x2 ∷ []) h l = absurd (omega arith)
front-sixes (suc n) (suc m) (x0 ∷ x1 ∷ x2 ∷ x3 ∷ []) h l = absurd (omega arith)
front-sixes (suc n) (suc m) (x0 ∷ x1 ∷ x2 ∷ x3 ∷ x4 ∷ []) h l = absurd (omega arith)
front-sixes (suc n) (suc m) (x0 ∷ x1 ∷ x2 ∷ x3 ∷ x4 ∷ x5 ∷ body) h l =
    let six : 6 * suc n ≡ suc (suc (suc (suc (suc (suc (6 * n)))))) = omega arith in
    rw (six, front-sixes n m body (omega arith) (omega arith))

front-commands : (schedule : List ℕ) (n m : ℕ) → n ≤ m → 3 + 6 * m ≤ length schedule
    → sixes command n (drop 3 (up_to n schedule)) ≡ take n (sixes command m (drop 3 schedule))
front-commands [] n m h l = absurd (omega arith)
front-commands (x0 ∷ []) n m h l = absurd (omega arith)
front-commands (x0 ∷ x1 ∷ []) n m h l = absurd (omega arith)
front-commands (x0 ∷ x1 ∷ v ∷ body) n m h l =
    let three : 3 + 6 * n ≡ suc (suc (suc (6 * n))) = omega arith in
    rw three (front-sixes n m body h (omega arith))

-- the bytes up to n records are those of n records, the first ones
pub front_decoded : (schedule : List ℕ) (n : ℕ) → n ≤ commands_in schedule → decode_schedule (up_to n schedule) ≡ take n (decode_schedule schedule)
unfolding decode_schedule
front_decoded [] zero h = refl
front_decoded (x0 ∷ []) zero h = refl
front_decoded (x0 ∷ x1 ∷ []) zero h = refl
front_decoded (x0 ∷ x1 ∷ v ∷ body) zero h = refl
front_decoded schedule (suc n) h =
    let long : length (up_to (suc n) schedule) ≡ 3 + 6 * suc n = length-take-le (3 + 6 * suc n) schedule (omega arith) in
    let many : commands_in (up_to (suc n) schedule) ≡ suc n = omega arith in
    rw many (front-commands schedule (suc n) (commands_in schedule) h (omega arith))

-- ---- their totals

pub totals-afresh : (table schedule : List ℕ) → TotalsAfresh table schedule
totals-afresh table schedule = record {
  after = λ valid n few plans plays k inside.
      let t = decode_table table in
      let planned = plans.planned in
      let placed : Placed t _ _ = record { processes-is = planned.processes-is; placement_at_lem = λ p h. (plans.primary_at p h, plans.standby_at p h) } in
      let shown = plays.shown t (decoded_accepted table valid) planned placed in
      shown.holds.totalled.total-is k inside ∙ ap (λ (l : List Command). occupancy t (ended t l) k) (front_decoded schedule n few);
}
