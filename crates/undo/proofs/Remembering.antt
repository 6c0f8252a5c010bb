-- Bytes of a schedule copied to where others are held: the records that they are.
use mathlib.Core.Path.{◌≡◌, ap, sym, ◌∙◌}
use mathlib.Core.List.{List, ◌++◌}
use Prim.Native.Nat.{ℕ, ◌+◌, ◌-◌, ◌*◌, ◌≤◌, ◌<◌}
use native.Mathlib.Omega.{arith}
use lib.ListN.{length, get_or, take, drop, length-drop, length-append, get_or-append}
use lib.Seq.{get_or-take, get_or-drop, get_or-append-add, ext_get_or, length-take-le}
use Rattle.facts.specs.Tests.{by_lt}
use Rattle.rules.specs.Bytes.{byte_at, number32}
use Rattle.rules.specs.Moves.{Command}
use Rattle.rules.specs.Schedule.{command, commands_in, decode_schedule}
use Rattle.records.proofs.Sixes.{made_at, six_from}
use Rattle.stretch.specs.Plays.{between}
use Rattle.rules.proofs.Scheduled.{commands-counted}
use Rattle.stretch.proofs.Playing.{between-length}
use Rattle.undo.specs.History.{held_most, history_length, held_in, Fitting, Remembers}

-- ---- byte by byte

-- i bytes of a schedule from `source` on stand from `target` on, behind what stood there
pub record Copied (schedule : List ℕ) (source : ℕ) (before : List ℕ) (target i : ℕ) (after : List ℕ) : Type 0 where
  pub long : length after ≡ length before
  pub old : (j : ℕ) → j < target → get_or after j 0 ≡ get_or before j 0
  pub new : (j : ℕ) → j < i → get_or after (target + j) 0 ≡ get_or schedule (source + j) 0

-- as copying leaves them: what stood before, the part of the schedule, what stands behind it
module _ (schedule before part : List ℕ) (source target n k : ℕ) (is-part : part ≡ take n (drop source schedule)) (is-k : k ≡ n)
    (there : source + n ≤ length schedule) (room : target + n ≤ length before) where
  part-long : length part ≡ n
  part-long = ap length is-part ∙ length-take-le n (drop source schedule) (let a = length-drop source schedule in omega arith)

  front-long : length (take target before) ≡ target
  front-long = length-take-le target before (omega arith)

  pub copied : Copied schedule source before target n (take target before ++ (part ++ drop k (drop target before)))
  copied = record {
    long =
        (let a = front-long in
        let b = part-long in
        let c = length-append (take target before) (part ++ drop k (drop target before)) in
        let d = length-append part (drop k (drop target before)) in
        let e = length-drop k (drop target before) in
        let f = length-drop target before in
        omega arith);
    old = λ j h.
        get_or-append (take target before) (part ++ drop k (drop target before)) 0 j (let a = front-long in omega arith) ∙ get_or-take target before j 0 h;
    new = λ j h.
        ap (λ (m : ℕ). get_or (take target before ++ (part ++ drop k (drop target before))) (m + j) 0) (sym front-long)
        ∙ get_or-append-add (take target before) (part ++ drop k (drop target before)) j 0
        ∙ get_or-append part (drop k (drop target before)) 0 j (let a = part-long in omega arith)
        ∙ ap (λ (l : List ℕ). get_or l j 0) is-part
        ∙ get_or-take n (drop source schedule) j 0 h
        ∙ get_or-drop source schedule j 0;
  }

-- ---- record by record

-- the record at byte i of one list is that at byte j of another
same-made : (l m : List ℕ) (i j : ℕ) → ((b : ℕ) → b < 6 → get_or l (i + b) 0 ≡ get_or m (j + b) 0) → made_at command l i ≡ made_at command m j
same-made l m i j h =
    let zi : i + 0 ≡ i = omega arith in
    let zj : j + 0 ≡ j = omega arith in
    let first : byte_at l i ≡ byte_at m j = ap (λ (n : ℕ). get_or l n 0) (sym zi) ∙ h 0 (omega arith) ∙ ap (λ (n : ℕ). get_or m n 0) zj in
    λ x. command (first x) (h 1 (omega arith) x) (number32 (h 2 (omega arith) x) (h 3 (omega arith) x) (h 4 (omega arith) x) (h 5 (omega arith) x))

-- record k of a schedule
record_at_lem : (schedule : List ℕ) (k : ℕ) → k < commands_in schedule → get_or (decode_schedule schedule) k (command 0 0 0) ≡ made_at command schedule (3 + 6 * k)
unfolding decode_schedule
record_at_lem schedule k h = six_from command (commands_in schedule) schedule 3 k (command 0 0 0) h

pub whole_history : (l : List ℕ) → length l ≡ history_length → commands_in l ≡ held_most
whole_history l e = rw e

module _ {schedule : List ℕ} {from to n i : ℕ} {before after : List ℕ} (fit : Fitting schedule from to n)
    (c : Copied schedule (3 + 6 * from) before (3 + 6 * n) i after) (all : 6 * (to - from) ≤ i) where
  module _ (long : length before ≡ history_length) where
    many_before : commands_in before ≡ held_most
    many_before = whole_history before long

    many_after : commands_in after ≡ held_most
    many_after = whole_history after (c.long ∙ long)

    held-long : length (held_in before n) ≡ n
    held-long = let a = commands-counted before in let b = many_before in let f = fit.fits in length-take-le n (decode_schedule before) (omega arith)

    -- one that was held
    old_is : (k : ℕ) → k < n → get_or (decode_schedule after) k (command 0 0 0) ≡ get_or (decode_schedule before) k (command 0 0 0)
    old_is k h =
        let f = fit.fits in
        let a = many_before in
        let b = many_after in
        record_at_lem after k (omega arith)
        ∙ same-made after before (3 + 6 * k) (3 + 6 * k) (λ b e. c.old (3 + 6 * k + b) (omega arith))
        ∙ sym (record_at_lem before k (omega arith))

    -- one that is now
    new_is : (j : ℕ) → j < to - from → get_or (decode_schedule after) (n + j) (command 0 0 0) ≡ get_or (decode_schedule schedule) (from + j) (command 0 0 0)
    new_is j h =
        let f = fit.fits in
        let t = fit.there in
        let a = many_after in
        record_at_lem after (n + j) (omega arith)
        ∙ same-made after schedule (3 + 6 * (n + j)) (3 + 6 * (from + j))
        (λ b e.
        let at : 3 + 6 * (n + j) + b ≡ 3 + 6 * n + (6 * j + b) = omega arith in
        let of : 3 + 6 * from + (6 * j + b) ≡ 3 + 6 * (from + j) + b = omega arith in
        ap (λ (m : ℕ). get_or after m 0) at ∙ c.new (6 * j + b) (omega arith) ∙ ap (λ (m : ℕ). get_or schedule m 0) of)
        ∙ sym (record_at_lem schedule (from + j) (omega arith))

    held_now : held_in after (n + (to - from)) ≡ held_in before n ++ between schedule from to
    held_now =
        let f = fit.fits in
        let a = commands-counted after in
        let b = many_after in
        let d : Command = command 0 0 0 in
        let old-long = held-long in
        let new-long = between-length schedule from to fit.there in
        let now-long : length (held_in after (n + (to - from))) ≡ n + (to - from) = length-take-le (n + (to - from)) (decode_schedule after) (omega arith) in
        ext_get_or d (held_in after (n + (to - from))) (held_in before n ++ between schedule from to)
        (let e = length-append (held_in before n) (between schedule from to) in omega arith)
        (λ k h.
        get_or-take (n + (to - from)) (decode_schedule after) k d (omega arith)
        ∙ by_lt k n
        (λ low. old_is k low ∙ sym (get_or-take n (decode_schedule before) k d low) ∙ sym (get_or-append (held_in before n) (between schedule from to) d k (omega arith)))
        (λ high.
        let j : ℕ = k - n in
        let is-k : n + j ≡ k = omega arith in
        let is-k' : length (held_in before n) + j ≡ k = omega arith in
        ap (λ (m : ℕ). get_or (decode_schedule after) m d) (sym is-k)
        ∙ new_is j (omega arith)
        ∙ sym (get_or-drop from (decode_schedule schedule) j d)
        ∙ sym (get_or-take (to - from) (drop from (decode_schedule schedule)) j d (omega arith))
        ∙ sym (get_or-append-add (held_in before n) (between schedule from to) j d)
        ∙ ap (λ (m : ℕ). get_or (held_in before n ++ between schedule from to) m d) is-k'))

  pub remembered : Remembers schedule from to before n after
  remembered = record { same_length = c.long; held-is = held_now }
