-- What records leave in the lent buffers, one behind the other.
use mathlib.Core.Path.{◌≡◌, refl, ap, sym, ◌∙◌}
use mathlib.Core.List.{List, [], ◌∷◌, ◌++◌, map, map-append, append-nil, append_assoc}
use Prim.Native.Nat.{ℕ, zero, suc, ◌+◌, ◌-◌, ◌*◌, ◌%◌, ◌≤◌, ◌<◌}
use native.Mathlib.Omega.{arith}
use lib.ListN.{length, set, drop, length-map, length-set}
use lib.Seq.{sets, length-sets, drop-drop}
use Rattle.facts.specs.Laying.{sets_more, sets-front}
use Rattle.rules.specs.Bytes.{word_bytes, all_bytes, written}
use Rattle.rules.specs.Moves as rules
use Rattle.rules.specs.Machine.{Origin}
use Rattle.rules.specs.Moves.{Numbers, numbered, numbers, origin_of}
use Rattle.rules.specs.Reasons.{cause_of, reason_of}
use Rattle.rules.specs.Run.{answer_bytes, origin_bytes}
use Rattle.rules.proofs.OneCause.{answer_small}
use Rattle.rules.proofs.Buffers.{length_bytes}
use Rattle.state.specs.declared.moved.Answer.{Answer}
use Rattle.stretch.specs.Written.{six_bytes, reason_byte}
use Rattle.stretch.specs.Plays.{Sheets, Roomy, RoomAt, AsLong, Writes, Wrote}
use Rattle.stretch.proofs.Answers.{Fits}

-- ---- bytes

bytes_more : {A : Type 0} (bytes : A → List ℕ) (l more : List A) → all_bytes bytes (l ++ more) ≡ all_bytes bytes l ++ all_bytes bytes more
bytes_more bytes [] more = refl
bytes_more bytes (x ∷ l) more = ap (λ (r : List ℕ). bytes x ++ r) (bytes_more bytes l more) ∙ sym (append_assoc (bytes x) (all_bytes bytes l) (all_bytes bytes more))

-- the bytes of all answers, and of all their origins
abbrev bytes_of : List rules.Answer → List ℕ
bytes_of answers = all_bytes answer_bytes (map numbers answers)

abbrev origins_of : List rules.Answer → List ℕ
origins_of answers = all_bytes origin_bytes (map origin_of answers)

bytes_length : (answers : List rules.Answer) → length (bytes_of answers) ≡ 6 * length answers
bytes_length answers = length_bytes answer_bytes 6 (map numbers answers) (λ _. refl) ∙ ap (λ (n : ℕ). 6 * n) (length-map answers numbers)

origins-length : (answers : List rules.Answer) → length (origins_of answers) ≡ 2 * length answers
origins-length answers = length_bytes origin_bytes 2 (map origin_of answers) (λ _. refl) ∙ ap (λ (n : ℕ). 2 * n) (length-map answers origin_of)

-- the bytes that the code writes are the answer's
same_bytes : (x : Answer) (n : Numbers) → n ≡ numbered x.code x.a x.word → n.code < 256 → n.a < 256 → six_bytes x ≡ answer_bytes n
same_bytes x n e hc ha =
    let c : n.code ≡ x.code = ap (λ (m : Numbers). m.code) e in
    let a : n.a ≡ x.a = ap (λ (m : Numbers). m.a) e in
    let w : n.word ≡ x.word = ap (λ (m : Numbers). m.word) e in
    let c' : x.code % 256 ≡ n.code = omega arith in
    let a' : x.a % 256 ≡ n.a = omega arith in
    λ i. c' i ∷ a' i ∷ word_bytes (sym w i)

-- and so is the byte of its code and its cause
same_reason : (x : rules.Answer) (code cause : ℕ) → (numbers x).code ≡ code → cause_of x ≡ cause → reason_byte code cause ≡ reason_of x
unfolding reason_of
same_reason x code cause e f =
    let a = (answer_small x).code_small in
    let b = (answer_small x).cause_small in
    omega arith

-- ---- the buffers

pub wrote_none : (sheets : Sheets) (i : ℕ) → Wrote sheets i [] sheets
wrote_none sheets i = record { answers_are = refl; reasons_are = refl; origins_are = refl }

-- one answer of the code is the rules' answer
pub wrote_one : {before after : Sheets} {i : ℕ} {r : Answer} {o : Origin} → Writes before i r o after → (x : rules.Answer)
    → numbers x ≡ numbered r.code r.a r.word → cause_of x ≡ r.cause → origin_of x ≡ o → Fits x → Wrote before i (x ∷ []) after
wrote_one {before} {i = i} {r = r} w x e f g size = record {
  answers_are =
      w.answers_are
      ∙ ap (sets before.answers (6 * i)) (same_bytes r (numbers x) e (let s = (answer_small x).code_small in omega arith) size.a_small ∙ sym (append-nil (answer_bytes (numbers x))));
  reasons_are = w.reasons_are ∙ ap (set before.reasons i) (same_reason x r.code r.cause (ap (λ (m : Numbers). m.code) e) f);
  origins_are = w.origins_are ∙ ap (λ (y : Origin). sets before.origins (2 * i) (origin_bytes y)) (sym g);
}

-- answers behind others are written as all of them together
pub wrote-more : {before middle after : Sheets} {i j : ℕ} {xs ys : List rules.Answer} → Wrote before i xs middle → Wrote middle j ys after → j ≡ i + length xs
    → Wrote before i (xs ++ ys) after
wrote-more {before} {i = i} {j = j} {xs = xs} {ys = ys} h k e =
    let m = bytes_length xs in
    let n = length-map xs reason_of in
    let o = origins-length xs in
    record {
      answers_are =
          k.answers_are
          ∙ ap (λ (l : List ℕ). sets l (6 * j) (bytes_of ys)) h.answers_are
          ∙ sets_more (bytes_of xs) (bytes_of ys) before.answers (6 * i) (6 * j) (omega arith)
          ∙ ap (sets before.answers (6 * i)) (sym (ap (all_bytes answer_bytes) (map-append numbers xs ys) ∙ bytes_more answer_bytes (map numbers xs) (map numbers ys)));
      reasons_are =
          k.reasons_are
          ∙ ap (λ (l : List ℕ). sets l j (map reason_of ys)) h.reasons_are
          ∙ sets_more (map reason_of xs) (map reason_of ys) before.reasons i j (omega arith)
          ∙ ap (sets before.reasons i) (sym (map-append reason_of xs ys));
      origins_are =
          k.origins_are
          ∙ ap (λ (l : List ℕ). sets l (2 * j) (origins_of ys)) h.origins_are
          ∙ sets_more (origins_of xs) (origins_of ys) before.origins (2 * i) (2 * j) (omega arith)
          ∙ ap (sets before.origins (2 * i)) (sym (ap (all_bytes origin_bytes) (map-append origin_of xs ys) ∙ bytes_more origin_bytes (map origin_of xs) (map origin_of ys)));
    }

-- the answers to all records from the first on stand at the buffers' front
at_front : (new buffer : List ℕ) → length new ≤ length buffer → sets buffer 0 new ≡ written new buffer
at_front new buffer h = sets-front buffer new h

module _ {before after : Sheets} {xs : List rules.Answer} (w : Wrote before 0 xs after) (room : Roomy (length xs) before) where
  pub answers-front : after.answers ≡ written (bytes_of xs) before.answers
  answers-front = w.answers_are ∙ at_front (bytes_of xs) before.answers (let a = bytes_length xs in let b = room.answers-room in omega arith)

  pub reasons-front : after.reasons ≡ written (map reason_of xs) before.reasons
  reasons-front = w.reasons_are ∙ at_front (map reason_of xs) before.reasons (let a = length-map xs reason_of in let b = room.reasons-room in omega arith)

  pub origins-front : after.origins ≡ written (origins_of xs) before.origins
  origins-front = w.origins_are ∙ at_front (origins_of xs) before.origins (let a = origins-length xs in let b = room.origins-room in omega arith)

-- answers over others, from the first record on, are written as if those had not been
drop_past : (a r : List ℕ) (m : ℕ) → length a ≤ m → drop m (a ++ r) ≡ drop (m - length a) r
drop_past [] r m h = let e : m ≡ m - 0 = omega arith in ap (λ (n : ℕ). drop n r) e
drop_past (x ∷ a) r zero h = absurd (omega arith)
drop_past (x ∷ a) r (suc m) h = let e : m - length a ≡ suc m - suc (length a) = omega arith in drop_past a r m (omega arith) ∙ ap (λ (n : ℕ). drop n r) e

written_over : (a b buffer : List ℕ) → length a ≤ length b → written b (written a buffer) ≡ written b buffer
written_over a b buffer h =
    let e : length a + (length b - length a) ≡ length b = omega arith in
    ap (λ (r : List ℕ). b ++ r)
    (drop_past a (drop (length a) buffer) (length b) h ∙ drop-drop (length b - length a) (length a) buffer ∙ ap (λ (n : ℕ). drop n buffer) e)

sets_over : (a b buffer : List ℕ) → length a ≤ length b → length b ≤ length buffer → sets (sets buffer 0 a) 0 b ≡ sets buffer 0 b
sets_over a b buffer h k =
    let same = length-sets buffer 0 a in
    at_front b (sets buffer 0 a) (omega arith)
    ∙ ap (written b) (at_front a buffer (omega arith))
    ∙ written_over a b buffer h
    ∙ sym (at_front b buffer k)

pub wrote_over : {before middle after : Sheets} {xs ys : List rules.Answer} → Wrote before 0 xs middle → Wrote middle 0 ys after
    → length xs ≤ length ys → Roomy (length ys) before → Wrote before 0 ys after
wrote_over {before} {xs = xs} {ys = ys} h k few room = record {
  answers_are =
      k.answers_are
      ∙ ap (λ (l : List ℕ). sets l 0 (bytes_of ys)) h.answers_are
      ∙ sets_over (bytes_of xs) (bytes_of ys) before.answers
      (let a = bytes_length xs in let b = bytes_length ys in omega arith) (let b = bytes_length ys in let c = room.answers-room in omega arith);
  reasons_are =
      k.reasons_are
      ∙ ap (λ (l : List ℕ). sets l 0 (map reason_of ys)) h.reasons_are
      ∙ sets_over (map reason_of xs) (map reason_of ys) before.reasons
      (let a = length-map xs reason_of in let b = length-map ys reason_of in omega arith)
      (let b = length-map ys reason_of in let c = room.reasons-room in omega arith);
  origins_are =
      k.origins_are
      ∙ ap (λ (l : List ℕ). sets l 0 (origins_of ys)) h.origins_are
      ∙ sets_over (origins_of xs) (origins_of ys) before.origins
      (let a = origins-length xs in let b = origins-length ys in omega arith) (let b = origins-length ys in let c = room.origins-room in omega arith);
}

-- ---- how long they are

pub as_long : (sheets : Sheets) → AsLong sheets sheets
as_long sheets = record { answers-long = refl; reasons-long = refl; origins-long = refl }

pub still_long : {first before after : Sheets} {i : ℕ} {r : Answer} {o : Origin} → AsLong first before → Writes before i r o after → AsLong first after
still_long {before = before} {i = i} {r = r} {o = o} h w = record {
  answers-long = ap length w.answers_are ∙ length-sets before.answers (6 * i) (six_bytes r) ∙ h.answers-long;
  reasons-long = ap length w.reasons_are ∙ length-set before.reasons i _ ∙ h.reasons-long;
  origins-long = ap length w.origins_are ∙ length-sets before.origins (2 * i) (origin_bytes o) ∙ h.origins-long;
}

-- where there was room for so many records there is room for one of them
pub has_room : {first sheets : Sheets} {records i : ℕ} → Roomy records first → AsLong first sheets → i < records → RoomAt i sheets
has_room room long below = record {
  answers-there = (let a = room.answers-room in let b = long.answers-long in omega arith);
  reasons-there = (let a = room.reasons-room in let b = long.reasons-long in omega arith);
  origins-there = (let a = room.origins-room in let b = long.origins-long in omega arith);
}
