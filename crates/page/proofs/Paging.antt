-- The whole page: its parts, that it is at least so long, and a buffer that takes it or has no room.
use mathlib.Core.Path.{◌≡◌, refl, ap, sym, ◌∙◌, subst}
use mathlib.Core.Bool.{Bool, true, false, cond}
use mathlib.Core.List.{List, [], ◌∷◌, ◌++◌}
use Prim.Native.Nat.{ℕ, zero, suc, ◌+◌, ◌*◌, ◌/◌, ◌%◌, ◌^◌, ◌≤◌, ◌<◌}
use native.Mathlib.Omega.{arith}
use lib.Dec.{ltb}
use lib.ListN.{length, drop, length-append}
use lib.Seq.{sets, sets-eq}
use borrow.Author.Tests.{ne_eqb}
use Rattle.facts.specs.Tests.{by_lt}
use Rattle.rules.specs.Bytes.{byte_at, written}
use Rattle.rules.specs.Moves.{Numbers, numbered}
use Rattle.rules.specs.Run.{Buffers, ran_of}
use Rattle.rules.specs.Transparency.{read_answers}
use Rattle.rules.specs.Page.{digits, decimal, line, records_text, quiet_text, refused_text, refused_line, answer_line, answer_lines, register_at, process_text, process_line, process_lines, quiet_line, accepted_page, page_of}
use Rattle.page.specs.Put.{most, Put}
use Rattle.page.specs.Written.{Written}
use Rattle.page.proofs.Putting.{put_then, line_then, line-more}
use Rattle.page.proofs.Lining.{last_word}

-- ---- put together

pub refused_put : (number n : ℕ) (out o1 o2 : List ℕ) (r1 r2 : ℕ) → n ≡ number → Put (refused_text ++ (32 ∷ [])) out 0 r1 o1 → Put (decimal n ++ (10 ∷ [])) o1 r1 r2 o2
    → Put (refused_line number) out 0 r2 o2
refused_put number n out o1 o2 r1 r2 e p q = line_then refused_text (decimal number) [] out o1 o2 0 r1 r2 p (last_word n number o1 o2 r1 r2 e q)

pub accepted_put : (records processes m n : ℕ) (quiet : Bool) (buffers : Buffers) (out o1 o2 o3 o4 o5 o6 : List ℕ) (r1 r2 r3 r4 r5 r6 : ℕ) → m ≡ records → n ≡ cond quiet 1 0
    → Put (records_text ++ (32 ∷ [])) out 0 r1 o1 → Put (decimal m ++ (10 ∷ [])) o1 r1 r2 o2 → Put (answer_lines 1 (read_answers records buffers.answers)) o2 r2 r3 o3
    → Put (process_lines 0 processes buffers.report) o3 r3 r4 o4 → Put (quiet_text ++ (32 ∷ [])) o4 r4 r5 o5 → Put (decimal n ++ (10 ∷ [])) o5 r5 r6 o6
    → Put (accepted_page processes (ran_of 0 records quiet buffers)) out 0 r6 o6
unfolding accepted_page
accepted_put records processes m n quiet buffers out o1 o2 o3 o4 o5 o6 r1 r2 r3 r4 r5 r6 e f p1 p2 p3 p4 p5 p6 =
    let first = line_then records_text (decimal records) [] out o1 o2 0 r1 r2 p1 (last_word m records o1 o2 r1 r2 e p2) in
    let last = line_then quiet_text (decimal (cond quiet 1 0)) [] o4 o5 o6 r4 r5 r6 p5 (last_word n (cond quiet 1 0) o5 o6 r5 r6 f p6) in
    put_then _ _ out o2 o6 0 r2 r6 first (put_then _ _ o2 o3 o6 r2 r3 r6 p3 (put_then _ _ o3 o4 o6 r3 r4 r6 p4 last))

-- ---- how long at least

digits-some : (further n : ℕ) → 1 ≤ length (digits further n)
digits-some zero n = omega arith
digits-some (suc further) n = go (ltb n 10)
  where
    go : (b : Bool) → 1 ≤ length (cond b ((48 + n) ∷ []) (digits further (n / 10) ++ ((48 + n % 10) ∷ [])))
    go true = omega arith
    go false = let l = length-append (digits further (n / 10)) ((48 + n % 10) ∷ []) in omega arith

decimal-some : (n : ℕ) → 1 ≤ length (decimal n)
unfolding decimal
decimal-some n = digits-some 19 n

-- a word and the line feed, and a word and the space before a line
line_one : (word : List ℕ) → 1 ≤ length word → 2 ≤ length (line (word ∷ []))
line_one word h = let l = length-append word (10 ∷ []) in omega arith

line-next : (word next : List ℕ) (words : List (List ℕ)) → length (line (word ∷ next ∷ words)) ≡ suc (length word) + length (line (next ∷ words))
line-next word next words =
    let e = ap (λ (x : List ℕ). length x) (line-more word next words) in
    let f = length-append (word ++ (32 ∷ [])) (line (next ∷ words)) in
    let g = length-append word (32 ∷ []) in
    omega arith

line-long : (word next : List ℕ) (words : List (List ℕ)) (k : ℕ) → 1 ≤ length word → k ≤ length (line (next ∷ words)) → 2 + k ≤ length (line (word ∷ next ∷ words))
line-long word next words k h l = let e = line-next word next words in omega arith

four-long : (n1 n2 n3 n4 : ℕ) → 8 ≤ length (line (decimal n1 ∷ decimal n2 ∷ decimal n3 ∷ decimal n4 ∷ []))
four-long n1 n2 n3 n4 =
    line-long (decimal n1) (decimal n2) (decimal n3 ∷ decimal n4 ∷ []) 6 (decimal-some n1)
    (line-long (decimal n2) (decimal n3) (decimal n4 ∷ []) 4 (decimal-some n2)
    (line-long (decimal n3) (decimal n4) [] 2 (decimal-some n3)
    (line_one (decimal n4) (decimal-some n4))))

state_long : (n1 n2 n3 n4 n5 n6 n7 n8 : ℕ)
    → 16 ≤ length (line (decimal n1 ∷ decimal n2 ∷ decimal n3 ∷ decimal n4 ∷ decimal n5 ∷ decimal n6 ∷ decimal n7 ∷ decimal n8 ∷ []))
state_long n1 n2 n3 n4 n5 n6 n7 n8 =
    let words : List (List ℕ) = decimal n6 ∷ decimal n7 ∷ decimal n8 ∷ [] in
    line-long (decimal n1) (decimal n2) (decimal n3 ∷ decimal n4 ∷ decimal n5 ∷ words) 14 (decimal-some n1)
    (line-long (decimal n2) (decimal n3) (decimal n4 ∷ decimal n5 ∷ words) 12 (decimal-some n2)
    (line-long (decimal n3) (decimal n4) (decimal n5 ∷ words) 10 (decimal-some n3)
    (line-long (decimal n4) (decimal n5) words 8 (decimal-some n4)
    (four-long n5 n6 n7 n8))))

process-long : (p n1 n2 n3 n4 n5 n6 n7 n8 : ℕ)
    → 20 ≤ length (line (process_text ∷ decimal p ∷ decimal n1 ∷ decimal n2 ∷ decimal n3 ∷ decimal n4 ∷ decimal n5 ∷ decimal n6 ∷ decimal n7 ∷ decimal n8 ∷ []))
process-long p n1 n2 n3 n4 n5 n6 n7 n8 =
    let words : List (List ℕ) = decimal n2 ∷ decimal n3 ∷ decimal n4 ∷ decimal n5 ∷ decimal n6 ∷ decimal n7 ∷ decimal n8 ∷ [] in
    let e = line-next process_text (decimal p) (decimal n1 ∷ words) in
    let f = line-long (decimal p) (decimal n1) words 16 (decimal-some p) (state_long n1 n2 n3 n4 n5 n6 n7 n8) in
    let g : length process_text ≡ 7 = refl in
    omega arith

answers-long : (i n : ℕ) (bytes : List ℕ) → 8 * n ≤ length (answer_lines i (read_answers n bytes))
answers-long i zero bytes = omega arith
answers-long i (suc n) bytes =
    let x : Numbers = numbered (byte_at bytes 0) (byte_at bytes 1) (register_at bytes 2) in
    let e = length-append (answer_line i x) (answer_lines (suc i) (read_answers n (drop 6 bytes))) in
    let f = four-long i x.code x.a x.word in
    let g = answers-long (suc i) n (drop 6 bytes) in
    omega arith

processes-long : (p n : ℕ) (report : List ℕ) → 20 * n ≤ length (process_lines p n report)
processes-long p zero report = omega arith
processes-long p (suc n) report =
    let at : ℕ = 20 * p in
    let e = length-append (process_line p report (20 * p)) (process_lines (suc p) n report) in
    let f = process-long p (byte_at report at) (byte_at report (at + 1)) (byte_at report (at + 2)) (byte_at report (at + 3))
    (register_at report (at + 4)) (register_at report (at + 8)) (register_at report (at + 12)) (register_at report (at + 16)) in
    let g = processes-long (suc p) n report in
    omega arith

pub refused-some : (number : ℕ) → 0 < length (refused_line number)
refused-some number = let e = line-next refused_text (decimal number) [] in omega arith

module _ (records processes : ℕ) (quiet : Bool) (buffers : Buffers) where
  abbrev first : List ℕ
  first = line (records_text ∷ decimal records ∷ [])

  abbrev middle : List ℕ
  middle = answer_lines 1 (read_answers records buffers.answers)

  abbrev end : List ℕ
  end = process_lines 0 processes buffers.report

  accepted-length : length (accepted_page processes (ran_of 0 records quiet buffers)) ≡ length first + (length middle + (length end + length (quiet_line quiet)))
  unfolding accepted_page
  accepted-length =
      let a = length-append first (middle ++ (end ++ quiet_line quiet)) in
      let b = length-append middle (end ++ quiet_line quiet) in
      let c = length-append end (quiet_line quiet) in
      omega arith

  pub accepted-some : 0 < length (accepted_page processes (ran_of 0 records quiet buffers))
  accepted-some = let e = accepted-length in let f = line-next records_text (decimal records) [] in omega arith

  pub accepted-answers : 8 * records ≤ length (accepted_page processes (ran_of 0 records quiet buffers))
  accepted-answers = let e = accepted-length in let f = answers-long 1 records buffers.answers in omega arith

  pub accepted-processes : 20 * processes ≤ length (accepted_page processes (ran_of 0 records quiet buffers))
  accepted-processes = let e = accepted-length in let f = processes-long 0 processes buffers.report in omega arith

-- ---- room or no room

pub too_long : (page out : List ℕ) → 0 < length page → length out < length page → Written page out 0 out
too_long page out some h = record {
  long = λ k. absurd (omega arith);
  fits = λ k. absurd (omega arith);
  no_room = λ k. refl;
  untouched = λ k. refl;
  never_empty = some;
}

-- the length that was counted is too much, or the page was put
pub no_room : (page out scratch scratch' : List ℕ) (needed : ℕ) → 0 < length page → length out < 2 ^ 64 → Put page scratch 0 needed scratch' → length out < needed → Written page out 0 out
no_room page out scratch scratch' needed some small p h =
    by_lt (length page) most (λ k. let e = p.behind (omega arith) in too_long page out some (omega arith)) (λ k. let e = p.beyond (omega arith) in too_long page out some (omega arith))

put_front : (page out : List ℕ) → length page ≤ length out → sets out 0 page ≡ written page out
put_front page out h =
    let e : 0 + length page ≡ length page = omega arith in
    sets-eq page out 0 (omega arith) ∙ ap (λ (k : ℕ). page ++ drop k out) e

pub with_room : (page out out' scratch scratch' : List ℕ) (needed r : ℕ) → 0 < length page → length out < most → Put page scratch 0 needed scratch' → needed ≤ length out
    → Put page out 0 r out' → Written page out r out'
with_room page out out' scratch scratch' needed r some small p h q =
    let fit : length page ≤ length out =
    by_lt (length page) most (λ k. let e = p.behind (omega arith) in omega arith) (λ k. let e = p.beyond (omega arith) in absurd (omega arith)) in
    record {
      long = λ k. let e = q.behind (omega arith) in omega arith;
      fits = λ k. q.stored (omega arith) (omega arith) ∙ put_front page out fit;
      no_room = λ k. absurd (omega arith);
      untouched = λ k. absurd (omega arith);
      never_empty = some;
    }

-- ---- which page it is

pub page_refused : (number records processes r : ℕ) (quiet : Bool) (buffers : Buffers) (out out' : List ℕ) → (number ≡ 0 → ⊥) → Written (refused_line number) out r out'
    → Written (page_of processes (ran_of number records quiet buffers)) out r out'
unfolding page_of
page_refused number records processes r quiet buffers out out' h w =
    subst (λ (b : Bool). Written (cond b (accepted_page processes (ran_of number records quiet buffers)) (refused_line number)) out r out') (sym (ne_eqb number 0 h)) w

pub page_accepted : (number records processes r : ℕ) (quiet : Bool) (buffers : Buffers) (out out' : List ℕ) → number ≡ 0
    → Written (accepted_page processes (ran_of 0 records quiet buffers)) out r out'
    → Written (page_of processes (ran_of number records quiet buffers)) out r out'
unfolding page_of
page_accepted number records processes r quiet buffers out out' e w =
    subst (λ (k : ℕ). Written (page_of processes (ran_of k records quiet buffers)) out r out') (sym e) w
