-- No page is longer than the buffer that the program lends for it: a number has as many digits as its bytes allow.
use mathlib.Core.Path.{◌≡◌, refl, ap}
use mathlib.Core.Bool.{Bool, true, false, cond}
use mathlib.Core.List.{List, [], ◌∷◌, ◌++◌}
use Prim.Native.Nat.{ℕ, zero, suc, ◌+◌, ◌*◌, ◌/◌, ◌%◌, ◌^◌, ◌≤◌, ◌<◌}
use native.Mathlib.Omega.{arith}
use native.Mathlib.Nat.{mul-suc, pow-suc}
use lib.Dec.{eqb, ltb}
use lib.ListN.{length, drop, length-append}
use lib.Seq.{get_or-drop}
use borrow.Author.Tests.{eqb-true, ltb-false}
use Rattle.numbers.specs.Runs.{number_of}
use Rattle.numbers.specs.declared.runs.Refusal.{Refusal}
use Rattle.numbers.specs.declared.runs.Refusal.TheVariants.{TableLength, TableVersion, TableCounts, TableExtent, ChannelEnds, ChannelsRead, Boards, Instruction, ScheduleLength, ScheduleVersion, AnswersShort, ReportShort, NoRoom, FirstSerial, Limit, OriginsShort, Unswept, ViewShort}
use Rattle.facts.specs.Counts.{total}
use Rattle.rules.specs.Bytes.{byte_at}
use Rattle.rules.specs.Format.{processes_in}
use Rattle.rules.specs.Schedule.{commands_most}
use Rattle.rules.specs.Moves.{Numbers, numbered}
use Rattle.rules.specs.Run.{Buffers, Ran, run, accepted}
use Rattle.rules.specs.Transparency.{read_answers}
use Rattle.rules.specs.Page.{digits, decimal, records_text, process_text, quiet_text, refused_text, spaced, line, answer_line, answer_lines, register_at, process_line, process_lines, quiet_line, refused_line, accepted_page, page_of}
use Rattle.rules.proofs.Valid.{processes-counted, decoded_accepted}
use Rattle.rules.proofs.AcceptedRun.{table-valid}
use Rattle.bench_input.specs.Benched.{page_room}

-- ---- numbers

digits_long : (k d n : ℕ) → n < 10 ^ suc d → length (digits k n) ≤ suc d
digits_long zero d n h = omega arith
digits_long (suc k) zero n h = go (ltb n 10) refl
  where
    go : (b : Bool) → ltb n 10 ≡ b → length (cond b ((48 + n) ∷ []) (digits k (n / 10) ++ ((48 + n % 10) ∷ []))) ≤ 1
    go true e = omega arith
    go false e = let l = ltb-false n 10 e in let p = pow-suc 10 0 in absurd (omega arith)
digits_long (suc k) (suc d) n h =
    let p = pow-suc 10 (suc d) in
    go (ltb n 10) (digits_long k d (n / 10) (omega arith))
  where
    go : (b : Bool) → length (digits k (n / 10)) ≤ suc d → length (cond b ((48 + n) ∷ []) (digits k (n / 10) ++ ((48 + n % 10) ∷ []))) ≤ suc (suc d)
    go true a = omega arith
    go false a = let e = length-append (digits k (n / 10)) ((48 + n % 10) ∷ []) in omega arith

decimal-long : (d n : ℕ) → n < 10 ^ suc d → length (decimal n) ≤ suc d
unfolding decimal
decimal-long d n h = digits_long 19 d n h

byte_long : (n : ℕ) → n < 256 → length (decimal n) ≤ 3
byte_long n h = decimal-long 2 n (omega arith)

-- all numbers of a list are bytes
pub record Small (l : List ℕ) : Type 0 where
  pub at : (i : ℕ) → byte_at l i < 256

word-long : (l : List ℕ) (i : ℕ) → Small l → length (decimal (register_at l i)) ≤ 10
word-long l i s =
    let a = s.at i in
    let b = s.at (i + 1) in
    let c = s.at (i + 2) in
    let d = s.at (i + 3) in
    decimal-long 9 (register_at l i) (omega arith)

-- ---- lines

-- a line is its words, each with a byte behind it
line-long : (word : List ℕ) (words : List (List ℕ)) → length (line (word ∷ words)) ≡ total (λ (w : List ℕ). suc (length w)) (word ∷ words)
line-long word [] = let e = length-append word (10 ∷ []) in omega arith
line-long word (next ∷ words) =
    let h = line-long next words in
    let e = length-append (word ++ (32 ∷ spaced (next ∷ words))) (10 ∷ []) in
    let f = length-append word (32 ∷ spaced (next ∷ words)) in
    let g = length-append (spaced (next ∷ words)) (10 ∷ []) in
    omega arith

-- a text and a number
two_long : (word : List ℕ) (d n : ℕ) → n < 10 ^ suc d → length (line (word ∷ decimal n ∷ [])) ≤ length word + 3 + d
two_long word d n k =
    let e : length (line (word ∷ decimal n ∷ [])) ≡ suc (length word) + (suc (length (decimal n)) + 0) = line-long word (decimal n ∷ []) in
    let a = decimal-long d n k in
    omega arith

answer-long : (i : ℕ) (n : Numbers) → i < 100000 → n.code < 256 → n.a < 256 → length (decimal n.word) ≤ 10 → length (answer_line i n) ≤ 25
answer-long i n hi hc ha hw =
    let e : length (answer_line i n) ≡ suc (length (decimal i)) + (suc (length (decimal n.code)) + (suc (length (decimal n.a)) + (suc (length (decimal n.word)) + 0))) =
    line-long (decimal i) (decimal n.code ∷ decimal n.a ∷ decimal n.word ∷ []) in
    let a = decimal-long 4 i (omega arith) in
    let b = byte_long n.code hc in
    let c = byte_long n.a ha in
    omega arith

small_drop : (n : ℕ) (l : List ℕ) → Small l → Small (drop n l)
small_drop n l s = record { at = λ i. let e = get_or-drop n l i 0 in let a = s.at (n + i) in omega arith }

answers-long : (i n : ℕ) (buffer : List ℕ) → Small buffer → i + n < 100000 → length (answer_lines i (read_answers n buffer)) ≤ 25 * n
answers-long i zero buffer s h = omega arith
answers-long i (suc n) buffer s h =
    let x = numbered (byte_at buffer 0) (byte_at buffer 1) (register_at buffer 2) in
    let rest = answer_lines (suc i) (read_answers n (drop 6 buffer)) in
    let e = length-append (answer_line i x) rest in
    let a = answer-long i x (omega arith) (s.at 0) (s.at 1) (word-long buffer 2 s) in
    let b = answers-long (suc i) n (drop 6 buffer) (small_drop 6 buffer s) (omega arith) in
    let m = mul-suc 25 n in
    omega arith

process-long : (p : ℕ) (report : List ℕ) (at : ℕ) → Small report → p < 100 → length (process_line p report at) ≤ 71
process-long p report at s h =
    let r : ℕ → List ℕ = λ i. decimal (register_at report (at + i)) in
    let x : ℕ → List ℕ = λ i. decimal (byte_at report i) in
    let e : length (process_line p report at) ≡ 8 + (suc (length (decimal p)) + (suc (length (x at)) + (suc (length (x (at + 1))) + (suc (length (x (at + 2))) + (suc (length (x (at + 3)))
    + (suc (length (r 4)) + (suc (length (r 8)) + (suc (length (r 12)) + (suc (length (r 16)) + 0))))))))) =
    line-long process_text (decimal p ∷ x at ∷ x (at + 1) ∷ x (at + 2) ∷ x (at + 3) ∷ r 4 ∷ r 8 ∷ r 12 ∷ r 16 ∷ []) in
    let a = decimal-long 1 p (omega arith) in
    let b = byte_long (byte_at report at) (s.at at) in
    let c = byte_long (byte_at report (at + 1)) (s.at (at + 1)) in
    let d = byte_long (byte_at report (at + 2)) (s.at (at + 2)) in
    let f = byte_long (byte_at report (at + 3)) (s.at (at + 3)) in
    let g = word-long report (at + 4) s in
    let i = word-long report (at + 8) s in
    let j = word-long report (at + 12) s in
    let k = word-long report (at + 16) s in
    omega arith

processes-long : (p n : ℕ) (report : List ℕ) → Small report → p + n ≤ 100 → length (process_lines p n report) ≤ 71 * n
processes-long p zero report s h = omega arith
processes-long p (suc n) report s h =
    let e = length-append (process_line p report (20 * p)) (process_lines (suc p) n report) in
    let a = process-long p report (20 * p) s (omega arith) in
    let b = processes-long (suc p) n report s (omega arith) in
    let m = mul-suc 71 n in
    omega arith

-- ---- the page

quiet_small : (b : Bool) → cond b 1 0 < 10 ^ 1
quiet_small true = omega arith
quiet_small false = omega arith

four-long : (a b c d : List ℕ) (w x y z most : ℕ) → length a ≤ w → length b ≤ x → length c ≤ y → length d ≤ z → w + x + y + z ≤ most → length (a ++ (b ++ (c ++ d))) ≤ most
four-long a b c d w x y z most ha hb hc hd h =
    let e1 = length-append a (b ++ (c ++ d)) in
    let e2 = length-append b (c ++ d) in
    let e3 = length-append c d in
    omega arith

accepted-long : (processes : ℕ) (r : Ran) → Small r.buffers.answers → Small r.buffers.report → processes ≤ 16 → r.records ≤ commands_most → length (accepted_page processes r) ≤ page_room
unfolding accepted_page
accepted-long processes r sa sr hp hr =
    four-long (line (records_text ∷ decimal r.records ∷ [])) (answer_lines 1 (read_answers r.records r.buffers.answers)) (process_lines 0 processes r.buffers.report) (quiet_line r.quiet)
    14 (25 * r.records) (71 * processes) 8 page_room
    (two_long records_text 4 r.records (omega arith))
    (answers-long 1 r.records r.buffers.answers sa (omega arith))
    (processes-long 0 processes r.buffers.report sr (omega arith))
    (two_long quiet_text 0 (cond r.quiet 1 0) (quiet_small r.quiet))
    (omega arith)

-- a refusal's number fits a byte
pub number_small : (n : Refusal) → number_of n < 256
number_small TableLength = omega arith
number_small TableVersion = omega arith
number_small TableCounts = omega arith
number_small TableExtent = omega arith
number_small ChannelEnds = omega arith
number_small ChannelsRead = omega arith
number_small Boards = omega arith
number_small Instruction = omega arith
number_small ScheduleLength = omega arith
number_small ScheduleVersion = omega arith
number_small AnswersShort = omega arith
number_small ReportShort = omega arith
number_small NoRoom = omega arith
number_small FirstSerial = omega arith
number_small Limit = omega arith
number_small OriginsShort = omega arith
number_small Unswept = omega arith
number_small ViewShort = omega arith

refused-long : (n : ℕ) → n < 256 → length (refused_line n) ≤ page_room
refused-long n h = let a = two_long refused_text 2 n (omega arith) in omega arith

pub page_long : (processes : ℕ) (r : Ran) → Small r.buffers.answers → Small r.buffers.report → r.number < 256 → (r.number ≡ 0 → processes ≤ 16) → r.records ≤ commands_most
    → length (page_of processes r) ≤ page_room
unfolding page_of
page_long processes r sa sr hn hp hr = go (eqb r.number 0) refl
  where
    go : (b : Bool) → eqb r.number 0 ≡ b → length (cond b (accepted_page processes r) (refused_line r.number)) ≤ page_room
    go true e = accepted-long processes r sa sr (hp (eqb-true r.number 0 e)) hr
    go false e = refused-long r.number hn

pub few-processes : (table schedule : List ℕ) (buffers : Buffers) → (run table schedule buffers).number ≡ 0 → processes_in table ≤ 16
unfolding accepted
few-processes table schedule buffers h =
    let t = table-valid table schedule buffers (ap (λ (n : ℕ). eqb n 0) h) in
    let a = (decoded_accepted table t).processes_high in
    let e = processes-counted table in
    omega arith
