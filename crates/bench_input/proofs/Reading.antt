-- What the program leaves unread has no effect on its page, and the page that it writes is that of all its input.
use mathlib.Core.Path.{◌≡◌, refl, ap, sym, ◌∙◌}
use mathlib.Core.Bool.{Bool, true, false, cond, ◌&&◌}
use mathlib.Core.List.{List, [], ◌∷◌, ◌++◌}
use Prim.Native.Nat.{ℕ, zero, suc, ◌+◌, ◌*◌, ◌≤◌, ◌<◌}
use native.Mathlib.Omega.{arith}
use lib.Dec.{eqb, ltb, leb}
use lib.ListN.{length, get_or, take, drop, length-append, length-drop}
use lib.Seq.{take-append-le, drop-append-le, get_or-take}
use borrow.Author.Tests.{ltb-true, lt-ltb, le-ltb, lt-leb, eqb-true}
use Rattle.facts.specs.Tests.{by_lt}
use Rattle.rules.specs.Format.{table_most, length_field, processes_in, or_number, length_ok, validate_table}
use Rattle.rules.specs.Schedule.{commands_most, commands_in, schedule_ok, validate_schedule}
use Rattle.rules.specs.Run.{Buffers, validate_run, refused_with, run}
use Rattle.rules.specs.Page.{page_of, table_in, schedule_in, bench_buffers, refused_line, bench_page}
use Rattle.bench_input.specs.Wanted.{schedule_read, wanted_of, input_room, Wanted}
use Rattle.bench_input.specs.Parts.{parts_page}

-- ---- the length field

get_or_append_left : (l r : List ℕ) (i : ℕ) → i < length l → get_or (l ++ r) i 0 ≡ get_or l i 0
get_or_append_left [] r i h = absurd (omega arith)
get_or_append_left (x ∷ l) r zero h = refl
get_or_append_left (x ∷ l) r (suc i) h = get_or_append_left l r i (omega arith)

-- two bytes tell it
field_append : (have more : List ℕ) → 2 ≤ length have → length_field (have ++ more) ≡ length_field have
field_append have more h =
    let a = get_or_append_left have more 0 (omega arith) in
    let b = get_or_append_left have more 1 (omega arith) in
    rw (a, b)

-- the table that is cut out has it too
field_cut : (input : List ℕ) → length_field (table_in input) ≡ length_field input
field_cut input =
    let n = 2 + length_field input in
    let a = get_or-take n input 0 0 (omega arith) in
    let b = get_or-take n input 1 0 (omega arith) in
    rw (a, b)

-- ---- a table whose length field is over 6,276 is refused with 1

and_false : (a b : Bool) → b ≡ false → (a && b) ≡ false
and_false true b h = h
and_false false b h = refl

over_not_ok : (table : List ℕ) → table_most < length_field table → length_ok table ≡ false
unfolding length_ok
over_not_ok table h = and_false (leb 6 (length table)) _ (ap (λ (b : Bool). b && eqb (2 + length_field table) (length table)) (lt-leb (length_field table) table_most h))

over_one : (table : List ℕ) → table_most < length_field table → validate_table table ≡ 1
unfolding validate_table
over_one table h = rw (over_not_ok table h)

over_refused : (table schedule : List ℕ) (buffers : Buffers) → table_most < length_field table → run table schedule buffers ≡ refused_with 1 buffers
unfolding run validate_run
over_refused table schedule buffers h = rw (over_one table h)

over_page : (processes : ℕ) (table schedule : List ℕ) → table_most < length_field table → page_of processes (run table schedule bench_buffers) ≡ refused_line 1
unfolding page_of refused_with
over_page processes table schedule h = ap (page_of processes) (over_refused table schedule bench_buffers h)

-- so the page of the two parts is that of the input
pub parts_page_lem : (input : List ℕ) → parts_page (table_in input) (schedule_in input) ≡ bench_page input
unfolding parts_page bench_page
parts_page_lem input = go (ltb table_most (length_field input)) refl
  where
    go : (b : Bool) → ltb table_most (length_field input) ≡ b → parts_page (table_in input) (schedule_in input) ≡ cond b (refused_line 1) (parts_page (table_in input) (schedule_in input))
    go true e = over_page (processes_in (table_in input)) (table_in input) (schedule_in input) (rw (field_cut input) (ltb-true table_most (length_field input) e))
    go false e = refl

-- ---- a schedule of over 60,003 bytes is refused with 9

long-not_ok : (schedule : List ℕ) → schedule_read ≤ length schedule → schedule_ok schedule ≡ false
unfolding schedule_ok
long-not_ok schedule h =
    and_false (leb 3 (length schedule)) _ (and_false (eqb (2 + length_field schedule) (length schedule)) _ (go (eqb (3 + 6 * commands_in schedule) (length schedule)) refl))
  where
    go : (b : Bool) → eqb (3 + 6 * commands_in schedule) (length schedule) ≡ b → (b && leb (commands_in schedule) commands_most) ≡ false
    go true e = let l = eqb-true (3 + 6 * commands_in schedule) (length schedule) e in lt-leb (commands_in schedule) commands_most (omega arith)
    go false e = refl

long_nine : (schedule : List ℕ) → schedule_read ≤ length schedule → validate_schedule schedule ≡ 9
unfolding validate_schedule
long_nine schedule h = rw (long-not_ok schedule h)

-- "over 60,003 bytes of schedule is 9 unless a lower number applies"
abbrev nine_or : ℕ → ℕ
nine_or number = or_number (eqb number 0) number 9

nine_not-zero : (n : ℕ) → eqb (nine_or n) 0 ≡ false
nine_not-zero n = go (eqb n 0) refl
  where
    go : (b : Bool) → eqb n 0 ≡ b → eqb (or_number b n 9) 0 ≡ false
    go true e = refl
    go false e = e

long-refused : (table schedule : List ℕ) (buffers : Buffers) → schedule_read ≤ length schedule → run table schedule buffers ≡ refused_with (nine_or (validate_table table)) buffers
unfolding run validate_run
long-refused table schedule buffers h = rw (long_nine schedule h, nine_not-zero (validate_table table))

-- ---- what follows has no effect

pub settled : (have more : List ℕ) → 2 ≤ length have → wanted_of (have ++ more) ≡ wanted_of have
settled have more h =
    let l = length-append have more in
    rw (le-ltb (length (have ++ more)) 2 (omega arith), le-ltb (length have) 2 h, field_append have more h)

-- a table with a length field over 6,276: two bytes are enough
over_bench : (input : List ℕ) → table_most < length_field input → bench_page input ≡ refused_line 1
unfolding bench_page
over_bench input h = ap (λ (b : Bool). cond b (refused_line 1) (page_of (processes_in (table_in input)) (run (table_in input) (schedule_in input) bench_buffers))) (lt-ltb table_most (length_field input) h)

-- a schedule that is too long, and more behind it
long_page : (table schedule more : List ℕ) → schedule_read ≤ length schedule → parts_page table (schedule ++ more) ≡ parts_page table schedule
unfolding parts_page
long_page table schedule more h =
    let l = length-append schedule more in
    ap (page_of (processes_in table)) (long-refused table (schedule ++ more) bench_buffers (omega arith) ∙ sym (long-refused table schedule bench_buffers h))

long_bench : (have more : List ℕ) → 2 + length_field have + schedule_read ≤ length have → bench_page (have ++ more) ≡ bench_page have
long_bench have more h =
    let f : ℕ = length_field have in
    let e : length_field (have ++ more) ≡ f = field_append have more (omega arith) in
    let l = length-drop (2 + f) have in
    sym (parts_page_lem (have ++ more))
    ∙ ap (λ (x : ℕ). parts_page (take (2 + x) (have ++ more)) (drop (2 + x) (have ++ more))) e
    ∙ ap (λ (t : List ℕ). parts_page t (drop (2 + f) (have ++ more))) (take-append-le (2 + f) have more (omega arith))
    ∙ ap (parts_page (table_in have)) (drop-append-le (2 + f) have more (omega arith))
    ∙ long_page (table_in have) (schedule_in have) more (omega arith)
    ∙ parts_page_lem have

-- the three answers
pub wanted_short : (have : List ℕ) → length have < 2 → wanted_of have ≡ 2
wanted_short have s = ap (λ (b : Bool). cond b 2 (cond (ltb table_most (length_field have)) 2 (2 + length_field have + schedule_read))) (lt-ltb (length have) 2 s)

wanted_later : (have : List ℕ) → 2 ≤ length have → wanted_of have ≡ cond (ltb table_most (length_field have)) 2 (2 + length_field have + schedule_read)
wanted_later have l = ap (λ (b : Bool). cond b 2 (cond (ltb table_most (length_field have)) 2 (2 + length_field have + schedule_read))) (le-ltb (length have) 2 l)

wanted_over : (have : List ℕ) → 2 ≤ length have → table_most < length_field have → wanted_of have ≡ 2
wanted_over have l h = wanted_later have l ∙ ap (λ (b : Bool). cond b 2 (2 + length_field have + schedule_read)) (lt-ltb table_most (length_field have) h)

wanted_all : (have : List ℕ) → 2 ≤ length have → length_field have ≤ table_most → wanted_of have ≡ 2 + length_field have + schedule_read
wanted_all have l h = wanted_later have l ∙ ap (λ (b : Bool). cond b 2 (2 + length_field have + schedule_read)) (le-ltb table_most (length_field have) h)

-- two at least
pub wanted_least : (have : List ℕ) → 2 ≤ wanted_of have
wanted_least have = go (ltb (length have) 2) (ltb table_most (length_field have))
  where
    go : (a b : Bool) → 2 ≤ cond a 2 (cond b 2 (2 + length_field have + schedule_read))
    go true b = omega arith
    go false true = omega arith
    go false false = omega arith

-- and no more than the longest input
wanted_most : (have : List ℕ) → wanted_of have ≤ input_room
wanted_most have =
    by_lt (length have) 2
    (λ s. let w = wanted_short have s in omega arith)
    (λ l. by_lt table_most (length_field have)
    (λ o. let w = wanted_over have l o in omega arith)
    (λ k. let w = wanted_all have l k in omega arith))

pub enough : (have more : List ℕ) → wanted_of have ≤ length have → bench_page (have ++ more) ≡ bench_page have
enough have more h =
    by_lt (length have) 2
    (λ s. let w = wanted_short have s in absurd (omega arith))
    (λ l. by_lt table_most (length_field have)
    (λ o. over_bench (have ++ more) (rw (field_append have more l) o) ∙ sym (over_bench have o))
    (λ k. let w = wanted_all have l k in long_bench have more (omega arith)))

pub wanted_is : (have : List ℕ) (r : ℕ) → r ≡ wanted_of have → Wanted have r
wanted_is have r e = record {
  is = e;
  no_more = let m = wanted_most have in omega arith;
  settled = λ l more. settled have more l ∙ sym e;
  enough = λ l more. enough have more (rw (← e) l);
}

-- ---- the call's three returns

pub returns_short : (have : List ℕ) → length have < 2 → Wanted have 2
returns_short have s = wanted_is have 2 (sym (wanted_short have s))

pub returns_over : (have : List ℕ) (field : ℕ) → 2 ≤ length have → field ≡ length_field have → table_most < field → Wanted have 2
returns_over have field l e h = wanted_is have 2 (sym (wanted_over have l (rw (← e) h)))

pub returns_all : (have : List ℕ) (field : ℕ) → 2 ≤ length have → field ≡ length_field have → field ≤ table_most → Wanted have (2 + field + schedule_read)
returns_all have field l e h = wanted_is have (2 + field + schedule_read) (ap (λ (x : ℕ). 2 + x + schedule_read) e ∙ sym (wanted_all have l (rw (← e) h)))
