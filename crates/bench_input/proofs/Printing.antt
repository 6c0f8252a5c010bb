-- The page that the program writes is that of the input that it has read.
use Rattle.std.specs.Prelude.{Result, Ok, Err}
use mathlib.Core.Path.{◌≡◌, refl, ap, sym, ◌∙◌, subst}
use mathlib.Core.Bool.{Bool}
use mathlib.Core.List.{List, [], ◌∷◌}
use Prim.Native.Nat.{ℕ, zero, suc, ◌+◌, ◌-◌, ◌≤◌, ◌<◌, min}
use native.Mathlib.Omega.{arith}
use lib.ListN.{length, take, drop, length-append}
use lib.Seq.{length-take-le, take_all, take-length, drop-length}
use borrow.Author.Tests.{ne_eqb}
use Rattle.facts.specs.Tests.{by_lt}
use Rattle.facts.specs.Lists.{part-rest}
use Rattle.numbers.specs.Runs.{number_of, refuses}
use Rattle.numbers.specs.declared.runs.Refusal.{Refusal}
use Rattle.rules.specs.Bytes.{byte_at}
use Rattle.rules.specs.Format.{length_field, processes_in}
use Rattle.rules.specs.Run.{Buffers, Ran, ran_of, run}
use Rattle.rules.specs.Page.{accepted_page, refused_line, page_of, table_in, schedule_in, bench_buffers, bench_page}
use Rattle.cabinet.specs.Runs.{ran_by, Runs}
use Rattle.cabinet.specs.declared.run.Ended.{Ended}
use Rattle.cabinet.proofs.Running.{run-few}
use Rattle.page.specs.Written.{Written, shown_of}
use Rattle.bench_input.specs.Benched.{page_room, Benched}
use Rattle.bench_input.specs.Parts.{parts_page, Printed, RunPrinted}
use Rattle.bench_input.proofs.Reading.{parts_page_lem, enough}
use Rattle.bench_input.proofs.Room.{page_long, number_small, few-processes}

-- ---- the run and its page

-- the bytes of two lent slices are below 256, and so is a number in a byte
printed : (ran : Ran) → ran.number < 256 → (processes : ℕ)
    → ((i : ℕ) → byte_at ran.buffers.answers i < 256) → ((i : ℕ) → byte_at ran.buffers.report i < 256) → (out : List ℕ) (r : ℕ) (out' : List ℕ)
    → Written (page_of processes ran) out r out' → Printed processes ran out r out'
printed ran hn processes sa sr out r out' w = record {
  wrote = w;
  room = λ hp hr. page_long processes ran (record { at = sa }) (record { at = sr }) hn hp hr;
}

module _ (processes : ℕ) (answers report : List ℕ) (sa : (i : ℕ) → byte_at answers i < 256) (sr : (i : ℕ) → byte_at report i < 256)
    {out : List ℕ} {r : ℕ} {out' : List ℕ} where
  -- what was written are the lines of an accepted run,
  pub printed-accepted : (e : Ended) → Written (accepted_page processes (ran_by (Ok e) (shown_of answers report))) out r out'
      → Printed processes (ran_by (Ok e) (shown_of answers report)) out r out'
  unfolding page_of
  printed-accepted e w = printed (ran_by (Ok e) (shown_of answers report)) (omega arith) processes sa sr out r out' w

  -- the line of a refused one,
  pub printed-refused : (n : Refusal) → Written (refused_line (number_of n)) out r out' → Printed processes (ran_by (Err n) (shown_of answers report)) out r out'
  unfolding page_of
  printed-refused n w =
      printed (ran_by (Err n) (shown_of answers report)) (number_small n) processes sa sr out r out' (rw (ne_eqb (number_of n) 0 (refuses n)) w)

  -- or the page of the numbers that a run returned
  pub paged_accepted : (number : ℕ) (e : Ended) → number ≡ 0 → Written (page_of processes (ran_of number e.records e.quiet (shown_of answers report))) out r out'
      → Printed processes (ran_by (Ok e) (shown_of answers report)) out r out'
  unfolding page_of
  paged_accepted number e h w =
      printed-accepted e (subst (λ (k : ℕ). Written (page_of processes (ran_of k e.records e.quiet (shown_of answers report))) out r out') h w)

  pub paged_refused : (number records : ℕ) (quiet : Bool) (n : Refusal) → number ≡ number_of n
      → Written (page_of processes (ran_of number records quiet (shown_of answers report))) out r out'
      → Printed processes (ran_by (Err n) (shown_of answers report)) out r out'
  unfolding page_of
  paged_refused number records quiet n h w = printed-refused n (rw (h, ne_eqb (number_of n) 0 (refuses n)) at w)

-- the page of a run is that of what it shows
shown-whole : (processes : ℕ) (ended : Result Ended Refusal) (b : Buffers)
    → page_of processes (ran_by ended (shown_of b.answers b.report)) ≡ page_of processes (ran_by ended b)
unfolding page_of accepted_page
shown-whole processes (Ok e) b = refl
shown-whole processes (Err n) b = rw (ne_eqb (number_of n) 0 (refuses n))

records-shown : (ended : Result Ended Refusal) (b : Buffers) → (ran_by ended (shown_of b.answers b.report)).records ≡ (ran_by ended b).records
records-shown (Ok e) b = refl
records-shown (Err n) b = refl

number-shown : (ended : Result Ended Refusal) (b : Buffers) → (ran_by ended (shown_of b.answers b.report)).number ≡ (ran_by ended b).number
number-shown (Ok e) b = refl
number-shown (Err n) b = refl

pub run_page_lem : (table schedule : List ℕ) (ended : Result Ended Refusal) (after : Buffers) → Runs table schedule bench_buffers ended after
    → (processes : ℕ) → processes ≡ processes_in table → (out : List ℕ) (r : ℕ) (out' : List ℕ)
    → Printed processes (ran_by ended (shown_of after.answers after.report)) out r out' → RunPrinted table schedule out r out'
unfolding parts_page
run_page_lem table schedule ended after ran processes e out r out' shown =
    let same = shown-whole processes ended after in
    let w : Printed processes (ran_by ended after) out r out' = record {
      wrote = subst (λ (l : List ℕ). Written l out r out') same shown.wrote;
      room = λ hp hr.
          subst (λ (l : List ℕ). length l ≤ page_room) same
          (shown.room (λ z. hp (sym (number-shown ended after) ∙ z)) (rw (records-shown ended after) hr));
    } in
    let p : Printed (processes_in table) (run table schedule bench_buffers) out r out' =
    subst (λ (x : Ran). Printed (processes_in table) x out r out') ran.ran (subst (λ (n : ℕ). Printed n (ran_by ended after) out r out') e w) in
    record { wrote = p.wrote; room = p.room (few-processes table schedule bench_buffers) (run-few table schedule bench_buffers) }

-- ---- the cut

pub part-long : (input : List ℕ) (n : ℕ) → n ≤ length input → n ≡ length (take n input)
part-long input n h = sym (length-take-le n input h)

-- cut at a place or, where there is less, at the end
cut_table : (input : List ℕ) (n : ℕ) → take (min n (length input)) input ≡ take n input
cut_table input n =
    by_lt n (length input)
    (λ h. let e : min n (length input) ≡ n = omega arith in ap (λ (k : ℕ). take k input) e)
    (λ h. let e : min n (length input) ≡ length input = omega arith in ap (λ (k : ℕ). take k input) e ∙ take-length input ∙ sym (take_all n input h))

drop_all : (n : ℕ) (l : List ℕ) → length l ≤ n → drop n l ≡ []
drop_all zero [] h = refl
drop_all zero (x ∷ l) h = absurd (omega arith)
drop_all (suc n) [] h = refl
drop_all (suc n) (x ∷ l) h = drop_all n l (omega arith)

cut_schedule : (input : List ℕ) (n : ℕ) → drop (min n (length input)) input ≡ drop n input
cut_schedule input n =
    by_lt n (length input)
    (λ h. let e : min n (length input) ≡ n = omega arith in ap (λ (k : ℕ). drop k input) e)
    (λ h. let e : min n (length input) ≡ length input = omega arith in ap (λ (k : ℕ). drop k input) e ∙ drop-length input ∙ sym (drop_all n input h))

-- what was returned is within the buffer
written-within : (page out : List ℕ) (r : ℕ) (out' : List ℕ) → Written page out r out' → r ≤ length out'
written-within page out r out' w =
    by_lt (length out) (length page)
    (λ h. let e = w.no_room h in omega arith)
    (λ h.
    let e = w.long h in
    let f = ap length (w.fits h) in
    let g = length-append page (drop (length page) out) in
    omega arith)

pub benched : (input : List ℕ) (field : ℕ) → field ≡ length_field input → (n : ℕ) → n ≡ min (2 + field) (length input) → (out : List ℕ) (r : ℕ) (out' : List ℕ)
    → RunPrinted (take n input) (take (length input - n) (drop n input)) out r out' → Benched input out r out'
benched input field e n f out r out' w =
    let table : take n input ≡ table_in input = ap (λ (k : ℕ). take k input) f ∙ cut_table input (2 + field) ∙ ap (λ (k : ℕ). take (2 + k) input) e in
    let schedule : take (length input - n) (drop n input) ≡ schedule_in input = part-rest input n ∙ ap (λ (k : ℕ). drop k input) f ∙ cut_schedule input (2 + field) ∙ ap (λ (k : ℕ). drop (2 + k) input) e in
    let page : parts_page (take n input) (take (length input - n) (drop n input)) ≡ bench_page input =
    ap (λ (t : List ℕ). parts_page t (take (length input - n) (drop n input))) table ∙ ap (parts_page (table_in input)) schedule ∙ parts_page_lem input in
    record {
      wrote = subst (λ (p : List ℕ). Written p out r out') page w.wrote;
      room = subst (λ (p : List ℕ). length p ≤ page_room) page w.room;
      within = written-within _ out r out' w.wrote;
      part = part-long out' r (written-within _ out r out' w.wrote);
      whole = λ h more. enough input more h;
    }
