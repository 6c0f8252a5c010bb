-- The report, line by line: a line's bytes stored one behind the other, what the buffer holds between two lines, and that a process's
-- line is the line of the process that it stands for.
use mathlib.Core.Path.{◌≡◌, refl, ap, sym, ◌∙◌, subst}
use mathlib.Core.List.{List, [], ◌∷◌, ◌++◌, append_assoc, append-nil}
use Prim.Native.Nat.{ℕ, zero, suc, ◌+◌, ◌*◌, ◌/◌, ◌%◌, ◌≤◌, ◌<◌}
use native.Mathlib.Omega.{arith}
use native.Mathlib.Numerals.{add-one}
use lib.ListN.{length, get_or, set, length-append}
use lib.Seq.{sets, length-sets}
use Rattle.facts.specs.Lists.{listed}
use Rattle.facts.specs.Rings.{listed_more, listed-length}
use Rattle.rules.specs.Table.{Table}
use Rattle.rules.specs.Cabinet.{limit_most, Cabinet, Process}
use Rattle.rules.specs.Bytes.{word_bytes, all_bytes, written}
use Rattle.rules.specs.Run.{report_bytes}
use Rattle.process.specs.declared.process.Process as code
use Rattle.process.specs.Row.{mail_at, machine_of, process_of}
use Rattle.state.specs.declared.entry.Entry.{Entry}
use Rattle.state.specs.declared.queue.Queue.{Queue}
use Rattle.state.specs.declared.store.Store.{Store}
use Rattle.state.specs.Beside.{other_lists, with_lists}
use Rattle.state.specs.Store.{Holds, lists_at, process_in}
use Rattle.state.specs.Moved.{Reachable}
use Rattle.state.proofs.Reading.{at_process}
use Rattle.state.proofs.Reaching.{bounds}
use Rattle.outcome.specs.Reports.{four_bytes, twenty_bytes, LinePut, Reports}
use Rattle.outcome.proofs.Beside.{seen_beside, its_lists}
use Rattle.records.proofs.Writing.{four_put, written-more}

-- ---- one line

pub head_put : (x : code.Process) (buffer : List ℕ) (n x0 x1 x2 x3 : ℕ)
    → x0 ≡ x.board % 256 → x1 ≡ x.pc % 256 → x2 ≡ x.unread % 256 → x3 ≡ x.suppress % 256
    → set (set (set (set buffer n x0) (n + 1) x1) (n + 2) x2) (n + 3) x3 ≡ sets buffer n (four_bytes x)
head_put x buffer n x0 x1 x2 x3 e0 e1 e2 e3 = four_put buffer n _ _ _ _ x0 x1 x2 x3 e0 e1 e2 e3

-- four and sixteen more
twenty_put : (x : code.Process) (buffer b0 b1 b2 b3 b4 : List ℕ) (n : ℕ) → b0 ≡ sets buffer n (four_bytes x) → b1 ≡ sets b0 (n + 4) (word_bytes (get_or x.registers 0 0))
    → b2 ≡ sets b1 (n + 8) (word_bytes (get_or x.registers 1 0)) → b3 ≡ sets b2 (n + 12) (word_bytes (get_or x.registers 2 0)) → b4 ≡ sets b3 (n + 16) (word_bytes (get_or x.registers 3 0))
    → b4 ≡ sets buffer n (twenty_bytes x)
twenty_put x buffer b0 b1 b2 b3 b4 n e0 e1 e2 e3 e4 =
    let i1 : n + 4 ≡ suc (suc (suc (suc n))) = omega arith in
    let i2 : n + 8 ≡ suc (suc (suc (suc (suc (suc (suc (suc n))))))) = omega arith in
    let i3 : n + 12 ≡ suc (suc (suc (suc (suc (suc (suc (suc (suc (suc (suc (suc n))))))))))) = omega arith in
    let i4 : n + 16 ≡ suc (suc (suc (suc (suc (suc (suc (suc (suc (suc (suc (suc (suc (suc (suc (suc n))))))))))))))) = omega arith in
    let f1 = e1 ∙ (λ j. sets (e0 j) (i1 j) (word_bytes (get_or x.registers 0 0))) in
    let f2 = e2 ∙ (λ j. sets (f1 j) (i2 j) (word_bytes (get_or x.registers 1 0))) in
    let f3 = e3 ∙ (λ j. sets (f2 j) (i3 j) (word_bytes (get_or x.registers 2 0))) in
    e4 ∙ (λ j. sets (f3 j) (i4 j) (word_bytes (get_or x.registers 3 0)))

pub line-none : (x : code.Process) (buffer : List ℕ) (p : ℕ) → length buffer / 20 ≤ p → LinePut x buffer p buffer
line-none x buffer p h = record { fits = λ l. absurd (omega arith); same_length = refl }

pub line_put : (x : code.Process) (buffer b0 b1 b2 b3 b4 : List ℕ) (p : ℕ) → b0 ≡ sets buffer (20 * p) (four_bytes x) → b1 ≡ sets b0 (20 * p + 4) (word_bytes (get_or x.registers 0 0))
    → b2 ≡ sets b1 (20 * p + 8) (word_bytes (get_or x.registers 1 0)) → b3 ≡ sets b2 (20 * p + 12) (word_bytes (get_or x.registers 2 0)) → b4 ≡ sets b3 (20 * p + 16) (word_bytes (get_or x.registers 3 0))
    → LinePut x buffer p b4
line_put x buffer b0 b1 b2 b3 b4 p e0 e1 e2 e3 e4 =
    let e = twenty_put x buffer b0 b1 b2 b3 b4 (20 * p) e0 e1 e2 e3 e4 in
    record { fits = λ l. e; same_length = ap (λ (l : List ℕ). length l) e ∙ length-sets buffer (20 * p) (twenty_bytes x) }

-- ---- the lines so far

abbrev pub lines_of : Store → ℕ → List ℕ
lines_of s p = all_bytes twenty_bytes (listed (lists_at s) p)

bytes_more : {A : Type 0} (bytes : A → List ℕ) (l : List A) (x : A) → all_bytes bytes (l ++ (x ∷ [])) ≡ all_bytes bytes l ++ bytes x
bytes_more bytes [] x = append-nil (bytes x)
bytes_more bytes (y ∷ l) x = ap (λ (r : List ℕ). bytes y ++ r) (bytes_more bytes l x) ∙ sym (append_assoc (bytes y) (all_bytes bytes l) (bytes x))

lines_more : (s : Store) (p : ℕ) → lines_of s (suc p) ≡ lines_of s p ++ twenty_bytes (lists_at s p)
lines_more s p =
    ap (all_bytes twenty_bytes) (listed_more (lists_at s) p) ∙ bytes_more twenty_bytes (listed (lists_at s) p) (lists_at s p)

lines_length : (s : Store) (p : ℕ) → length (lines_of s p) ≡ 20 * p
lines_length s zero = refl
lines_length s (suc p) =
    let a = ap (λ (x : List ℕ). length x) (lines_more s p) in
    let b = length-append (lines_of s p) (twenty_bytes (lists_at s p)) in
    let c = lines_length s p in
    let d : length (twenty_bytes (lists_at s p)) ≡ 20 = refl in
    omega arith

-- p lines are written, where there is room
pub record Reporting (s : Store) (report₀ report : List ℕ) (p : ℕ) : Type 0 where
  pub same_length : length report ≡ length report₀
  pub lines : 20 * p ≤ length report₀ → report ≡ written (lines_of s p) report₀

pub reporting_on : {s : Store} {report₀ report report' : List ℕ} {p : ℕ} → Reporting s report₀ report p → LinePut (lists_at s p) report p report'
    → Reporting s report₀ report' (p + 1)
reporting_on {s} {report₀} {report} {report'} {p} w put = record {
  same_length = put.same_length ∙ w.same_length;
  lines = λ h.
      let long = w.same_length in
      let line : List ℕ = twenty_bytes (lists_at s p) in
      let d : length line ≡ 20 = refl in
      rw add-one
      (put.fits (omega arith)
      ∙ ap (λ (x : List ℕ). sets x (20 * p) line) (w.lines (omega arith))
      ∙ written-more (lines_of s p) line report₀ (20 * p) (sym (lines_length s p)) (omega arith)
      ∙ ap (λ (x : List ℕ). written x report₀) (sym (lines_more s p)));
}

-- ---- a process's line is that of the rules' process

small : (x : ℕ) → x < 256 → x ≡ x % 256
small x h = omega arith

line-is : (x : code.Process) → x.board < 256 → x.pc < 256 → x.unread < 256 → x.suppress < 256
    → report_bytes (process_of x) ≡ twenty_bytes x
unfolding process_of machine_of
line-is x h0 h1 h2 h3 =
    let e2 = listed-length (mail_at x) x.unread ∙ small x.unread h2 in
    λ j. small x.board h0 j
    ∷ small x.pc h1 j
    ∷ e2 j
    ∷ small x.suppress h3 j
    ∷ (word_bytes (get_or x.registers 0 0) ++ (word_bytes (get_or x.registers 1 0) ++ (word_bytes (get_or x.registers 2 0) ++ word_bytes (get_or x.registers 3 0))))

bytes_same : {A B : Type 0} (f : A → List ℕ) (g : B → List ℕ) (u : ℕ → A) (v : ℕ → B) (n : ℕ) → ((i : ℕ) → i < n → f (u i) ≡ g (v i))
    → all_bytes f (listed u n) ≡ all_bytes g (listed v n)
bytes_same f g u v zero h = refl
bytes_same f g u v (suc n) h =
    λ j. h zero (omega arith) j ++ bytes_same f g (λ i. u (suc i)) (λ i. v (suc i)) n (λ i l. h (suc i) (omega arith)) j

module _ {t : Table} {s : Store} {entries : List Entry} {c : Cabinet} (reach : Reachable t c) (h : Holds t s entries c) where
  one_line : (p : ℕ) → p < length t.processes → report_bytes (process_in s p) ≡ twenty_bytes (lists_at s p)
  unfolding process_of machine_of
  one_line p l =
      let x = at_process h p l in
      let b = bounds reach p l in
      let ok = reach.accepted in
      let board : (process_in s p).board < t.boards = subst (λ (y : Process). y.board < t.boards) x b.board in
      let pc : (process_in s p).machine.pc ≤ 64 = subst (λ (y : Process). y.machine.pc ≤ 64) x (let z = b.pc in let k = ok.short p l in omega arith) in
      let suppress : (process_in s p).suppress ≤ limit_most = subst (λ (y : Process). y.suppress ≤ limit_most) x (let z = b.suppress in let k = b.limit in omega arith) in
      let unread = (h.kept p l).unread in
      line-is (lists_at s p) (let high = ok.boards_high in omega arith) (omega arith) (omega arith) (omega arith)

-- of a store that is the lent one but for what a line doesn't tell
module _ {t : Table} (s : Store) (others : ℕ → code.Process) {queues : List Queue} {totals : List ℕ} {entries : List Entry} {c : Cabinet} (reach : Reachable t c)
    (h : Holds t (record (with_lists others s) { queues = queues; totals = totals }) entries c) where
  line_beside : (p : ℕ) → p < length t.processes → report_bytes (process_in (with_lists others s) p) ≡ twenty_bytes (lists_at s p)
  line_beside p l = one_line reach h p l ∙ ap twenty_bytes (seen_beside other_lists others s.processes reach h p l)

  all_lines : all_bytes report_bytes c.processes ≡ lines_of s (length t.processes)
  all_lines =
      ap (all_bytes report_bytes) h.processes
      ∙ bytes_same report_bytes twenty_bytes (process_in (with_lists others s)) (lists_at s) (length t.processes) line_beside

-- all lines are written: the report of the cabinet
pub reporting_end : {s : Store} {processes n : ℕ} {report₀ report : List ℕ} {p : ℕ} → Reporting s report₀ report p → (processes ≤ 16 → n ≡ processes) → p ≡ n
    → Reports s processes report₀ report
reporting_end {s} {processes} {n} {report₀} {report} {p} w clamp at_end = record {
  reported = λ t others queues totals entries c reach holds e room.
      let high = reach.accepted.processes_high in
      let ep : p ≡ length t.processes = at_end ∙ clamp (omega arith) ∙ e in
      w.lines (omega arith)
      ∙ ap (λ (k : ℕ). written (lines_of s k) report₀) ep
      ∙ ap (λ (x : List ℕ). written x report₀) (sym (all_lines s others reach holds));
  same_length = w.same_length;
}

-- and of the lent store itself
pub reports_own : {s : Store} {processes : ℕ} {report report' : List ℕ} → Reports s processes report report' → (t : Table) (entries : List Entry) (c : Cabinet)
    → Reachable t c → Holds t s entries c → processes ≡ length t.processes → 20 * processes ≤ length report
    → report' ≡ written (all_bytes report_bytes c.processes) report
reports_own {s} r t entries c reach holds =
    r.reported t (lists_at s) s.queues s.totals entries c reach (subst (λ (x : Store). Holds t x entries c) (sym (its_lists s)) holds)
