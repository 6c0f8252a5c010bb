-- Lists whose numbers fit their bytes are judged as the lists themselves: 254 fails every test that a number over 255 fails.
use mathlib.Core.Path.{◌≡◌, refl, ap, sym, ◌∙◌}
use mathlib.Core.Bool.{Bool, true, false, not, cond, ◌&&◌, ◌||◌}
use mathlib.Core.List.{List, [], ◌∷◌, map}
use Prim.Native.Nat.{ℕ, zero, suc, ◌*◌, ◌≤◌, ◌<◌}
use native.Mathlib.Omega.{arith}
use lib.Dec.{eqb, ltb, leb}
use lib.ListN
use lib.ListN.{length, get_or, drop, length-map}
use borrow.Author.Tests.{le-ltb, leb-true, lt-leb, ne_eqb}
use Rattle.facts.specs.Tests.{all_of, all_below, and_left, and_right, by_lt, no_way}
use Rattle.facts.specs.Indexing.{get_or_map}
use Rattle.facts.specs.Ranges.{and_fails, all_same}
use Rattle.backup.specs.Limits.{pc_most, ports}
use Rattle.rules.specs.Table.{environment, Channel, Instruction, SET, ADD, TAKE, FIRST, SEND, JUMP, NONE, Placement, Table, nowhere, code_of, read_from, inputs}
use Rattle.rules.specs.Judge.{end_ok, ends_ok, inputs_ok, boards_ok, bits, instruction_ok, instructions_ok, limit_ok, limits_ok}
use Rattle.rules.specs.Machine.{bit}
use Rattle.rules.specs.Sizes.{with_limits, limit_bytes, limit_least, limit_most, limit_before}
use Rattle.rules.specs.Format.{pairs, instruction, limit_said, or_number, table_number, validate_table}
use Rattle.rules.specs.Encode.{Lists, threes, placed_by, table_of, encode, program_lengths, total, validate_lists}
use Rattle.rules.proofs.Valid.{counts-fit}
use Rattle.rules.proofs.Encoding.{Long, long, long_ok, lists_number, validate_encode}
use Rattle.writer.specs.Given.{Fitting}
use Rattle.writer.specs.Fitted.{fit_byte, fit_threes, fitted}
use Rattle.writer.proofs.Pieces.{fit_same, fit_threes_0, fit_threes_1, fit_threes_2, fit_threes_drop3, fit_threes-drop}

-- ---- one number

fit_over : (x : ℕ) → 256 ≤ x → fit_byte x ≡ 254
fit_over x h = rw (le-ltb x 256 h)

ltb-fit : (x b : ℕ) → b ≤ 254 → ltb (fit_byte x) b ≡ ltb x b
ltb-fit x b h =
    by_lt x 256
    (λ l. ap (λ (y : ℕ). ltb y b) (fit_same x l))
    (λ l. ap (λ (y : ℕ). ltb y b) (fit_over x l) ∙ le-ltb 254 b h ∙ sym (le-ltb x b (omega arith)))

eqb-fit : (x : ℕ) → eqb (fit_byte x) environment ≡ eqb x environment
eqb-fit x =
    by_lt x 256
    (λ l. ap (λ (y : ℕ). eqb y environment) (fit_same x l))
    (λ l. ap (λ (y : ℕ). eqb y environment) (fit_over x l) ∙ sym (ne_eqb x environment (λ e. omega arith)))

-- ---- tests over lists

all_of-map : {A : Type 0} (f g : A → Bool) (h : A → A) → ((x : A) → f (h x) ≡ g x) → (l : List A) → all_of f (map h l) ≡ all_of g l
all_of-map f g h e [] = refl
all_of-map f g h e (x ∷ l) = λ i. e x i && all_of-map f g h e l i

pub all_of_weaken : {A : Type 0} (f g : A → Bool) → ((x : A) → f x ≡ true → g x ≡ true) → (l : List A) → all_of f l ≡ true → all_of g l ≡ true
all_of_weaken f g h [] k = refl
all_of_weaken f g h (x ∷ l) k = rw (h x (and_left (f x) (all_of f l) k)) (all_of_weaken f g h l (and_right (f x) (all_of f l) k))

drop-map : (n : ℕ) (l : List ℕ) → drop n (map fit_byte l) ≡ map fit_byte (drop n l)
drop-map zero l = refl
drop-map (suc n) [] = refl
drop-map (suc n) (x ∷ l) = drop-map n l

-- ---- what fitted lists say

abbrev fit_channel : Channel → Channel
fit_channel c = record { sender = fit_byte c.sender; reader = fit_byte c.reader }

abbrev fit_instruction : Instruction → Instruction
fit_instruction (SET a o) = SET (fit_byte a) o
fit_instruction (ADD a o) = ADD (fit_byte a) o
fit_instruction (TAKE a o) = TAKE (fit_byte a) o
fit_instruction (FIRST a o) = FIRST (fit_byte a) o
fit_instruction (SEND a o) = SEND (fit_byte a) o
fit_instruction (JUMP a o) = JUMP (fit_byte a) o
fit_instruction NONE = NONE

abbrev fit_placement : Placement → Placement
fit_placement x =
    record { primary = fit_byte x.primary; standby = fit_byte x.standby; limit = fit_byte x.limit; code = map fit_instruction x.code }

pairs-fit : (n : ℕ) (l : List ℕ) → pairs n (map fit_byte l) ≡ map fit_channel (pairs n l)
pairs-fit zero l = refl
pairs-fit (suc n) l =
    let s : get_or (map fit_byte l) 0 0 ≡ fit_byte (get_or l 0 0) = ListN.get_or-map fit_byte l 0 0 in
    let r : get_or (map fit_byte l) 1 0 ≡ fit_byte (get_or l 1 0) = ListN.get_or-map fit_byte l 1 0 in
    let later = ap (pairs n) (drop-map 2 l) ∙ pairs-fit n (drop 2 l) in
    λ i. record { sender = s i; reader = r i } ∷ later i

-- a code over 255 is none, and neither is 254
instruction-fit : (c a o : ℕ) → instruction (fit_byte c) (fit_byte a) o ≡ fit_instruction (instruction c a o)
instruction-fit zero a o = refl
instruction-fit (suc zero) a o = refl
instruction-fit (suc (suc zero)) a o = refl
instruction-fit (suc (suc (suc zero))) a o = refl
instruction-fit (suc (suc (suc (suc zero)))) a o = refl
instruction-fit (suc (suc (suc (suc (suc zero))))) a o = refl
instruction-fit (suc (suc (suc (suc (suc (suc zero)))))) a o = refl
instruction-fit (suc (suc (suc (suc (suc (suc (suc n))))))) a o =
    let c = suc (suc (suc (suc (suc (suc (suc n)))))) in
    by_lt c 256
    (λ l. ap (λ (x : ℕ). instruction x (fit_byte a) o) (fit_same c l))
    (λ l. ap (λ (x : ℕ). instruction x (fit_byte a) o) (fit_over c l))

threes-fit : (n : ℕ) (is : List ℕ) → threes instruction n (fit_threes is) ≡ map fit_instruction (threes instruction n is)
threes-fit zero is = refl
threes-fit (suc n) is =
    let here = (λ i. instruction (fit_threes_0 is i) (fit_threes_1 is i) (fit_threes_2 is i)) ∙ instruction-fit (get_or is 0 0) (get_or is 1 0) (get_or is 2 0) in
    let later = ap (threes instruction n) (fit_threes_drop3 is) ∙ threes-fit n (drop 3 is) in
    λ i. here i ∷ later i

abbrev pub Few : ℕ → List ℕ → Type 0
Few n ps = all_of (λ k. leb k pc_most) (program_lengths n ps) ≡ true

n_fit : (n : ℕ) (ps : List ℕ) → Few (suc n) ps → get_or (map fit_byte ps) 2 0 ≡ get_or ps 2 0
n_fit n ps h =
    let a = leb-true (get_or ps 2 0) pc_most (and_left (leb (get_or ps 2 0) pc_most) _ h) in
    ListN.get_or-map fit_byte ps 2 0 ∙ fit_same (get_or ps 2 0) (omega arith)

few_later : (n : ℕ) (ps : List ℕ) → Few (suc n) ps → Few n (drop 3 ps)
few_later n ps h = and_right (leb (get_or ps 2 0) pc_most) _ h

lengths_fit : (n : ℕ) (ps : List ℕ) → Few n ps → program_lengths n (map fit_byte ps) ≡ program_lengths n ps
lengths_fit zero ps h = refl
lengths_fit (suc n) ps h =
    let later = ap (program_lengths n) (drop-map 3 ps) ∙ lengths_fit n (drop 3 ps) (few_later n ps h) in
    λ i. n_fit n ps h i ∷ later i

-- a limit, as the version has it
limit-fit : (v : ℕ) (ls : List ℕ) → limit_said v (get_or (map fit_byte ls) 0 0) ≡ fit_byte (limit_said v (get_or ls 0 0))
limit-fit v ls = go (with_limits v)
  where
    go : (w : Bool) → cond w (get_or (map fit_byte ls) 0 0) limit_before ≡ fit_byte (cond w (get_or ls 0 0) limit_before)
    go true = ListN.get_or-map fit_byte ls 0 0
    go false = refl

placed-fit : (v n : ℕ) (ps ls is : List ℕ) → Few n ps → placed_by v n (map fit_byte ps) (map fit_byte ls) (fit_threes is) ≡ map fit_placement (placed_by v n ps ls is)
placed-fit v zero ps ls is h = refl
placed-fit v (suc n) ps ls is h =
    let k = get_or ps 2 0 in
    let e = n_fit n ps h in
    let p : get_or (map fit_byte ps) 0 0 ≡ fit_byte (get_or ps 0 0) = ListN.get_or-map fit_byte ps 0 0 in
    let s : get_or (map fit_byte ps) 1 0 ≡ fit_byte (get_or ps 1 0) = ListN.get_or-map fit_byte ps 1 0 in
    let c = ap (λ (m : ℕ). threes instruction m (fit_threes is)) e ∙ threes-fit k is in
    let behind = ap (λ (m : ℕ). drop (3 * m) (fit_threes is)) e ∙ fit_threes-drop k is in
    let later = (λ i. placed_by v n (drop-map 3 ps i) (drop-map (limit_bytes v) ls i) (behind i)) ∙ placed-fit v n (drop 3 ps) (drop (limit_bytes v) ls) (drop (3 * k) is) (few_later n ps h) in
    λ i. record { primary = p i; standby = s i; limit = limit-fit v ls i; code = c i } ∷ later i

pub length-fit_threes : (l : List ℕ) → length (fit_threes l) ≡ length l
length-fit_threes [] = refl
length-fit_threes (a ∷ []) = refl
length-fit_threes (a ∷ b ∷ []) = refl
length-fit_threes (a ∷ b ∷ c ∷ l) = ap (λ (n : ℕ). suc (suc (suc n))) (length-fit_threes l)

pub long-fitted : (l : Lists) → Long l → Long (fitted l)
long-fitted l h =
    let e = lengths_fit l.processes l.placements h.programs-few in
    record {
      ends-long = length-map l.ends fit_byte ∙ h.ends-long;
      placements-long = length-map l.placements fit_byte ∙ h.placements-long;
      limits-long = length-map l.limits fit_byte ∙ h.limits-long;
      programs-few = ap (all_of (λ k. leb k pc_most)) e ∙ h.programs-few;
      instructions-long = length-fit_threes l.instructions ∙ h.instructions-long ∙ ap (λ (m : List ℕ). 3 * total m) (sym e);
    }

-- ---- each test

end_ok-fit : (n e : ℕ) → n ≤ 16 → end_ok n (fit_byte e) ≡ end_ok n e
end_ok-fit n e h = λ i. ltb-fit e n (let z : n ≤ 254 = omega arith in z) i || eqb-fit e i

boards-fit : (n a b : ℕ) → n ≤ 16 → (ltb (fit_byte a) n && (ltb (fit_byte b) n && not (eqb (fit_byte a) (fit_byte b)))) ≡ (ltb a n && (ltb b n && not (eqb a b)))
boards-fit n a b h =
    by_lt a 256
    (λ la. by_lt b 256
    (λ lb. λ i. ltb (fit_same a la i) n && (ltb (fit_same b lb i) n && not (eqb (fit_same a la i) (fit_same b lb i))))
    (λ lb. (λ i. ltb (fit_byte a) n && ((ltb-fit b n few ∙ le-ltb b n (omega arith)) i && not (eqb (fit_byte a) (fit_byte b)))) ∙ and_fails (ltb (fit_byte a) n) false refl
    ∙ sym ((λ i. ltb a n && (le-ltb b n (let z : n ≤ b = omega arith in z) i && not (eqb a b))) ∙ and_fails (ltb a n) false refl)))
    (λ la. (λ i. (ltb-fit a n few ∙ le-ltb a n (let z : n ≤ a = omega arith in z)) i && (ltb (fit_byte b) n && not (eqb (fit_byte a) (fit_byte b))))
    ∙ sym (λ i. le-ltb a n (let z : n ≤ a = omega arith in z) i && (ltb b n && not (eqb a b))))
  where
    few : n ≤ 254
    few = omega arith

limit_ok-fit : (x : ℕ) → limit_ok (fit_byte x) ≡ limit_ok x
limit_ok-fit x =
    by_lt x 256
    (λ l. ap limit_ok (fit_same x l))
    (λ l. ap limit_ok (fit_over x l) ∙ sym ((λ i. leb limit_least x && lt-leb x limit_most (let z : limit_most < x = omega arith in z) i) ∙ and_fails (leb limit_least x) false refl))

-- an instruction is judged by the channels alone
instruction_ok-fit : (t t' : Table) → t'.channels ≡ t.channels → (p n : ℕ) (x : Instruction) → instruction_ok t' p n (fit_instruction x) ≡ instruction_ok t p n x
unfolding instruction_ok
instruction_ok-fit t t' e p n (SET a o) = ltb-fit a 4 (omega arith)
instruction_ok-fit t t' e p n (ADD a o) = λ i. ltb-fit a 4 (omega arith) i && ltb o 4
instruction_ok-fit t t' e p n (TAKE a o) =
    λ i. ltb-fit a 4 (omega arith) i && (ltb o (length (e i)) && eqb (get_or (e i) o (record { sender = environment; reader = environment })).reader p)
instruction_ok-fit t t' e p n (FIRST a o) =
    λ i. ltb-fit a 3 (omega arith) i && (leb 1 (bits o 32) && (leb (bits o 32) 4
    && all_below (λ k. not (bit o k) || (ltb k (length (e i)) && eqb (get_or (e i) k (record { sender = environment; reader = environment })).reader p)) 32))
instruction_ok-fit t t' e p n (SEND a o) =
    λ i. ltb-fit a 4 (omega arith) i && (ltb o (length (e i)) && eqb (get_or (e i) o (record { sender = environment; reader = environment })).sender p)
instruction_ok-fit t t' e p n (JUMP a o) = λ i. ltb-fit a 4 (omega arith) i && leb o n
instruction_ok-fit t t' e p n NONE = refl

-- the tests of 5 and of 7 for one channel and one process
abbrev pub pair_test : ℕ → Channel → Bool
pair_test n c = end_ok n c.sender && (end_ok n c.reader && not (eqb c.sender environment && eqb c.reader environment))

abbrev pub board_test : ℕ → Placement → Bool
board_test n x = ltb x.primary n && (ltb x.standby n && not (eqb x.primary x.standby))

abbrev pub limit_test : Placement → Bool
limit_test x = limit_ok x.limit

abbrev program_test : Table → ℕ → Bool
program_test t p = all_of (instruction_ok t p (length (code_of t p))) (code_of t p)

-- an end that passes fits
pub end_fits : (n e : ℕ) → n ≤ 16 → end_ok n e ≡ true → fit_byte e ≡ e
end_fits n e h k = by_lt e 256 (λ l. fit_same e l) (λ l. absurd (no_way (cc (le-ltb e n (let z : n ≤ e = omega arith in z), ne_eqb e environment (λ q. omega arith)))))

fit_channels_same : (n : ℕ) → n ≤ 16 → (cs : List Channel) → all_of (pair_test n) cs ≡ true → map fit_channel cs ≡ cs
fit_channels_same n h [] k = refl
fit_channels_same n h (c ∷ cs) k =
    let here = and_left (pair_test n c) _ k in
    let s = end_fits n c.sender h (and_left (end_ok n c.sender) _ here) in
    let r = end_fits n c.reader h (and_left (end_ok n c.reader) _ (and_right (end_ok n c.sender) _ here)) in
    let later = fit_channels_same n h cs (and_right (pair_test n c) _ k) in
    λ i. record { sender = s i; reader = r i } ∷ later i

pub length-placed_by : (v n : ℕ) (ps ls is : List ℕ) → length (placed_by v n ps ls is) ≡ n
length-placed_by v zero ps ls is = refl
length-placed_by v (suc n) ps ls is = ap suc (length-placed_by v n (drop 3 ps) (drop (limit_bytes v) ls) (drop (3 * get_or ps 2 0) is))

-- two tests that agree, with what follows them where they pass
next : (n : ℕ) (a b : Bool) {x y : ℕ} → a ≡ b → (b ≡ true → x ≡ y) → or_number a n x ≡ or_number b n y
next n a true {x} {y} e f = ap (λ (t : Bool). or_number t n x) e ∙ f refl
next n a false {x} {y} e f = ap (λ (t : Bool). or_number t n x) e

-- ---- all tests

module _ (l : Lists) (f : Fitting l) where
  abbrev told : Table
  told = table_of l

  abbrev told' : Table
  told' = table_of (fitted l)

  whole : Long l
  whole = long l f.lists_ok_lem

  channels-fit : told'.channels ≡ map fit_channel told.channels
  unfolding table_of
  channels-fit = pairs-fit l.channels l.ends

  processes-fit : told'.processes ≡ map fit_placement told.processes
  unfolding table_of
  processes-fit = placed-fit l.version l.processes l.placements l.limits l.instructions whole.programs-few

  same_many : length told'.processes ≡ length told.processes
  same_many = ap length processes-fit ∙ length-map told.processes fit_placement

  few-processes : length told.processes ≤ 16
  unfolding table_of
  few-processes = let n = counts-fit l.boards l.processes l.channels f.counts_ok_lem in let e = length-placed_by l.version l.processes l.placements l.limits l.instructions in omega arith

  ends_ok-fit : ends_ok told' ≡ ends_ok told
  unfolding ends_ok
  ends_ok-fit =
      (λ i. all_of (pair_test (same_many i)) (channels-fit i))
      ∙ all_of-map (pair_test (length told.processes)) (pair_test (length told.processes)) fit_channel
      (λ c. λ i. end_ok-fit (length told.processes) c.sender few-processes i
      && (end_ok-fit (length told.processes) c.reader few-processes i && not (eqb-fit c.sender i && eqb-fit c.reader i)))
      told.channels

  boards_ok-fit : boards_ok told' ≡ boards_ok told
  unfolding boards_ok table_of
  boards_ok-fit =
      let n = counts-fit l.boards l.processes l.channels f.counts_ok_lem in
      (λ i. all_of (board_test l.boards) (processes-fit i))
      ∙ all_of-map (board_test l.boards) (board_test l.boards) fit_placement (λ x. boards-fit l.boards x.primary x.standby n.boards_high) told.processes

  limits_ok-fit : limits_ok told' ≡ limits_ok told
  unfolding limits_ok
  limits_ok-fit =
      (λ i. all_of limit_test (processes-fit i)) ∙ all_of-map limit_test limit_test fit_placement (λ x. limit_ok-fit x.limit) told.processes

  module _ (ends : ends_ok told ≡ true) where
    channels-same : told'.channels ≡ told.channels
    unfolding ends_ok
    channels-same = channels-fit ∙ fit_channels_same (length told.processes) few-processes told.channels ends

    inputs_ok-fit : inputs_ok told' ≡ inputs_ok told
    unfolding inputs_ok inputs
    inputs_ok-fit = λ i. all_below (λ p. leb (length (read_from 0 (channels-same i) p)) ports) (same_many i)

    instructions_ok-fit : instructions_ok told' ≡ instructions_ok told
    unfolding instructions_ok
    instructions_ok-fit =
        ap (all_below (program_test told')) same_many
        ∙ all_same (program_test told') (program_test told) (length told.processes)
        (λ p h.
        let e : code_of told' p ≡ map fit_instruction (code_of told p) =
        ap (λ (xs : List Placement). (get_or xs p nowhere).code) processes-fit
        ∙ ap (λ (x : Placement). x.code) (get_or_map fit_placement told.processes p nowhere nowhere h) in
        (λ i. all_of (instruction_ok told' p (length (e i))) (e i))
        ∙ all_of-map (instruction_ok told' p (length (map fit_instruction (code_of told p)))) (instruction_ok told p (length (code_of told p))) fit_instruction
        (λ x. ap (λ (n : ℕ). instruction_ok told' p n (fit_instruction x)) (length-map (code_of told p) fit_instruction)
        ∙ instruction_ok-fit told told' channels-same p (length (code_of told p)) x)
        (code_of told p))

  table_number-fit : table_number told' ≡ table_number told
  table_number-fit =
      next 5 (ends_ok told') (ends_ok told) ends_ok-fit λ e.
      next 6 (inputs_ok told') (inputs_ok told) (inputs_ok-fit e) λ _.
      next 7 (boards_ok told') (boards_ok told) boards_ok-fit λ _.
      next 8 (instructions_ok told') (instructions_ok told) (instructions_ok-fit e) λ _.
      next 47 (limits_ok told') (limits_ok told) limits_ok-fit λ _. refl

  -- The reader judges the bytes of the fitted lists as the lists are judged.
  pub validate_laid : validate_table (encode (fitted l)) ≡ validate_lists l
  validate_laid =
      let o = long-fitted l whole in
      validate_encode (fitted l) o f.counts_ok_lem f.version_ok_lem ∙ lists_number (fitted l) f.version_ok_lem f.counts_ok_lem (long_ok (fitted l) o) ∙ table_number-fit
      ∙ sym (lists_number l f.version_ok_lem f.counts_ok_lem f.lists_ok_lem)
