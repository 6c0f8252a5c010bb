-- Numbers 7 and 47: the pass over the records of a table, and its limits.
use Rattle.std.specs.Prelude.{None, Some, slice_index_or}
use mathlib.Core.Logic.{◌≢◌}
use mathlib.Core.Path.{◌≡◌, refl, ap, ap₂, sym, ◌∙◌, subst₂}
use mathlib.Core.Bool.{Bool, true, false}
use mathlib.Core.List.{List, []}
use Prim.Native.Nat.{ℕ, ◌+◌, ◌-◌, ◌≤◌, ◌<◌}
use native.Mathlib.Omega.{arith}
use native.Mathlib.Nat.{not-suc-le-zero}
use native.Mathlib.Numerals.{add-one}
use lib.Dec.{leb}
use lib.ListN.{length, set, take, drop, length-set}
use lib.Seq.{get_or-set_same, get_or-set_other}
use borrow.Author.Tests.{leb-true, eqb-true}
use Rattle.facts.specs.Tests.{all_below, and_left, and_right, by_eq}
use Rattle.facts.specs.Ranges.{all_same, all_listed}
use Rattle.facts.specs.Lists.{part-rest}
use Rattle.facts.specs.Indexing.{get_or_map}
use Rattle.facts.specs.Walks.{Walked, walk_start, walk_on, walk_fails, walk_end}
use Rattle.rules.specs.Table as rules
use Rattle.rules.specs.Table.{nowhere, placement_at, code_of, limit_of}
use Rattle.rules.specs.Judge.{boards_ok, limit_ok, limits_ok}
use Rattle.rules.specs.Bytes.{byte_at}
use Rattle.rules.specs.Format.{version_in, record_head, limit_said, boards_in, processes_in, length_field, table_most, program_length, records_start, record_bytes, rests, instruction, placement_in, decode_table, length_ok}
use Rattle.rules.proofs.Valid.{length-rests, length-sixes, processes-counted}
use Rattle.plan.specs.Plan.{no_program, no_placement, start_in, length_in, limit_in, arity_in}
use Rattle.plan.specs.declared.Placement.{Placement}
use Rattle.plan.specs.declared.Program.{Program}
use Rattle.table.specs.Records.{record_start, program_start}
use Rattle.table.specs.Plan.{primary_in, standby_in}
use Rattle.table.specs.Parts.{Framed, two_boards, PlacedHere, PlacedIn, PlacementsFound, PlacementsRead, limits_pass}
use Rattle.table.specs.declared.boards.Placed.{Placed}
use Rattle.table.specs.declared.boards.Placements.{Placements}
use Rattle.table.proofs.Programs.{rest-is, starts_within, record_within}

-- ---- the record of each process

-- the table's rest from the record of process p on
abbrev pub record_at : List ℕ → ℕ → List ℕ
record_at bytes p = drop (record_start bytes p) bytes

module _ (bytes : List ℕ) (p : ℕ) (h : p < processes_in bytes) where
  placement_at_lem : placement_at (decode_table bytes) p ≡ placement_in (version_in bytes) (record_at bytes p)
  unfolding decode_table
  placement_at_lem =
      get_or_map (placement_in (version_in bytes)) (rests (version_in bytes) (processes_in bytes) (record_bytes bytes)) p [] _ (rw (length-rests (version_in bytes) (processes_in bytes) (record_bytes bytes)) h)
      ∙ ap (placement_in (version_in bytes)) (rest-is bytes p h)

  length_here : program_length (version_in bytes) (record_at bytes p) ≡ length (code_of (decode_table bytes) p)
  length_here = sym (ap (λ (x : rules.Placement). length x.code) placement_at_lem ∙ length-sixes instruction (program_length (version_in bytes) (record_at bytes p)) (drop (record_head (version_in bytes)) (record_at bytes p)))

-- ---- the test of each record

pub placement_passes : List ℕ → ℕ → Bool
placement_passes bytes p = two_boards (boards_in bytes) (byte_at (record_at bytes p) 0) (byte_at (record_at bytes p) 1)

boards_are : (bytes : List ℕ) → all_below (placement_passes bytes) (processes_in bytes) ≡ boards_ok (decode_table bytes)
unfolding boards_ok placement_passes decode_table
boards_are bytes =
    let t = decode_table bytes in
    let test : rules.Placement → Bool = λ x. two_boards (boards_in bytes) x.primary x.standby in
    all_same (placement_passes bytes) (λ p. test (placement_at t p)) (processes_in bytes) (λ p h. ap test (sym (placement_at_lem bytes p h)))
    ∙ ap (all_below (λ p. test (placement_at t p))) (sym (processes-counted bytes))
    ∙ sym (all_listed test t.processes nowhere)

-- ---- the pass

-- a process with its program and its limit, which reads what it read
abbrev with_program : Program → ℕ → ℕ → ℕ → Program
with_program x start size limit = record { start = start; length = size; limit = limit; arity = x.arity; inputs = x.inputs }

-- what the lists say of p processes
pub record Noted (bytes : List ℕ) (read programs : List Program) (placements : List Placement) (p : ℕ) : Type 0 where
  pub programs-long : length programs ≡ 16
  pub placements-long : length placements ≡ 16
  pub starts : (q : ℕ) → q < p → start_in programs q ≡ program_start bytes q
  pub sizes : (q : ℕ) → q < p → length_in programs q ≡ program_length (version_in bytes) (record_at bytes q)
  pub limits : (q : ℕ) → q < p → limit_in programs q ≡ limit_said (version_in bytes) (byte_at (record_at bytes q) 2)
  pub arities : (q : ℕ) → arity_in programs q ≡ arity_in read q
  pub inputs : (q : ℕ) → (slice_index_or programs q no_program).inputs ≡ (slice_index_or read q no_program).inputs
  pub primaries : (q : ℕ) → q < p → primary_in placements q ≡ byte_at (record_at bytes q) 0
  pub standbys : (q : ℕ) → q < p → standby_in placements q ≡ byte_at (record_at bytes q) 1

noted-none : (bytes : List ℕ) (read : List Program) (placements : List Placement) → length read ≡ 16 → length placements ≡ 16 → Noted bytes read read placements 0
noted-none bytes read placements n a = record {
  programs-long = n;
  placements-long = a;
  starts = λ q h. absurd (not-suc-le-zero h);
  sizes = λ q h. absurd (not-suc-le-zero h);
  limits = λ q h. absurd (not-suc-le-zero h);
  arities = λ q. refl;
  inputs = λ q. refl;
  primaries = λ q h. absurd (not-suc-le-zero h);
  standbys = λ q h. absurd (not-suc-le-zero h);
}

-- p records have passed, the next begins at `at`, and the lists say what those said
pub record Placing (bytes : List ℕ) (read programs : List Program) (placements : List Placement) (at p : ℕ) : Type 0 where
  pub here : at ≡ record_start bytes p
  pub within : at ≤ length bytes
  pub walked : Walked (placement_passes bytes) (processes_in bytes) p
  pub noted : Noted bytes read programs placements p

-- number 1 bounds the table
pub framed_short : (bytes : List ℕ) → length_ok bytes ≡ true → length bytes ≤ 2 + table_most
unfolding length_ok
framed_short bytes h =
    let others = and_right (leb 6 (length bytes)) _ h in
    let a = leb-true (length_field bytes) table_most (and_left (leb (length_field bytes) table_most) _ others) in
    let b = eqb-true (2 + length_field bytes) (length bytes) (and_right (leb (length_field bytes) table_most) _ others) in
    omega arith

module _ (bytes : List ℕ) (read : List Program) (f : Framed bytes) where
  pub placing_start : (placements : List Placement) (at : ℕ) → at ≡ records_start bytes → length read ≡ 16 → length placements ≡ 16
      → Placing bytes read read placements at 0
  placing_start placements at e n a = record {
    here = e;
    within = (let z = starts_within bytes f.extent_ok_lem in omega arith);
    walked = walk_start (placement_passes bytes) (processes_in bytes);
    noted = noted-none bytes read placements n a;
  }

  module _ {programs : List Program} {placements : List Placement} (at p version boards : ℕ) (x : Placing bytes read programs placements at p)
      (h : p < processes_in bytes) (told : version ≡ version_in bytes) (same : boards ≡ boards_in bytes) where
    -- the table's rest that the code lends
    abbrev lent : List ℕ
    lent = take (length bytes - at) (drop at bytes)

    lent-is : lent ≡ record_at bytes p
    lent-is = part-rest bytes at ∙ ap (λ (i : ℕ). drop i bytes) x.here

    boards-are : two_boards boards (byte_at lent 0) (byte_at lent 1) ≡ placement_passes bytes p
    unfolding placement_passes
    boards-are = ap₂ (λ (n : ℕ) (rest : List ℕ). two_boards n (byte_at rest 0) (byte_at rest 1)) same lent-is

    -- its boards are wrong
    pub placing_refused : PlacedIn version boards lent None → PlacementsRead bytes read None
    placing_refused bad = record {
      says = walk_fails (placement_passes bytes) (processes_in bytes) p false h (bad.says ∙ boards-are) refl ∙ boards_are bytes;
      found = tt;
    }

    -- or not
    module _ (r : Placed) (found : PlacedIn version boards lent (Some r)) where
      -- of the record itself
      g : PlacedHere (version_in bytes) (record_at bytes p) r
      g = subst₂ (λ (v : ℕ) (rest : List ℕ). PlacedHere v rest r) told lent-is found.found

      -- it lies within the table
      placing_within : at + r.size ≤ length bytes
      placing_within = let z = (record_within bytes f.extent_ok_lem p h).fits in let e = g.size_is in let y = x.here in omega arith

      pub placing_fits : (at + r.head ≤ 2 + table_most) × (at + r.size ≤ 2 + table_most)
      placing_fits =
          let a = placing_within in let b = g.size_is in let c = framed_short bytes f.length_ok_lem in let d = g.head_is in (omega arith, omega arith)

      abbrev was : Program
      was = slice_index_or programs p no_program

      abbrev now : Program
      now = with_program was (at + r.head) r.n r.limit

      module _ (few : processes_in bytes ≤ 16) where
        program-same : slice_index_or (set programs p now) p no_program ≡ now
        program-same = get_or-set_same programs p now no_program (let z = x.noted.programs-long in omega arith)

        program-other : (q : ℕ) → q ≢ p → slice_index_or (set programs p now) q no_program ≡ slice_index_or programs q no_program
        program-other q e = get_or-set_other programs p q now no_program e

        placement-same : slice_index_or (set placements p r.placement) p no_placement ≡ r.placement
        placement-same = get_or-set_same placements p r.placement no_placement (let z = x.noted.placements-long in omega arith)

        placement-other : (q : ℕ) → q ≢ p → slice_index_or (set placements p r.placement) q no_placement ≡ slice_index_or placements q no_placement
        placement-other q e = get_or-set_other placements p q r.placement no_placement e

        noted_on : Noted bytes read (set programs p now) (set placements p r.placement) (p + 1)
        noted_on = record {
          programs-long = length-set programs p now ∙ n.programs-long;
          placements-long = length-set placements p r.placement ∙ n.placements-long;
          starts = λ q l.
              by_eq q p
              (λ e. rw e (ap (λ (y : Program). y.start) program-same ∙ ap₂ (λ (i m : ℕ). i + m) x.here g.head_is))
              (λ e. ap (λ (y : Program). y.start) (program-other q e) ∙ n.starts q (omega arith));
          sizes = λ q l.
              by_eq q p
              (λ e. rw e (ap (λ (y : Program). y.length) program-same ∙ g.n_is))
              (λ e. ap (λ (y : Program). y.length) (program-other q e) ∙ n.sizes q (omega arith));
          limits = λ q l.
              by_eq q p
              (λ e. rw e (ap (λ (y : Program). y.limit) program-same ∙ g.limit_is))
              (λ e. ap (λ (y : Program). y.limit) (program-other q e) ∙ n.limits q (omega arith));
          arities = λ q.
              by_eq q p
              (λ e. rw e (ap (λ (y : Program). y.arity) program-same ∙ n.arities p))
              (λ e. ap (λ (y : Program). y.arity) (program-other q e) ∙ n.arities q);
          inputs = λ q.
              by_eq q p
              (λ e. rw e (ap (λ (y : Program). y.inputs) program-same ∙ n.inputs p))
              (λ e. ap (λ (y : Program). y.inputs) (program-other q e) ∙ n.inputs q);
          primaries = λ q l.
              by_eq q p
              (λ e. rw e (ap (λ (y : Placement). y.primary) placement-same ∙ g.primary-is))
              (λ e. ap (λ (y : Placement). y.primary) (placement-other q e) ∙ n.primaries q (omega arith));
          standbys = λ q l.
              by_eq q p
              (λ e. rw e (ap (λ (y : Placement). y.standby) placement-same ∙ g.standby-is))
              (λ e. ap (λ (y : Placement). y.standby) (placement-other q e) ∙ n.standbys q (omega arith));
        }
          where
            n : Noted bytes read programs placements p
            n = x.noted

        pub placing_on : Placing bytes read (set programs p now) (set placements p r.placement) (at + r.size) (p + 1)
        placing_on = record {
          here = rw (add-one p) (ap₂ (λ (i n : ℕ). i + n) x.here g.size_is);
          within = placing_within;
          walked = walk_on (placement_passes bytes) (processes_in bytes) p true x.walked h (found.says ∙ boards-are) refl;
          noted = noted_on;
        }

  pub placing_end : (at p : ℕ) (r : Placements) → Placing bytes read r.programs r.placements at p → processes_in bytes ≤ p → PlacementsRead bytes read (Some r)
  placing_end at p r x h =
      let n = x.noted in
      record {
        says = walk_end (placement_passes bytes) (processes_in bytes) p x.walked h ∙ boards_are bytes;
        found = record {
          start_at = λ i l. n.starts i (omega arith);
          length_at = λ i l. n.sizes i (omega arith) ∙ length_here bytes i l;
          limit_at = λ i l. n.limits i (omega arith) ∙ sym (ap (λ (y : rules.Placement). y.limit) (placement_at_lem bytes i l));
          arity_kept = n.arities;
          inputs_kept = n.inputs;
          primary_at = λ i l. n.primaries i (omega arith) ∙ sym (ap (λ (y : rules.Placement). y.primary) (placement_at_lem bytes i l));
          standby_at = λ i l. n.standbys i (omega arith) ∙ sym (ap (λ (y : rules.Placement). y.standby) (placement_at_lem bytes i l));
        };
      }

-- ---- number 47

-- the limits that were found are judged as those of the table
pub limits_are : (bytes : List ℕ) (read : List Program) (b : Placements) (n : ℕ) → PlacementsFound bytes read b → n ≡ processes_in bytes
    → limits_pass b.programs n ≡ limits_ok (decode_table bytes)
unfolding limits_pass limits_ok
limits_are bytes read b n found e =
    let t = decode_table bytes in
    ap (limits_pass b.programs) e
    ∙ all_same (λ p. limit_ok (limit_in b.programs p)) (λ p. limit_ok (limit_of t p)) (processes_in bytes) (λ p h. ap limit_ok (found.limit_at p h))
    ∙ ap (all_below (λ p. limit_ok (limit_of t p))) (sym (processes-counted bytes))
    ∙ sym (all_listed (λ (x : rules.Placement). limit_ok x.limit) t.processes nowhere)
