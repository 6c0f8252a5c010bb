-- The decoder: the numbers in order, and the plan of a table that all of them pass.
use Rattle.std.specs.Prelude.{Ok, Err}
use mathlib.Core.Path.{◌≡◌, refl, ap, sym, ◌∙◌}
use mathlib.Core.Bool.{Bool, true, false}
use mathlib.Core.List.{List}
use Prim.Native.Nat.{ℕ, ◌<◌}
use native.Mathlib.Omega.{arith}
use lib.ListN.{length, get_or}
use Rattle.numbers.specs.Runs.{number_of, refuses}
use Rattle.numbers.specs.declared.runs.Refusal.{Refusal}
use Rattle.rules.specs.Judge.{ends_ok, inputs_ok, boards_ok, instructions_ok, limits_ok}
use Rattle.rules.specs.Format.{version_in, version_ok, processes_in, channels_in, decode_table, or_number, length_ok, counts_ok, extent_ok, table_number, validate_table}
use Rattle.rules.proofs.Valid.{processes-counted, channels-counted}
use Rattle.records.specs.Fetch.{fetched, instruction_of}
use Rattle.plan.specs.Plan.{plan_of, Planned}
use Rattle.plan.specs.declared.Counts.{Counts}
use Rattle.plan.specs.declared.Plan as code
use Rattle.table.specs.Parts.{counts_in, framing, Framed, PortsFound, PlacementsFound}
use Rattle.table.specs.Plan.{Decodes}
use Rattle.table.specs.declared.ends.Ports.{Ports}
use Rattle.table.specs.declared.boards.Placements.{Placements}
use Rattle.table.proofs.Programs.{fetched-code}

-- ---- the numbers in order

-- four tests, and what is looked at further
abbrev four : Bool → Bool → Bool → Bool → ℕ → ℕ
four a b c d further = or_number a 1 (or_number b 2 (or_number c 3 (or_number d 4 further)))

four_stop : (a b c d : Bool) (further : ℕ) → (four a b c d 0 ≡ 0 → ⊥) → four a b c d further ≡ four a b c d 0
four_stop false b c d further h = refl
four_stop true false c d further h = refl
four_stop true true false d further h = refl
four_stop true true true false further h = refl
four_stop true true true true further h = absurd (h refl)

four-go : (a b c d : Bool) (further : ℕ) → four a b c d 0 ≡ 0 → (a ≡ true) × (c ≡ true) × (d ≡ true) × (four a b c d further ≡ further)
four-go false b c d further h = absurd (omega arith)
four-go true false c d further h = absurd (omega arith)
four-go true true false d further h = absurd (omega arith)
four-go true true true false further h = absurd (omega arith)
four-go true true true true further h = (refl, refl, refl, refl)

-- numbers 5 to 8 and 47 in order
pub judging : List ℕ → ℕ
judging bytes = table_number (decode_table bytes)

judging_from : (bytes : List ℕ) {a b c d e : Bool} → a ≡ ends_ok (decode_table bytes) → b ≡ inputs_ok (decode_table bytes) → c ≡ boards_ok (decode_table bytes)
    → d ≡ instructions_ok (decode_table bytes) → e ≡ limits_ok (decode_table bytes)
    → or_number a 5 (or_number b 6 (or_number c 7 (or_number d 8 (or_number e 47 0)))) ≡ judging bytes
unfolding judging
judging_from bytes ha hb hc hd he = rw (ha, hb, hc, hd, he)

module _ (bytes : List ℕ) where
  pub framing_refuses : (framing bytes ≡ 0 → ⊥) → validate_table bytes ≡ framing bytes
  unfolding framing validate_table judging
  framing_refuses h = four_stop (length_ok bytes) (version_ok (version_in bytes)) (counts_ok bytes) (extent_ok bytes) (judging bytes) h

  -- numbers 1 to 4 pass
  pub record Further : Type 0 where
    pub framed : Framed bytes
    pub further : validate_table bytes ≡ judging bytes

  pub framing-passes : framing bytes ≡ 0 → Further
  unfolding framing validate_table judging
  framing-passes h =
      let r = four-go (length_ok bytes) (version_ok (version_in bytes)) (counts_ok bytes) (extent_ok bytes) (judging bytes) h in
      record { framed = record { length_ok_lem = r.0; counts_ok_lem = r.1; extent_ok_lem = r.2 }; further = r.3 }

  -- and then the tests of the others decide
  pub number_from : framing bytes ≡ 0 → {a b c d e : Bool} → a ≡ ends_ok (decode_table bytes) → b ≡ inputs_ok (decode_table bytes) → c ≡ boards_ok (decode_table bytes)
      → d ≡ instructions_ok (decode_table bytes) → e ≡ limits_ok (decode_table bytes)
      → validate_table bytes ≡ or_number a 5 (or_number b 6 (or_number c 7 (or_number d 8 (or_number e 47 0))))
  number_from h ha hb hc hd he = (framing-passes h).further ∙ sym (judging_from bytes ha hb hc hd he)

  -- ---- a table refused

  pub decodes_refused : (r : Refusal) → validate_table bytes ≡ number_of r → Decodes bytes (Err r)
  decodes_refused r v = record { number_is = sym v; accepted = tt }

  -- by numbers 1 to 4
  pub decodes_unframed : (r : Refusal) → number_of r ≡ framing bytes → Decodes bytes (Err r)
  decodes_unframed r e = decodes_refused r (framing_refuses (λ z. refuses r (e ∙ z)) ∙ sym e)

  -- ---- a table accepted

  module _ (w : Ports) (b : Placements) (read : PortsFound bytes w) (placed : PlacementsFound bytes w.programs b) (extent : extent_ok bytes ≡ true) where
    process : {p : ℕ} → p < length (decode_table bytes).processes → p < processes_in bytes
    process h = let z = processes-counted bytes in omega arith

    channel : {k : ℕ} → k < length (decode_table bytes).channels → k < channels_in bytes
    channel h = let z = channels-counted bytes in omega arith

    -- the plan with these counts
    abbrev plan_from : Counts → code.Plan
    plan_from counts = record { counts = counts; programs = b.programs; wires = w.wires }

    planned : Planned (decode_table bytes) (plan_of bytes (plan_from (counts_in bytes)))
    unfolding decode_table
    planned = record {
      boards-is = refl;
      processes-is = sym (processes-counted bytes);
      channels-is = sym (channels-counted bytes);
      code_at = λ p h k l.
          ap (λ (at : ℕ). instruction_of (fetched bytes at k)) (placed.start_at p (process h)) ∙ fetched-code bytes extent p (process h) k l;
      length_at = λ p h. placed.length_at p (process h);
      limit_at = λ p h. placed.limit_at p (process h);
      arity_at = λ p h. placed.arity_kept p ∙ read.arity_at p (process h);
      input_at_lem = λ p h s l. ap (λ (inputs : List ℕ). get_or inputs s 0) (placed.inputs_kept p) ∙ read.input_at_lem p (process h) s l;
      sender_at = λ k h. read.sender_at k (channel h);
      reader_at = λ k h. read.reader_at k (channel h);
      port_at = λ k h l. read.port_at k (channel h) (process l);
    }

    pub decodes_accepted : (counts : Counts) → validate_table bytes ≡ 0 → counts ≡ counts_in bytes
        → Decodes bytes (Ok (record { plan = plan_from counts; placements = b.placements }))
    decodes_accepted counts v e =
        rw e
        (record {
          number_is = sym v;
          accepted = record {
            planned = planned;
            primary_at = λ p h. placed.primary_at p (process h);
            standby_at = λ p h. placed.standby_at p (process h);
          };
        })
