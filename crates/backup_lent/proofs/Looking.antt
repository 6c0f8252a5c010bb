-- A look through a log: what is true between two of its rounds.
use mathlib.Core.Path.{◌≡◌, refl, ap, sym, ◌∙◌}
use mathlib.Core.Bool.{Bool, true, false}
use mathlib.Core.List.{List, [], ◌∷◌, ◌++◌, map, map-append}
use Prim.Native.Nat.{ℕ, zero, suc, ◌+◌, ◌≤◌, ◌<◌}
use native.Mathlib.Omega.{arith}
use native.Mathlib.Numerals.{add-one}
use lib.Dec.{ltb}
use lib.ListN.{length, get_or, set, length-set}
use lib.Seq.{get_or-set_same, get_or-set_other}
use borrow.Author.Tests.{ltb-true, lt-ltb}
use Rattle.facts.specs.Tests.{all_at, all_append, and_both, by_eq}
use Rattle.facts.specs.Counts.{same_yes, same_no}
use Rattle.facts.specs.Lists.{prefix, prefix-more}
use Rattle.backup.specs.Limits.{ports}
use Rattle.backup.specs.Replica.{Message, on_ports, saved_on}
use Rattle.backup.specs.Laws.{saved_append, saved_cons}
use Rattle.backup.specs.Place.{port_in, unpack, messages}
use Rattle.backup_lent.specs.Steps.{Tallied}
use Rattle.backup.proofs.InPlace.{saved-few}
use Rattle.backup.proofs.Compacting.{messages-length, message_at_lem}

-- i of len messages have been looked at: each is on a port, and n says how many are on each
pub record Looked (log : List ℕ) (len : ℕ) (n : List ℕ) (i : ℕ) : Type 0 where
  pub looked : i ≤ len
  pub four : length n ≡ 4
  pub on_ports_lem : on_ports (messages i log) ≡ true
  pub tallies : (p : ℕ) → p < ports → get_or n p 0 ≡ saved_on p (messages i log)

pub looked_few : {log n : List ℕ} {len i : ℕ} → Looked log len n i → (p : ℕ) → p < ports → get_or n p 0 ≤ i
looked_few {log} {i = i} h p l =
    let a = h.tallies p l in let b = saved-few p (messages i log) in let c = messages-length i log in omega arith

pub looked_start : (log : List ℕ) (len : ℕ) → Looked log len (0 ∷ 0 ∷ 0 ∷ 0 ∷ []) 0
looked_start log len = record { looked = omega arith; four = refl; on_ports_lem = refl; tallies = zeros }
  where
    zeros : (p : ℕ) → p < ports → ◌≡◌ {A = ℕ} (get_or (0 ∷ 0 ∷ 0 ∷ 0 ∷ []) p 0) 0
    zeros zero h = refl
    zeros (suc zero) h = refl
    zeros (suc (suc zero)) h = refl
    zeros (suc (suc (suc zero))) h = refl
    zeros (suc (suc (suc (suc p)))) h = absurd (omega arith)

one_longer : (log : List ℕ) (i : ℕ) → messages (i + 1) log ≡ messages i log ++ (unpack (get_or log i 0) ∷ [])
one_longer log i = rw add-one (ap (map unpack) (prefix-more i log) ∙ map-append unpack (prefix i log) (get_or log i 0 ∷ []))

pub looked_on : (log : List ℕ) (len : ℕ) (n : List ℕ) (i q : ℕ) → Looked log len n i → i < len → q ≡ port_in (get_or log i 0) → q < ports
    → Looked log len (set n q (get_or n q 0 + 1)) (i + 1)
looked_on log len n i q h l e g =
    let m : Message = unpack (get_or log i 0) in
    record {
      looked = omega arith;
      four = length-set n q (get_or n q 0 + 1) ∙ h.four;
      on_ports_lem = rw (one_longer log i)
          (all_append (λ (x : Message). ltb x.port ports) (messages i log) (m ∷ []) h.on_ports_lem (and_both (ltb m.port ports) true (rw (← e) (lt-ltb q ports g)) refl));
      tallies = λ p k.
          let a = h.tallies p k in
          let b : saved_on p (messages (i + 1) log) ≡ saved_on p (messages i log) + saved_on p (m ∷ []) =
          ap (saved_on p) (one_longer log i) ∙ saved_append p (messages i log) (m ∷ []) in
          let c = saved_cons p m [] in
          by_eq p q
          (λ f. let o = same_yes p m.port (f ∙ e) in
          let d : get_or (set n q (get_or n q 0 + 1)) p 0 ≡ get_or n p 0 + 1 = rw f (get_or-set_same n q (get_or n q 0 + 1) 0 (let z = h.four in omega arith)) in
          omega arith)
          (λ f. let o = same_no p m.port (λ z. f (z ∙ sym e)) in let d = get_or-set_other n q p (get_or n q 0 + 1) 0 f in omega arith);
    }

-- one that is on no port
pub census_none : (log : List ℕ) (len i q : ℕ) → i < len → q ≡ port_in (get_or log i 0) → ports ≤ q → on_ports (messages len log) ≡ false
census_none log len i q l e g = go (on_ports (messages len log)) refl
  where
    go : (b : Bool) → on_ports (messages len log) ≡ b → on_ports (messages len log) ≡ false
    go false h = h
    go true h =
        let a : (get_or (messages len log) i (unpack 0)).port < ports =
        ltb-true _ ports (all_at (λ (x : Message). ltb x.port ports) (messages len log) i (unpack 0) h (rw (messages-length len log) l)) in
        let b : (get_or (messages len log) i (unpack 0)).port ≡ port_in (get_or log i 0) = ap (λ (x : Message). x.port) (message_at_lem len log i l) in
        absurd (omega arith)

-- all of them
pub census_some : (log : List ℕ) (len : ℕ) (n : List ℕ) → Looked log len n len → Tallied log len n
census_some log len n h = record { on_ports_lem = h.on_ports_lem; four = h.four; tallies = h.tallies }
