-- What every call in place has in common: a refusal, an acceptance, and the parts of a sound backup. Then the count.
use Rattle.std.proofs.Common.{◌≡◌, ℕ, suc, ◌+◌, ◌%◌, ◌^◌, ◌<◌, ◌≤◌, Bool, true, false, cond, eqb, List, [], ◌∷◌, length, get_or, set, sym, refl, ap, ◌∙◌, arith, get_or-set_same, le-leb}
use lib.ListN.{length-map}
use borrow.Author.Tests.{lt-leb}
use Rattle.facts.specs.Lists.{prefix, length-prefix}
use Rattle.facts.specs.Counts.{same}
use Rattle.backup.specs.Limits.{log_most, ports, sent_most}
use Rattle.backup.specs.Replica.{Message, Replica, Reply, fit, saved_on, count, count_number, counted}
use Rattle.backup.specs.Laws.{saved_cons}
use Rattle.backup.specs.Accepts.{count-accepted, counted-fit}
use Rattle.backup.specs.Place.{unpack, view_in, tally_in, Sound, SameBehind, Called, count_number_in}
use Rattle.backup.specs.declared.place.Head.{Head}
use Rattle.numbers.specs.Backup.{number_of}
use Rattle.numbers.specs.declared.backup.BackupRefusal.{BackupRefusal}
use Rattle.numbers.specs.declared.backup.BackupRefusal.TheVariants.{Unfit, Bad, Full, Taken, Count}

-- no refusal's number is 0
pub some-number : (r : BackupRefusal) → number_of r ≡ 0 → ⊥
some-number Unfit e = omega arith
some-number Bad e = omega arith
some-number Full e = omega arith
some-number Taken e = omega arith
some-number Count e = omega arith

-- a refused call: log and head stay, and the definition gives this number
pub refused_so : (log : List ℕ) (head : Head) (number : ℕ) (call : Replica → Reply)
    → (Sound log head → call (view_in log head) ≡ record { number = number; replica = view_in log head }) → Called log head log head number call
refused_so log head number call h = record {
  untouched = λ _. (refl, refl);
  number_is = λ s. ap (λ (r : Reply). r.number) (sym (h s));
  value_is = λ s. ap (λ (r : Reply). r.replica) (sym (h s));
  sound_again = λ s. s;
  same-behind = λ s i a b. refl;
}

-- what an accepted call leaves: the new value in log and head, fit, with true tallies
pub record Left (log' : List ℕ) (head' : Head) (new : Replica) : Type 0 where
  pub log-length : length log' ≡ log_most
  pub saved-length : length head'.saved ≡ ports
  pub view : view_in log' head' ≡ new
  pub is-fit : fit new ≡ true
  pub tallies : (p : ℕ) → p < ports → tally_in head' p ≡ saved_on p new.log

pub left_sound : {log' : List ℕ} {head' : Head} {new : Replica} → Left log' head' new → Sound log' head'
left_sound h = record {
  log-length = h.log-length;
  saved-length = h.saved-length;
  is-fit = ap fit h.view ∙ h.is-fit;
  tallies = λ p l. h.tallies p l ∙ ap (λ (r : Replica). saved_on p r.log) (sym h.view);
}

-- an accepted call: the definition gives 0 and the value that is left
pub accepted_so : (log : List ℕ) (head : Head) (log' : List ℕ) (head' : Head) (call : Replica → Reply) (new : Replica)
    → (Sound log head → call (view_in log head) ≡ record { number = 0; replica = new }) → (Sound log head → Left log' head' new)
    → (Sound log head → SameBehind log head.len log' head'.len) → Called log head log' head' 0 call
accepted_so log head log' head' call new h l k = record {
  untouched = λ n. absurd (n refl);
  number_is = λ s. ap (λ (r : Reply). r.number) (sym (h s));
  value_is = λ s. (l s).view ∙ ap (λ (r : Reply). r.replica) (sym (h s));
  sound_again = λ s. left_sound (l s);
  same-behind = k;
}

-- two values with the same parts
pub same-replica : {l k : List Message} {s t p q : ℕ} {r u : List ℕ} → l ≡ k → s ≡ t → p ≡ q → r ≡ u
    → ◌≡◌ {A = Replica} (record { log = l; sent = s; pc = p; registers = r }) (record { log = k; sent = t; pc = q; registers = u })
same-replica a b c d = λ i. record { log = a i; sent = b i; pc = c i; registers = d i }

-- the view's log has as many messages as the head says
pub view-length : (log : List ℕ) (head : Head) → length (view_in log head).log ≡ head.len
unfolding view_in
view-length log head = length-map (prefix head.len log) unpack ∙ length-prefix head.len log

one_few : (p q : ℕ) → same p q ≤ 1
one_few p q = go (eqb p q)
  where
    go : (b : Bool) → cond b 1 0 ≤ 1
    go true = omega arith
    go false = omega arith

pub saved-few : (p : ℕ) (l : List Message) → saved_on p l ≤ length l
saved-few p [] = omega arith
saved-few p (m ∷ l) = let a = saved_cons p m l in let b = saved-few p l in let c = one_few p m.port in omega arith

-- ---- a tally goes up by one

abbrev pub bumped : List ℕ → ℕ → List ℕ
bumped saved p = set saved p ((get_or saved p 0 + 1) % 2 ^ 32)

pub bumped-same : (saved : List ℕ) (p : ℕ) → p < length saved → get_or saved p 0 < 1000 → get_or (bumped saved p) p 0 ≡ suc (get_or saved p 0)
bumped-same saved p h l = get_or-set_same saved p ((get_or saved p 0 + 1) % 2 ^ 32) 0 h ∙ omega arith

-- ---- count

-- one more in the count
abbrev pub counted_head : Head → Head
counted_head head = record head { sent = head.sent + 1 }

module _ (log : List ℕ) (head : Head) where
  pub count_24 : sent_most ≤ head.sent → Called log head log head 24 count
  unfolding count count_number view_in
  count_24 h = refused_so log head 24 count (λ s. rw (s.is-fit, le-leb sent_most head.sent h))

  view-counted : view_in log (counted_head head) ≡ counted (view_in log head)
  unfolding view_in
  view-counted = same-replica refl (omega arith) refl refl

  pub count-done : head.sent < sent_most → Called log head log (counted_head head) 0 count
  unfolding view_in
  count-done h =
      accepted_so log head log (counted_head head) count (counted (view_in log head))
      (λ s. count-accepted (view_in log head) s.is-fit h)
      (λ s. record {
        log-length = s.log-length;
        saved-length = s.saved-length;
        view = view-counted;
        is-fit = counted-fit (view_in log head) s.is-fit h;
        tallies = s.tallies;
      })
      (λ s i a b. refl)

-- its number, of any head
pub count-number_24 : (head : Head) → sent_most ≤ head.sent → 24 ≡ count_number_in head
count-number_24 head h = rw (le-leb sent_most head.sent h)

pub count-number_0 : (head : Head) → head.sent < sent_most → 0 ≡ count_number_in head
count-number_0 head h = rw (lt-leb sent_most head.sent h)
