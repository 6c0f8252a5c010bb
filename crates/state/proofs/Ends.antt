-- The ends of an accepted table's channels: a sender or reader that is not the outside is a process of the table (document 01: "a process
-- number, or 255 for the outside").
use Rattle.std.proofs.Common.{◌≡◌, ℕ, ◌<◌, Bool, true, false, cond, not, ◌&&◌, ◌||◌, eqb, ltb, ◌≢◌, length, sym, refl, ap, ◌∙◌, arith, ltb-true, eq-eqb, eqb-true}
use Rattle.facts.specs.Tests.{no_way, and_left, and_right, by_lt}
use Rattle.facts.specs.Indexing.{all_of_lem}
use Rattle.rules.specs.Table.{environment, Channel, Table, channel_at}
use Rattle.rules.specs.Judge.{end_ok, ends_ok, Accepted}
use Rattle.rules.proofs.Tables.{reader_past, sender_past}

true-not-false : true ≡ false → ⊥
true-not-false e = no_way (ap (λ (b : Bool). cond b 0 1) e)

end-inside : (n e : ℕ) → end_ok n e ≡ true → e ≢ environment → e < n
end-inside n e h f = go (ltb e n) refl h
  where
    go : (a : Bool) → ltb e n ≡ a → (a || eqb e environment) ≡ true → e < n
    go true g k = ltb-true e n g
    go false g k = absurd (f (eqb-true e environment k))

module _ {t : Table} (ok : Accepted t) where
  -- the outside is no process
  pub small : length t.processes < environment
  small = let a = ok.processes_high in omega arith

  pub not-outside : (p : ℕ) → p < length t.processes → p ≢ environment
  not-outside p l e = let a = small in absurd (omega arith)

  ends_at : (k : ℕ) → k < length t.channels
      → (end_ok (length t.processes) (channel_at t k).sender
      && (end_ok (length t.processes) (channel_at t k).reader && not (eqb (channel_at t k).sender environment && eqb (channel_at t k).reader environment))) ≡ true
  unfolding ends_ok
  ends_at k l =
      all_of_lem (λ (c : Channel). end_ok (length t.processes) c.sender
      && (end_ok (length t.processes) c.reader && not (eqb c.sender environment && eqb c.reader environment))) t.channels ok.ends k
      (record { sender = environment; reader = environment }) l

  -- an end that is not the outside is a process
  pub sender-inside : (k : ℕ) → k < length t.channels → (channel_at t k).sender ≢ environment → (channel_at t k).sender < length t.processes
  sender-inside k l = end-inside (length t.processes) (channel_at t k).sender (and_left (end_ok (length t.processes) (channel_at t k).sender) _ (ends_at k l))

  pub reader-inside : (k : ℕ) → k < length t.channels → (channel_at t k).reader ≢ environment → (channel_at t k).reader < length t.processes
  reader-inside k l =
      end-inside (length t.processes) (channel_at t k).reader
      (and_left (end_ok (length t.processes) (channel_at t k).reader) _ (and_right (end_ok (length t.processes) (channel_at t k).sender) _ (ends_at k l)))

  -- "never both 255": a channel that is fed from outside is read by a process
  pub fed-inside : (k : ℕ) → k < length t.channels → (channel_at t k).sender ≡ environment → (channel_at t k).reader < length t.processes
  fed-inside k l e =
      reader-inside k l (λ f.
      let a = and_right (end_ok (length t.processes) (channel_at t k).reader) _ (and_right (end_ok (length t.processes) (channel_at t k).sender) _ (ends_at k l)) in
      let b : not (eqb (channel_at t k).sender environment && eqb (channel_at t k).reader environment) ≡ false = rw (eq-eqb (channel_at t k).sender environment e, eq-eqb (channel_at t k).reader environment f) in
      true-not-false (sym a ∙ b))

  -- a channel that has a process at one end is one of the table
  pub read_inside : (k : ℕ) → (channel_at t k).reader < length t.processes → k < length t.channels
  read_inside k l = by_lt k (length t.channels) (λ h. h) (λ h. absurd (not-outside (channel_at t k).reader l (reader_past t k h)))

  pub sent-inside : (k : ℕ) → (channel_at t k).sender < length t.processes → k < length t.channels
  sent-inside k l = by_lt k (length t.channels) (λ h. h) (λ h. absurd (not-outside (channel_at t k).sender l (sender_past t k h)))
