-- Why records that are held come to the same once more.
use mathlib.Core.Path.{◌≡◌, ap, sym, ◌∙◌, subst}
use mathlib.Core.Bool.{false}
use mathlib.Core.List.{List, [], ◌∷◌, ◌++◌}
use Prim.Native.Nat.{ℕ, zero, suc, ◌-◌, ◌≤◌, ◌<◌}
use native.Mathlib.Omega.{arith}
use lib.ListN.{length, get_or, take}
use Rattle.facts.specs.Tests.{no_way, by_lt, or_left, or_right}
use Rattle.rules.specs.Sizes.{kept_most}
use Rattle.rules.specs.Moves.{Command, run_from}
use Rattle.rules.specs.Undo.{is_undo, any_undo}
use Rattle.rules.specs.Schedule.{command, commands_in, decode_schedule}
use Rattle.plan.specs.Plan.{Plan}
use Rattle.state.specs.declared.entry.Entry.{Entry}
use Rattle.state.specs.declared.store.Store.{Store}
use Rattle.state.specs.Store.{Holds}
use Rattle.stretch.specs.declared.stretch.Stretch.{Stretch}
use Rattle.stretch.specs.Plays.{Sheets, between, Plays}
use Rattle.rules.proofs.Scheduled.{commands-counted}
use Rattle.stretch.proofs.Playing.{between-parts}
use Rattle.undo.specs.History.{held_most, history_length, held_in, Remembers}
use Rattle.undo.specs.Replays.{Replays, Follows}
use Rattle.undo.proofs.Remembering.{whole_history}

-- none of the first n records is a move 8
none_at : (l : List Command) (n k : ℕ) (d : Command) → any_undo (take n l) ≡ false → k < n → k < length l → is_undo (get_or l k d) ≡ false
none_at l zero k d h a b = absurd (omega arith)
none_at [] (suc n) k d h a b = absurd (omega arith)
none_at (r ∷ l) (suc n) zero d h a b = or_left (is_undo r) (any_undo (take n l)) h
none_at (r ∷ l) (suc n) (suc k) d h a b = none_at l n k d (or_right (is_undo r) (any_undo (take n l)) h) (omega arith) (omega arith)

module _ {l : Plan} {history : List ℕ} {n : ℕ} {entries : List Entry} {s s' : Store} {before after : Sheets} {r : Stretch}
    (p : Plays l history (record { from = 0; to = n; entries = entries }) s before r s' after) where
  -- all of them are done
  to_the_end : n ≤ commands_in history → any_undo (held_in history n) ≡ false → r.from ≡ n
  to_the_end many none =
      by_lt r.from n
      (λ low.
      let a = p.ended low (omega arith) in
      let b = none_at (decode_schedule history) n r.from (command 0 0 0) none low (let e = commands-counted history in omega arith) in
      absurd (no_way (cc)))
      (λ high. let a = p.inside (omega arith) in omega arith)

  pub replays : Replays l history n s entries s' r.entries
  replays = record {
    replayed = λ t c u many none.
        let all : n - 0 ≡ n = omega arith in
        let h = subst (λ (j : ℕ). Holds t s' r.entries (run_from t c (between history 0 j)).cabinet) (to_the_end many none) (p.played t c u).holds in
        subst (λ (j : ℕ). Holds t s' r.entries (run_from t c (take j (decode_schedule history))).cabinet) all h;
  }

-- ---- the base follows

pub follows : {l : Plan} {history history' : List ℕ} {entries entries' : List Entry} {s s' : Store} → length history ≡ history_length
    → Replays l history kept_most s entries s' entries' → Remembers history kept_most held_most history 0 history'
    → Follows l history s entries history' s' entries'
follows {history = history} whole p m = record {
  same_length = m.same_length ∙ whole;
  in_two =
      between-parts history 0 kept_most held_most (omega arith) (omega arith)
      ∙ ap (λ (x : List Command). held_in history kept_most ++ x) (sym (m.held-is whole));
  followed = λ t c u none. p.replayed t c u (let a = whole_history history whole in omega arith) none;
}
