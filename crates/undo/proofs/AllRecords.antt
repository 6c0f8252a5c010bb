-- All records of a schedule, as one stretch or as a session: both come to what the rules' session shows.
use mathlib.Core.Path.{◌≡◌, refl, ap, sym, ◌∙◌, subst}
use mathlib.Core.Bool.{false}
use mathlib.Core.List.{List, []}
use Prim.Native.Nat.{ℕ, ◌≤◌}
use native.Mathlib.Omega.{arith}
use Rattle.rules.specs.Table.{Table}
use Rattle.rules.specs.Judge.{Accepted}
use Rattle.rules.specs.Cabinet.{started}
use Rattle.rules.specs.Moves as rules
use Rattle.rules.specs.Moves.{Command, run_from}
use Rattle.rules.specs.Undo.{opened, any_undo}
use Rattle.rules.specs.Schedule.{commands_in, decode_schedule}
use Rattle.rules.proofs.Scheduled.{commands-counted}
use Rattle.rules.proofs.AcceptedRun.{one_answer-each, one_shown-each}
use Rattle.rules.proofs.Undo.{keeps-none, forward_many}
use Rattle.plan.specs.declared.Placement.{Placement}
use Rattle.plan.specs.Plan.{Plan, Planned}
use Rattle.state.specs.declared.entry.Entry.{Entry}
use Rattle.state.specs.declared.store.Store.{Store}
use Rattle.state.specs.Store.{Holds}
use Rattle.outcome.specs.Starts.{Placed, Starts}
use Rattle.stretch.specs.declared.stretch.Stretch.{Stretch}
use Rattle.stretch.specs.Plays.{Sheets, Roomy, Wrote, between, Suited, Played, Plays}
use Rattle.stretch.proofs.Sheets.{wrote_over}
use Rattle.stretch.proofs.Playing.{between-length, between_all}
use Rattle.undo.specs.Sessions.{Shown, Sessions, PlaysAll}

-- ---- the start

pub starts_suited : {l : Plan} {placements : List Placement} {s : Store} {entries : List Entry} → Starts placements l.counts.processes s entries
    → (t : Table) → Accepted t → Planned t l → Placed t placements l.counts.processes → Suited t l (started t) s entries
unfolding run_from
starts_suited h t ok planned placed =
    record { reached = record { accepted = ok; commands = []; is-reached = refl }; planned = planned; holds = h.holds t ok placed }

-- ---- one stretch

-- where no record is a move 8 the session is the cabinet's own run
played-shown : {t : Table} {commands : List Command} {s : Store} {entries : List Entry} {before after : Sheets} → any_undo commands ≡ false
    → Played t (started t) commands s entries before 0 after → Shown t commands s entries before after
unfolding opened
played-shown {t} {commands} {s} {entries} {before} {after} none p =
    let f = forward_many t (started t) 0 (opened t) [] (keeps-none t (started t)) commands none in
    record {
      holds = subst (Holds t s entries) (sym f.1.cabinet-is) p.holds;
      wrote = subst (λ (l : List rules.Answer). Wrote before 0 l after) (sym f.0) p.wrote;
    }

module _ {l : Plan} {schedule : List ℕ} {placements : List Placement} {n : ℕ} {entries : List Entry} {s s' : Store} {before middle : Sheets} {r : Stretch}
    (so_many : n ≡ commands_in schedule) (starts : Starts placements l.counts.processes s entries)
    (p : Plays l schedule (record { from = 0; to = n; entries = entries }) s before r s' middle) where
  -- played to its end
  pub all_played : n ≤ r.from → PlaysAll l schedule placements before s' r.entries middle
  all_played over = record {
    shown = λ t ok planned placed.
        let there = p.there (omega arith) in
        let all : r.from ≡ commands_in schedule = omega arith in
        let whole : between schedule 0 r.from ≡ decode_schedule schedule = ap (between schedule 0) all ∙ between_all schedule in
        subst (λ (c : List Command). Shown t c s' r.entries before middle) whole
        (played-shown p.no_undo (p.played t (started t) (starts_suited starts t ok planned placed)));
  }

  -- or a session on the same start: it writes over what the stretch wrote
  pub then_session : {entries₁ entries₂ : List Entry} {s₁ s₂ : Store} {after : Sheets} → Roomy (commands_in schedule) before
      → Starts placements l.counts.processes s₁ entries₁ → Sessions l schedule s₁ entries₁ middle s₂ entries₂ after
      → PlaysAll l schedule placements before s₂ entries₂ after
  then_session room starts₁ h = record {
    shown = λ t ok planned placed.
        let first = p.played t (started t) (starts_suited starts t ok planned placed) in
        let there = p.there (omega arith) in
        let a = one_answer-each t (started t) (between schedule 0 r.from) in
        let b = between-length schedule 0 r.from there in
        let c = one_shown-each t (opened t) (decode_schedule schedule) in
        let d = commands-counted schedule in
        let x = h.shown t (starts_suited starts₁ t ok planned placed) in
        record { holds = x.holds; wrote = wrote_over first.wrote x.wrote (omega arith) (rw (c, d) room) };
  }
