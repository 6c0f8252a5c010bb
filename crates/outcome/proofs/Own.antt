-- What the calls at the end of a run promise of the plan and the store that they are lent. Its namesake says it of every plan and store that differ
-- from these only where the call doesn't look.
use Rattle.std.proofs.Common.{◌≡◌, ℕ, ◌*◌, ◌≤◌, Bool, List, length, sym, subst}
use Rattle.facts.specs.Tests.{all_below}
use Rattle.facts.specs.Walks.{Walked}
use Rattle.plan.specs.declared.Plan.{Plan}
use Rattle.plan.specs.Plan.{plan_of, Planned}
use Rattle.rules.specs.Table.{Table}
use Rattle.rules.specs.Cabinet.{Cabinet, quiescent}
use Rattle.rules.specs.Bytes.{all_bytes, written}
use Rattle.rules.specs.Run.{report_bytes}
use Rattle.state.specs.declared.entry.Entry.{Entry}
use Rattle.state.specs.declared.store.Store.{Store}
use Rattle.state.specs.Store.{Holds, lists_at}
use Rattle.state.specs.Moved.{Reachable}
use Rattle.outcome.specs.Quiets.{rests_in, Hosts, AllRest}
use Rattle.outcome.proofs.Beside.{its_backups}

-- the report
pub record ReportsOwn (s : Store) (processes : ℕ) (report report' : List ℕ) : Type 0 where
  pub reported : (t : Table) (entries : List Entry) (c : Cabinet) → Reachable t c → Holds t s entries c → processes ≡ length t.processes
      → 20 * processes ≤ length report → report' ≡ written (all_bytes report_bytes c.processes) report
  pub same_length : length report' ≡ length report

-- ---- quiet

-- a cabinet of table t that the store holds
pub record HostsOwn (table : List ℕ) (plan : Plan) (s : Store) (entries : List Entry) (t : Table) (c : Cabinet) : Type 0 where
  pub reach : Reachable t c
  pub planned : Planned t (plan_of table plan)
  pub holds : Holds t s entries c

pub hosts_own : {table : List ℕ} {plan : Plan} {s : Store} {entries : List Entry} {t : Table} {c : Cabinet} → HostsOwn table plan s entries t c
    → Hosts table plan s t c
hosts_own {plan = plan} {s = s} {entries = entries} {t = t} {c = c} x = record {
  counts = plan.counts;
  wires = plan.wires;
  others = lists_at s;
  queues = s.queues;
  totals = s.totals;
  entries = entries;
  reach = x.reach;
  planned = x.planned;
  processes-is = x.planned.processes-is;
  holds = subst (λ (y : Store). Holds t y entries c) (sym (its_backups s)) x.holds;
}

-- of such a cabinet the first p processes rest,
pub record RestingOwn (table : List ℕ) (plan : Plan) (s : Store) (p : ℕ) : Type 0 where
  pub walked : (t : Table) (entries : List Entry) (c : Cabinet) → HostsOwn table plan s entries t c → Walked (rests_in t c) (length t.processes) p

-- and whether all do
pub record AllRestOwn (table : List ℕ) (plan : Plan) (s : Store) (r : Bool) : Type 0 where
  pub answers : (t : Table) (entries : List Entry) (c : Cabinet) → HostsOwn table plan s entries t c → r ≡ all_below (rests_in t c) (length t.processes)

pub all_rest_own : {table : List ℕ} {plan : Plan} {s : Store} {r : Bool} → AllRest table plan s r → AllRestOwn table plan s r
all_rest_own rest = record { answers = λ t entries c x. rest.answers t c (hosts_own x) }

-- whether a cabinet that the store holds is quiet
pub record QuietsOwn (table : List ℕ) (plan : Plan) (s : Store) (r : Bool) : Type 0 where
  pub answers : (t : Table) (entries : List Entry) (c : Cabinet) → Reachable t c → Planned t (plan_of table plan) → Holds t s entries c → r ≡ quiescent t c
