-- What a sync reports of the saved words. W-202: "The backup record's sync shall also return, for each slot, how many words were dropped and
-- how many remain, all 0 when refused. A carried sync then answers 5 with the total dropped as its word".
use Rattle.std.specs.Prelude.{ℕ, zero, suc, ◌-◌, List, [], ◌∷◌, slice_index}
use Rattle.facts.specs.Lists.{listed}
use Rattle.facts.specs.Sums.{sum_below}
use Rattle.backup.specs.Limits.{ports}
use Rattle.backup.specs.Replica.{Message, Replica, Checkpoint, saved_on, synced, sync_number}

-- for each port, from port 0 on: the messages that the sync dropped, and those that remain
pub record Report : Type 0 where
  pub dropped : List ℕ
  pub remained : List ℕ

-- 0 for each port
abbrev pub none_by_port : List ℕ
none_by_port = 0 ∷ 0 ∷ 0 ∷ 0 ∷ []

abbrev pub no_report : Report
no_report = record { dropped = none_by_port; remained = none_by_port }

-- of a log before and after: what has gone from each port, and what is there
abbrev pub report_on : List Message → List Message → Report
report_on before after = record {
  dropped = listed (λ p. saved_on p before - saved_on p after) ports;
  remained = listed (λ p. saved_on p after) ports;
}

-- "all 0 when refused"
abbrev pub report_for : ℕ → List Message → List Message → Report
report_for zero before after = report_on before after
report_for (suc n) before after = no_report

unfoldable pub sync_report : Replica → Checkpoint → Report
sync_report r c = report_for (sync_number r c) r.log (synced r c).log

-- "the total dropped"
abbrev pub total_dropped : Report → ℕ
total_dropped r = sum_below (λ p. slice_index r.dropped p) ports
