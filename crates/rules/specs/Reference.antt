-- The failure-free reference machine (document 01: "The plain cabinet"): it is given the table and a list of feeds and steps, and
-- nothing of our cabinet. No boards, no limits, no holding.
use Rattle.std.specs.Prelude.{cond, List, [], ◌∷◌, ◌++◌, map, ℕ, eqb, ltb, length, get_or, set}
use Rattle.std.proofs.Math.Option.{Option, none, some}
use Rattle.rules.specs.Table.{Table, environment, channel_at, code_of}
use Rattle.rules.specs.Machine.{Mail, BusWord, sent_from, from_outside, Machine, booted, internal, took, sent}
use Rattle.rules.specs.Machine.{Outcome, halted, no_mail, moved, local_step, delivered}

-- "It holds for each process four registers and a place, all 0 at first, and an inbox [..]. Beside them is its bus order."
pub record Reference : Type 0 where
  pub machines : List Machine
  -- the total order of transmitted messages (bus order). W-212: each with its origin, "and the plain cabinet lists them"
  pub trace : List BusWord

pub data Action : Type 0 where
  inject : Mail → Action
  step : ℕ → Action

-- "All these lists are empty at first."
unfoldable pub reference_start : Table → Reference
unfolding booted
reference_start t = record { machines = map (λ _. booted) t.processes; trace = [] }

-- channel and word, with where they come from, go to the end of the bus order and, unless the outside reads the channel, of the reader's inbox
-- (a reader of 255 is no machine of the list, and a store there changes nothing)
unfoldable pub posted : Table → BusWord → Reference → Reference
unfolding booted delivered
posted t x s =
    let reader = (channel_at t x.mail.channel).reader in
    record {
      machines = set s.machines reader (delivered x.mail (get_or s.machines reader booted));
      trace = s.trace ++ (x ∷ []);
    }

unfoldable pub with_machine : ℕ → Machine → Reference → Reference
with_machine p m s = record { machines = set s.machines p m; trace = s.trace }

-- "A step is refused exactly where the place is n, or TAKE or FIRST finds no such word." Refused is none: "What is refused changes nothing."
-- The place of a SEND is the one at which the machine stood before it.
unfoldable pub stepped : Table → Reference → ℕ → Outcome → Option Reference
unfolding posted with_machine booted
stepped t s p halted = none
stepped t s p no_mail = none
stepped t s p (moved m internal) = some (with_machine p m s)
stepped t s p (moved m (took x)) = some (with_machine p m s)
stepped t s p (moved m (sent x)) = some (posted t (sent_from p (get_or s.machines p booted).pc x) (with_machine p m s))

-- "Feed of a channel whose sender is the outside [..]. A feed of any other channel is refused."
unfoldable pub act : Table → Reference → Action → Option Reference
unfolding stepped local_step booted posted
act t s (inject x) =
    cond (ltb x.channel (length t.channels))
    (cond (eqb (channel_at t x.channel).sender environment) (some (posted t (from_outside x) s)) none)
    none
act t s (step p) = cond (ltb p (length s.machines)) (stepped t s p (local_step (code_of t p) (get_or s.machines p booted))) none

abbrev pub and_then : {A B : Type 0} → Option A → (A → Option B) → Option B
and_then none f = none
and_then (some a) f = f a

-- "A run of the plain cabinet [..] is such a list with nothing refused."
unfoldable pub reference_run : Table → Reference → List Action → Option Reference
unfolding act
reference_run t s [] = some s
reference_run t s (x ∷ l) = and_then (act t s x) (λ s'. reference_run t s' l)

-- the feeds of such a list, in order
unfoldable pub injections : List Action → List Mail
injections [] = []
injections (inject x ∷ l) = x ∷ injections l
injections (step p ∷ l) = injections l
