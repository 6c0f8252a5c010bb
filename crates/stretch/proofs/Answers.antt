-- The a of an answer fits its byte: "One six-byte answer a record: code, a, word". A channel is one of at most 32, a process one of
-- at most 16, and a refusal repeats a.
use mathlib.Core.Path.{refl}
use mathlib.Core.Bool.{Bool, true, false, cond}
use Prim.Native.Nat.{ℕ, ◌<◌}
use native.Mathlib.Omega.{arith}
use lib.ListN.{length}
use Rattle.facts.specs.Tests.{by_eq}
use Rattle.facts.specs.Counts.{same_yes}
use Rattle.rules.specs.Table.{Table, code_of, channel_at}
use Rattle.rules.specs.Machine.{Mail, BusWord, sent_from, Machine, took, sent}
use Rattle.rules.specs.Cabinet.{Cabinet, process_at, protected}
use Rattle.rules.specs.Moves.{Command, Move, Refusal, Answer, step_done, issue_done, crash_done, rejoin_done, rebackup_done, transfer_kept, received, queued, suppressed, transmitted, injected, sync_kept, sync_lost, dropped_from, refused, numbers, turn}
use Rattle.rules.proofs.Steps.{Steps}
use Rattle.rules.proofs.Tables.{step_own}
use Rattle.rules.proofs.Counting.{step-unread}
use Rattle.rules.proofs.Guards.{fed_mail, Done, yields_turn}
use Rattle.state.specs.Moved.{Reachable}
use Rattle.state.proofs.Ends.{read_inside, sent-inside}
use Rattle.state.proofs.Owners.{word_owner, checkpoint_owner, transfer_owner, unread_own}

-- an answer's a is below 256
pub record Fits (x : Answer) : Type 0 where
  pub a_small : (numbers x).a < 256

abbrev Fitting : Move → Cabinet → Answer → Type 0
Fitting _ _ x = Fits x

fits_refused : (why : Refusal) (a : ℕ) → a < 256 → Fits (refused why a)
unfolding numbers
fits_refused why a h = record { a_small = h }

-- answers of three zeros
fits-stepped : Fits step_done
unfolding numbers
fits-stepped = record { a_small = omega arith }

fits-issued : Fits issue_done
unfolding numbers
fits-issued = record { a_small = omega arith }

fits_crashed : Fits crash_done
unfolding numbers
fits_crashed = record { a_small = omega arith }

fits_rejoined : Fits rejoin_done
unfolding numbers
fits_rejoined = record { a_small = omega arith }

fits-rebackup : Fits rebackup_done
unfolding numbers
fits-rebackup = record { a_small = omega arith }

-- answers that name a channel
fits-received : (x : Mail) → x.channel < 256 → Fits (received x)
unfolding numbers
fits-received x h = record { a_small = h }

fits-queued : (x : Mail) → x.channel < 256 → Fits (queued x)
unfolding numbers
fits-queued x h = record { a_small = h }

fits-suppressed : (x : Mail) → x.channel < 256 → Fits (suppressed x)
unfolding numbers
fits-suppressed x h = record { a_small = h }

fits-transmitted : (x : BusWord) → x.mail.channel < 256 → Fits (transmitted x)
unfolding numbers
fits-transmitted x h = record { a_small = h }

fits-injected : (x : Mail) → x.channel < 256 → Fits (injected x)
unfolding numbers
fits-injected x h = record { a_small = h }

-- and those that name a process
fits-sync : (p dropped : ℕ) (b : Bool) → p < 256 → Fits (cond b (sync_kept p dropped) (sync_lost p))
unfolding numbers
fits-sync p dropped true h = record { a_small = h }
fits-sync p dropped false h = record { a_small = h }

fits-transfer : (p : ℕ) → p < 256 → Fits (transfer_kept p)
unfolding numbers
fits-transfer p h = record { a_small = h }

module _ {t : Table} {c : Cabinet} (reach : Reachable t c) where
  -- a channel's number, and a process's
  channel_small : (k : ℕ) → k < length t.channels → k < 256
  channel_small k h = let a = reach.accepted.channels_high in omega arith

  process_small : (p : ℕ) → p < length t.processes → p < 256
  process_small p h = let a = reach.accepted.processes_high in omega arith

  -- ---- 1 step

  module _ (p : ℕ) (hp : p < length t.processes) where
    -- a word that was taken was unread, so it is one of p's own channels
    took_small : (m : Machine) (x : Mail) → Steps (code_of t p) (process_at c p).machine (took x) m → x.channel < 256
    took_small m x e =
        let k : ℕ = x.channel in
        channel_small k
        (by_eq (channel_at t k).reader p
        (λ f. read_inside reach.accepted k (rw f hp))
        (λ n. let a = unread_own reach p hp k n in let b = step-unread k (took x) e in let d = same_yes k k refl in absurd (omega arith)))

    sent_small : (m : Machine) (x : Mail) → Steps (code_of t p) (process_at c p).machine (sent x) m → x.channel < 256
    sent_small m x e = channel_small x.channel (sent-inside reach.accepted x.channel (rw (step_own t reach.accepted p hp e) hp))

  -- ---- any command whose a is a byte

  done-fits : (r : Command) → Done t c r Fitting
  done-fits r = record {
    computes = λ _ _ _ _. fits-stepped;
    takes = λ hp m x e _. fits-received x (took_small r.a hp m x (record { is = e }));
    suppresses = λ hp m x e _ _. fits-suppressed x (sent_small r.a hp m x (record { is = e }));
    sends = λ hp m x e _ _ _ _. fits-queued x (sent_small r.a hp m x (record { is = e }));
    issues = λ _ _ _ _. fits-issued;
    transmits = λ _ _ x pc rest e.
        fits-transmitted (sent_from _ pc x)
        (channel_small x.channel (sent-inside reach.accepted x.channel (word_owner reach r.a x pc rest e).0));
    syncs = λ _ _ p s rest e. fits-sync p (dropped_from s (process_at c p).standby) (protected (process_at c p)) (process_small p (checkpoint_owner reach r.a p s rest e).0);
    completes = λ _ _ p rest e. fits-transfer p (process_small p (transfer_owner reach r.a p rest e).0);
    injects = λ h _ _. fits-injected (fed_mail r) (channel_small r.a h);
    crashes = λ _ _ _. fits_crashed;
    rejoins = λ _ _. fits_rejoined;
    rebackups = λ _ _ _ _ _ _ _. fits-rebackup;
  }

  pub answer-fits : (r : Command) → r.a < 256 → Fits (turn t c r).answer
  answer-fits r h = yields_turn t c r Fitting (done-fits r) (λ _ why. fits_refused why r.a h)
