-- Laws of a backup in place, for whoever stands on it and need not know how log and head stand for the value: a head of zeros is a fresh and
-- sound record, and what a promotion reads off a sound one is what the definition hands over.
use Rattle.std.specs.Prelude.{◌≡◌, ℕ, ◌<◌, ◌≤◌, true, List, length, slice_index, refl}
use Rattle.std.proofs.Common.{ap, sym, ◌∙◌, arith}
use Rattle.std.proofs.Math.ListN.{length-map}
use Rattle.std.proofs.lemmas.List.{get_or-replicate}
use Rattle.backup.specs.Report.{none_by_port}
use Rattle.facts.specs.Indexing.{get_or_map}
use Rattle.facts.specs.Lists.{prefix, length-prefix, get_or_prefix}
use Rattle.backup.specs.Limits.{log_most, ports}
use Rattle.backup.specs.Replica.{Message, FailOver, fit, on_ports, fail_over}
use Rattle.backup.specs.Accepts.{fit_parts, fail_over_accepted}
use Rattle.backup.specs.Place.{port_in, word_in, unpack, messages, view_in, Sound, Fresh, fresh_head, promotion_in, handed_over}
use Rattle.backup.specs.Place.{message_at}
use Rattle.backup.specs.declared.place.Head.{Head}

-- all zeros are a fresh, sound record
pub fresh_in : (log : List ℕ) → length log ≡ log_most → Fresh log fresh_head
unfolding view_in fit
fresh_in log h = record {
  value_is = refl;
  is-sound = record {
    log-length = h;
    saved-length = refl;
    is-fit = refl;
    tallies = zeros;
  };
}
  where
    zeros : (p : ℕ) → p < ports → slice_index none_by_port p ≡ 0
    zeros p l = get_or-replicate ports p 0 0 l

module _ (log : List ℕ) (head : Head) where
  -- the view's log has as many messages as a promotion says
  pub view-few : length (view_in log head).log ≡ (promotion_in head).len
  unfolding view_in
  view-few = length-map (prefix head.len log) unpack ∙ length-prefix head.len log

  module _ (s : Sound log head) where
    -- what is read off the head, with the log, is what the definition hands over
    pub fail_over_in_lem : fail_over (view_in log head) ≡ handed_over log (promotion_in head)
    unfolding view_in
    fail_over_in_lem = fail_over_accepted (view_in log head) s.is-fit

    -- no log of a sound backup is longer than its array
    pub promotion_few : (promotion_in head).len ≤ log_most
    promotion_few = let f = (fit_parts (view_in log head) s.is-fit).few in let e = view-few in omega arith

    -- and each of its messages came in on a port
    pub promotion_ports : on_ports (messages (promotion_in head).len log) ≡ true
    unfolding view_in
    promotion_ports = (fit_parts (view_in log head) s.is-fit).on_ports_lem

    -- message i of what is handed over stands in the log as number i
    pub message_at_lem : (i : ℕ) → i < (promotion_in head).len → message_at (fail_over (view_in log head)) i ≡ unpack (slice_index log i)
    message_at_lem i l =
        let n : ℕ = head.len in
        ap (λ (f : FailOver). message_at f i) fail_over_in_lem
        ∙ get_or_map unpack (prefix n log) i 0 (unpack 0) (let e = length-prefix n log in omega arith)
        ∙ ap unpack (get_or_prefix n log i l)

    pub port_at : (i : ℕ) → i < (promotion_in head).len → port_in (slice_index log i) ≡ (message_at (fail_over (view_in log head)) i).port
    port_at i l = ap (λ (m : Message). m.port) (sym (message_at_lem i l))

    pub word_at : (i : ℕ) → i < (promotion_in head).len → word_in (slice_index log i) ≡ (message_at (fail_over (view_in log head)) i).word
    word_at i l = ap (λ (m : Message). m.word) (sym (message_at_lem i l))
