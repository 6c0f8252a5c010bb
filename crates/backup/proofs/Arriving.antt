-- An arrival in place: a store at the log's end, and a length and a tally that go up by one.
use Rattle.std.proofs.Common.{◌≡◌, ℕ, suc, ◌+◌, ◌%◌, ◌^◌, ◌<◌, ◌≤◌, List, [], ◌∷◌, ◌++◌, map, length, get_or, set, sym, ap, ◌∙◌, arith, length-set, get_or-set_other, refl, le-leb, add-one}
use mathlib.Core.List.{map-append}
use borrow.Author.Tests.{lt-leb}
use Rattle.facts.specs.Tests.{by_eq}
use Rattle.facts.specs.Counts.{same_yes, same_no}
use Rattle.facts.specs.Lists.{prefix, prefix_push}
use Rattle.backup.specs.Limits.{log_most, ports}
use Rattle.backup.specs.Replica.{Message, saved_on, arrive, arrive_number, arrived}
use Rattle.backup.specs.Laws.{saved_append, saved_cons}
use Rattle.backup.specs.Accepts.{arrive-accepted, arrived-fit}
use Rattle.words.specs.Words.{pack}
use Rattle.backup.specs.Place.{unpack, unpack-pack, messages, view_in, Sound, Called, arrive_number_in}
use Rattle.backup.specs.declared.place.Head.{Head}
use Rattle.backup.proofs.InPlace.{refused_so, accepted_so, same-replica, view-length, saved-few, bumped, bumped-same}

-- the head after it
abbrev pub arrived_head : Head → ℕ → Head
arrived_head head port = record head { len = head.len + 1; saved = bumped head.saved port }

module _ (log : List ℕ) (head : Head) (port word : ℕ) where
  pub arrive_21 : ports ≤ port → Called log head log head 21 (λ v. arrive v port word)
  unfolding arrive arrive_number
  arrive_21 h = refused_so log head 21 (λ v. arrive v port word) (λ s. rw (s.is-fit, le-leb ports port h))

  pub arrive_22 : port < ports → log_most ≤ head.len → Called log head log head 22 (λ v. arrive v port word)
  unfolding arrive arrive_number
  arrive_22 h k = refused_so log head 22 (λ v. arrive v port word)
      (λ s. rw (s.is-fit, lt-leb ports port h, le-leb log_most (length (view_in log head).log) (rw (view-length log head) k)))

  module _ (hp : port < ports) (hw : word < 2 ^ 32) (hl : head.len < log_most) (s : Sound log head) where
    stored : List ℕ
    stored = set log head.len (pack port word)

    log_now : messages (head.len + 1) stored ≡ messages head.len log ++ (record { port = port; word = word } ∷ [])
    unfolding stored
    log_now =
        rw add-one (ap (map unpack) (prefix_push head.len log (pack port word) (let l = s.log-length in omega arith))
        ∙ map-append unpack (prefix head.len log) (pack port word ∷ [])
        ∙ ap (λ (m : Message). messages head.len log ++ (m ∷ [])) (unpack-pack port word hw))

    view_now : view_in stored (arrived_head head port) ≡ arrived (view_in log head) port word
    unfolding view_in
    view_now = same-replica log_now refl refl refl

    -- the tally of the message's port is one more, the others are as they were
    tally_now : (p : ℕ) → p < ports → get_or (bumped head.saved port) p 0 ≡ saved_on p (arrived (view_in log head) port word).log
    tally_now p l =
        let old : List Message = (view_in log head).log in
        let m : Message = record { port = port; word = word } in
        let t = s.tallies p l in
        let b = saved_append p old (m ∷ []) in
        let d = saved_cons p m [] in
        by_eq p port
        (λ e. let o = same_yes p port e in
        let f = saved-few p old in
        let g = view-length log head in
        let q : get_or (bumped head.saved p) p 0 ≡ suc (get_or head.saved p 0) = bumped-same head.saved p (let z = s.saved-length in omega arith) (omega arith) in
        ap (λ (k : ℕ). get_or (bumped head.saved k) p 0) (sym e) ∙ omega arith)
        (λ n. let o = same_no p port n in let c = get_or-set_other head.saved port p ((get_or head.saved port 0 + 1) % 2 ^ 32) 0 n in omega arith)

  pub arrive-done : port < ports → word < 2 ^ 32 → head.len < log_most
      → Called log head (set log head.len (pack port word)) (arrived_head head port) 0 (λ v. arrive v port word)
  unfolding stored
  arrive-done hp hw hl =
      accepted_so log head _ _ (λ v. arrive v port word) (arrived (view_in log head) port word)
      (λ s. arrive-accepted (view_in log head) port word s.is-fit hp (rw (view-length log head) hl))
      (λ s. record {
        log-length = length-set log _ _ ∙ s.log-length;
        saved-length = length-set head.saved _ _ ∙ s.saved-length;
        view = view_now hp hw hl s;
        is-fit = arrived-fit (view_in log head) port word s.is-fit hp (rw (view-length log head) hl);
        tallies = tally_now hp hw hl s;
      })
      (λ s i a b. get_or-set_other log head.len i (pack port word) 0 (λ e. omega arith))

-- ---- its number, of any head

module _ (head : Head) (port : ℕ) where
  pub arrive-number_21 : ports ≤ port → 21 ≡ arrive_number_in head port
  arrive-number_21 h = rw (le-leb ports port h)

  pub arrive-number_22 : port < ports → log_most ≤ head.len → 22 ≡ arrive_number_in head port
  arrive-number_22 h k = rw (lt-leb ports port h, le-leb log_most head.len k)

  pub arrive-number_0 : port < ports → head.len < log_most → 0 ≡ arrive_number_in head port
  arrive-number_0 h k = rw (lt-leb ports port h, lt-leb log_most head.len k)
