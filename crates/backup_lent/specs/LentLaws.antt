-- What the value of two lent arrays tells of them: every number of the head, and every saved word. So `Answered`, which gives the value
-- afterwards, gives these numbers.
use Rattle.std.specs.Prelude.{◌≡◌, List, [], ◌∷◌, ℕ, ◌<◌, length}
use Rattle.std.proofs.Math.Path.{ap, sym}
use Rattle.std.proofs.Common.{◌∙◌, arith}
use Rattle.std.proofs.Math.ListN.{get_or, length-map}
use Rattle.facts.specs.Indexing.{get_or_map}
use Rattle.facts.specs.Lists.{prefix, length-prefix, get_or_prefix, written_out}
use Rattle.backup.specs.Replica.{Message, Replica}
use Rattle.backup.specs.Place.{unpack, port_in, word_in}
use Rattle.backup_lent.specs.Lent.{lent_length, lent_len, view_in}

-- a number is told by its two halves
halves : (x y : ℕ) → port_in x ≡ port_in y → word_in x ≡ word_in y → x ≡ y
halves x y a b = omega arith

-- a view has as many words as the head says
view-few : (saved head : List ℕ) → length (view_in saved head).log ≡ lent_len head
unfolding view_in
view-few saved head = length-map (prefix (lent_len head) saved) unpack ∙ length-prefix (lent_len head) saved

-- message i of a view is number i of the saved words
word_at : (saved head : List ℕ) (i : ℕ) → i < lent_len head → get_or (view_in saved head).log i (unpack 0) ≡ unpack (get_or saved i 0)
unfolding view_in
word_at saved head i l =
    let n : ℕ = lent_len head in
    get_or_map unpack (prefix n saved) i 0 (unpack 0) (let e = length-prefix n saved in omega arith) ∙ ap unpack (get_or_prefix n saved i l)

module _ (saved head saved' head' : List ℕ) (e : view_in saved head ≡ view_in saved' head') where
  same_len : lent_len head ≡ lent_len head'
  same_len = sym (view-few saved head) ∙ ap (λ (r : Replica). length r.log) e ∙ view-few saved' head'

  -- the same value, the same head
  pub value_head : length head ≡ lent_length → length head' ≡ lent_length → head ≡ head'
  unfolding view_in
  value_head m n =
      let r : (k : ℕ) → get_or (view_in saved head).registers k 0 ≡ get_or (view_in saved' head').registers k 0 =
      λ k. ap (λ (v : Replica). get_or v.registers k 0) e in
      written_out head lent_length 0 m
      ∙ (λ i. same_len i ∷ (e i).sent ∷ (e i).pc ∷ r 0 i ∷ r 1 i ∷ r 2 i ∷ r 3 i ∷ [])
      ∙ sym (written_out head' lent_length 0 n)

  -- and the same saved words
  pub value_saved : (i : ℕ) → i < lent_len head → get_or saved i 0 ≡ get_or saved' i 0
  value_saved i l =
      let k = same_len in
      let u : unpack (get_or saved i 0) ≡ unpack (get_or saved' i 0) =
      sym (word_at saved head i l) ∙ ap (λ (v : Replica). get_or v.log i (unpack 0)) e ∙ word_at saved' head' i (omega arith) in
      halves (get_or saved i 0) (get_or saved' i 0) (ap (λ (m : Message). m.port) u) (ap (λ (m : Message). m.word) u)
