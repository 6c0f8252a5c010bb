-- Number 6: the channels that each process reads, as a pass over the pairs finds them.
use Rattle.std.specs.Prelude.{None, Some, slice_index_or, replicate}
use Rattle.std.proofs.lemmas.List.{set-set, length-replicate, get_or-replicate}
use mathlib.Core.Logic.{◌≢◌}
use mathlib.Core.Path.{◌≡◌, refl, ap, ap₂, sym, ◌∙◌, subst}
use mathlib.Core.Bool.{Bool, true, false, cond}
use mathlib.Core.List.{List, [], ◌∷◌, ◌++◌, append-nil}
use Prim.Native.Nat.{ℕ, zero, suc, ◌+◌, ◌-◌, ◌*◌, ◌≤◌, ◌<◌}
use native.Mathlib.Omega.{arith}
use native.Mathlib.Numerals.{add-one}
use native.Mathlib.Nat.{not-suc-le-zero}
use lib.Dec.{eqb, leb}
use lib.ListN.{length, get_or, set, drop, length-set, length-append, get_or-append}
use lib.Seq.{get_or-drop, get_or-set_same, get_or-set_other, get_or-append_seam}
use borrow.Author.Tests.{eq-eqb, ne_eqb, le-leb, lt-leb}
use Rattle.facts.specs.Tests.{by_eq}
use Rattle.facts.specs.Ranges.{all_given, all_fails}
use Rattle.backup.specs.Limits.{ports}
use Rattle.rules.specs.Table.{Channel, read_from, inputs, port_of, channel_on}
use Rattle.rules.specs.Judge.{inputs_ok}
use Rattle.rules.specs.Bytes.{byte_at}
use Rattle.rules.specs.Format.{processes_in, channels_in, pairs, decode_table}
use Rattle.rules.proofs.Valid.{length_pairs, processes-counted}
use Rattle.rules.proofs.Tables.{port_of_channel}
use Rattle.plan.specs.Plan.{no_program, no_wire, arity_in, input_in, sender_in, reader_in, port_in}
use Rattle.plan.specs.declared.Program.{Program}
use Rattle.plan.specs.declared.Wire.{Wire}
use Rattle.table.specs.Parts.{PortsFound, PortsRead}
use Rattle.table.specs.declared.ends.Ports.{Ports}
use Rattle.table.proofs.OneChannel.{pair_at, pair-drop}
use Rattle.table.proofs.EndsPass.{sender_byte, reader_byte, sender_in_lem, reader_in_lem}

-- ---- one channel more

pairs-more : (k : ℕ) (rest : List ℕ) → pairs (suc k) rest ≡ pairs k rest ++ (pair_at rest (2 * k) ∷ [])
pairs-more zero rest = refl
pairs-more (suc k) rest =
    ap (λ (l : List Channel). pair_at rest 0 ∷ l)
    (pairs-more k (drop 2 rest) ∙ ap (λ (c : Channel). pairs k (drop 2 rest) ++ (c ∷ [])) (pair-drop rest 2 (2 * k) ∙ ap (pair_at rest) (omega arith)))

read_append : (j : ℕ) (cs : List Channel) (c : Channel) (p : ℕ) → read_from j (cs ++ (c ∷ [])) p ≡ read_from j cs p ++ cond (eqb c.reader p) ((j + length cs) ∷ []) []
read_append j [] c p = ap (λ (n : ℕ). cond (eqb c.reader p) (n ∷ []) []) (omega arith)
read_append j (x ∷ cs) c p =
    go (eqb x.reader p) (read_append (suc j) cs c p ∙ ap (λ (n : ℕ). read_from (suc j) cs p ++ cond (eqb c.reader p) (n ∷ []) []) (omega arith))
  where
    last : List ℕ
    last = cond (eqb c.reader p) ((j + suc (length cs)) ∷ []) []

    go : (b : Bool) → read_from (suc j) (cs ++ (c ∷ [])) p ≡ read_from (suc j) cs p ++ last
        → cond b (j ∷ read_from (suc j) (cs ++ (c ∷ [])) p) (read_from (suc j) (cs ++ (c ∷ [])) p) ≡ cond b (j ∷ read_from (suc j) cs p) (read_from (suc j) cs p) ++ last
    go true e = ap (λ (l : List ℕ). j ∷ l) e
    go false e = e

-- the inputs of a process among the first k channels
unfoldable pub read_in : List ℕ → ℕ → ℕ → List ℕ
read_in bytes k p = read_from 0 (pairs k (drop 6 bytes)) p

pub inputs_read : (bytes : List ℕ) (p : ℕ) → inputs (decode_table bytes) p ≡ read_in bytes (channels_in bytes) p
unfolding inputs decode_table read_in
inputs_read bytes p = refl

-- what channel k adds
added : List ℕ → ℕ → ℕ → List ℕ
added bytes k p = cond (eqb (reader_byte bytes k) p) (k ∷ []) []

read_more : (bytes : List ℕ) (k p : ℕ) → read_in bytes (k + 1) p ≡ read_in bytes k p ++ added bytes k p
unfolding read_in added
read_more bytes k p =
    rw (add-one k)
    (ap (λ (cs : List Channel). read_from 0 cs p) (pairs-more k (drop 6 bytes)) ∙ read_append 0 (pairs k (drop 6 bytes)) (pair_at (drop 6 bytes) (2 * k)) p
    ∙ ap₂ (λ (r n : ℕ). read_from 0 (pairs k (drop 6 bytes)) p ++ cond (eqb r p) (n ∷ []) [])
    (get_or-drop 6 bytes (2 * k + 1) 0 ∙ ap (byte_at bytes) (omega arith)) (let e = length_pairs k (drop 6 bytes) in omega arith))

read_own : (bytes : List ℕ) (k p : ℕ) → reader_byte bytes k ≡ p → read_in bytes (k + 1) p ≡ read_in bytes k p ++ (k ∷ [])
unfolding added
read_own bytes k p e = read_more bytes k p ∙ ap (λ (b : Bool). read_in bytes k p ++ cond b (k ∷ []) []) (eq-eqb (reader_byte bytes k) p e)

read_other : (bytes : List ℕ) (k p : ℕ) → reader_byte bytes k ≢ p → read_in bytes (k + 1) p ≡ read_in bytes k p
unfolding added
read_other bytes k p n = read_more bytes k p ∙ ap (λ (b : Bool). read_in bytes k p ++ cond b (k ∷ []) []) (ne_eqb (reader_byte bytes k) p n) ∙ append-nil (read_in bytes k p)

-- what has been read stays
grows : (bytes : List ℕ) (k p : ℕ) → length (read_in bytes k p) ≤ length (read_in bytes (k + 1) p)
grows bytes k p = let a = ap length (read_more bytes k p) in let b = length-append (read_in bytes k p) (added bytes k p) in omega arith

stays : (bytes : List ℕ) (k p s : ℕ) → s < length (read_in bytes k p) → get_or (read_in bytes (k + 1) p) s 0 ≡ get_or (read_in bytes k p) s 0
stays bytes k p s h = ap (λ (l : List ℕ). get_or l s 0) (read_more bytes k p) ∙ get_or-append (read_in bytes k p) (added bytes k p) 0 s h

grows_by : (bytes : List ℕ) (k p m : ℕ) → length (read_in bytes k p) ≤ length (read_in bytes (k + m) p)
grows_by bytes k p zero = let e = ap (λ (n : ℕ). length (read_in bytes n p)) (let z : k + 0 ≡ k = omega arith in z) in omega arith
grows_by bytes k p (suc m) =
    let a = grows_by bytes k p m in
    let b = grows bytes (k + m) p in
    let e = ap (λ (n : ℕ). length (read_in bytes n p)) (let z : k + suc m ≡ k + m + 1 = omega arith in z) in
    omega arith

-- ---- the pass: the ends

-- the first k wires have the ends of their channels
pub record Ended (bytes : List ℕ) (wires : List Wire) (k : ℕ) : Type 0 where
  pub senders : (j : ℕ) → j < k → sender_in wires j ≡ sender_byte bytes j
  pub readers : (j : ℕ) → j < k → reader_in wires j ≡ reader_byte bytes j

pub ended_start : (bytes : List ℕ) (wires : List Wire) → Ended bytes wires 0
ended_start bytes wires = record { senders = λ j l. absurd (not-suc-le-zero l); readers = λ j l. absurd (not-suc-le-zero l) }

module _ (wires : List Wire) (k : ℕ) (x : Wire) where
  wire_same : k < length wires → slice_index_or (set wires k x) k no_wire ≡ x
  wire_same h = get_or-set_same wires k x no_wire h

  wire_other : (j : ℕ) → j ≢ k → slice_index_or (set wires k x) j no_wire ≡ slice_index_or wires j no_wire
  wire_other j e = get_or-set_other wires k j x no_wire e

pub ended_on : {bytes : List ℕ} {wires : List Wire} {k : ℕ} → Ended bytes wires k → (x : Wire) → k < length wires → x.sender ≡ sender_byte bytes k
    → x.reader ≡ reader_byte bytes k → Ended bytes (set wires k x) (k + 1)
ended_on {bytes} {wires} {k} before x room s r = record {
  senders = λ j l.
      by_eq j k
      (λ e. rw e (ap (λ (y : Wire). y.sender) (wire_same wires k x room) ∙ s))
      (λ e. ap (λ (y : Wire). y.sender) (wire_other wires k x j e) ∙ before.senders j (omega arith));
  readers = λ j l.
      by_eq j k
      (λ e. rw e (ap (λ (y : Wire). y.reader) (wire_same wires k x room) ∙ r))
      (λ e. ap (λ (y : Wire). y.reader) (wire_other wires k x j e) ∙ before.readers j (omega arith));
}

-- ---- the pass: the ports

-- k channels have been looked at: how many each process reads of them, which they are, and where each stands with its reader
pub record Porting (bytes : List ℕ) (wires : List Wire) (programs : List Program) (k : ℕ) : Type 0 where
  pub passed : k ≤ channels_in bytes
  pub wires-long : length wires ≡ 32
  pub programs-long : length programs ≡ 16
  pub inputs-long : (p : ℕ) → p < processes_in bytes → length (slice_index_or programs p no_program).inputs ≡ 4
  pub arities : (p : ℕ) → p < processes_in bytes → arity_in programs p ≡ length (read_in bytes k p)
  pub few : (p : ℕ) → p < processes_in bytes → length (read_in bytes k p) ≤ ports
  pub channels_at : (p : ℕ) → p < processes_in bytes → (s : ℕ) → s < length (read_in bytes k p) → input_in programs p s ≡ get_or (read_in bytes k p) s 0
  pub ports_low : (j : ℕ) → j < k → reader_byte bytes j < processes_in bytes → port_in wires j < length (read_in bytes k (reader_byte bytes j))
  pub ports_back : (j : ℕ) → j < k → reader_byte bytes j < processes_in bytes → get_or (read_in bytes k (reader_byte bytes j)) (port_in wires j) 0 ≡ j

pub porting_start : (bytes : List ℕ) (wires : List Wire) (x : Program) → processes_in bytes ≤ 16 → length wires ≡ 32 → x.arity ≡ 0 → length x.inputs ≡ 4
    → Porting bytes wires (replicate 16 x) 0
unfolding read_in
porting_start bytes wires x most a none four = record {
  passed = omega arith;
  wires-long = a;
  programs-long = length-replicate 16 x;
  inputs-long = λ p h. ap (λ (y : Program). length y.inputs) (same p h) ∙ four;
  arities = λ p h. ap (λ (y : Program). y.arity) (same p h) ∙ none;
  few = λ p h. omega arith;
  channels_at = λ p h s l. absurd (not-suc-le-zero l);
  ports_low = λ j l. absurd (not-suc-le-zero l);
  ports_back = λ j l. absurd (not-suc-le-zero l);
}
  where
    same : (p : ℕ) → p < processes_in bytes → slice_index_or (replicate 16 x) p no_program ≡ x
    same p h = get_or-replicate 16 p x no_program (omega arith)

-- a process that reads channel k too, at its last port
abbrev with_input : Program → ℕ → Program
with_input x k = record { start = x.start; length = x.length; limit = x.limit; arity = x.arity + 1; inputs = set x.inputs x.arity k }

-- the port is written, and then how many there are
abbrev with_slot : Program → ℕ → ℕ → Program
with_slot x n k = record { start = x.start; length = x.length; limit = x.limit; arity = x.arity; inputs = set x.inputs n k }

abbrev with_arity : Program → ℕ → Program
with_arity x n = record { start = x.start; length = x.length; limit = x.limit; arity = n; inputs = x.inputs }

abbrev pub with_port : List Program → ℕ → ℕ → ℕ → List Program
with_port programs b n k =
    let was = slice_index_or programs b no_program in
    let first = set programs b (with_slot was n k) in
    set first b (with_arity (slice_index_or first b no_program) (was.arity + 1))

with_port_lem : (programs : List Program) (b n k : ℕ) → b < length programs → n ≡ arity_in programs b
    → set programs b (with_input (slice_index_or programs b no_program) k) ≡ with_port programs b n k
with_port_lem programs b n k room e =
    let was = slice_index_or programs b no_program in
    let first = set programs b (with_slot was n k) in
    ap (λ (i : ℕ). set programs b (with_arity (with_slot was i k) (was.arity + 1))) (sym e)
    ∙ ap (λ (y : Program). set programs b (with_arity y (was.arity + 1))) (sym (get_or-set_same programs b (with_slot was n k) no_program room))
    ∙ sym (set-set programs b (with_slot was n k) (with_arity (slice_index_or first b no_program) (was.arity + 1)))

module _ (bytes : List ℕ) (wires : List Wire) (programs : List Program) (k : ℕ) (before : Porting bytes wires programs k) (here : k < channels_in bytes) where
  port-other : (x : Wire) (j : ℕ) → j ≢ k → port_in (set wires k x) j ≡ port_in wires j
  port-other x j e = ap (λ (y : Wire). y.port) (wire_other wires k x j e)

  -- a channel that no process reads
  pub porting_past : (x : Wire) → processes_in bytes ≤ reader_byte bytes k → Porting bytes (set wires k x) programs (k + 1)
  porting_past x h =
      let same : (p : ℕ) → p < processes_in bytes → read_in bytes (k + 1) p ≡ read_in bytes k p = λ p l. read_other bytes k p (λ e. omega arith) in
      record {
        passed = omega arith;
        wires-long = length-set wires k x ∙ before.wires-long;
        programs-long = before.programs-long;
        inputs-long = before.inputs-long;
        arities = λ p l. before.arities p l ∙ ap length (sym (same p l));
        few = λ p l. rw (same p l) (before.few p l);
        channels_at = λ p l. rw (same p l) (before.channels_at p l);
        ports_low = λ j l r. rw (same (reader_byte bytes j) r, port-other x j (other j r)) (before.ports_low j (below j l r) r);
        ports_back = λ j l r. rw (same (reader_byte bytes j) r, port-other x j (other j r)) (before.ports_back j (below j l r) r);
      }
    where
      other : (j : ℕ) → reader_byte bytes j < processes_in bytes → j ≢ k
      other j r e = let f = ap (reader_byte bytes) e in omega arith

      below : (j : ℕ) → j < k + 1 → reader_byte bytes j < processes_in bytes → j < k
      below j l r = let n = other j r in omega arith

  module _ (b : ℕ) (own : b ≡ reader_byte bytes k) (reads : b < processes_in bytes) where
    abbrev n : ℕ
    n = arity_in programs b

    so_many : n ≡ length (read_in bytes k b)
    so_many = before.arities b reads

    now_more : length (read_in bytes (k + 1) b) ≡ n + 1
    now_more = let a = ap length (read_own bytes k b (sym own)) in let c = length-append (read_in bytes k b) (k ∷ []) in let d = so_many in omega arith

    -- it is the fifth
    pub porting_refused : 4 ≤ n → PortsRead bytes None
    unfolding inputs_ok
    porting_refused h = record { says = sym refused; found = tt }
      where
        many : ports < length (inputs (decode_table bytes) b)
        many =
            let a = now_more in
            let c = grows_by bytes (k + 1) b (channels_in bytes - (k + 1)) in
            let d = ap (λ (m : ℕ). length (read_in bytes m b)) (let z : k + 1 + (channels_in bytes - (k + 1)) ≡ channels_in bytes = omega arith in z) in
            let f = ap length (inputs_read bytes b) in
            omega arith

        refused : inputs_ok (decode_table bytes) ≡ false
        refused =
            all_fails (λ p. leb (length (inputs (decode_table bytes) p)) ports) (length (decode_table bytes).processes) b
            (let z = processes-counted bytes in omega arith) (lt-leb (length (inputs (decode_table bytes) b)) ports many)

    -- it is one of four
    module _ (low : n < 4) (most : processes_in bytes ≤ 16) (wide : channels_in bytes ≤ 32) where
      abbrev was : Program
      was = slice_index_or programs b no_program

      now-is : slice_index_or (set programs b (with_input was k)) b no_program ≡ with_input was k
      now-is = get_or-set_same programs b (with_input was k) no_program (let z = before.programs-long in omega arith)

      else-is : (p : ℕ) → p ≢ b → slice_index_or (set programs b (with_input was k)) p no_program ≡ slice_index_or programs p no_program
      else-is p e = get_or-set_other programs b p (with_input was k) no_program e

      same : (p : ℕ) → p ≢ b → read_in bytes (k + 1) p ≡ read_in bytes k p
      same p e = read_other bytes k p (λ f. e (sym (own ∙ f)))

      last_at : get_or (read_in bytes (k + 1) b) n 0 ≡ k
      last_at = ap (λ (l : List ℕ). get_or l n 0) (read_own bytes k b (sym own)) ∙ rw so_many (get_or-append_seam (read_in bytes k b) k [] 0)

      own_at : (s : ℕ) → s < n + 1 → input_in (set programs b (with_input was k)) b s ≡ get_or (read_in bytes (k + 1) b) s 0
      own_at s l =
          ap (λ (y : Program). get_or y.inputs s 0) now-is
          ∙ by_eq s n
          (λ e. rw e (get_or-set_same was.inputs n k 0 (let z = before.inputs-long b reads in omega arith) ∙ sym last_at))
          (λ e. get_or-set_other was.inputs n s k 0 e
          ∙ before.channels_at b reads s (let z = so_many in omega arith) ∙ sym (stays bytes k b s (let z = so_many in omega arith)))

      module _ (x : Wire) (port-is : x.port ≡ n) where
        port-same : port_in (set wires k x) k ≡ n
        port-same = ap (λ (y : Wire). y.port) (wire_same wires k x (let z = before.wires-long in omega arith)) ∙ port-is

        porting_more : Porting bytes (set wires k x) (set programs b (with_input was k)) (k + 1)
        porting_more = record {
          passed = omega arith;
          wires-long = length-set wires k x ∙ before.wires-long;
          programs-long = length-set programs b (with_input was k) ∙ before.programs-long;
          inputs-long = λ p l.
              by_eq p b
              (λ e. rw e (ap (λ (y : Program). length y.inputs) now-is ∙ length-set was.inputs n k ∙ before.inputs-long b reads))
              (λ e. ap (λ (y : Program). length y.inputs) (else-is p e) ∙ before.inputs-long p l);
          arities = λ p l.
              by_eq p b
              (λ e. rw e (ap (λ (y : Program). y.arity) now-is ∙ sym now_more))
              (λ e. ap (λ (y : Program). y.arity) (else-is p e) ∙ before.arities p l ∙ ap length (sym (same p e)));
          few = λ p l.
              by_eq p b
              (λ e. rw e (let a = now_more in omega arith))
              (λ e. rw (same p e) (before.few p l));
          channels_at = λ p l s m.
              by_eq p b
              (λ e. rw e (own_at s (let z = now_more in let y = ap (λ (q : ℕ). length (read_in bytes (k + 1) q)) e in omega arith)))
              (λ e. ap (λ (y : Program). get_or y.inputs s 0) (else-is p e)
              ∙ before.channels_at p l s (let y = ap length (same p e) in omega arith) ∙ sym (ap (λ (q : List ℕ). get_or q s 0) (same p e)));
          ports_low = λ j l r.
              by_eq j k
              (λ e. rw e (rw port-same (let a = now_more in let f = ap (λ (q : ℕ). length (read_in bytes (k + 1) q)) own in omega arith)))
              (λ e. rw (port-other x j e) (let a = before.ports_low j (omega arith) r in let g = grows bytes k (reader_byte bytes j) in omega arith));
          ports_back = λ j l r.
              by_eq j k
              (λ e. rw e (rw port-same (ap (λ (q : ℕ). get_or (read_in bytes (k + 1) q) n 0) (sym own) ∙ last_at)))
              (λ e. rw (port-other x j e) (stays bytes k (reader_byte bytes j) (port_in wires j) (before.ports_low j (omega arith) r) ∙ before.ports_back j (omega arith) r));
        }

        pub porting_on : (slot : ℕ) → slot ≡ n → Porting bytes (set wires k x) (with_port programs b slot k) (k + 1)
        porting_on slot e =
            subst (λ (l : List Program). Porting bytes (set wires k x) l (k + 1)) (with_port_lem programs b slot k (let z = before.programs-long in omega arith) e) porting_more

-- all channels have been looked at
module _ (bytes : List ℕ) (k : ℕ) (r : Ports) (ended : Ended bytes r.wires k) (x : Porting bytes r.wires r.programs k) (done : channels_in bytes ≤ k) where
  all_read : (p : ℕ) → read_in bytes k p ≡ inputs (decode_table bytes) p
  all_read p = ap (λ (m : ℕ). read_in bytes m p) (let a = x.passed in let z : k ≡ channels_in bytes = omega arith in z) ∙ sym (inputs_read bytes p)

  accepted : inputs_ok (decode_table bytes) ≡ true
  unfolding inputs_ok
  accepted =
      all_given (λ p. leb (length (inputs (decode_table bytes) p)) ports) (length (decode_table bytes).processes)
      (λ p l. le-leb (length (inputs (decode_table bytes) p)) ports (rw (← all_read p) (x.few p (let z = processes-counted bytes in omega arith))))

  found : PortsFound bytes r
  found = record {
    sender_at = λ j l. ended.senders j (omega arith) ∙ sender_in_lem bytes j l;
    reader_at = λ j l. ended.readers j (omega arith) ∙ reader_in_lem bytes j l;
    port_at = λ j l reads.
        let e = reader_in_lem bytes j l in
        let q = reader_byte bytes j in
        let low = x.ports_low j (omega arith) (omega arith) in
        let back = x.ports_back j (omega arith) (omega arith) in
        let i = port_in r.wires j in
        let on : channel_on (decode_table bytes) q i ≡ j = ap (λ (c : List ℕ). get_or c i 0) (sym (all_read q)) ∙ back in
        let this : port_of (decode_table bytes) q j ≡ i =
        ap (port_of (decode_table bytes) q) (sym on) ∙ port_of_channel (decode_table bytes) q i (let z = ap length (all_read q) in omega arith) in
        sym this ∙ ap (λ (c : ℕ). port_of (decode_table bytes) c j) e;
    few = λ p l. rw (← all_read p) (x.few p l);
    arity_at = λ p l. x.arities p l ∙ ap length (all_read p);
    input_at_lem = λ p l s m.
        x.channels_at p l s (let z = ap length (all_read p) in omega arith) ∙ ap (λ (c : List ℕ). get_or c s 0) (all_read p);
  }

  pub porting_end : PortsRead bytes (Some r)
  porting_end = record { says = sym accepted; found = found }
