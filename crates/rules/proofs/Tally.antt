-- Takes counted by port, and what a log keeps: along a run from a backup's state, the mailbox is what the log has left after dropping the
-- oldest messages port by port as taken, and no port has more takes than messages.
use mathlib.Core.Logic.{◌≢◌}
use mathlib.Core.Path.{◌≡◌, refl, ap, sym, ◌∙◌, subst}
use mathlib.Core.Bool.{Bool, true, false, cond}
use mathlib.Core.List.{List, [], ◌∷◌, ◌++◌, map}
use Prim.Native.Nat.{ℕ, zero, suc, ◌-◌, ◌≤◌, ◌<◌}
use native.Mathlib.Omega.{arith}
use lib.Dec.{eqb}
use lib.ListN.{length, get_or, set, length-set}
use lib.Seq.{get_or-set_same, get_or-set_other, set-set, set_comm, set-get_or}
use borrow.Author.Tests.{eq-eqb, ne_eqb}
use Rattle.facts.specs.Tests.{no_way, by_eq}
use Rattle.backup.specs.Limits.{ports}
use Rattle.backup.specs.Replica.{Message, saved_on, taken_on, one_less, remaining}
use Rattle.backup.specs.Laws.{by_taken}
use Rattle.backup.proofs.Drops.{stays, goes, none-taken as nothing-dropped}
use Rattle.rules.specs.Table.{Table, Instruction, inputs, port_of, channel_on}
use Rattle.rules.specs.Machine.{Mail, Machine, Act, internal, took, sent, Pull, nothing, found, behind, pull}
use Rattle.rules.specs.Cabinet.{no_takes}
use Rattle.rules.proofs.Steps.{Steps, step_left}
use Rattle.rules.proofs.Runs.{Run, here, more, tally, tally1, busy, busy_snoc, length_snoc, count1, count_of}
use Rattle.rules.proofs.Tables.{port_of_channel}
use Rattle.rules.proofs.Good.{mail_of, PortsBelow, no_ports, one_port}

-- ---- counts by port

-- one take more on port i
abbrev pub bump : ℕ → List ℕ → List ℕ
bump i taken = set taken i (suc (get_or taken i 0))

less_bump : (i : ℕ) (taken : List ℕ) → i < length taken → one_less (bump i taken) i ≡ taken
less_bump i taken h =
    rw (get_or-set_same taken i (suc (get_or taken i 0)) 0 h, set-set taken i (suc (get_or taken i 0)) (suc (get_or taken i 0) - 1))
    (subst (λ (n : ℕ). set taken i n ≡ taken) (omega arith) (set-get_or taken i 0))

less_bump_other : (i j : ℕ) (taken : List ℕ) → i ≢ j → one_less (bump i taken) j ≡ bump i (one_less taken j)
less_bump_other i j taken n =
    rw (get_or-set_other taken i j (suc (get_or taken i 0)) 0 (λ e. n (sym e)), get_or-set_other taken j i (get_or taken j 0 - 1) 0 n) (set_comm taken i j _ _ n)

bump_comm : (i j : ℕ) (taken : List ℕ) → bump i (bump j taken) ≡ bump j (bump i taken)
bump_comm i j taken =
    by_eq i j
    (λ e. rw e)
    (λ n. rw (get_or-set_other taken j i (suc (get_or taken j 0)) 0 n, get_or-set_other taken i j (suc (get_or taken i 0)) 0 (λ e. n (sym e))) (set_comm taken j i _ _ (λ e. n (sym e))))

length_tally : (t : Table) (p : ℕ) (ks : List Act) → length (tally t p ks) ≡ ports
length_tally t p [] = refl
length_tally t p (internal ∷ ks) = length_tally t p ks
length_tally t p (took x ∷ ks) = length-set (tally t p ks) (port_of t p x.channel) _ ∙ length_tally t p ks
length_tally t p (sent x ∷ ks) = length_tally t p ks

tally1_swap : (t : Table) (p : ℕ) (k j : Act) (n : List ℕ) → tally1 t p k (tally1 t p j n) ≡ tally1 t p j (tally1 t p k n)
tally1_swap t p internal j n = refl
tally1_swap t p (sent x) j n = refl
tally1_swap t p (took x) internal n = refl
tally1_swap t p (took x) (sent y) n = refl
tally1_swap t p (took x) (took y) n = bump_comm (port_of t p x.channel) (port_of t p y.channel) n

-- one act more at the end
pub tally_snoc : (t : Table) (p : ℕ) (ks : List Act) (k : Act) → tally t p (ks ++ (k ∷ [])) ≡ tally1 t p k (tally t p ks)
tally_snoc t p [] k = refl
tally_snoc t p (j ∷ ks) k = ap (tally1 t p j) (tally_snoc t p ks k) ∙ tally1_swap t p j k (tally t p ks)

pub count_snoc : (t : Table) (p : ℕ) (ks : List Act) (k : Act) → count_of t p (ks ++ (k ∷ [])) ≡ count1 t p k (count_of t p ks)
count_snoc t p ks internal =
    let a : busy (ks ++ (internal ∷ [])) ≡ busy ks = (let s = busy_snoc ks internal in omega arith) in
    let b = tally_snoc t p ks internal in
    let l = length_snoc ks internal in
    λ i. record { instructions = l i; events = a i; taken = b i }
count_snoc t p ks (took x) =
    let a : busy (ks ++ (took x ∷ [])) ≡ suc (busy ks) = (let s = busy_snoc ks (took x) in omega arith) in
    let b = tally_snoc t p ks (took x) in
    let l = length_snoc ks (took x) in
    λ i. record { instructions = l i; events = a i; taken = b i }
count_snoc t p ks (sent x) =
    let a : busy (ks ++ (sent x ∷ [])) ≡ suc (busy ks) = (let s = busy_snoc ks (sent x) in omega arith) in
    let b = tally_snoc t p ks (sent x) in
    let l = length_snoc ks (sent x) in
    λ i. record { instructions = l i; events = a i; taken = b i }

-- ---- dropping from a log

-- without the oldest message of port i
abbrev drop_port : ℕ → List Message → List Message
drop_port i [] = []
drop_port i (m ∷ log) = cond (eqb i m.port) log (m ∷ drop_port i log)

drop_hit : (i : ℕ) (m : Message) (log : List Message) → i ≡ m.port → drop_port i (m ∷ log) ≡ log
drop_hit i m log h = rw (eq-eqb i m.port h)

drop_miss : (i : ℕ) (m : Message) (log : List Message) → i ≢ m.port → drop_port i (m ∷ log) ≡ m ∷ drop_port i log
drop_miss i m log h = rw (ne_eqb i m.port h)

saved_hit : (i : ℕ) (m : Message) (log : List Message) → i ≡ m.port → saved_on i (m ∷ log) ≡ suc (saved_on i log)
saved_hit i m log h = rw (eq-eqb i m.port h)

saved_miss : (i : ℕ) (m : Message) (log : List Message) → i ≢ m.port → saved_on i (m ∷ log) ≡ saved_on i log
saved_miss i m log h = rw (ne_eqb i m.port h)

-- one take more drops one message more, the oldest of its port
bump_drop : (i : ℕ) (log : List Message) (taken : List ℕ) → i < length taken → remaining (bump i taken) log ≡ remaining taken (drop_port i log)
bump_drop i [] taken h = refl
bump_drop i (m ∷ log) taken h =
    by_eq i m.port
    (λ e. let raised : taken_on (bump i taken) m.port ≡ suc (get_or taken i 0) =
    ap (taken_on (bump i taken)) (sym e) ∙ get_or-set_same taken i (suc (get_or taken i 0)) 0 h in
    goes (bump i taken) m log (omega arith)
    ∙ ap (λ (j : ℕ). remaining (one_less (bump i taken) j) log) (sym e)
    ∙ ap (λ (l : List ℕ). remaining l log) (less_bump i taken h)
    ∙ ap (remaining taken) (sym (drop_hit i m log e)))
    (λ n. let other : taken_on (bump i taken) m.port ≡ taken_on taken m.port = get_or-set_other taken i m.port (suc (get_or taken i 0)) 0 (λ f. n (sym f)) in
    by_taken taken m.port
    (λ z. stays (bump i taken) m log (other ∙ z)
    ∙ ap (λ (l : List Message). m ∷ l) (bump_drop i log taken h)
    ∙ sym (stays taken m (drop_port i log) z)
    ∙ ap (remaining taken) (sym (drop_miss i m log n)))
    (λ g. goes (bump i taken) m log (omega arith)
    ∙ ap (λ (l : List ℕ). remaining l log) (less_bump_other i m.port taken n)
    ∙ bump_drop i log (one_less taken m.port) (rw length-set h)
    ∙ sym (goes taken m (drop_port i log) g)
    ∙ ap (remaining taken) (sym (drop_miss i m log n))))

pub none-taken : (i : ℕ) → get_or no_takes i 0 ≡ 0
none-taken zero = refl
none-taken (suc zero) = refl
none-taken (suc (suc zero)) = refl
none-taken (suc (suc (suc zero))) = refl
none-taken (suc (suc (suc (suc i)))) = refl

pub none_dropped : (log : List Message) → remaining no_takes log ≡ log
none_dropped log = nothing-dropped no_takes log none-taken

pub remaining-ports : {n : ℕ} {log : List Message} → PortsBelow n log → (taken : List ℕ) → PortsBelow n (remaining taken log)
remaining-ports no_ports taken = no_ports
remaining-ports {n} (one_port {m = m} {log = log} h r) taken =
    by_taken taken m.port
    (λ z. rw (stays taken m log z) (one_port h (remaining-ports r taken)))
    (λ g. rw (goes taken m log g) (remaining-ports r (one_less taken m.port)))

-- ---- a take of a machine whose mailbox is a log's

pub record FromLog (t : Table) (p : ℕ) (log : List Message) (x : Mail) (rest : List Mail) : Type 0 where
  pub port : ℕ
  pub below : port < length (inputs t p)
  pub on_channel_lem : x.channel ≡ channel_on t p port
  pub rest-is : rest ≡ map (mail_of t p) (drop_port port log)
  pub ports_left : PortsBelow (length (inputs t p)) (drop_port port log)
  pub one_less_lem : saved_on port log ≡ suc (saved_on port (drop_port port log))
  pub others : (j : ℕ) → j ≢ port → saved_on j log ≡ saved_on j (drop_port port log)

from_log : (t : Table) (p : ℕ) (wanted : ℕ → Bool) {log : List Message} (x : Mail) (rest : List Mail) → PortsBelow (length (inputs t p)) log
    → pull wanted (map (mail_of t p) log) ≡ found x rest → (wanted x.channel ≡ true) × FromLog t p log x rest
from_log t p wanted x rest no_ports e = absurd (no_way (cc))
from_log t p wanted x rest (one_port {m = m} {log = log} h r) e =
    go (wanted (channel_on t p m.port)) (pull wanted (map (mail_of t p) log)) refl (λ y ys. from_log t p wanted y ys r) e
  where
    go : (b : Bool) (q : Pull) → wanted (channel_on t p m.port) ≡ b
        → ((y : Mail) (ys : List Mail) → q ≡ found y ys → (wanted y.channel ≡ true) × FromLog t p log y ys)
        → cond b (found (mail_of t p m) (map (mail_of t p) log)) (behind (mail_of t p m) q) ≡ found x rest
        → (wanted x.channel ≡ true) × FromLog t p (m ∷ log) x rest
    go true q hb ih g =
        let same : mail_of t p m ≡ x = cc in
        let left : map (mail_of t p) log ≡ rest = cc in
        let hit = drop_hit m.port m log refl in (
          subst (λ (y : Mail). wanted y.channel ≡ true) same hb,
          record {
            port = m.port;
            below = h;
            on_channel_lem = ap (λ (y : Mail). y.channel) (sym same);
            rest-is = sym left ∙ ap (map (mail_of t p)) (sym hit);
            ports_left = subst (PortsBelow (length (inputs t p))) (sym hit) r;
            one_less_lem = saved_hit m.port m log refl ∙ ap (λ (l : List Message). suc (saved_on m.port l)) (sym hit);
            others = λ j n. saved_miss j m log n ∙ ap (saved_on j) (sym hit);
          },
        )
    go false nothing hb ih g = absurd (no_way (cc))
    go false (found y ys) hb ih g =
        let same : y ≡ x = cc in
        let left : mail_of t p m ∷ ys ≡ rest = cc in
        let v = ih x ys (ap (λ (u : Mail). found u ys) same) in
        let f = v.1 in
        let is-wanted : wanted (channel_on t p f.port) ≡ true = rw f.on_channel_lem at v.0 in
        let other : f.port ≢ m.port =
        λ e'. no_way (let a : wanted (channel_on t p m.port) ≡ true = subst (λ (i : ℕ). wanted (channel_on t p i) ≡ true) e' is-wanted in cc) in
        let miss = drop_miss f.port m log other in (
          v.0,
          record {
            port = f.port;
            below = f.below;
            on_channel_lem = f.on_channel_lem;
            rest-is = sym left ∙ ap (λ (l : List Mail). mail_of t p m ∷ l) f.rest-is ∙ ap (map (mail_of t p)) (sym miss);
            ports_left = subst (PortsBelow (length (inputs t p))) (sym miss) (one_port h f.ports_left);
            one_less_lem = saved_miss f.port m log other ∙ f.one_less_lem ∙ ap suc (sym (ap (saved_on f.port) miss ∙ saved_miss f.port m (drop_port f.port log) other));
            others = λ j n. by_eq j m.port
                (λ e'. saved_hit j m log e' ∙ ap suc (f.others j n) ∙ sym (ap (saved_on j) miss ∙ saved_hit j m (drop_port f.port log) e'))
                (λ k. saved_miss j m log k ∙ f.others j n ∙ sym (ap (saved_on j) miss ∙ saved_miss j m (drop_port f.port log) k));
          },
        )

-- ---- a run

pub record Logged (t : Table) (p : ℕ) (acts : List Act) (log : List Message) (b : Machine) : Type 0 where
  pub left : b.mailbox ≡ map (mail_of t p) (remaining (tally t p acts) log)
  pub enough : (i : ℕ) → taken_on (tally t p acts) i ≤ saved_on i log

module _ (t : Table) (p : ℕ) (few : length (inputs t p) ≤ ports) where
  took_logged : {x : Mail} {log : List Message} {rest : List Mail} {acts : List Act} {b : Machine} (f : FromLog t p log x rest)
      → Logged t p acts (drop_port f.port log) b → Logged t p (took x ∷ acts) log b
  took_logged {x} {log} {acts = acts} {b = b} f h =
      let i : ℕ = f.port in
      let T : List ℕ = tally t p acts in
      let there : i < length T = (let a = length_tally t p acts in let c = f.below in omega arith) in
      let port-is : port_of t p x.channel ≡ i = ap (port_of t p) f.on_channel_lem ∙ port_of_channel t p i f.below in
      let tally-is : tally t p (took x ∷ acts) ≡ bump i T = ap (λ (j : ℕ). bump j T) port-is in
      record {
        left = h.left ∙ ap (map (mail_of t p)) (sym (ap (λ (l : List ℕ). remaining l log) tally-is ∙ bump_drop i log T there));
        enough = λ j.
            let n = h.enough j in
            subst (λ (l : List ℕ). taken_on l j ≤ saved_on j log) (sym tally-is)
            (by_eq j i
            (λ e. let a : taken_on (bump i T) j ≡ suc (taken_on T j) = rw e (get_or-set_same T i (suc (get_or T i 0)) 0 there) in
            let c : saved_on j log ≡ suc (saved_on j (drop_port i log)) = rw e f.one_less_lem in
            omega arith)
            (λ k. let a = get_or-set_other T i j (suc (get_or T i 0)) 0 k in let c = f.others j k in omega arith));
      }

  pub run_logged : {code : List Instruction} {a b : Machine} {acts : List Act} (log : List Message) → Run code a acts b → a.mailbox ≡ map (mail_of t p) log
      → PortsBelow (length (inputs t p)) log → Logged t p acts log b
  run_logged log here e h =
      record { left = e ∙ ap (map (mail_of t p)) (sym (none_dropped log)); enough = λ i. (let a = none-taken i in omega arith) }
  run_logged {code} {a} {b} log (more {m1 = m1} {k = k} {ks = ks} s r) e h = go k s (λ l. run_logged l r)
    where
      go : (j : Act) → Steps code a j m1
          → ((l : List Message) → m1.mailbox ≡ map (mail_of t p) l → PortsBelow (length (inputs t p)) l → Logged t p ks l b)
          → Logged t p (j ∷ ks) log b
      go internal s' ih = let g = ih log (step_left s' ∙ e) h in record { left = g.left; enough = g.enough }
      go (took x) s' ih =
          let l = step_left s' in
          let v = from_log t p l.wanted x m1.mailbox h (ap (pull l.wanted) (sym e) ∙ l.is) in
          took_logged v.1 (ih (drop_port v.1.port log) v.1.rest-is v.1.ports_left)
      go (sent x) s' ih = let g = ih log (step_left s' ∙ e) h in record { left = g.left; enough = g.enough }
