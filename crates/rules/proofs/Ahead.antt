-- What lies between the reference machine of a process and its running machine: local steps whose sends and checkpoints are, in order,
-- the process's own items of its board's outbox. The reference machine lags behind: it is stepped only when a word of the process is
-- transmitted (up to exactly that SEND), when its checkpoint is transmitted (up to the snapshot), and at a quiet end.
use mathlib.Core.Path.{◌≡◌, refl, ap, sym, ◌∙◌}
use mathlib.Core.Bool.{false}
use mathlib.Core.List.{List, [], ◌∷◌, ◌++◌, append_assoc, append-nil}
use Prim.Native.Nat.{ℕ, suc, ◌+◌, ◌*◌, ◌≤◌}
use native.Mathlib.Omega.{arith}
use lib.ListN.{length}
use Rattle.backup.specs.Replica.{Checkpoint}
use Rattle.rules.specs.Table.{Table, Instruction, code_of, limit_of}
use Rattle.rules.specs.Machine.{Mail, Machine, Act, sent, delivered}
use Rattle.rules.specs.Cabinet.{instructions_most, Item, message, checkpoint, transfer}
use Rattle.rules.proofs.Steps.{Steps, step_later}
use Rattle.rules.proofs.Runs.{Run, here, more, is_send, Silent, tally, busy, busy_snoc, length_snoc, Within}

-- the snapshot that process p issues as machine m, after these acts since its last one
abbrev pub taken_at : Table → ℕ → List Act → Machine → Item
taken_at t p acts m = checkpoint p (record { pc = m.pc; registers = m.registers; taken = tally t p acts })

-- how many items are checkpoints or transfers
abbrev pub checkpoints : List Item → ℕ
checkpoints [] = 0
checkpoints (message x pc ∷ q) = checkpoints q
checkpoints (checkpoint p s ∷ q) = suc (checkpoints q)
checkpoints (transfer p ∷ q) = suc (checkpoints q)

pub checkpoints_append : (q r : List Item) → checkpoints (q ++ r) ≡ checkpoints q + checkpoints r
checkpoints_append [] r = omega arith
checkpoints_append (message x pc ∷ q) r = checkpoints_append q r
checkpoints_append (checkpoint p s ∷ q) r = let h = checkpoints_append q r in omega arith
checkpoints_append (transfer p ∷ q) r = let h = checkpoints_append q r in omega arith

-- The lists of acts are those since the last checkpoint was issued, at the left end and at the right.
pub data Ahead (t : Table) (p : ℕ) : List Act → Machine → List Item → List Act → Machine → Type 0 where
  level : {u : List Act} {m : Machine} → Ahead t p u m [] u m
  silent : {u v : List Act} {m m1 m2 : Machine} {q : List Item} {k : Act} → Steps (code_of t p) m k m1 → is_send k ≡ false
      → Ahead t p (u ++ (k ∷ [])) m1 q v m2 → Ahead t p u m q v m2
  sending : {u v : List Act} {m m1 m2 : Machine} {q : List Item} {x : Mail} → Steps (code_of t p) m (sent x) m1
      → Ahead t p (u ++ (sent x ∷ [])) m1 q v m2 → Ahead t p u m (message x m.pc ∷ q) v m2
  issuing : {u v : List Act} {m m2 : Machine} {q : List Item} → Within (limit_of t p) u → Ahead t p [] m q v m2
      → Ahead t p u m (taken_at t p u m ∷ q) v m2

pub ahead_later : {t : Table} {p : ℕ} {u v : List Act} {a b : Machine} {q : List Item} (x : Mail) → Ahead t p u a q v b
    → Ahead t p u (delivered x a) q v (delivered x b)
unfolding delivered
ahead_later x level = level
ahead_later x (silent e h r) = silent (step_later x e) h (ahead_later x r)
ahead_later x (sending e r) = sending (step_later x e) (ahead_later x r)
ahead_later x (issuing h r) = issuing h (ahead_later x r)

-- ---- the right end: the running machine goes on

pub ahead_silent : {t : Table} {p : ℕ} {u v : List Act} {a b c : Machine} {q : List Item} {k : Act} → Ahead t p u a q v b → Steps (code_of t p) b k c
    → is_send k ≡ false → Ahead t p u a q (v ++ (k ∷ [])) c
ahead_silent level e h = silent e h level
ahead_silent (silent f g r) e h = silent f g (ahead_silent r e h)
ahead_silent (sending f r) e h = sending f (ahead_silent r e h)
ahead_silent (issuing f r) e h = issuing f (ahead_silent r e h)

pub ahead_send : {t : Table} {p : ℕ} {u v : List Act} {a b c : Machine} {q : List Item} {x : Mail} → Ahead t p u a q v b → Steps (code_of t p) b (sent x) c
    → Ahead t p u a (q ++ (message x b.pc ∷ [])) (v ++ (sent x ∷ [])) c
ahead_send level e = sending e level
ahead_send (silent f g r) e = silent f g (ahead_send r e)
ahead_send (sending f r) e = sending f (ahead_send r e)
ahead_send (issuing f r) e = issuing f (ahead_send r e)

pub ahead_issue : {t : Table} {p : ℕ} {u v : List Act} {a b : Machine} {q : List Item} → Ahead t p u a q v b → Within (limit_of t p) v
    → Ahead t p u a (q ++ (taken_at t p v b ∷ [])) [] b
ahead_issue level h = issuing h level
ahead_issue (silent f g r) h = silent f g (ahead_issue r h)
ahead_issue (sending f r) h = sending f (ahead_issue r h)
ahead_issue (issuing f r) h = issuing f (ahead_issue r h)

-- ---- the left end: what the reference machine does when an item is transmitted

pub record UpToSend (t : Table) (p : ℕ) (u : List Act) (a : Machine) (x : Mail) (pc : ℕ) (q : List Item) (v : List Act) (b : Machine)
    : Type 0 where
  pub acts : List Act
  pub mid : Machine
  pub last : Machine
  pub to_mid : Run (code_of t p) a acts mid
  pub silent_there : Silent acts
  pub sends_it : Steps (code_of t p) mid (sent x) last
  -- from the place that the entry names
  pub from_there : mid.pc ≡ pc
  pub rest : Ahead t p (u ++ (acts ++ (sent x ∷ []))) last q v b

pub up_to_send : {t : Table} {p : ℕ} {u v : List Act} {a b : Machine} {q : List Item} {x : Mail} {pc : ℕ}
    → Ahead t p u a (message x pc ∷ q) v b → UpToSend t p u a x pc q v b
up_to_send {u = u} {x = x} (silent {k = k} e h r) =
    let w = up_to_send r in
    record {
      acts = k ∷ w.acts;
      mid = w.mid;
      last = w.last;
      to_mid = more e w.to_mid;
      silent_there = (h, w.silent_there);
      sends_it = w.sends_it;
      from_there = w.from_there;
      rest = rw (← append_assoc u (k ∷ []) (w.acts ++ (sent x ∷ []))) w.rest;
    }
up_to_send {a = a} (sending {m1 = m1} e r) =
    record { acts = []; mid = a; last = m1; to_mid = here; silent_there = tt; sends_it = e; from_there = refl; rest = r }

pub record UpToIssue (t : Table) (p : ℕ) (u : List Act) (a : Machine) (item : Item) (q : List Item) (v : List Act) (b : Machine) : Type 0 where
  pub acts : List Act
  pub mid : Machine
  pub to_mid : Run (code_of t p) a acts mid
  pub silent_there : Silent acts
  pub is-snapshot : item ≡ taken_at t p (u ++ acts) mid
  pub rest : Ahead t p [] mid q v b

pub up_to_issue : {t : Table} {p r : ℕ} {u v : List Act} {a b : Machine} {q : List Item} {s : Checkpoint} → Ahead t p u a (checkpoint r s ∷ q) v b
    → UpToIssue t p u a (checkpoint r s) q v b
up_to_issue {t} {p} {u = u} (silent {k = k} e h r) =
    let w = up_to_issue r in
    record {
      acts = k ∷ w.acts;
      mid = w.mid;
      to_mid = more e w.to_mid;
      silent_there = (h, w.silent_there);
      is-snapshot = w.is-snapshot ∙ ap (λ (l : List Act). taken_at t p l w.mid) (append_assoc u (k ∷ []) w.acts);
      rest = w.rest;
    }
up_to_issue {t} {p} {u = u} {a = a} (issuing f r) =
    record {
      acts = [];
      mid = a;
      to_mid = here;
      silent_there = tt;
      is-snapshot = ap (λ (l : List Act). taken_at t p l a) (sym (append-nil u));
      rest = r;
    }

-- a transfer isn't among the items: it stands between two such stretches (Good's `Coming`)
pub no_transfer : {t : Table} {p r : ℕ} {u v : List Act} {a b : Machine} {q : List Item} → Ahead t p u a (transfer r ∷ q) v b → ⊥
no_transfer (silent e h r) = no_transfer r

-- no item: silent steps only
pub record UpToEnd (code : List Instruction) (a b : Machine) : Type 0 where
  pub acts : List Act
  pub to_end : Run code a acts b
  pub silent_there : Silent acts

pub up_to_end : {t : Table} {p : ℕ} {u v : List Act} {a b : Machine} → Ahead t p u a [] v b → UpToEnd (code_of t p) a b
up_to_end level = record { acts = []; to_end = here; silent_there = tt }
up_to_end (silent {k = k} e h r) =
    let w = up_to_end r in
    record { acts = k ∷ w.acts; to_end = more e w.to_end; silent_there = (h, w.silent_there) }

-- ---- how much lies ahead

pub record Total (t : Table) (p : ℕ) (u : List Act) (a : Machine) (q : List Item) (v : List Act) (b : Machine) : Type 0 where
  pub acts : List Act
  pub ran : Run (code_of t p) a acts b
  pub instructions : length u + length acts ≤ instructions_most * checkpoints q + length v
  pub events : busy u + busy acts ≤ limit_of t p * checkpoints q + busy v

pub ahead_total : {t : Table} {p : ℕ} {u v : List Act} {a b : Machine} {q : List Item} → Ahead t p u a q v b → Total t p u a q v b
ahead_total level = record { acts = []; ran = here; instructions = omega arith; events = omega arith }
ahead_total {u = u} (silent {k = k} e h r) =
    let w = ahead_total r in
    let n = busy_snoc u k in
    let l = length_snoc u k in
    record { acts = k ∷ w.acts; ran = more e w.ran; instructions = omega (arith, w.instructions); events = omega (arith, w.events) }
ahead_total {u = u} (sending {x = x} e r) =
    let w = ahead_total r in
    let n = busy_snoc u (sent x) in
    let l = length_snoc u (sent x) in
    record { acts = sent x ∷ w.acts; ran = more e w.ran; instructions = omega (arith, w.instructions); events = omega (arith, w.events) }
ahead_total (issuing f r) =
    let w = ahead_total r in
    record { acts = w.acts; ran = w.ran; instructions = omega (arith, w.instructions, f.instructions); events = omega (arith, w.events, f.events) }

within_less : {limit : ℕ} (u : List Act) (k : Act) → Within limit (u ++ (k ∷ [])) → Within limit u
within_less u k h = record {
  instructions = omega (arith, length_snoc u k, h.instructions);
  events = omega (arith, busy_snoc u k, h.events);
}

pub ahead_left : {t : Table} {p : ℕ} {u v : List Act} {a b : Machine} {q : List Item} → Ahead t p u a q v b → Within (limit_of t p) v → Within (limit_of t p) u
ahead_left level h = h
ahead_left {u = u} (silent {k = k} e g r) h = within_less u k (ahead_left r h)
ahead_left {u = u} (sending {x = x} e r) h = within_less u (sent x) (ahead_left r h)
ahead_left (issuing f r) h = f
