-- The records of a stretch, one after the other: what each round of the loop adds, and what all of them come to.
use mathlib.Core.Path.{◌≡◌, refl, ap, sym, ◌∙◌, subst}
use mathlib.Core.Bool.{Bool, true, false, cond, ◌||◌}
use mathlib.Core.List.{List, [], ◌∷◌, ◌++◌}
use Prim.Native.Nat.{ℕ, zero, suc, ◌+◌, ◌-◌, ◌≤◌, ◌<◌, min}
use native.Mathlib.Omega.{arith}
use lib.ListN.{length, get_or, set, take, drop, length-drop}
use lib.Seq.{take-suc, take_all, take-add, get_or-drop, drop-drop, length-take-le}
use lib.Dec.{eqb}
use borrow.Author.Tests.{eq-eqb, ne_eqb}
use Rattle.records.specs.Commands.{command_of}
use Rattle.records.specs.declared.schedule.Command as code
use Rattle.rules.specs.Table.{Table}
use Rattle.rules.specs.Judge.{Accepted}
use Rattle.rules.specs.Machine.{Origin}
use Rattle.rules.specs.Cabinet.{Cabinet, started, outbox_at}
use Rattle.rules.specs.Moves.{Command, Numbers, transmit_move, move_of, judged, numbers, origin_of, no_origin, turn, run_from}
use Rattle.rules.specs.Origins.{told_by}
use Rattle.rules.specs.Undo.{is_undo, any_undo}
use Rattle.rules.specs.Schedule.{command, commands_in, decode_schedule}
use Rattle.rules.proofs.AcceptedRun.{one_answer-each}
use Rattle.rules.proofs.Recovery.{run-parts}
use Rattle.rules.proofs.Origins.{origin-told, carried_waited}
use Rattle.rules.proofs.Scheduled.{commands-counted}
use Rattle.state.specs.declared.entry.Entry.{Entry}
use Rattle.state.specs.declared.moved.Answer.{Answer}
use Rattle.state.specs.declared.moved.Moved.{Moved}
use Rattle.state.specs.declared.store.Store.{Store}
use Rattle.state.specs.Store.{Holds}
use Rattle.state.specs.Moved.{Reachable, Answered, Makes, joined, refusal_for}
use Rattle.std.proofs.Common.{Option, Some, None}
use Rattle.numbers.specs.declared.answers.Reason.{Reason}
use Rattle.numbers.specs.declared.answers.Reason.TheVariants.{NoSuchMove}
use Rattle.command.specs.declared.due.Due.{Due}
use Rattle.command.specs.Judges.{turned_away, absent_of, stray_of, worded_of, judge_of}
use Rattle.command.specs.Dues.{command_in, DueAt}
use Rattle.command.proofs.Answering.{let_by, because}
use Rattle.command.proofs.Judging.{rule_of, most_of, passes, made, refused, refused-origin, known}
use Rattle.facts.specs.Tests.{by_eq}
use Rattle.plan.specs.declared.Counts.{Counts}
use Rattle.plan.specs.declared.Plan as plan
use Rattle.plan.specs.Plan.{Plan}
use Rattle.stretch.specs.declared.stretch.Stretch.{Stretch}
use Rattle.rejoin.specs.Rebackups.{transfer_entry}
use Rattle.stretch.specs.Mends.{Mends}
use Rattle.stretch.specs.Others.{Others}
use Rattle.stretch.specs.Plays.{Sheets, AsLong, Writes, between, Suited, Played, Plays}
use Rattle.stretch.proofs.Answers.{answer-fits}
use Rattle.stretch.proofs.Sheets.{wrote_none, wrote_one, wrote-more, as_long, still_long}

-- ---- commands after others

-- what commands reach from a cabinet that others reach is reached
pub reached_on : {t : Table} {c : Cabinet} → Reachable t c → (commands : List Command) → Reachable t (run_from t c commands).cabinet
reached_on {t} h commands = record {
  accepted = h.accepted;
  commands = h.commands ++ commands;
  is-reached = ap (λ (d : Cabinet). (run_from t d commands).cabinet) h.is-reached ∙ rw (run-parts t (started t) h.commands commands);
}

module _ {t : Table} {c : Cabinet} where
  pub played-none : {s : Store} {entries : List Entry} (sheets : Sheets) (i : ℕ) → Holds t s entries c → Played t c [] s entries sheets i sheets
  unfolding run_from
  played-none sheets i h = record { holds = h; wrote = wrote_none sheets i }

  -- some, and then others, are all of them: the same cabinet, and the same buffers
  pub played-parts : {xs ys : List Command} {s s' : Store} {entries entries' : List Entry} {before middle after : Sheets} {i j : ℕ}
      → Played t c xs s entries before i middle → Played t (run_from t c xs).cabinet ys s' entries' middle j after → j ≡ i + length xs
      → Played t c (xs ++ ys) s' entries' before i after
  played-parts {xs} {ys} h k e =
      let n = one_answer-each t c xs in
      let w = wrote-more h.wrote k.wrote (omega arith) in
      record { holds = rw (run-parts t c xs ys) k.holds; wrote = rw (run-parts t c xs ys) w }

  -- the store that they leave is fit for more
  pub suited_on : {l : Plan} {xs : List Command} {s s' : Store} {entries entries' : List Entry} {before after : Sheets} {i : ℕ}
      → Suited t l c s entries → Played t c xs s' entries' before i after → Suited t l (run_from t c xs).cabinet s' entries'
  suited_on {xs = xs} h k = record { reached = reached_on h.reached xs; planned = h.planned; holds = k.holds }

  -- one command
  pub played_one : {s : Store} {entries : List Entry} {before after : Sheets} {i : ℕ} {r : Answer} {o : Origin} → Reachable t c → (x : Command)
      → x.a < 256 → Answered t s entries c x (judged t c x) r → origin_of (turn t c x).answer ≡ o → Writes before i r o after
      → Played t c (x ∷ []) s entries before i after
  unfolding run_from turn
  played_one reach x small h g w =
      record { holds = h.holds; wrote = wrote_one w (turn t c x).answer h.answer-is h.cause_is g (answer-fits reach x small) }

-- ---- the records of a schedule

module _ (schedule : List ℕ) (i : ℕ) where
  pub between-length : (j : ℕ) → j ≤ commands_in schedule → length (between schedule i j) ≡ j - i
  between-length j h =
      let a = commands-counted schedule in
      let b = length-drop i (decode_schedule schedule) in
      length-take-le (j - i) (drop i (decode_schedule schedule)) (omega arith)

  -- those up to one, and then those from it on
  pub between-parts : (j k : ℕ) → i ≤ j → j ≤ k → between schedule i k ≡ between schedule i j ++ between schedule j k
  between-parts j k h m =
      let a : k - i ≡ (j - i) + (k - j) = omega arith in
      let b : i + (j - i) ≡ j = omega arith in
      rw (a, take-add (j - i) (k - j) (drop i (decode_schedule schedule)), drop-drop (j - i) i (decode_schedule schedule), b)

-- all of them
pub between_all : (schedule : List ℕ) → between schedule 0 (commands_in schedule) ≡ decode_schedule schedule
between_all schedule = let a = commands-counted schedule in take_all (commands_in schedule - 0) (decode_schedule schedule) (omega arith)

-- a single one
pub between_one : (schedule : List ℕ) (i : ℕ) → i < commands_in schedule → between schedule i (i + 1) ≡ get_or (decode_schedule schedule) i (command 0 0 0) ∷ []
between_one schedule i h =
    let a : (i + 1) - i ≡ 1 = omega arith in
    let m = commands-counted schedule in
    let b = length-drop i (decode_schedule schedule) in
    let z : i + 0 ≡ i = omega arith in
    ap (λ (n : ℕ). take n (drop i (decode_schedule schedule))) a
    ∙ take-suc (drop i (decode_schedule schedule)) 0 (command 0 0 0) (omega arith)
    ∙ ap (λ (x : Command). x ∷ []) (get_or-drop i (decode_schedule schedule) 0 (command 0 0 0) ∙ ap (λ (n : ℕ). get_or (decode_schedule schedule) n (command 0 0 0)) z)

-- ---- no move 8 (W-214)

pub any_undo-parts : (l m : List Command) → any_undo (l ++ m) ≡ any_undo l || any_undo m
any_undo-parts [] m = refl
any_undo-parts (r ∷ l) m = rw (any_undo-parts l m) (go (is_undo r))
  where
    go : (b : Bool) → b || (any_undo l || any_undo m) ≡ (b || any_undo l) || any_undo m
    go true = refl
    go false = refl

-- the judging refuses it with 32
judge_of-undo : (counts : Counts) (c : code.Command) → c.mv ≡ 8 → judge_of counts c ≡ Some NoSuchMove
unfolding judge_of absent_of stray_of
judge_of-undo counts c e = rw e (go (worded_of 8 c.word))
  where
    go : (b : Bool) → ◌≡◌ {A = Option Reason} (cond b (Some NoSuchMove) (Some NoSuchMove)) (Some NoSuchMove)
    go true = refl
    go false = refl

-- ---- the rounds

-- an element inside a list, whatever stands for one outside
pub default_free : {A : Type 0} (l : List A) (i : ℕ) (d e : A) → i < length l → get_or l i d ≡ get_or l i e
default_free [] i d e h = absurd (omega arith)
default_free (x ∷ l) zero d e h = refl
default_free (x ∷ l) (suc i) d e h = default_free l i d e (omega arith)

-- the entries that a move leaves
pub none-joined : (entries : List Entry) (at : Option ℕ) (x : Entry) → at ≡ None → entries ≡ joined entries at x
none-joined entries at x e = ap (λ (o : Option ℕ). joined entries o x) (sym e)

pub one_joined : (entries : List Entry) (at : Option ℕ) (k : ℕ) (x : Entry) → at ≡ Some k → set entries k x ≡ joined entries at x
one_joined entries at k x e = ap (λ (o : Option ℕ). joined entries o x) (sym e)

-- Between two rounds the records from number `from` on, before number i, were played; the last round is that of the record before number `end`.
pub record Playing (l : Plan) (schedule : List ℕ) (from end : ℕ) (s₀ : Store) (entries₀ : List Entry) (sheets₀ : Sheets)
    (i : ℕ) (s : Store) (entries : List Entry) (sheets : Sheets) : Type 0 where
  pub forward : from ≤ i
  pub inside : (n : ℕ) → from ≤ n → end ≤ n → i ≤ n
  pub no_undo : any_undo (between schedule from i) ≡ false
  pub long : AsLong sheets₀ sheets
  pub played : (t : Table) (c : Cabinet) → Suited t l c s₀ entries₀ → Played t c (between schedule from i) s entries sheets₀ from sheets

pub at_first : (l : Plan) (schedule : List ℕ) (from end : ℕ) (s : Store) (entries : List Entry) (sheets : Sheets)
    → Playing l schedule from end s entries sheets from s entries sheets
at_first l schedule from end s entries sheets =
    let none : from - from ≡ 0 = omega arith in
    record {
      forward = omega arith;
      inside = λ n h k. h;
      no_undo = rw none;
      long = as_long sheets;
      played = λ t c u. rw none (played-none sheets from u.holds);
    }

-- the plan as the code has it, which is lent to the moves
abbrev pub lent : Plan → plan.Plan
lent l = record { counts = l.counts; programs = l.programs; wires = l.wires }

-- In a round record i is read and judged: d is what came of that.
pub record Round (l : Plan) (schedule : List ℕ) (from end : ℕ) (s₀ : Store) (entries₀ : List Entry) (sheets₀ : Sheets)
    (i : ℕ) (s : Store) (entries : List Entry) (sheets : Sheets) (d : Due) : Type 0 where
  pub so_far : Playing l schedule from end s₀ entries₀ sheets₀ i s entries sheets
  pub few : end ≤ commands_in schedule
  pub below : i < end
  pub due : DueAt schedule l.counts i d

-- What that record, on store s and these entries, comes to: the rules' answer r and origin o, and a store that holds the cabinet which it leaves.
pub record Turned (l : Plan) (s : Store) (entries : List Entry) (d : Due) (s' : Store) (entries' : List Entry) (r : Answer) (o : Origin) : Type 0 where
  pub no_undo : eqb d.mv 8 ≡ false
  pub answered : (t : Table) (now : Cabinet) → Suited t l now s entries
      → Answered t s' entries' now (command_of (command_in d)) (judged t now (command_of (command_in d))) r
  pub comes : (t : Table) (now : Cabinet) → Suited t l now s entries → origin_of (turn t now (command_of (command_in d))).answer ≡ o

-- a record that is no step, no sync and no carry: one that passes, or one that is turned away and is no move 8
pub data Other (d : Due) : Type 0 where
  let_through : d.number ≡ 0 → (d.mv ≡ 1 → ⊥) → (d.mv ≡ 2 → ⊥) → (d.mv ≡ 3 → ⊥) → Other d
  turned_off : (d.number ≡ 0 → ⊥) → (d.mv ≡ 8 → ⊥) → Other d

-- on a store that is the same
pub turned_same : {l : Plan} {s : Store} {entries : List Entry} {d : Due} {o : Origin} {s₁ s₂ : Store} {entries₁ entries₂ : List Entry} {r₁ r₂ : Answer}
    → s₁ ≡ s₂ → entries₁ ≡ entries₂ → r₁ ≡ r₂ → Turned l s entries d s₂ entries₂ r₂ o → Turned l s entries d s₁ entries₁ r₁ o
turned_same {l} {s} {entries} {d} {o} {s₁} {s₂} {entries₁} {entries₂} {r₁} {r₂} e f g h =
    subst (λ (x : Store). Turned l s entries d x entries₁ r₁ o) (sym e)
    (subst (λ (x : List Entry). Turned l s entries d s₂ x r₁ o) (sym f) (subst (λ (x : Answer). Turned l s entries d s₂ entries₂ x o) (sym g) h))

module _ {l : Plan} {schedule : List ℕ} {from end : ℕ} {s₀ : Store} {entries₀ : List Entry} {sheets₀ : Sheets}
    {i : ℕ} {s : Store} {entries : List Entry} {sheets : Sheets} {d : Due}
    (p : Round l schedule from end s₀ entries₀ sheets₀ i s entries sheets d) where
  abbrev it : code.Command
  it = command_in d

  abbrev Comes : Store → List Entry → Answer → Origin → Type 0
  Comes = Turned l s entries d

  -- those before the record, and it
  with_it : between schedule from (i + 1) ≡ between schedule from i ++ (command_of it ∷ [])
  with_it =
      let forward = p.so_far.forward in
      let below = p.below in
      let few = p.few in
      between-parts schedule from i (i + 1) forward (omega arith)
      ∙ ap (λ (r : List Command). between schedule from i ++ r) (between_one schedule i (omega arith) ∙ ap (λ (y : Command). y ∷ []) (sym p.due.command-is))

  -- Once it is written, it is played with those before it.
  pub on : {s' : Store} {entries' : List Entry} {sheets' : Sheets} {r : Answer} {o : Origin} → Comes s' entries' r o → Writes sheets i r o sheets'
      → Playing l schedule from end s₀ entries₀ sheets₀ (i + 1) s' entries' sheets'
  on {s'} {entries'} {sheets'} h w =
      let before = p.so_far in
      let below = p.below in
      let few = p.few in
      let forward = before.forward in
      record {
        forward = omega arith;
        inside = λ n h k. omega arith;
        no_undo = rw (with_it, any_undo-parts (between schedule from i) (command_of it ∷ []), before.no_undo, h.no_undo);
        long = still_long before.long w;
        played = λ t start u.
            let done = before.played t start u in
            let fit = suited_on u done in
            let one = played_one fit.reached (command_of it) p.due.a_small (h.answered t _ fit) (h.comes t _ fit) w in
            let so_many = between-length schedule from i (omega arith) in
            subst (λ (l : List Command). Played t start l s' entries' sheets₀ from sheets') (sym with_it) (played-parts done one (omega arith));
      }

  -- what the judging says of it, and that it lets through one that is not refused
  abbrev said : Option Reason
  said = judge_of l.counts it

  let_go : d.number ≡ 0 → said ≡ None
  let_go z = let_by l.counts it (sym p.due.number_is ∙ z)

  -- a record that is refused before its move is looked at
  pub comes_refused : (d.number ≡ 0 → ⊥) → (d.mv ≡ 8 → ⊥) → {r : Answer} → r ≡ turned_away d.number d.mv d.a → Comes s entries r no_origin
  comes_refused n other {r} e =
      let why = because l.counts it d.a (λ z. n (p.due.number_is ∙ z)) in
      let its : r ≡ refusal_for why.reason d.a = e ∙ ap (λ (k : ℕ). turned_away k d.mv d.a) p.due.number_is ∙ why.answer-is in
      record {
        no_undo = ne_eqb d.mv 8 other;
        answered = λ t now u. refused u.planned it said refl now d.a refl why.reason u.holds why.is-reason its;
        comes = λ t now u. refused-origin u.planned it said refl now d.a refl why.reason why.is-reason;
      }

  -- What tells the origin of the word that move k puts on the bus is o, where the move has what it asks. A word that is carried was waiting.
  abbrev Told : (Table → List Entry → Type 0) → ℕ → Moved → Origin → Type 0
  Told asks k m o =
      (t : Table) (now : Cabinet) → Suited t l now s entries → d.a < most_of (move_of k) t → asks t entries
      → (move_of k ≡ transmit_move → m.answer.code ≡ 4 → outbox_at now d.a ≡ [] → ⊥) → told_by t (outbox_at now d.a) m.answer.code (move_of k) ≡ o

  told_by_lem : (asks : Table → List Entry → Type 0) (k : ℕ) → d.mv ≡ k → (m : Moved) (o : Origin) → Told asks k m o
      → (t : Table) (now : Cabinet) → Suited t l now s entries → d.a < most_of (move_of k) t → asks t entries
      → (numbers (turn t now (command_of it)).answer).code ≡ m.answer.code → origin_of (turn t now (command_of it)).answer ≡ o
  told_by_lem asks k is-k m o tells t now u inside asked code_is =
      let x : Command = command_of it in
      origin-told t now x
      ∙ ap (λ (j : ℕ). told_by t (outbox_at now d.a) j (move_of d.mv)) code_is
      ∙ ap (λ (j : ℕ). told_by t (outbox_at now d.a) m.answer.code (move_of j)) is-k
      ∙ tells t now u inside asked (λ e f g. carried_waited t now x (ap move_of is-k ∙ e) (code_is ∙ f) g)

  -- one that is its move: what the rules call the move of number k
  pub comes_made : d.number ≡ 0 → (k : ℕ) → eqb k 8 ≡ false → d.mv ≡ k → {asks : Table → List Entry → Type 0} {joins : ℕ} {entry : Entry} {s' : Store}
      {entries' : List Entry} {m : Moved} {o : Origin} → Makes (rule_of (move_of k) d.word) asks joins l s d.a entry s' m
      → ((t : Table) (now : Cabinet) → Accepted t → Holds t s entries now → d.a < most_of (move_of k) t → asks t entries × (entries' ≡ joined entries m.at entry))
      → Told asks k m o → Comes s' entries' m.answer o
  unfolding turn
  comes_made z k other is-k {asks = asks} {entry = entry} {s' = s'} {entries' = entries'} {m = m} {o = o} h given tells =
      let x : Command = command_of it in
      let inside : (t : Table) (now : Cabinet) → Suited t l now s entries → d.a < most_of (move_of k) t =
      λ t now u. (passes u.planned it said refl now d.a refl k is-k (let_go z)).a-inside in
      let there : (t : Table) (now : Cabinet) → Suited t l now s entries → asks t entries × (entries' ≡ joined entries m.at entry) =
      λ t now u. given t now u.reached.accepted u.holds (inside t now u) in
      let answers : (t : Table) (now : Cabinet) → Suited t l now s entries → Answered t s' entries' now x (judged t now x) m.answer =
      λ t now u.
      subst (λ (l : List Entry). Answered t s' l now x (judged t now x) m.answer) (sym (there t now u).1)
      (made u.planned it said refl now d.a refl k is-k (let_go z)
      (h.made t entries now x u.reached u.planned u.holds refl (there t now u).0)) in
      record {
        no_undo = ap (λ (m : ℕ). eqb m 8) is-k ∙ other;
        answered = answers;
        comes = λ t now u. told_by_lem asks k is-k m o tells t now u (inside t now u) (there t now u).0 (ap (λ (y : Numbers). y.code) (answers t now u).answer-is);
      }

  -- one of moves 5 to 7: no other passes but those that the loop makes itself
  pub comes_mended : d.number ≡ 0 → (d.mv ≡ 1 → ⊥) → (d.mv ≡ 2 → ⊥) → (d.mv ≡ 3 → ⊥) → (d.mv ≡ 4 → ⊥) → {s' : Store} {entries' : List Entry} {m : Moved}
      → Mends (lent l) d.mv d.a s s' m → entries' ≡ joined entries m.at (transfer_entry d.a)
      → Comes s' entries' m.answer no_origin
  comes_mended z h1 h2 h3 h4 {s'} {entries'} {m} h e =
      by_eq d.mv 5
      (λ is. comes_made z 5 refl is (h.crashes is l.table) (λ t now ok holds b. (b, e)) (λ t now u b asked w. refl))
      (λ h5. by_eq d.mv 6
      (λ is. comes_made z 6 refl is (h.rejoins is l.table) (λ t now ok holds b. (b, e)) (λ t now u b asked w. refl))
      (λ h6. by_eq d.mv 7
      (λ is. comes_made z 7 refl is (h.rebackups is l.table) (λ t now ok holds b. (b, e)) (λ t now u b asked w. refl))
      (λ h7.
      let none : (t : Table) (now : Cabinet) → Suited t l now s entries → ⊥ =
      λ t now u. known u.planned it said refl now d.a refl (let_go z) h1 h2 h3 h4 h5 h6 h7 in
      record {
        no_undo = ne_eqb d.mv 8 (λ e. let a = judge_of-undo l.counts it e in let b = let_go z in cc);
        answered = λ t now u. absurd (none t now u);
        comes = λ t now u. absurd (none t now u);
      })))

  -- What one call does of the records that are no step, no sync and no carry. One that is refused before its move is looked at,
  comes_away : (d.number ≡ 0 → ⊥) → (d.mv ≡ 8 → ⊥) → {s' : Store} {entries' : List Entry} {before after : Sheets} {j : ℕ} {at : Option ℕ}
      (h : Others (lent l) j d s before s' after at) → entries' ≡ joined entries at (transfer_entry d.a)
      → Comes s' entries' h.moved.answer h.origin
  comes_away n other {s'} {entries'} {at = at} h e =
      let told = h.refused n in
      let none : at ≡ None = h.at_is ∙ ap (λ (m : Moved). m.at) told.1 in
      subst (Comes s' entries' h.moved.answer) (sym told.0.1)
      (turned_same told.0.0 (e ∙ sym (none-joined entries at _ none)) refl (comes_refused n other (ap (λ (m : Moved). m.answer) told.1)))

  -- one that is its move,
  comes_other : d.number ≡ 0 → (d.mv ≡ 1 → ⊥) → (d.mv ≡ 2 → ⊥) → (d.mv ≡ 3 → ⊥)
      → {s' : Store} {entries' : List Entry} {before after : Sheets} {j : ℕ} {at : Option ℕ}
      (h : Others (lent l) j d s before s' after at) → entries' ≡ joined entries at (transfer_entry d.a)
      → Comes s' entries' h.moved.answer h.origin
  comes_other z h1 h2 h3 {s'} {entries'} h e =
      let there : entries' ≡ joined entries h.moved.at (transfer_entry d.a) = e ∙ ap (λ (o : Option ℕ). joined entries o (transfer_entry d.a)) h.at_is in
      by_eq d.mv 4
      (λ is. comes_made z 4 refl is ((h.fed z is).1 l.table) (λ t now ok holds b. (b, there)) (λ t now u b asked w. sym (h.fed z is).0))
      (λ h4. subst (Comes s' entries' h.moved.answer) (sym (h.mended z h4).1) (comes_mended z h1 h2 h3 h4 (h.mended z h4).0 there))

  -- and either of them, once its answer is written
  pub on_others : Other d → {s' : Store} {entries' : List Entry} {sheets' : Sheets} {at : Option ℕ}
      → Others (lent l) i d s sheets s' sheets' at → entries' ≡ joined entries at (transfer_entry d.a)
      → Playing l schedule from end s₀ entries₀ sheets₀ (i + 1) s' entries' sheets'
  on_others (let_through z h1 h2 h3) h e = on (comes_other z h1 h2 h3 h e) h.writes
  on_others (turned_off n other) h e = on (comes_away n other h e) h.writes

-- ---- where the stretch ends

module _ {l : Plan} {schedule : List ℕ} {stretch : Stretch} {end : ℕ} {s₀ s : Store} {sheets₀ sheets : Sheets} {i : ℕ} {entries : List Entry} where
  ends : end ≡ min stretch.to (commands_in schedule) → Playing l schedule stretch.from end s₀ stretch.entries sheets₀ i s entries sheets
      → (i < end → is_undo (get_or (decode_schedule schedule) i (command 0 0 0)) ≡ true)
      → Plays l schedule stretch s₀ sheets₀ (record { from = i; to = stretch.to; entries = entries }) s sheets
  ends e p z = record {
    forward = p.forward;
    inside = λ h. p.inside _ h (omega arith);
    there = λ h. p.inside _ h (omega arith);
    ended = λ h k. z (omega arith);
    no_undo = p.no_undo;
    same_to = refl;
    played = p.played;
  }

  -- all of it is done
  pub at_last : end ≡ min stretch.to (commands_in schedule)
      → Playing l schedule stretch.from end s₀ stretch.entries sheets₀ i s entries sheets → (i < end → ⊥)
      → Plays l schedule stretch s₀ sheets₀ (record { from = i; to = stretch.to; entries = entries }) s sheets
  at_last e p z = ends e p (λ h. absurd (z h))

  -- the next record is a move 8
  pub at_undo : {d : Due} → end ≡ min stretch.to (commands_in schedule)
      → Round l schedule stretch.from end s₀ stretch.entries sheets₀ i s entries sheets d → d.mv ≡ 8
      → Plays l schedule stretch s₀ sheets₀ (record { from = i; to = stretch.to; entries = entries }) s sheets
  at_undo {d} e p z = ends e p.so_far (λ h. ap is_undo (sym p.due.command-is) ∙ eq-eqb d.mv 8 z)
