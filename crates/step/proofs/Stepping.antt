-- Move 1 in a store: which case of the rules' step it is, the refusals 35 and 36, and the parts.
use Rattle.std.proofs.Common.{◌≡◌, ℕ, zero, suc, ◌<◌, Bool, true, false, cond, ◌&&◌, ◌||◌, ltb, leb, List, length, sym, refl, ap, ◌∙◌, length-set, subst, arith, ltb-true, ne_eqb}
use lib.Seq.{set-get_or}
use Rattle.facts.specs.Tests.{no_way}
use Rattle.process.specs.declared.process.Process as lent
use Rattle.process.specs.Row.{recorded, no_process, machine_of, process_of}
use Rattle.process.proofs.Processes.{limited-is}
use Rattle.instruction.specs.Instruction.{Intends, Fetched, Examined, TallyRoom}
use Rattle.instruction.specs.Laws as laws
use Rattle.instruction.specs.declared.instruction.Intent.{Intent}
use Rattle.instruction.specs.declared.instruction.Intent.TheVariants.{Halted, NoMail, Internal, Take, Send}
use Rattle.records.specs.Fetch.{fetched, instruction_of}
use Rattle.records.specs.declared.fetch.Instruction.{Instruction}
use Rattle.plan.specs.declared.Counts.{Counts}
use Rattle.plan.specs.declared.Plan as code
use Rattle.plan.specs.Plan.{Planned, plan_of, start_in, length_in, limit_in}
use Rattle.rules.specs.Table as rules
use Rattle.rules.specs.Table.{Table, code_of, limit_of}
use Rattle.rules.specs.Machine.{Machine, Outcome, halted, no_mail, execute, instruction_at, local_step}
use Rattle.rules.specs.Cabinet.{Cabinet, Process, instructions_most, process_at, limited, exhausted, overrun, owing}
use Rattle.rules.specs.Moves.{refuse, is_halted, events_full, instructions_full, missing, owed_for, step, step_from}
use Rattle.numbers.specs.declared.answers.Reason.{Reason}
use Rattle.numbers.specs.declared.answers.Reason.TheVariants as reasons
use Rattle.numbers.specs.declared.answers.Reason.TheVariants.{OwesForActs, OwesForInstructions}
use Rattle.rules.specs.Format.{instruction}
use Rattle.state.specs.declared.entry.Entry.{Entry}
use Rattle.state.specs.declared.moved.Moved.{Moved}
use Rattle.state.specs.declared.store.Store.{Store}
use Rattle.state.specs.Store.{lists_at, Holds}
use Rattle.state.specs.Moved.{Reachable, SameLengths, Makes, MailsStay, refusal_for, refused_for, AProcess}
use Rattle.state.specs.Beside.{other_backup, with_backups}
use Rattle.state.proofs.Changing.{put_process}
use Rattle.state.proofs.Reading.{at_process}
use Rattle.state.proofs.Counters.{instructions-few, events-few}
use Rattle.state.proofs.Refusing.{reason_for, turned_away_lem, makes-refused}
use Rattle.step.specs.Parts.{exhausted_in, overrun_in, owing_in, blame_in, missing_of, word_entry, Intending, Turns, CalculateTurns, TakeTurns, SendTurns}
use Rattle.step.specs.Steps as specs
use Rattle.step.proofs.Own.{StepsOwn, CalculateTurnsOwn, TakeTurnsOwn, SendTurnsOwn}
use Rattle.state.proofs.Making.{its_index, makes_under}
use Rattle.step.proofs.Beside.{its_part, backups_alone, intends_beside, backups-own}

-- ---- a store with one process changed

-- and nothing else
abbrev pub with_process_in : Store → ℕ → lent.Process → Store
with_process_in s p x' = put_process s p x' s.totals

-- with the process that it has it is the store that it was
pub same_process : (s : Store) (p : ℕ) → with_process_in s p (lists_at s p) ≡ s
same_process s p = ap (λ (l : List lent.Process). record { processes = l; queues = s.queues; totals = s.totals }) (set-get_or s.processes p no_process)

-- the arrays stay as long as they were
pub same_lengths : (s : Store) (p : ℕ) (x : lent.Process) (totals : List ℕ) → length totals ≡ length s.totals → SameLengths s (put_process s p x totals)
same_lengths s p x totals e = record { processes-same = length-set s.processes p x; queues-same = refl; totals-same = e }

-- ---- what refuses a step

-- which of the two is to blame, by the rules
owed_reason : (limit : ℕ) (x : Process) → reason_for (owed_for limit x) ≡ cond (exhausted limit x) OwesForActs OwesForInstructions
owed_reason limit x = go (exhausted limit x)
  where
    go : (b : Bool) → reason_for (cond b events_full instructions_full) ≡ cond b OwesForActs OwesForInstructions
    go true = refl
    go false = refl

-- whether it was a FIRST that found no word, by its code
missing_reason : (code a operand : ℕ) → reason_for (missing (instruction code a operand)) ≡ missing_of code
unfolding missing
missing_reason zero a operand = refl
missing_reason (suc zero) a operand = refl
missing_reason (suc (suc zero)) a operand = refl
missing_reason (suc (suc (suc zero))) a operand = refl
missing_reason (suc (suc (suc (suc zero)))) a operand = refl
missing_reason (suc (suc (suc (suc (suc zero))))) a operand = refl
missing_reason (suc (suc (suc (suc (suc (suc zero)))))) a operand = refl
missing_reason (suc (suc (suc (suc (suc (suc (suc n))))))) a operand = rw (ne_eqb (suc (suc (suc (suc (suc (suc (suc n))))))) 4 (λ e. omega arith))

-- ---- the case of the rules' step

-- a machine that waits for a word stands at an instruction of its program
waits-inside : (program : List rules.Instruction) (m : Machine) → local_step program m ≡ no_mail → m.pc < length program
unfolding local_step
waits-inside program m e = go (ltb m.pc (length program)) refl e
  where
    go : (b : Bool) → ltb m.pc (length program) ≡ b → cond b (execute (instruction_at program m) m) halted ≡ no_mail → m.pc < length program
    go true f g = ltb-true m.pc (length program) f
    go false f g = absurd (no_way (cc))

module _ {t : Table} {s : Store} {entries : List Entry} {c : Cabinet} (h : Holds t s entries c) (p : ℕ) (hp : p < length t.processes) where
  abbrev x : lent.Process
  x = lists_at s p

  pub machine-is : (process_at c p).machine ≡ machine_of x
  unfolding process_of
  machine-is = ap (λ (y : Process). y.machine) (at_process h p hp)

  pub step_is : (o : Outcome) → local_step (code_of t p) (machine_of x) ≡ o → step t c p ≡ step_from t c p (process_at c p) o
  unfolding step
  step_is o e = ap (λ (m : Machine). step_from t c p (process_at c p) (local_step (code_of t p) m)) machine-is ∙ ap (step_from t c p (process_at c p)) e

  pub exhausted-is : exhausted (limit_of t p) (process_at c p) ≡ exhausted_in (limit_of t p) x
  unfolding exhausted process_of
  exhausted-is = ap (exhausted (limit_of t p)) (at_process h p hp) ∙ ap (λ (b : Bool). b && leb (limit_of t p) x.events) (limited-is x)

  pub overrun-is : overrun (process_at c p) ≡ overrun_in x
  unfolding overrun process_of
  overrun-is = ap overrun (at_process h p hp) ∙ ap (λ (b : Bool). b && leb instructions_most x.instructions) (limited-is x)

  pub owing-is : owing (limit_of t p) (process_at c p) ≡ owing_in (limit_of t p) x
  unfolding owing
  owing-is = λ i. exhausted-is i || overrun-is i

  -- which of the two is to blame
  pub blame_is : reason_for (owed_for (limit_of t p) (process_at c p)) ≡ blame_in (limit_of t p) x
  blame_is = owed_reason (limit_of t p) (process_at c p) ∙ ap (λ (b : Bool). cond b OwesForActs OwesForInstructions) exhausted-is

  -- a process is limited where it has a record, and then its instructions and its events are few
  pub limited_here : recorded x.protection ≡ true → limited (process_at c p) ≡ true
  limited_here e = ap limited (at_process h p hp) ∙ limited-is x ∙ e

  pub events-room : Reachable t c → TallyRoom x x.events
  unfolding process_of
  events-room reach n =
      let e : (process_at c p).since.events ≡ x.events = ap (λ (y : Process). y.since.events) (at_process h p hp) in
      let f = events-few reach p hp (limited_here n) in
      omega arith

  pub instructions-room : Reachable t c → TallyRoom x x.instructions
  unfolding process_of
  instructions-room reach n =
      let e : (process_at c p).since.instructions ≡ x.instructions = ap (λ (y : Process). y.since.instructions) (at_process h p hp) in
      let f = instructions-few reach p hp (limited_here n) in
      omega arith

  module _ (n code a operand : ℕ) where
    pub refused_35 : Intends (code_of t p) x n code a operand Halted → step t c p ≡ refuse is_halted
    unfolding step_from
    refused_35 i = step_is _ i.outcome

    pub refused_36 : Intends (code_of t p) x n code a operand NoMail → step t c p ≡ refuse (missing (instruction_at (code_of t p) (process_at c p).machine))
    unfolding step_from
    refused_36 i = step_is _ i.outcome

    -- whether it was a FIRST, by the code that was fetched
    pub missing-is : Intends (code_of t p) x n code a operand NoMail
        → reason_for (missing (instruction_at (code_of t p) (process_at c p).machine)) ≡ missing_of code
    unfolding machine_of
    missing-is i =
        let e = i.fetched.length-is in
        let here : x.pc < length (code_of t p) = waits-inside (code_of t p) (machine_of x) i.outcome in
        ap (λ (m : Machine). reason_for (missing (instruction_at (code_of t p) m))) machine-is
        ∙ ap (λ (y : rules.Instruction). reason_for (missing y)) (i.fetched.instruction-is (omega arith))
        ∙ missing_reason code a operand

-- ---- what the move promises

module _ (table : List ℕ) (plan : code.Plan) (s : Store) (p a : ℕ) (is-p : a < 16 → p ≡ a) (r : Moved) (j : Instruction)
    (is-fetched : j ≡ fetched table (start_in plan.programs p) (lists_at s p).pc) where
  abbrev its : lent.Process
  its = lists_at s p

  -- what was examined is this intent
  pub record Means (intent : Intent) : Type 0 where
    pub seen : Intent
    pub examined : Examined its (length_in plan.programs p) j.code j.a j.operand seen
    pub is : seen ≡ intent

  module _ (intent : Intent) (m : Means intent) (limit : ℕ) (is-limit : limit ≡ limit_in plan.programs p) where
    -- the instruction fetched is the program's, so its intent is the rules', and so it is with another backup
    module _ (counts : Counts) (others : ℕ → lent.Process) {t : Table} {entries : List Entry} {c : Cabinet} (reach : Reachable t c)
        (planned : Planned t (plan_of table (record plan { counts = counts }))) (h : Holds t (with_backups others s) entries c) where
      intending_at : p < length t.processes → Intending t limit p (with_backups others s) (length_in plan.programs p) j.code j.a j.operand intent
      intending_at hp =
          let here = laws.fetched t p reach.accepted hp its j.code j.a j.operand
          (λ l. sym (planned.code_at p hp its.pc l) ∙ ap instruction_of (sym is-fetched)) in
          let its-length = subst (λ (n : ℕ). Fetched (code_of t p) its n j.code j.a j.operand) (sym (planned.length_at p hp)) here in
          let own : Intends (code_of t p) its (length_in plan.programs p) j.code j.a j.operand intent =
          subst (Intends (code_of t p) its (length_in plan.programs p) j.code j.a j.operand) m.is (m.examined (code_of t p) its-length) in
          record {
            process-there = hp;
            limit_is = sym (planned.limit_at p hp) ∙ sym is-limit;
            intends = subst (λ (y : lent.Process). Intends (code_of t p) y (length_in plan.programs p) j.code j.a j.operand intent)
                (sym (its_part other_backup others s.processes reach h refl p hp))
                (intends_beside (others p) intent own);
          }

      intending : a < length t.processes → Intending t limit a (with_backups others s) (length_in plan.programs p) j.code j.a j.operand intent
      intending ha =
          let q = its_index reach ha is-p in
          subst (λ (i : ℕ). Intending t limit i (with_backups others s) (length_in plan.programs p) j.code j.a j.operand intent) q (intending_at (rw q ha))

    -- and so it is on the lent store itself
    intending_own : {t : Table} {entries : List Entry} {c : Cabinet} → Reachable t c → Planned t (plan_of table plan) → Holds t s entries c
        → a < length t.processes → Intending t limit a s (length_in plan.programs p) j.code j.a j.operand intent
    intending_own {t} {entries} {c} reach planned h ha =
        subst (λ (y : Store). Intending t limit a y (length_in plan.programs p) j.code j.a j.operand intent) (backups-own s)
        (intending plan.counts (lists_at s) reach planned (subst (λ (y : Store). Holds t y entries c) (sym (backups-own s)) h) ha)

  abbrev Promises : Store → Type 0
  Promises s' = specs.Steps table plan s a s' r

  pub steps_35 : Means Halted → r ≡ refused_for reasons.Halted a → Promises s
  steps_35 m g counts others =
      makes-refused reasons.Halted g (λ t entries c command reach planned h f ha.
      turned_away_lem command a is_halted h (refused_35 h a ha _ _ _ _ (intending Halted m _ refl counts others reach planned h ha).intends) f refl)

  pub steps_36 : Means NoMail → r ≡ refused_for (missing_of j.code) a → Promises s
  steps_36 m g counts others =
      makes-refused (missing_of j.code) g (λ t entries c command reach planned h f ha.
      let i = (intending NoMail m _ refl counts others reach planned h ha).intends in
      turned_away_lem command a (missing (instruction_at (code_of t a) (process_at c a).machine)) h (refused_36 h a ha _ _ _ _ i) f
      (ap (λ (why : Reason). refusal_for why a) (sym (missing-is h a ha _ _ _ _ i))))

  -- ---- the parts, on the lent plan and store themselves

  module _ {s' : Store} where
    pub steps_calculated : Means Internal → CalculateTurnsOwn s a j.code j.a j.operand s' r → StepsOwn table plan s a s' r
    steps_calculated m part =
        makes_under (AProcess a) (λ t entries c reach planned h ha. intending_own Internal m _ refl reach planned h ha) (part (plan_of table plan) _ _)

    module _ (limit : ℕ) (is-limit : limit ≡ limit_in plan.programs p) where
      pub steps-taken : (at : ℕ) → Means (Take at) → TakeTurnsOwn plan s limit a j.code j.a at s' r → StepsOwn table plan s a s' r
      steps-taken at m part =
          makes_under (AProcess a) (λ t entries c reach planned h ha. intending_own (Take at) m limit is-limit reach planned h ha) (part table _ _)

      pub steps-sent : (channel word : ℕ) → Means (Send channel word) → SendTurnsOwn plan s limit a channel word s' r → StepsOwn table plan s a s' r
      steps-sent channel word m part =
          makes_under (AProcess a) (λ t entries c reach planned h ha. intending_own (Send channel word) m limit is-limit reach planned h ha)
          (part table _ _ _ _)

  -- ---- and on every plan and store that are the lent ones but for counts and backups

  -- what a part makes of the store with other backups
  abbrev Part : Counts → (ℕ → lent.Process) → Intent → ℕ → ℕ → ℕ → ℕ → ℕ → Store → Type 0
  Part counts others intent limit n code register operand then =
      Turns (plan_of table (record plan { counts = counts })) (with_backups others s) limit a n code register operand intent (word_entry s a r.answer) then r

  module _ (s' : Store) where
    under : (intent : Intent) → Means intent → (limit : ℕ) → limit ≡ limit_in plan.programs p → (counts : Counts) (others : ℕ → lent.Process) (then : Store)
        → then ≡ with_backups others s' → Part counts others intent limit (length_in plan.programs p) j.code j.a j.operand then
        → Makes step (AProcess a) 2 (plan_of table (record plan { counts = counts })) (with_backups others s) a (word_entry s a r.answer) (with_backups others s') r
    under intent m limit is-limit counts others then is part =
        makes_under (AProcess a) (λ t entries c reach planned h ha. intending intent m limit is-limit counts others reach planned h ha)
        (subst (Part counts others intent limit (length_in plan.programs p) j.code j.a j.operand) is part)

    pub steps_calculated_beside : MailsStay s s' → s'.queues ≡ s.queues → s'.totals ≡ s.totals → Means Internal → CalculateTurns s a j.code j.a j.operand s' r → Promises s'
    steps_calculated_beside mails queues totals m part counts others =
        under Internal m _ refl counts others _
        (λ k. record (backups_alone others s s' mails k) { queues = sym queues k; totals = sym totals k })
        (part (plan_of table (record plan { counts = counts })) (λ p. other_backup (lists_at s p) (others p)) s.queues s.totals _ _)

    module _ (limit : ℕ) (is-limit : limit ≡ limit_in plan.programs p) where
      pub steps_taken_beside : s'.queues ≡ s.queues → (at : ℕ) → Means (Take at) → TakeTurns plan s limit a j.code j.a at s' r → Promises s'
      steps_taken_beside queues at m part counts others =
          under (Take at) m limit is-limit counts others _ (λ k. record (with_backups others s') { queues = sym queues k })
          (part table counts plan.programs others s.queues _ _)

      pub steps_sent_beside : MailsStay s s' → (channel word : ℕ) → Means (Send channel word) → SendTurns plan s limit a channel word s' r → Promises s'
      steps_sent_beside mails channel word m part counts others =
          under (Send channel word) m limit is-limit counts others _ (backups_alone others s s' mails)
          (part table counts plan.programs (λ p. other_backup (lists_at s p) (others p)) _ _ _ _)
