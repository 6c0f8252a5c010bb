-- Moves 1 and 2 on a store with other mailboxes and backups than the lent one has: what is read there of a process, what a change of one makes of
-- it, and what an instruction is and does there. And on the lent store itself, what the moves and the parts of a step promise.
use Rattle.std.proofs.Common.{◌≡◌, refl, ℕ, ◌^◌, ◌<◌, List, length, get_or, set, sym, ap, ◌∙◌, subst, subst₂, arith, length-set, get_or-set_same, get_or-set_other}
use lib.ListN.{get_or-eq_default}
use Rattle.facts.specs.Tests.{by_eq, by_lt}
use Rattle.facts.specs.Lists.{listed_same}
use Rattle.process.specs.declared.process.Process.{Process}
use Rattle.process.specs.Row.{no_process, machine_of}
use Rattle.process.specs.Change.{MailStays}
use Rattle.instruction.specs.Instruction.{Intends, Takes, Suppresses, suppressed_in}
use Rattle.instruction.specs.declared.instruction.Intent.{Intent}
use Rattle.instruction.specs.declared.instruction.Intent.TheVariants.{Halted, NoMail, Internal, Take, Send}
use Rattle.instruction.proofs.Counting.{suppresses}
use Rattle.plan.specs.declared.Plan as code
use Rattle.plan.specs.Plan.{plan_of}
use Rattle.rules.specs.Table as rules
use Rattle.rules.specs.Table.{Table}
use Rattle.rules.specs.Cabinet.{Cabinet}
use Rattle.rules.specs.Moves.{step, issue}
use Rattle.state.specs.declared.entry.Entry.{Entry}
use Rattle.state.specs.declared.moved.Moved.{Moved}
use Rattle.state.specs.declared.store.Store.{Store}
use Rattle.state.specs.Store.{lists_at, Holds}
use Rattle.state.specs.Moved.{Reachable, Makes, MailsStay, BackupsStay, AProcess}
use Rattle.state.specs.Beside.{other_backup, other_lists, each_with, with_backups, with_lists}
use Rattle.state.proofs.Beside.{each_length, each_at, each_set, own_backups, own_lists}
use Rattle.state.proofs.Changing.{put_process}
use Rattle.step.specs.Issues.{Issues, sync_entry}
use Rattle.step.specs.Parts.{word_entry, Turns, CalculateTurns, TakeTurns, SendTurns}
use Rattle.step.specs.Steps.{Steps}
use Rattle.step.proofs.Own.{StepsOwn, IssuesOwn, CalculateTurnsOwn, TakeTurnsOwn, SendTurnsOwn}

-- ---- a store whose processes have a part of others

module _ (part : Process → Process → Process) (others : ℕ → Process) (l : List Process) where
  -- as many as there were
  pub same_many : (l' : List Process) → length l' ≡ length l → length (each_with part others l') ≡ length (each_with part others l)
  same_many l' e = each_length part others l' ∙ e ∙ sym (each_length part others l)

  -- one that holds a cabinet
  module _ {t : Table} {s : Store} {entries : List Entry} {c : Cabinet} (reach : Reachable t c) (h : Holds t s entries c)
      (is : s.processes ≡ each_with part others l) (p : ℕ) (hp : p < length t.processes) where
    pub within : p < length l
    within =
        let few = reach.accepted.processes_high in
        let many : length (each_with part others l) ≡ 16 = ap (λ (y : List Process). length y) (sym is) ∙ h.shape.processes-length in
        let as_many = each_length part others l in
        omega arith

    pub its_part : lists_at s p ≡ part (get_or l p no_process) (others p)
    its_part = ap (λ (y : List Process). get_or y p no_process) is ∙ each_at part others l p within

    pub put_part : (x : Process) → each_with part others (set l p x) ≡ set s.processes p (part x (others p))
    put_part x = each_set part others l p x within ∙ ap (λ (y : List Process). set y p (part x (others p))) (sym is)

-- with another's backup alone, where the mailboxes stay
pub backups_alone : (others : ℕ → Process) (s s' : Store) → MailsStay s s'
    → with_lists (λ p. other_backup (lists_at s p) (others p)) s' ≡ with_backups others s'
backups_alone others s s' stay =
    ap (λ (l : List Process). record s' { processes = l })
    (listed_same (λ p. other_lists (lists_at s' p) (other_backup (lists_at s p) (others p))) (λ p. other_backup (lists_at s' p) (others p)) (length s'.processes)
    (λ p k. λ i. record (lists_at s' p) { mail = sym (stay p) i; log = (others p).log; head = (others p).head }))

-- a change of one process that leaves its mailbox leaves them all
pub mails_put : (s : Store) (p : ℕ) (x' : Process) (totals : List ℕ) → MailStays (lists_at s p) x' → MailsStay s (put_process s p x' totals)
mails_put s p x' totals stay q =
    by_eq q p
    (λ e. subst (λ (i : ℕ). MailStays (lists_at s i) (get_or (set s.processes p x') i no_process)) (sym e) here)
    (λ n. ap (λ (y : Process). y.mail) (get_or-set_other s.processes p q x' no_process n))
  where
    here : MailStays (lists_at s p) (get_or (set s.processes p x') p no_process)
    here =
        by_lt p (length s.processes)
        (λ h. ap (λ (y : Process). y.mail) (get_or-set_same s.processes p x' no_process h) ∙ stay)
        (λ h.
        ap (λ (y : Process). y.mail)
        (get_or-eq_default (set s.processes p x') no_process {n = p} (rw (length-set s.processes p x') h) ∙ sym (get_or-eq_default s.processes no_process {n = p} h)))

-- ---- an instruction of such a process

-- what it would do is what it would do with another backup
pub intends_beside : {program : List rules.Instruction} {x : Process} (other : Process) {n code a operand : ℕ} (intent : Intent)
    → Intends program x n code a operand intent → Intends program (other_backup x other) n code a operand intent
unfolding machine_of
intends_beside other Halted i = record { fetched = record { length-is = i.fetched.length-is; few = i.fetched.few; instruction-is = i.fetched.instruction-is; in_range = i.fetched.in_range }; outcome = i.outcome; inside = i.inside }
intends_beside other NoMail i = record { fetched = record { length-is = i.fetched.length-is; few = i.fetched.few; instruction-is = i.fetched.instruction-is; in_range = i.fetched.in_range }; outcome = i.outcome; inside = i.inside }
intends_beside other Internal i = record { fetched = record { length-is = i.fetched.length-is; few = i.fetched.few; instruction-is = i.fetched.instruction-is; in_range = i.fetched.in_range }; outcome = i.outcome; inside = i.inside }
intends_beside other (Take at) i = record { fetched = record { length-is = i.fetched.length-is; few = i.fetched.few; instruction-is = i.fetched.instruction-is; in_range = i.fetched.in_range }; outcome = i.outcome; inside = i.inside }
intends_beside other (Send channel word) i = record { fetched = record { length-is = i.fetched.length-is; few = i.fetched.few; instruction-is = i.fetched.instruction-is; in_range = i.fetched.in_range }; outcome = i.outcome; inside = i.inside }

-- so is what a TAKE or a FIRST does
pub takes_beside : (x : Process) (other : Process) (code a at port : ℕ) (x' : Process) → Takes x code a at port x'
    → Takes (other_backup x other) code a at port (other_backup x' other)
unfolding machine_of
takes_beside x other code a at port x' takes = record {
  untouched = λ h. ap (λ (y : Process). other_backup y other) (takes.untouched h);
  became = λ program n operand log head k i there events room instructions.
      takes.became program n operand log head k (intends_beside x (Take at) i) there events room instructions;
}

-- a SEND that is suppressed
pub suppresses_exact : (x : Process) → x.suppress < 2 ^ 32 → Suppresses x (suppressed_in x)
suppresses_exact x fits = suppresses x _ (omega arith) (omega arith)

-- ---- on the lent store itself

-- with its own backups, and with its own mailboxes and backups, it is as it was
pub backups-own : (s : Store) → with_backups (lists_at s) s ≡ s
backups-own s = own_backups s s (λ p. record { log-stays = refl; head-stays = refl })

lists-own : (s : Store) → with_lists (lists_at s) s ≡ s
lists-own s = own_lists s s (λ p. refl) (λ p. record { log-stays = refl; head-stays = refl })

-- what a step makes of it,
pub steps_own : (table : List ℕ) (plan : code.Plan) (s : Store) (a : ℕ) (s' : Store) (r : Moved) → Steps table plan s a s' r → BackupsStay s s'
    → StepsOwn table plan s a s' r
steps_own table plan s a s' r steps backups =
    subst₂ (λ (z z' : Store). Makes step (AProcess a) 2 (plan_of table plan) z a (word_entry s a r.answer) z' r) (backups-own s)
    (own_backups s s' backups) (steps plan.counts (lists_at s))

-- a sync,
pub issues_own : (s : Store) (a : ℕ) (s' : Store) (r : Moved) → Issues s a s' r → MailsStay s s' → BackupsStay s s' → s'.totals ≡ s.totals
    → IssuesOwn s a s' r
issues_own s a s' r issues mails backups totals l =
    subst₂ (λ (z z' : Store). Makes issue (AProcess a) 0 l z a (sync_entry s a) z' r) (lists-own s)
    (λ k. record (own_lists s s' mails backups k) { totals = sym totals k }) (issues l (lists_at s) s.totals)

-- and the parts of a step: a SET, an ADD or a JUMP,
pub calculates_own : (s : Store) (a code register operand : ℕ) (s' : Store) (r : Moved) → CalculateTurns s a code register operand s' r → MailsStay s s'
    → BackupsStay s s' → s'.queues ≡ s.queues → s'.totals ≡ s.totals
    → CalculateTurnsOwn s a code register operand s' r
calculates_own s a code register operand s' r turns mails backups queues totals l limit n =
    subst₂ (λ (z z' : Store). Turns l z limit a n code register operand Internal (word_entry s a r.answer) z' r) (lists-own s)
    (λ k. record (own_lists s s' mails backups k) { queues = sym queues k; totals = sym totals k }) (turns l (lists_at s) s.queues s.totals limit n)

-- a TAKE or a FIRST,
pub takes_own : (plan : code.Plan) (s : Store) (limit a code register at : ℕ) (s' : Store) (r : Moved) → TakeTurns plan s limit a code register at s' r
    → BackupsStay s s' → s'.queues ≡ s.queues
    → TakeTurnsOwn plan s limit a code register at s' r
takes_own plan s limit a code register at s' r turns backups queues table n operand =
    subst₂ (λ (z z' : Store). Turns (plan_of table plan) z limit a n code register operand (Take at) (word_entry s a r.answer) z' r) (backups-own s)
    (λ k. record (own_backups s s' backups k) { queues = sym queues k }) (turns table plan.counts plan.programs (lists_at s) s.queues n operand)

-- and a SEND
pub sends_own : (plan : code.Plan) (s : Store) (limit a channel word : ℕ) (s' : Store) (r : Moved) → SendTurns plan s limit a channel word s' r
    → MailsStay s s' → BackupsStay s s'
    → SendTurnsOwn plan s limit a channel word s' r
sends_own plan s limit a channel word s' r turns mails backups table n code register operand =
    subst₂ (λ (z z' : Store). Turns (plan_of table plan) z limit a n code register operand (Send channel word) (word_entry s a r.answer) z' r) (lists-own s)
    (own_lists s s' mails backups) (turns table plan.counts plan.programs (lists_at s) n code register operand)
