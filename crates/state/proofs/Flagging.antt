-- Whether a checkpoint or a transfer of a process waits: nothing else of the process is told by it.
use Rattle.std.proofs.Common.{◌≡◌, ℕ, ◌<◌, ◌≤◌, ◌≢◌, List, length, get_or, set, sym, refl, ap, ◌∙◌, subst, length-set, get_or-set_other, get_or-set_same}
use lib.ListN.{get_or-eq_default}
use Rattle.facts.specs.Tests.{by_eq, by_lt}
use Rattle.process.specs.declared.process.Process as code
use Rattle.process.specs.Row.{no_process, machine_of, standby_of, process_of, Kept, Seated}
use Rattle.rules.specs.Table.{Table}

-- one process twice, but for whether something of it waits
pub record Alike (x x' : code.Process) : Type 0 where
  pub process-is : process_of x' ≡ process_of x
  pub kept_again : Kept x → Kept x'
  pub seated_again : (a b : ℕ) → Seated a b x → Seated a b x'

alike_self : (x : code.Process) → Alike x x
alike_self x = record { process-is = refl; kept_again = λ k. k; seated_again = λ a b s. s }

-- something of it waits (1), or nothing (0)
abbrev pub flagged : code.Process → ℕ → code.Process
flagged x v = record x { waits = v }

alike_flag : (x : code.Process) (v : ℕ) → Alike x (flagged x v)
unfolding process_of machine_of standby_of
alike_flag x v = record {
  process-is = refl;
  kept_again = λ k. record {
    registers-length = k.registers-length;
    taken-length = k.taken-length;
    mail-length = k.mail-length;
    unread = k.unread;
    oldest = k.oldest;
    events = k.events;
    taken = k.taken;
    instructions = k.instructions;
    flag = k.flag;
    sound = k.sound;
  };
  seated_again = λ a b s. record { runs_on = s.runs_on; other-is = s.other-is };
}

-- all processes, but for what of each waits
pub record Flagged (t : Table) (processes processes' : List code.Process) : Type 0 where
  pub alike : (p : ℕ) → p < length t.processes → Alike (get_or processes p no_process) (get_or processes' p no_process)
  pub same_length : length processes' ≡ length processes

pub flagged_none : (t : Table) (processes : List code.Process) → Flagged t processes processes
flagged_none t processes = record { alike = λ p l. alike_self (get_or processes p no_process); same_length = refl }

-- something of process p waits, or nothing
abbrev pub with_flag : List code.Process → ℕ → ℕ → List code.Process
with_flag processes p v = set processes p (flagged (get_or processes p no_process) v)

pub flag_here : (processes : List code.Process) (p : ℕ) (v : ℕ) → p < length processes → (get_or (with_flag processes p v) p no_process).waits ≡ v
flag_here processes p v many =
    ap (λ (x : code.Process). x.waits) (get_or-set_same processes p (flagged (get_or processes p no_process) v) no_process many)

pub flag-there : (processes : List code.Process) (p q : ℕ) (v : ℕ) → q ≢ p
    → (get_or (with_flag processes p v) q no_process).waits ≡ (get_or processes q no_process).waits
flag-there processes p q v n =
    ap (λ (x : code.Process). x.waits) (get_or-set_other processes p q (flagged (get_or processes p no_process) v) no_process n)

pub flagged_one : (t : Table) (processes : List code.Process) (p : ℕ) (v : ℕ) → Flagged t processes (with_flag processes p v)
flagged_one t processes p v = record {
  alike = λ q h.
      by_eq q p
      (λ e. subst (λ (i : ℕ). Alike (get_or processes i no_process) (get_or (with_flag processes p v) i no_process)) (sym e) here)
      (λ n. rw (get_or-set_other processes p q (flagged (get_or processes p no_process) v) no_process n) (alike_self (get_or processes q no_process)));
  same_length = length-set processes p (flagged (get_or processes p no_process) v);
}
  where
    here : Alike (get_or processes p no_process) (get_or (with_flag processes p v) p no_process)
    here =
        by_lt p (length processes)
        (λ h. rw (get_or-set_same processes p (flagged (get_or processes p no_process) v) no_process h) (alike_flag (get_or processes p no_process) v))
        (λ h.
        let many : length (with_flag processes p v) ≤ p = rw (length-set processes p (flagged (get_or processes p no_process) v)) h in
        let same : get_or (with_flag processes p v) p no_process ≡ get_or processes p no_process =
        get_or-eq_default (with_flag processes p v) no_process {n = p} many ∙ sym (get_or-eq_default processes no_process {n = p} h) in
        rw same (alike_self (get_or processes p no_process)))
