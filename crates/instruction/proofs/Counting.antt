-- What a process counts, and its next place: an instruction more behind what was done, and a SEND, suppressed or queued.
use Rattle.std.proofs.Common.{◌≡◌, ℕ, suc, ◌+◌, ◌%◌, ◌^◌, ◌<◌, Bool, true, false, cond, List, get_or, set, refl, ap, ◌∙◌, arith}
use lib.Seq.{set-get_or}
use Rattle.facts.specs.Tests.{by_lt, no_way}
use Rattle.rules.specs.Table.{Instruction}
use Rattle.rules.specs.Machine.{Machine, moved, Act}
use Rattle.rules.specs.Cabinet.{Since}
use Rattle.rules.specs.Moves.{advanced, counting, one_done, one_sent, one_taken}
use Rattle.process.specs.Row.{recorded, machine_of, standby_of, process_of, Kept}
use Rattle.process.specs.declared.process.Process.{Process}
use Rattle.instruction.specs.Instruction.{outcome_of, Intends, tallied, event_in, TallyRoom, Suppresses, Queues}
use Rattle.instruction.specs.declared.instruction.Intent.{Intent}
use Rattle.process.proofs.Processes.{limited-is}
use Rattle.instruction.proofs.Examining.{step-halted}

-- ---- counters

-- a counter of a process that is limited has one more, and that of another is as it was
pub counted-more : (x : Process) (counter : ℕ) → TallyRoom x counter → recorded x.protection ≡ true → tallied x counter ≡ suc counter
counted-more x counter room e = let r = room e in rw e (omega arith)

pub counted-none : (x : Process) (counter : ℕ) → counter < 2 ^ 32 → recorded x.protection ≡ false → tallied x counter ≡ counter
counted-none x counter w e = rw e (omega arith)

-- what is counted since the last checkpoint was issued, by whether the process is limited
counting-is : (x : Process) (more : Since → Since) (since : Since)
    → (recorded x.protection ≡ true → since ≡ more (process_of x).since) → (recorded x.protection ≡ false → since ≡ (process_of x).since)
    → since ≡ counting more (process_of x)
counting-is x more since t f = rw (limited-is x) (go (recorded x.protection) t f)
  where
    go : (b : Bool) → (b ≡ true → since ≡ more (process_of x).since) → (b ≡ false → since ≡ (process_of x).since)
        → since ≡ cond b (more (process_of x).since) (process_of x).since
    go true t f = t refl
    go false t f = f refl

module _ (x : Process) (k : Kept x) where
  pub done-is : TallyRoom x x.instructions
      → ◌≡◌ {A = Since} (record { instructions = tallied x x.instructions; events = x.events; taken = x.taken }) (counting one_done (process_of x))
  unfolding process_of
  done-is room =
      counting-is x one_done _
      (λ e. let i = counted-more x x.instructions room e in λ j. record { instructions = i j; events = x.events; taken = x.taken })
      (λ e. let i = counted-none x x.instructions k.instructions e in λ j. record { instructions = i j; events = x.events; taken = x.taken })

  module _ (events : TallyRoom x x.events) (instructions : TallyRoom x x.instructions) where
    pub sent-is : ◌≡◌ {A = Since} (record { instructions = tallied x x.instructions; events = tallied x x.events; taken = x.taken }) (counting one_sent (process_of x))
    unfolding process_of
    sent-is =
        counting-is x one_sent _
        (λ e.
        let i = counted-more x x.instructions instructions e in
        let n = counted-more x x.events events e in
        λ j. record { instructions = i j; events = n j; taken = x.taken })
        (λ e.
        let i = counted-none x x.instructions k.instructions e in
        let n = counted-none x x.events k.events e in
        λ j. record { instructions = i j; events = n j; taken = x.taken })

    pub taken-is : (port : ℕ) → TallyRoom x (get_or x.taken port 0)
        → ◌≡◌ {A = Since} (record { instructions = tallied x x.instructions; events = tallied x x.events; taken = set x.taken port (tallied x (get_or x.taken port 0)) })
        (counting (one_taken port) (process_of x))
    unfolding process_of
    taken-is port room =
        let was = get_or x.taken port 0 in
        counting-is x (one_taken port) _
        (λ e.
        let i = counted-more x x.instructions instructions e in
        let n = counted-more x x.events events e in
        let t = ap (set x.taken port) (counted-more x was room e) in
        λ j. record { instructions = i j; events = n j; taken = t j })
        (λ e.
        let i = counted-none x x.instructions k.instructions e in
        let n = counted-none x x.events k.events e in
        let t = ap (set x.taken port) (counted-none x was (k.taken port) e) ∙ set-get_or x.taken port 0 in
        λ j. record { instructions = i j; events = n j; taken = t j })

-- ---- the place

-- an instruction that was done was not past the end
pub going : {program : List Instruction} {x : Process} {n code a operand : ℕ} {i : Intent} (m : Machine) (act : Act)
    → Intends program x n code a operand i → outcome_of x code a operand i ≡ moved m act → x.pc < n
going {program} {x} {n} {code} {a} {operand} m act s e =
    by_lt x.pc n (λ l. l) (λ l. let o = s.outcome in let z = step-halted x n code a operand program s.fetched l in absurd (no_way (cc)))

-- and so the next place is one more, not wrapped
pub next-is : {program : List Instruction} {x : Process} {n code a operand : ℕ} {i : Intent} (m : Machine) (act : Act)
    → Intends program x n code a operand i → outcome_of x code a operand i ≡ moved m act → (x.pc + 1) % 2 ^ 32 ≡ suc x.pc
next-is m act s e = let g = going m act s e in let f = s.fetched.few in omega arith

-- ---- a SEND

-- one less by wrapping subtraction
one_less_lem : (r x left : ℕ) → (r + 1) % 2 ^ 32 ≡ x → r < 2 ^ 32 → x ≡ suc left → r ≡ left
one_less_lem r x left e l h = omega arith

pub suppresses : (x : Process) (r : ℕ) → (r + 1) % 2 ^ 32 ≡ x.suppress → r < 2 ^ 32 → Suppresses x (record x { suppress = r; pc = (x.pc + 1) % 2 ^ 32 })
unfolding process_of machine_of standby_of advanced
suppresses x r e l program n code a operand channel word left k i h =
    let p = next-is _ _ i refl in
    let s = one_less_lem r x.suppress left e l h in
    record {
      process-is = λ j. record {
        machine = record { registers = x.registers; pc = p j; mailbox = (machine_of x).mailbox };
        board = x.board;
        suppress = s j;
        since = (process_of x).since;
        standby = standby_of x;
      };
      kept_again = record {
        registers-length = k.registers-length;
        taken-length = k.taken-length;
        mail-length = k.mail-length;
        unread = k.unread;
        oldest = k.oldest;
        events = k.events;
        taken = k.taken;
        instructions = k.instructions;
        flag = k.flag;
        sound = k.sound;
      };
      seated_again = λ a b s. record { runs_on = s.runs_on; other-is = s.other-is };
      waits_again = refl;
    }

pub queues : (x : Process) → Queues x (event_in x)
unfolding process_of machine_of standby_of advanced
queues x program n code a operand channel word k i h events instructions =
    let p = next-is _ _ i refl in
    let s = sent-is x k events instructions in
    record {
      process-is = λ j. record {
        machine = record { registers = x.registers; pc = p j; mailbox = (machine_of x).mailbox };
        board = x.board;
        suppress = h j;
        since = s j;
        standby = standby_of x;
      };
      kept_again = record {
        registers-length = k.registers-length;
        taken-length = k.taken-length;
        mail-length = k.mail-length;
        unread = k.unread;
        oldest = k.oldest;
        events = omega arith;
        taken = k.taken;
        instructions = omega arith;
        flag = k.flag;
        sound = k.sound;
      };
      seated_again = λ a b s. record { runs_on = s.runs_on; other-is = s.other-is };
      waits_again = refl;
    }
