-- A TAKE or a FIRST: a word goes into its registers, leaves the mailbox, and is counted.
use Rattle.std.proofs.Common.{◌≡◌, ℕ, suc, ◌+◌, ◌-◌, ◌%◌, ◌^◌, ◌<◌, Bool, true, false, cond, eqb, List, length, get_or, set, refl, ◌∙◌, arith, length-set, get_or-set_same, get_or-set_other, eq-eqb, ne_eqb}
use Rattle.facts.specs.Tests.{by_eq}
use Rattle.facts.specs.Lists.{remove_at}
use Rattle.backup.specs.Limits.{log_most}
use Rattle.rules.specs.Machine.{Mail}
use Rattle.rules.specs.Moves.{advanced}
use Rattle.process.specs.Row.{place_in, packed_at, mails_in, mail_at, machine_of, standby_of, process_of}
use Rattle.process.specs.declared.process.Process.{Process}
use Rattle.instruction.specs.Mailbox.{Removed}
use Rattle.instruction.specs.Instruction.{loaded, registers_in, loaded_in, tallied, event_in, Takes}
use Rattle.instruction.proofs.Examining.{lane-is}
use Rattle.instruction.proofs.Counting.{taken-is, going, next-is}

-- ---- the registers

-- a FIRST's second register is the next one
registers-are : (code a : ℕ) (w : Mail) (registers : List ℕ) → a < 4 → (code ≡ 4 → a < 3) → registers_in code a w registers ≡ loaded code a w registers
registers-are code a w registers h g =
    by_eq code 4
    (λ e. let z : 1 + a % 3 ≡ suc a = (let y = g e in omega arith) in rw (eq-eqb code 4 e, lane-is a h, z))
    (λ e. rw (ne_eqb code 4 e, lane-is a h))

registers-length : (code a : ℕ) (w : Mail) (registers : List ℕ) → length (registers_in code a w registers) ≡ length registers
registers-length code a w registers = go (eqb code 4)
  where
    one : List ℕ
    one = set registers (a % 4) w.word

    go : (b : Bool) → length (cond b (set one (1 + a % 3) w.channel) one) ≡ length registers
    go true = simp length-set
    go false = length-set registers (a % 4) w.word

-- ---- the receives

-- a counter that is stored is a word, as the others are
taken_words : (l : List ℕ) (i v : ℕ) → i < length l → v < 2 ^ 32 → ((j : ℕ) → get_or l j 0 < 2 ^ 32) → (j : ℕ) → get_or (set l i v) j 0 < 2 ^ 32
taken_words l i v s w h j = by_eq j i (λ e. rw (e, get_or-set_same l i v 0 s) w) (λ n. rw (get_or-set_other l i j v 0 n) (h j))

-- ---- the two together

module _ (x : Process) (code a at port : ℕ) (inside : at < x.unread) (u : ℕ) (less : (u + 1) % 2 ^ 32 ≡ x.unread) (fits : u < 2 ^ 32)
    (mail : List ℕ) (out : Removed x.mail x.oldest at mail) where
  -- the word loaded and out of the mailbox, and its receive counted
  abbrev y : Process
  y = record (loaded_in code a (packed_at x.oldest x.mail at) x) {
    unread = u;
    oldest = (x.oldest + 1) % 2 ^ 32 % log_most;
    taken = set x.taken (port % 4) (tallied x (get_or x.taken (port % 4) 0));
    mail = mail;
  }

  pub takes : Takes x code a at port (event_in y)
  unfolding process_of machine_of standby_of advanced
  takes = record {
    untouched = λ l. absurd (omega arith);
    became = λ program n operand log head k i h events taken instructions.
        let own : Process = record x { log = log; head = head } in
        let w : Mail = mail_at x at in
        let r = i.fetched.in_range (going _ _ i refl) in
        let p = next-is _ _ i refl in
        let lane = lane-is port h in
        let was = get_or x.taken port 0 in
        let one : u ≡ x.unread - 1 = omega arith in
        let first : (x.oldest + 1) % 2 ^ 32 % log_most ≡ place_in x.oldest 1 = (let o = k.oldest in omega arith) in
        let registers = registers-are code a w x.registers r.first r.pair in
        let rest : mails_in ((x.oldest + 1) % 2 ^ 32 % log_most) u mail ≡ remove_at at (mails_in x.oldest x.unread x.mail) =
        (λ j. mails_in (first j) (one j) mail) ∙ out.rest k.mail-length x.unread k.unread inside in
        let since = taken-is own k events instructions port taken in
        let words = taken_words x.taken port (tallied x was) (let l = k.taken-length in omega arith) (omega arith) k.taken in
        rw lane
        (record {
          process-is = λ j. record {
            machine = record { registers = registers j; pc = p j; mailbox = rest j };
            board = x.board;
            suppress = x.suppress;
            since = since j;
            standby = standby_of own;
          };
          kept_again = record {
            registers-length = registers-length code a w x.registers ∙ k.registers-length;
            taken-length = length-set x.taken port (tallied x was) ∙ k.taken-length;
            mail-length = out.same_length ∙ k.mail-length;
            unread = (let l = k.unread in omega arith);
            oldest = omega arith;
            events = omega arith;
            taken = words;
            instructions = omega arith;
            flag = k.flag;
            sound = k.sound;
          };
          seated_again = λ a b s. record { runs_on = s.runs_on; other-is = s.other-is };
          waits_again = refl;
        });
  }
