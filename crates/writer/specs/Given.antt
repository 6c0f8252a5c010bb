-- The lists as the code is given them, and what numbers 2 to 4 ask of them.
use Rattle.std.specs.Prelude.{◌≡◌, true, List, ℕ, ◌*◌, leb, length}
use Rattle.facts.specs.Tests.{all_of}
use Rattle.backup.specs.Limits.{pc_most}
use Rattle.rules.specs.Sizes.{limit_bytes}
use Rattle.rules.specs.Format.{or_number, version_ok, counts_fit}
use Rattle.rules.specs.Encode.{Lists, program_lengths, total, lists_ok}
use Rattle.writer.specs.declared.write.Head.{Head}
use Rattle.writer.specs.declared.write.Lists as code

abbrev pub given : Head → List ℕ → List ℕ → List ℕ → List ℕ → Lists
given head ends placements limits instructions = record {
  version = head.version;
  boards = head.boards;
  processes = head.processes;
  channels = head.channels;
  ends = ends;
  placements = placements;
  limits = limits;
  instructions = instructions;
}

-- by one struct
abbrev pub given_by : code.Lists → Lists
given_by lists = given lists.head lists.ends.now lists.placements.now lists.limits.now lists.instructions.now

-- 0, or the lowest of 2, 3 and 4 that refuses the lists
unfoldable pub framing : Lists → ℕ
unfolding lists_ok
framing l = or_number (version_ok l.version) 2 (or_number (counts_fit l.boards l.processes l.channels) 3 (or_number (lists_ok l) 4 0))

-- what is laid out passes them
pub record Fitting (l : Lists) : Type 0 where
  pub version_ok_lem : version_ok l.version ≡ true
  pub counts_ok_lem : counts_fit l.boards l.processes l.channels ≡ true
  pub lists_ok_lem : lists_ok l ≡ true

-- of the processes alone
pub record Programs (l : Lists) : Type 0 where
  pub placed : length l.placements ≡ 3 * l.processes
  pub limited : length l.limits ≡ limit_bytes l.version * l.processes
  pub few : all_of (λ n. leb n pc_most) (program_lengths l.processes l.placements) ≡ true
  pub whole : length l.instructions ≡ 3 * total (program_lengths l.processes l.placements)
