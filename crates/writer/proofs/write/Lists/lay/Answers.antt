use mathlib.Core.Path.{refl}
use mathlib.Core.List.{map}
use Prim.Native.Nat.{◌+◌, ◌-◌}
use lib.ListN.{length}
use Rattle.writer.specs.Given.{given_by}
use Rattle.writer.specs.Fitted.{fit_byte, head_bytes}
use Rattle.facts.specs.Laying.{laid_length}
use Rattle.writer.proofs.Composing.{programs_of, length_laid, length-parts, laid_whole}
use native.Mathlib.Omega.{arith}
use Rattle.writer.proofs.write.Lists.lay.Goals as goal

pub overflow_sub-total : goal.overflow_sub-total
overflow_sub-total c = let k = length-parts (given_by c.args.self.now) c.requires.fitting in omega arith

pub overflow_cast-total : goal.overflow_cast-total
overflow_cast-total c = let k = length_laid (given_by c.args.self.now) c.requires.fitting in omega arith

pub put_head-requires : goal.put_head-requires
put_head-requires c = let k = length-parts (given_by c.args.self.now) c.requires.fitting in omega arith

pub put_ends-requires : goal.put_ends-requires
put_ends-requires c =
    let s = c.args in
    let k = length-parts (given_by s.self.now) c.requires.fitting in
    let h = laid_length s.bytes.now c.put_head.new.bytes 0 (head_bytes (s.total - 2) s.self.now.head) c.put_head.ensures in
    omega arith

pub put_records-requires : goal.put_records-requires
put_records-requires c =
    let s = c.args in
    let k = length-parts (given_by s.self.now) c.requires.fitting in
    let h = laid_length s.bytes.now c.put_head.new.bytes 0 (head_bytes (s.total - 2) s.self.now.head) c.put_head.ensures in
    let t = laid_length c.put_head.new.bytes c.put_ends.new.bytes 6 (map fit_byte s.self.now.ends.now) c.put_ends.ensures in
    record {
      programs = programs_of (given_by s.self.now) c.requires.fitting;
      instructions_in_bounds = omega arith;
    }

pub returns : goal.returns
returns c =
    let s = c.args in
    let k = length-parts (given_by s.self.now) c.requires.fitting in
    laid_whole s.self.now c.requires.fitting s.bytes.now c.put_head.new.bytes c.put_ends.new.bytes _
    (s.total - 2) (6 + length s.self.now.ends.now) (omega arith) refl c.put_head.ensures c.put_ends.ensures c.put_records.ensures
