-- `ks_table_write`: the writer's promise, with what it returned packed.
use Rattle.writer.specs.Given.{given}
use Rattle.kunzeastylus.proofs.Tabling.{writes_packed}
use Rattle.kunzeastylus.proofs.tables.ks_table_write.Goals as goal

pub returns : goal.returns
returns c =
    let s = c.args in
    let r = c.write in
    let p = c.pack_written in
    writes_packed (given (record { version = s.version; boards = s.boards; processes = s.processes; channels = s.channels }) s.ends.now s.placements.now s.limits.now s.instructions.now) s.out.now r.result _ r.ensures
    p.ensures.1 p.ensures.0
