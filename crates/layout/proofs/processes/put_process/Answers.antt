use Rattle.layout.proofs.Blocks.{process_laid}
use Rattle.layout.proofs.processes.put_process.Goals as goal

pub returns : goal.returns
returns c =
    let s = c.args in
    process_laid s.x.now s.out.now s.at _ _ _ _ _ _ c.machine-m.ensures c.lay.ensures c.put_inbox.ensures c.backup-b.ensures c.lay-2.ensures
    c.put_saved.ensures
