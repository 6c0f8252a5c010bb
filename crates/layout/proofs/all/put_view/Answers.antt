use Rattle.layout.proofs.Whole.{view_laid}
use Rattle.layout.proofs.all.put_view.Goals as goal

pub returns : goal.returns
returns c =
    let s = c.args in
    view_laid s.counts s.store.now s.entries.now s.out.now _ _ _ _ _ _ _ c.short.ensures c.short-2.ensures c.short-3.ensures c.lay.ensures
    c.put_processes.ensures c.put_boards.ensures c.put_totals.ensures
