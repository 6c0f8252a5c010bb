use Rattle.sweep.proofs.Pulling.{put_together}
use Rattle.sweep.proofs.pulled.put_in.Goals as goal

pub returns : goal.returns
returns c =
    let x = c in
    put_together x.args.out.now x.args.schedule.now x.args.place x.args.board x.requires.has_place _ _ _ _ c.lay.ensures
    c.lay-2.ensures c.lay-3.ensures c.lay-4.ensures
