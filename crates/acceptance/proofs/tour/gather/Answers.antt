use Rattle.acceptance.proofs.Gathers.{gathering_start, gathering_step}
use Rattle.acceptance.proofs.tour.gather.Goals as goal

pub loop-left-init : goal.loop-left-init
loop-left-init c = gathering_start c.args.table.now c.args.at c.args.set c.requires.0

pub loop-left-preserved : goal.loop-left-preserved
loop-left-preserved c =
    let a = c.args in
    let l = c.loop-left in
    gathering_step a.table.now a.at a.set l.out l.left c.loop-left-test.true l.invariant
