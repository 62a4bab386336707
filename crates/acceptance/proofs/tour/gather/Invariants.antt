use Rattle.acceptance.specs.Table.{Gathering}
use Rattle.acceptance.proofs.tour.gather.Given as goal

abbrev pub invariant-loop-left : goal.invariant-loop-left
invariant-loop-left l = Gathering l.table l.at l.set l.out l.left

abbrev pub decreases-loop-left : goal.decreases-loop-left
decreases-loop-left l = l.left
