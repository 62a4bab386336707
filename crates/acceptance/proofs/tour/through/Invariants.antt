use Rattle.acceptance.specs.Table.{Passed}
use Rattle.acceptance.proofs.tour.through.Given as goal

abbrev pub invariant-loop-set : goal.invariant-loop-set
invariant-loop-set l = Passed l.k l.mid l.initial.set-items l.set-index l.set-items
