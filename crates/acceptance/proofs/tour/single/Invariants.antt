use Rattle.acceptance.specs.Table.{related, Linked}
use Rattle.acceptance.proofs.tour.single.Given as goal

abbrev pub invariant-loop-q : goal.invariant-loop-q
invariant-loop-q l = Linked (related l.rows) l.q 0 l.links
