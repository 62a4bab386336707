use Rattle.acceptance.specs.Table.{related, Linked}
use Rattle.acceptance.proofs.tour.link.Given as goal

abbrev pub invariant-loop-k : goal.invariant-loop-k
invariant-loop-k l = Linked (related l.rows) l.n l.k l.links
