use Rattle.acceptance.specs.Rule.{placed}
use Rattle.acceptance.specs.Table.{Filled}
use Rattle.acceptance.proofs.table.fill.Given as goal

abbrev pub invariant-loop-v : goal.invariant-loop-v
invariant-loop-v l = Filled (placed l.a l.labels) l.a.states l.v 0 l.steps
