use Rattle.acceptance.specs.Rule.{placed}
use Rattle.acceptance.specs.Table.{Filled}
use Rattle.acceptance.proofs.table.fill_row.Given as goal

abbrev pub invariant-loop-q : goal.invariant-loop-q
invariant-loop-q l = Filled (placed l.a l.labels) l.a.states l.v l.q l.steps
