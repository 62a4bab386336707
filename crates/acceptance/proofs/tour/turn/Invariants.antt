use lib.ListN.{drop}
use Rattle.acceptance.specs.Table.{Turned}
use Rattle.acceptance.proofs.tour.turn.Given as goal

abbrev pub invariant-loop-i : goal.invariant-loop-i
invariant-loop-i l = Turned l.rule.steps.now l.rule.states l.rule.accept (drop l.i l.cycle) l.rule.states l.rows
