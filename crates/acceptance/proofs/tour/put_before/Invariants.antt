use lib.ListN.{drop}
use Rattle.acceptance.specs.Table.{Turned}
use Rattle.acceptance.proofs.tour.put_before.Given as goal

abbrev pub invariant-loop-q : goal.invariant-loop-q
invariant-loop-q l = Turned l.rule.steps.now l.rule.states l.rule.accept (drop l.i l.cycle) l.q l.rows
