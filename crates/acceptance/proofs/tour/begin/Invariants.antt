use mathlib.Core.List.{[]}
use Rattle.acceptance.specs.Table.{Turned}
use Rattle.acceptance.proofs.tour.begin.Given as goal

abbrev pub invariant-loop-q : goal.invariant-loop-q
invariant-loop-q l = Turned l.rule.steps.now l.rule.states l.rule.accept [] l.q l.rows
