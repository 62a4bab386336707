use Rattle.acceptance.specs.Sets.{Tabled}
use Rattle.acceptance.proofs.narrow.fill.Given as goal

abbrev pub invariant-loop-v : goal.invariant-loop-v
invariant-loop-v l = Tabled l.rule.steps.now l.rule.states l.v 0 l.sets
