use Rattle.acceptance.specs.Sets.{Ending}
use Rattle.acceptance.proofs.narrow.follow.Given as goal

abbrev pub invariant-loop-v : goal.invariant-loop-v
invariant-loop-v l = Ending l.rule.steps.now l.rule.states l.list l.rule.first l.v-index l.reached
