use Rattle.acceptance.proofs.Courses.{Goings}
use Rattle.acceptance.proofs.narrow.pass.Given as goal

abbrev pub invariant-loop-v : goal.invariant-loop-v
invariant-loop-v l = Goings l.rule.steps.now l.rule.states l.rule.accept l.cycle l.q l.v-index l.four
