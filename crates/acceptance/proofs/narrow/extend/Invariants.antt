use Rattle.acceptance.specs.Sets.{Extended}
use Rattle.acceptance.proofs.narrow.extend.Given as goal

abbrev pub invariant-loop-x : goal.invariant-loop-x
invariant-loop-x l = Extended l.at l.size l.next l.initial.sets l.x l.sets
