use Rattle.checker.specs.Worth.{Keeping}
use Rattle.checker.proofs.Tour.kept.Given as goal

abbrev pub invariant-loop-i : goal.invariant-loop-i
invariant-loop-i l = Keeping l.self.plan l.self.stem.now l.self.cycle.now l.i l.weight l.kept
