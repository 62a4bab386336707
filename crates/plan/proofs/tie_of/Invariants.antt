use mathlib.Core.Path.{◌≡◌}
use Rattle.plan.specs.Key.{tie}
use Rattle.plan.proofs.tie_of.Given as goal

abbrev pub invariant-loop-i : goal.invariant-loop-i
invariant-loop-i l = l.tie ≡ tie l.i l.kept
