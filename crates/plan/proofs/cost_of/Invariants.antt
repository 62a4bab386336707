use mathlib.Core.Path.{◌≡◌}
use Prim.Native.Nat.{◌*◌, ◌≤◌}
use Rattle.plan.specs.Cost.{cost_of}
use Rattle.plan.proofs.cost_of.Given as goal

abbrev pub invariant-loop-i : goal.invariant-loop-i
invariant-loop-i l = record { is : l.cost ≡ cost_of l.weights l.i l.kept; small : l.cost ≤ l.i * 4294967295 }
