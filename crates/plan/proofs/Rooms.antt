-- How much room a tour of a small plan may take.
--   loop_small   == a loop of a plan of at most 2,048 nodes has at most 20,480 places
--   roomy_enough == so buffers of 2,048 and 20,480 bytes are long enough for every plan that is well formed and small
use mathlib.Core.Path.{◌≡◌}
use mathlib.Core.Bool.{true}
use Prim.Native.Nat.{◌+◌, ◌≤◌}
use native.Mathlib.Nat.{mul-le-mul_right}
use native.Mathlib.Omega.{arith}
use borrow.Author.Tests.{le-leb}
use Rattle.plan.specs.WellFormed.{WellFormed}
use Rattle.plan.specs.Size.{size, loop_room, roomy}
use Rattle.plan.specs.declared.Plan.{Plan}

module _ (p : Plan) (ok : WellFormed p) (small : size p ≤ 2048) where
  pub loop_small : loop_room p ≤ 20480
  loop_small =
      let most : p.rules + 2 ≤ 10 = omega (arith, ok.rules) in
      omega (arith, mul-le-mul_right (size p) most)

  pub roomy_enough : roomy p 2048 20480 ≡ true
  roomy_enough = rw (le-leb (size p) 2048 small, le-leb (loop_room p) 20480 loop_small)
