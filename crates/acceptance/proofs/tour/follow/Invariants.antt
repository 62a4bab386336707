use Prim.Native.Nat.{◌^◌}
use Rattle.acceptance.specs.Table.{Following}
use Rattle.acceptance.proofs.tour.follow.Given as goal

abbrev pub invariant-loop-v : goal.invariant-loop-v
invariant-loop-v l = Following l.steps l.list (2 ^ l.rule.first) l.v-index l.reached
