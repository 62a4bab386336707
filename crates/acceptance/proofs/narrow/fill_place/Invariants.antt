use Prim.Native.Nat.{◌^◌}
use Rattle.acceptance.specs.Sets.{Tabled}
use Rattle.acceptance.proofs.narrow.fill_place.Given as goal

abbrev pub invariant-loop-q : goal.invariant-loop-q
invariant-loop-q l = Tabled l.rule.steps.now l.rule.states l.v (2 ^ l.q) l.sets
