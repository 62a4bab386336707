use Prim.Native.Nat.{min}
use Rattle.acceptance.specs.Table.{Turned}
use Rattle.acceptance.proofs.narrow.turn.Given as goal

abbrev pub invariant-loop-q : goal.invariant-loop-q
invariant-loop-q l = Turned l.rule.steps.now l.rule.states l.rule.accept l.cycle (min l.q l.rule.states) l.rows
