use Rattle.text.specs.declared.line.Numbers.{Numbers}
use Rattle.reader.proofs.Steps.{SoftsRead}
use Rattle.reader.proofs.block.soft_blocks.Given as goal

abbrev pub invariant-loop-i : goal.invariant-loop-i
invariant-loop-i l = (xs : Numbers) → SoftsRead l.s l.n l.labels xs l.initial.cursor l.cursor l.soft l.weights l.i
