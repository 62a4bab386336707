use lib.ListN.{drop}
use Rattle.text.specs.Over.{Left}
use Rattle.text.specs.KeyLine.{commaed}
use Rattle.text.proofs.write.put_commaed.Given as goal

abbrev pub invariant-loop-number : goal.invariant-loop-number
invariant-loop-number l = Left l.initial.out l.at (commaed l.numbers) l.out l.next (commaed (drop l.number-index l.numbers))
