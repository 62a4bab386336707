use Rattle.text.proofs.Spelling.{Put}
use Rattle.text.proofs.list.put_list.Given as goal

abbrev pub invariant-loop-n : goal.invariant-loop-n
invariant-loop-n l = Put l.s l.initial.next l.list.count l.initial.out l.out l.next l.n
