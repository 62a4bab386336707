use Rattle.text.proofs.Entries.{Passed}
use Rattle.text.proofs.list.run_at.Given as goal

abbrev pub invariant-loop-count : goal.invariant-loop-count
invariant-loop-count l = Passed l.s l.at l.bound l.count l.fit l.next
