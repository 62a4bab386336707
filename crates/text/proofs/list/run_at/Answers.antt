-- `run_at` meets its contract: the loop keeps what is passed of the list (`Passed`), and each return ends it.
use Rattle.text.proofs.Entries.{passed_start, passed_more, passed_end, passed_all}
use Rattle.text.proofs.list.run_at.Goals as goal
use Rattle.text.proofs.list.run_at.Goals.{then-fit, else-fit}

pub loop-count-init : goal.loop-count-init
loop-count-init c = passed_start _ _ _

pub returns-in_default : goal.returns-in_default
returns-in_default c =
    passed_end _ _ _ _ _ _ c.loop-count.invariant c.loop-count-test.true _ c.number_at.ensures c.in_default.is

pub loop-count-preserved : goal.loop-count-preserved
loop-count-preserved c =
    passed_more _ _ _ _ _ _ c.loop-count.invariant c.loop-count-test.true _ c.number_at.ensures c.requires _ _ c.in-Some.is _
    (elim c.if-fit.branch [
      | then-fit w ↦ rw (w.fit-is, w.if-fit.true)
      | else-fit w ↦ rw (w.fit-is, w.if-fit.false)
    ])

pub returns : goal.returns
returns c = passed_all _ _ _ _ _ _ c.loop-count.invariant c.loop-count-test.false
