-- `entries_at` meets its contract: the list is what was passed, and the number behind it.
use mathlib.Core.Path.{◌∙◌}
use Rattle.text.proofs.Entries.{ran_bad, ran_good}
use Rattle.text.proofs.list.entries_at.Goals as goal

pub returns-in_err-x : goal.returns-in_err-x
returns-in_err-x c = c.from_residual.ensures ∙ ran_bad _ _ _ _ c.run_at-run.ensures _ c.number_at.ensures c.in_err-x.was

pub returns-then-run : goal.returns-then-run
returns-then-run c =
    ran_good _ _ _ _ c.run_at-run.ensures _ c.number_at.ensures c.requires _ _ c.in_ok-x.was _ (rw c.if-run.true)

pub returns-else-run : goal.returns-else-run
returns-else-run c =
    ran_good _ _ _ _ c.run_at-run.ensures _ c.number_at.ensures c.requires _ _ c.in_ok-x.was _ (rw c.if-run.false)
