-- `draft_at` meets its contract: each way out is one case of the two lines.
use mathlib.Core.Path.{sym, ◌∙◌}
use borrow.Author.Rules.{rules}
use Rattle.drawn.proofs.Drafting.{draft_faulty, draft_half, draft_whole}
use Rattle.drawn.proofs.draft_at.Goals as goal

pub returns-in_err-stem : goal.returns-in_err-stem
returns-in_err-stem c = let e = draft_faulty _ _ _ (sym c.in_err-stem.was ∙ c.list_line.ensures) in search rules

pub returns-in_err-cycle : goal.returns-in_err-cycle
returns-in_err-cycle c =
    let e = draft_half _ _ _ _ (sym c.in_ok-stem.was ∙ c.list_line.ensures) _ (sym c.in_err-cycle.was ∙ c.list_line-2.ensures) in search rules

pub returns : goal.returns
returns c = draft_whole _ _ _ _ (sym c.in_ok-stem.was ∙ c.list_line.ensures) _ _ (sym c.in_ok-cycle.was ∙ c.list_line-2.ensures)
