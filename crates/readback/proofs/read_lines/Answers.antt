-- `read_lines` meets its contract: each way out is one case of its lines.
use mathlib.Core.Path.{sym, ◌∙◌}
use borrow.Author.Rules.{rules}
use Rattle.readback.proofs.Judging.{fault_one, fault_two, fault_three, fault_four, fault_five, fault_six, fault_end, lines_made}
use Rattle.readback.proofs.read_lines.Goals as goal

pub returns-in_err-number : goal.returns-in_err-number
returns-in_err-number c =
    let e = fault_one _ _ c.top.ensures _ (sym c.in_err-number.was ∙ c.answer_line.ensures) in search rules

pub returns-in_err-line : goal.returns-in_err-line
returns-in_err-line c =
    let e = fault_two _ _ c.top.ensures _ _ (sym c.in_ok-number.was ∙ c.answer_line.ensures) _ (sym c.in_err-line.was ∙ c.line_of_one.ensures.same) in search rules

pub returns-in_err-cost : goal.returns-in_err-cost
returns-in_err-cost c =
    let e = fault_three _ _ c.top.ensures _ _ (sym c.in_ok-number.was ∙ c.answer_line.ensures) _ _ (sym c.in_ok-line.was ∙ c.line_of_one.ensures.same) _ (sym c.in_err-cost.was ∙ c.line_of_one-2.ensures.same) in search rules

pub returns-in_err-kept : goal.returns-in_err-kept
returns-in_err-kept c =
    let e = fault_four _ _ c.top.ensures _ _ (sym c.in_ok-number.was ∙ c.answer_line.ensures) _ _ (sym c.in_ok-line.was ∙ c.line_of_one.ensures.same) _ _ (sym c.in_ok-cost.was ∙ c.line_of_one-2.ensures.same) _ (sym c.in_err-kept.was ∙ c.line_of_one-3.ensures.same) in search rules

pub returns-in_err-stem : goal.returns-in_err-stem
returns-in_err-stem c =
    let e = fault_five _ _ c.top.ensures _ _ (sym c.in_ok-number.was ∙ c.answer_line.ensures) _ _ (sym c.in_ok-line.was ∙ c.line_of_one.ensures.same) _ _ (sym c.in_ok-cost.was ∙ c.line_of_one-2.ensures.same) _ _ (sym c.in_ok-kept.was ∙ c.line_of_one-3.ensures.same) _ (sym c.in_err-stem.was ∙ c.list_line.ensures) in search rules

pub returns-in_err-cycle : goal.returns-in_err-cycle
returns-in_err-cycle c =
    let e = fault_six _ _ c.top.ensures _ _ (sym c.in_ok-number.was ∙ c.answer_line.ensures) _ _ (sym c.in_ok-line.was ∙ c.line_of_one.ensures.same) _ _ (sym c.in_ok-cost.was ∙ c.line_of_one-2.ensures.same) _ _ (sym c.in_ok-kept.was ∙ c.line_of_one-3.ensures.same) _ _ (sym c.in_ok-stem.was ∙ c.list_line.ensures) _ (sym c.in_err-cycle.was ∙ c.list_line-2.ensures) in search rules

pub returns-in_err-finish : goal.returns-in_err-finish
returns-in_err-finish c =
    let e = fault_end _ _ c.top.ensures _ _ (sym c.in_ok-number.was ∙ c.answer_line.ensures) _ _ (sym c.in_ok-line.was ∙ c.line_of_one.ensures.same) _ _ (sym c.in_ok-cost.was ∙ c.line_of_one-2.ensures.same) _ _ (sym c.in_ok-kept.was ∙ c.line_of_one-3.ensures.same) _ _ (sym c.in_ok-stem.was ∙ c.list_line.ensures) _ _ (sym c.in_ok-cycle.was ∙ c.list_line-2.ensures) _ (sym c.in_err-finish.was ∙ c.finish.ensures) in search rules

pub returns : goal.returns
returns c = lines_made _ _ c.top.ensures _ _ (sym c.in_ok-number.was ∙ c.answer_line.ensures) _ _ (sym c.in_ok-line.was ∙ c.line_of_one.ensures.same) _ _ (sym c.in_ok-cost.was ∙ c.line_of_one-2.ensures.same) _ _ (sym c.in_ok-kept.was ∙ c.line_of_one-3.ensures.same) _ _ (sym c.in_ok-stem.was ∙ c.list_line.ensures) _ _ (sym c.in_ok-cycle.was ∙ c.list_line-2.ensures) _ (sym c.in_ok-finish.was ∙ c.finish.ensures)
