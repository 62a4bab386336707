-- `soft_block` meets its contract: its lines in order make up the block.
use mathlib.Core.Path.{sym, ◌∙◌}
use Rattle.std.proofs.lemmas.Result.{err_from_is_err_and}
use Rattle.text.proofs.Lines.{told_ok, told_err, one_ok, one_err}
use Rattle.reader.proofs.Sequences.{soft_fault, weight_fault, rule_fault, soft_made}
use Rattle.reader.proofs.block.soft_block.Goals as goal

pub returns-in_err-states : goal.returns-in_err-states
returns-in_err-states c xs =
    let p = err_from_is_err_and c.from_residual.result c.from_residual.ensures.1 in
    rw (p.1, p.2) (soft_fault _ xs _ _ _ (one_err _ _ _ _ _ _ c.line_of_one.ensures _ c.in_err-states.was))

pub returns-in_err-weight : goal.returns-in_err-weight
returns-in_err-weight c xs =
    let p = err_from_is_err_and c.from_residual-in_err-weight.result c.from_residual-in_err-weight.ensures.1 in
    rw (p.1, p.2) (weight_fault _ xs _ _ _ _ (one_ok _ _ _ _ _ _ c.line_of_one.ensures _ _ c.in_ok-states.was) _
    (one_err _ _ _ _ _ _ c.line_of_one-2.ensures _ c.in_err-weight.was))

pub returns-in_err-automaton : goal.returns-in_err-automaton
returns-in_err-automaton c xs =
    let p = err_from_is_err_and c.from_residual-in_err-automaton.result c.from_residual-in_err-automaton.ensures.1 in
    rw (p.1, p.2) (rule_fault _ xs _ _ _ _ (one_ok _ _ _ _ _ _ c.line_of_one.ensures _ _ c.in_ok-states.was) _ _
    (one_ok _ _ _ _ _ _ c.line_of_one-2.ensures _ _ c.in_ok-weight.was) _
    (told_err _ _ _ (sym (c.automaton_block.ensures _) ∙ c.in_err-automaton.was)))

pub returns : goal.returns
returns c xs =
    soft_made _ xs _ _ _ _ (one_ok _ _ _ _ _ _ c.line_of_one.ensures _ _ c.in_ok-states.was) _ _
    (one_ok _ _ _ _ _ _ c.line_of_one-2.ensures _ _ c.in_ok-weight.was) _ _
    (told_ok _ _ _ _ (sym (c.automaton_block.ensures _) ∙ c.in_ok-automaton.was))
