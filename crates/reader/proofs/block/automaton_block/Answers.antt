-- `automaton_block` meets its contract: its lines in order make up the block.
use mathlib.Core.Path.{sym, ◌∙◌}
use Rattle.std.proofs.lemmas.Result.{err_from_is_err_and}
use Rattle.text.proofs.Lines.{told_ok, told_err, one_ok, one_err}
use Rattle.reader.proofs.Sequences.{first_fault, accept_fault, count_fault, moves_fault, automaton_made}
use Rattle.reader.proofs.block.automaton_block.Goals as goal

pub returns-in_err-first : goal.returns-in_err-first
returns-in_err-first c xs =
    let p = err_from_is_err_and c.from_residual.result c.from_residual.ensures.1 in
    rw (p.1, p.2) (first_fault _ xs _ _ _ _ (one_err _ _ _ _ _ _ c.line_of_one.ensures _ c.in_err-first.was))

pub returns-in_err-accept : goal.returns-in_err-accept
returns-in_err-accept c xs =
    let p = err_from_is_err_and c.from_residual-in_err-accept.result c.from_residual-in_err-accept.ensures.1 in
    rw (p.1, p.2) (accept_fault _ xs _ _ _ _ _ (one_ok _ _ _ _ _ _ c.line_of_one.ensures _ _ c.in_ok-first.was) _
    (one_err _ _ _ _ _ _ (rw c.power.ensures.0 at c.line_of_one-2.ensures) _ c.in_err-accept.was))

pub returns-in_err-move_count : goal.returns-in_err-move_count
returns-in_err-move_count c xs =
    let p = err_from_is_err_and c.from_residual-in_err-move_count.result c.from_residual-in_err-move_count.ensures.1 in
    rw (p.1, p.2) (count_fault _ xs _ _ _ _ _ (one_ok _ _ _ _ _ _ c.line_of_one.ensures _ _ c.in_ok-first.was) _ _
    (one_ok _ _ _ _ _ _ (rw c.power.ensures.0 at c.line_of_one-2.ensures) _ _ c.in_ok-accept.was) _
    (one_err _ _ _ _ _ _ c.line_of_one-3.ensures _ c.in_err-move_count.was))

pub returns-in_err-moves : goal.returns-in_err-moves
returns-in_err-moves c xs =
    let p = err_from_is_err_and c.from_residual-in_err-moves.result c.from_residual-in_err-moves.ensures.1 in
    rw (p.1, p.2) (moves_fault _ xs _ _ _ _ _ (one_ok _ _ _ _ _ _ c.line_of_one.ensures _ _ c.in_ok-first.was) _ _
    (one_ok _ _ _ _ _ _ (rw c.power.ensures.0 at c.line_of_one-2.ensures) _ _ c.in_ok-accept.was) _ _
    (one_ok _ _ _ _ _ _ c.line_of_one-3.ensures _ _ c.in_ok-move_count.was) _
    (told_err _ _ _ (sym (c.move_block.ensures _) ∙ c.in_err-moves.was)))

pub returns : goal.returns
returns c xs =
    automaton_made _ xs _ _ _ _ _ (one_ok _ _ _ _ _ _ c.line_of_one.ensures _ _ c.in_ok-first.was) _ _
    (one_ok _ _ _ _ _ _ (rw c.power.ensures.0 at c.line_of_one-2.ensures) _ _ c.in_ok-accept.was) _ _
    (one_ok _ _ _ _ _ _ c.line_of_one-3.ensures _ _ c.in_ok-move_count.was) _ _
    (told_ok _ _ _ _ (sym (c.move_block.ensures _) ∙ c.in_ok-moves.was))
