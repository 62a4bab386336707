-- `hard_block` meets its contract: its lines in order make up the block.
use mathlib.Core.Path.{◌∙◌}
use Rattle.std.proofs.lemmas.Result.{err_from_is_err_and}
use Rattle.text.proofs.Lines.{one_ok, one_err}
use Rattle.reader.proofs.Sequences.{hard_fault, hard_made}
use Rattle.reader.proofs.block.hard_block.Goals as goal

pub returns-in_err-states : goal.returns-in_err-states
returns-in_err-states c xs =
    let p = err_from_is_err_and c.from_residual.result c.from_residual.ensures.1 in
    rw (p.1, p.2) (hard_fault _ xs _ _ _ (one_err _ _ _ _ _ _ c.line_of_one.ensures _ c.in_err-states.was))

pub returns : goal.returns
returns c xs = c.automaton_block.ensures _ ∙ hard_made _ xs _ _ _ _ (one_ok _ _ _ _ _ _ c.line_of_one.ensures _ _ c.in_ok-states.was)
