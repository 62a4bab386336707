-- `soft_blocks` meets its contract: the loop keeps which soft rules are read, and where the last line ends.
use mathlib.Core.Path.{sym, ◌∙◌}
use Rattle.std.proofs.lemmas.Result.{err_from_is_err_and}
use Rattle.text.proofs.Lines.{told_ok, told_err}
use Rattle.reader.proofs.Steps.{softs_begun, soft_read, soft_fault, softs_done}
use Rattle.reader.proofs.block.soft_blocks.Goals as goal

pub loop-i-init : goal.loop-i-init
loop-i-init c xs = softs_begun _ _ _ xs _ _ c.no_automaton-soft.ensures

pub returns-in_err-automaton : goal.returns-in_err-automaton
returns-in_err-automaton c xs =
    let p = err_from_is_err_and c.from_residual.result c.from_residual.ensures.1 in
    rw (p.1, p.2) (soft_fault _ _ _ _ _ _ _ _ _ (c.loop-i.invariant xs) c.loop-i-test.true _
    (told_err _ _ _ (sym (c.soft_block.ensures _) ∙ c.in_err-automaton.was)))

pub loop-i-preserved : goal.loop-i-preserved
loop-i-preserved c xs =
    soft_read _ _ _ _ _ _ _ _ _ (c.loop-i.invariant xs) c.loop-i-test.true _ _ _
    (told_ok _ _ _ _ (sym (c.soft_block.ensures _) ∙ c.in_ok-automaton.was))

pub returns : goal.returns
returns c xs = softs_done _ _ _ _ _ _ _ _ _ (c.loop-i.invariant xs) c.loop-i-test.false
