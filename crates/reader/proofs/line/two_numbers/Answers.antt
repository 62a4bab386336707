-- `two_numbers` meets its contract: the numbers are read one behind the other.
use mathlib.Core.Path.{◌∙◌}
use Rattle.text.proofs.Held.{held_told, held_bad}
use Rattle.reader.proofs.Lines.{two_none, two_one, two_both}
use Rattle.reader.proofs.line.two_numbers.Goals as goal

pub returns-in_err-x : goal.returns-in_err-x
returns-in_err-x c = c.from_residual.ensures ∙ two_none _ _ _ (held_bad _ _ c.number_behind.ensures c.in_err-x.was)

pub returns-in_err-y : goal.returns-in_err-y
returns-in_err-y c =
    let x = held_told _ _ c.number_behind.ensures _ _ c.in_ok-x.was in
    c.from_residual-in_err-y.ensures ∙ two_one _ _ _ _ _ x (held_bad _ _ c.number_at.ensures c.in_err-y.was)

pub returns : goal.returns
returns c =
    let x = held_told _ _ c.number_behind.ensures _ _ c.in_ok-x.was in
    rw c.pair.ensures (two_both _ _ _ _ _ x _ _ (held_told _ _ c.number_at.ensures _ _ c.in_ok-y.was))
