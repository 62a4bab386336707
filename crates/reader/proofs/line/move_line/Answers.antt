-- `move_line` meets its contract: behind a line without a fault it is the line by its numbers.
use mathlib.Core.Path.{sym, ◌∙◌}
use Rattle.reader.proofs.Lines.{move_none, move_good, move_is}
use Rattle.reader.proofs.line.move_line.Goals as goal

pub returns-in_default : goal.returns-in_default
returns-in_default c =
    rw c.in_ok-from.was
    (move_is _ _ _ _ _ _ (rw c.bad_form.ensures (move_none _ _ _ _ _ (sym c.five_numbers.ensures ∙ c.in_default.is))))

pub returns : goal.returns
returns c =
    rw c.in_ok-from.was
    (move_is _ _ _ _ _ _ (rw (c.judged.ensures, c.move_fits.ensures)
    (move_good _ _ _ _ _ _ _ (sym c.five_numbers.ensures ∙ c.in-Some.is) c.requires.0 c.requires.1)))
