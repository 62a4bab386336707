-- `line_of_one` meets its contract: behind a line without a fault it is the line by the number behind its key.
use Rattle.text.proofs.Lines.{one_none, one_some}
use Rattle.text.proofs.line.line_of_one.Goals as goal

pub returns-in_default : goal.returns-in_default
returns-in_default c = rw (c.in_ok-from.was, c.bad_form.ensures) (one_none _ _ _ _ _ _ c.number_behind.ensures c.in_default.is)

pub returns : goal.returns
returns c = rw (c.in_ok-from.was, c.judged.ensures, c.within.ensures) (one_some _ _ _ _ _ _ c.number_behind.ensures c.requires _ _ c.in-Some.is)
