-- `answer_line` meets its contract: it is the line by the number behind its key.
use Rattle.text.proofs.Held.{held_bad, held_told}
use Rattle.readback.proofs.Judging.{answer_bad, answer_good}
use Rattle.readback.proofs.answer_line.Goals as goal

pub returns-in_default : goal.returns-in_default
returns-in_default c = rw c.bad_form.ensures (answer_bad _ _ (held_bad _ _ c.number_behind.ensures c.in_default.is))

pub returns : goal.returns
returns c =
    rw (c.judged.ensures, c.known.ensures) (answer_good _ _ _ _ (held_told _ _ c.number_behind.ensures _ _ c.in-Some.is))
