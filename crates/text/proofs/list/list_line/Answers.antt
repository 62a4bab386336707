-- `list_line` meets its contract: behind a line without a fault each return is the line by its key and its list.
use mathlib.Core.Path.{sym, ◌∙◌}
use Rattle.text.proofs.Entries.{list_keyless, list_bad, list_good}
use Rattle.text.proofs.list.list_line.Goals as goal

pub returns-in_default : goal.returns-in_default
returns-in_default c = rw (c.in_ok-from.was, c.bad_form.ensures) (list_keyless _ _ _ _ (sym c.key_at.ensures ∙ c.in_default.is))

pub returns-in_default-list_at : goal.returns-in_default-list_at
returns-in_default-list_at c =
    rw (c.in_ok-from.was, c.bad_form-in_default-list_at.ensures)
    (list_bad _ _ _ _ _ (sym c.key_at.ensures ∙ c.in-Some.is) _ c.list_at.ensures c.in_default-list_at.is)

pub returns : goal.returns
returns c =
    rw (c.in_ok-from.was, c.judged.ensures) (list_good _ _ _ _ _ (sym c.key_at.ensures ∙ c.in-Some.is) _ c.list_at.ensures _ c.in-Some-list_at.is)
