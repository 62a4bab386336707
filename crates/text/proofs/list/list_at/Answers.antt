-- `list_at` meets its contract: each return is one case of its definition.
use mathlib.Core.Path.{sym, ◌∙◌}
use borrow.Author.Tests.{eq-eqb, ne_eqb}
use Rattle.text.proofs.Entries.{no_end_past, list_empty, list_entries}
use Rattle.text.proofs.list.list_at.Goals as goal
use Rattle.text.proofs.list.list_at.Goals.{else-at-s-via-then-at-s+else-s-at-eq10, else-at-s-via-else-at-s}

pub returns-then-s-at-eq10 : goal.returns-then-s-at-eq10
returns-then-s-at-eq10 c = list_empty _ _ _ (eq-eqb _ _ c.if-s-at-eq10.true)

pub returns : goal.returns
returns c =
    let a = c.args in
    c.entries_at.ensures ∙ list_entries _ _ _ (elim c.else-at-s.branch [
      | else-at-s-via-then-at-s+else-s-at-eq10 w ↦ ne_eqb _ _ w.if-s-at-eq10.false
      | else-at-s-via-else-at-s w ↦ sym (no_end_past a.s.now a.at w.if-at-s.false)
    ])
