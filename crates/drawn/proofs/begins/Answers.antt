-- `begins` meets its contract: where a line begins, the key stands there or not.
use mathlib.Core.Path.{◌∙◌}
use Rattle.drawn.proofs.Seeking.{key_stands}
use Rattle.drawn.proofs.begins.Goals as goal

pub returns-then-fresh : goal.returns-then-fresh
returns-then-fresh c = c.is_some.ensures ∙ key_stands _ _ _ _ c.key_at.ensures ∙ rw c.if-fresh.true
