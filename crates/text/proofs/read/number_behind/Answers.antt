-- `number_behind` meets its contract: without a key there is no number.
use mathlib.Core.Path.{◌∙◌}
use Rattle.text.specs.Scan.{cap}
use Rattle.text.proofs.read.number_behind.Goals as goal

pub returns-in_err-key_at : goal.returns-in_err-key_at
unfolding cap
returns-in_err-key_at c = c.from_residual.ensures ∙ rw (← c.key_at.ensures, c.in_err-key_at.was)
