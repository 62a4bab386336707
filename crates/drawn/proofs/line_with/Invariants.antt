use mathlib.Core.Path.{◌≡◌}
use mathlib.Core.Bool.{true}
use lib.ListN.{drop}
use Rattle.drawn.specs.Drawing.{line_with}
use Rattle.drawn.proofs.line_with.Given as goal

-- what is left to search decides
abbrev pub invariant-loop-i : goal.invariant-loop-i
invariant-loop-i l = line_with l.key true 0 l.s ≡ line_with l.key l.fresh l.i (drop l.i l.s)
