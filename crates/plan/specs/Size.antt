-- The number N of 01: how many tuples of a place, a state of the hard rule and a state, or the trap, of each soft rule.
--   size p           == N
--   too_large p       == N is above 2,048, the most that is planned in
--   Sized p r        == r is N, or nothing where N is too large
--   loop_room p       == how many bytes of loop the planner asks for
--   roomy p r l      == a run-in buffer of r bytes and a loop buffer of l are long enough
use Rattle.std.specs.Prelude.{◌≡◌, Bool, cond, ◌&&◌, Option, None, Some, ℕ, ◌+◌, ◌*◌, leb, ltb}
use Rattle.base.specs.Below.{product_below}
use Rattle.plan.specs.WellFormed.{soft}
use Rattle.plan.specs.declared.Plan.{Plan}

unfoldable pub size : Plan → ℕ
size p = p.places * p.hard.states * product_below p.rules (λ i. (soft p i).states + 1)

abbrev pub too_large : Plan → Bool
too_large p = ltb 2048 (size p)

abbrev pub Sized : Plan → Option ℕ → Type 0
Sized p r = r ≡ cond (too_large p) None (Some (size p))

abbrev pub loop_room : Plan → ℕ
loop_room p = (p.rules + 2) * size p

abbrev pub roomy : Plan → ℕ → ℕ → Bool
roomy p runin loop = leb (size p) runin && leb (loop_room p) loop
