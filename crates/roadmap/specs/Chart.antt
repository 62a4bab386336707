-- Which place of a plan leads to which, as a table of 128 rows of 128 bytes that may stand anywhere in a longer list. What its entries say is a
-- law: `charted_at`.
--   road_cell p at i      == the entry of road i, in a table that begins at `at`
--   park_cell stays at none u == the entry of place u with itself, where u stays; else `none`, a number past the end
--   charted p at l        == l with the roads of p put in, and each of its places with itself where no road leaves it
use Rattle.std.specs.Prelude.{Bool, cond, not, List, ℕ, ◌+◌, ◌*◌, length}
use Rattle.base.specs.Marks.{marks}
use Rattle.plan.specs.Tour.{leaves}
use Rattle.plan.specs.WellFormed.{road}
use Rattle.plan.specs.declared.Plan.{Plan}

abbrev pub road_cell : Plan → ℕ → ℕ → ℕ
road_cell p at i = at + ((road p i).from * 128 + (road p i).to)

abbrev pub park_cell : (ℕ → Bool) → ℕ → ℕ → ℕ → ℕ
park_cell stays at none u = cond (stays u) (at + (u * 128 + u)) none

unfoldable pub charted : Plan → ℕ → List ℕ → List ℕ
charted p at l = marks (park_cell (λ u. not (leaves p u)) at (length l)) p.places (marks (road_cell p at) p.road_count l)
