-- The table of roads, as the checker fills it: that of the plan's roads, and row 128 with the start.
--   road_table p table == the table once the roads of p are put in, and the start
--   Blank table       == the table has room for all rows, and nothing stands in it
use Rattle.std.specs.Prelude.{◌≡◌, List, ℕ, ◌+◌, ◌*◌, ◌≤◌, length, get_or, set}
use Rattle.plan.specs.declared.Plan.{Plan}
use Rattle.roadmap.specs.Chart.{charted}
use Rattle.checker.specs.Drive.{before}

abbrev pub road_table : Plan → List ℕ → List ℕ
road_table p table = set (charted p 0 table) (before * 128 + p.start) 1

pub record Blank (table : List ℕ) : Type 0 where
  pub room : 16512 ≤ length table
  pub zeros : (i : ℕ) → get_or table i 0 ≡ 0
