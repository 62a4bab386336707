use mathlib.Core.Path.{◌≡◌}
use mathlib.Core.List.{List, ◌++◌}
use Prim.Native.Nat.{ℕ}
use lib.ListN.{length, drop, replicate}
use Rattle.plan.specs.declared.Road.{Road}
use Rattle.plan.specs.WellFormed.{no_road}
use Rattle.text.specs.Line.{top}
use Rattle.text.specs.declared.line.Cursor.{Cursor}
use Rattle.text.specs.declared.line.Numbers.{Numbers}
use Rattle.reader.specs.Pairs.{Noted}
use Rattle.reader.specs.Blocks.{earlier}
use Rattle.reader.proofs.Steps.{roads_in, RoadsRead}
use Rattle.reader.proofs.block.road_block.Given as goal

-- i of n roads are read, and their pairs are noted; behind what is lent for the others stand roads from 0 to 0
pub record Listed (s : List ℕ) (n bound : ℕ) (from c : Cursor) (items : List Road) (pairs : List ℕ) (i end : ℕ) : Type 0 where
  pub size : length items ≡ n
  pub last : end ≡ n
  pub pairs_room : length pairs ≡ 512
  pub noted : Noted pairs (earlier (roads_in top (items ++ drop n (replicate 1024 no_road))) i)
  pub read : (xs : Numbers) → RoadsRead s n bound xs from c (items ++ drop n (replicate 1024 no_road)) i

abbrev pub invariant-loop-road : goal.invariant-loop-road
invariant-loop-road l = Listed l.s l.n l.bound l.initial.cursor l.cursor l.road-items l.pairs l.road-index l.road-index-end
