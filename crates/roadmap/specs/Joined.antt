-- The pairs of places that are joined, in the order in which they are put into a table: the roads, and then the places that park.
--   road_pairs p n   == the first n roads
--   joined_pairs p n == all roads, and those of the first n places that no road leaves, each with itself
--   pairs p          == all of them
--   AtPair step      == the step of a closure that is called with the two places of a pair
use Rattle.std.specs.Prelude.{cond, List, [], ◌∷◌, ◌++◌, ℕ, zero, suc}
use Rattle.plan.specs.Tour.{leaves}
use Rattle.plan.specs.WellFormed.{road}
use Rattle.plan.specs.declared.Plan.{Plan}

unfoldable pub road_pairs : Plan → ℕ → List (ℕ × ℕ)
road_pairs p zero = []
road_pairs p (suc n) = road_pairs p n ++ (((road p n).from, (road p n).to) ∷ [])

unfoldable pub joined_pairs : Plan → ℕ → List (ℕ × ℕ)
joined_pairs p zero = road_pairs p p.road_count
joined_pairs p (suc n) = joined_pairs p n ++ cond (leaves p n) [] ((n, n) ∷ [])

abbrev pub pairs : Plan → List (ℕ × ℕ)
pairs p = joined_pairs p p.places

abbrev pub AtPair : {F : Type 0} → (F → ℕ → ℕ → Unit {0} → F → Type 0) → F → ℕ × ℕ → F → Type 0
AtPair step f x g = step f x.0 x.1 tt g
