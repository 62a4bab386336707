-- What parking changes (02, note 7): it adds tours, and takes none away; a plan in which every place has a road out keeps its tours and its best set.
-- Beside `joins` no definition has moved, and all that the planner and the checker promise reads the roads through it.
--   Left p               == every place of p has a road out
--   joins_as_before      == then one place leads to another exactly by a road
--   RoadTour p stem cycle == a tour before parking counted: by roads alone
--   road_tours           == such a tour is a tour, in every plan
--   tours_as_before      == in a plan that is left everywhere there are no others
--   BestBefore p k       == no such tour that the hard rule accepts keeps a set better than k
--   best_as_before       == in a plan that is left everywhere this is what best means
--   best_never_worse     == and in every plan the best set is as good as any that was to be had before
use mathlib.Core.Path.{◌≡◌, sym, ◌∙◌}
use mathlib.Core.Bool.{true, and-false, or-false}
use mathlib.Core.List.{List}
use mathlib.Core.Logic.{◌⊎◌, ◌↔◌}
use Prim.Native.Nat.{ℕ, suc, ◌+◌, ◌^◌, ◌<◌}
use native.Mathlib.Decide.{dec_lt}
use native.Mathlib.Omega.{arith}
use borrow.Author.Tests.{le-ltb}
use lib.ListN.{length}
use Rattle.base.proofs.Tests.{or_left}
use Rattle.automata.specs.Acceptance.{lasso_at}
use Rattle.plan.specs.Tour.{has_road, leaves, joins, Begins, IsLasso, Hard, Soft}
use Rattle.plan.specs.Cost.{keeps, Better, Best}
use Rattle.plan.specs.declared.Plan.{Plan}
use Rattle.plan.proofs.Joins.{left_joins}

abbrev pub Left : Plan → Type 0
Left p = (u : ℕ) → u < p.places → leaves p u ≡ true

pub record RoadTour (p : Plan) (stem cycle : List ℕ) : Type 0 where
  pub filled : 0 < length cycle
  pub begins : Begins p (lasso_at stem cycle 0)
  pub roads : (t : ℕ) → t < length stem + length cycle → has_road p (lasso_at stem cycle t) (lasso_at stem cycle (suc t)) ≡ true

abbrev pub BestBefore : Plan → ℕ → Type 0
BestBefore p k =
    (stem cycle : List ℕ) → RoadTour p stem cycle → Hard p stem cycle → (k' : ℕ) → k' < 2 ^ p.rules
    → ((i : ℕ) → i < p.rules → keeps k' i ≡ true → Soft p stem cycle i) → (k ≡ k') ⊎ Better p k k'

module _ (p : Plan) where
  pub road_tours : (stem cycle : List ℕ) → RoadTour p stem cycle → IsLasso p stem cycle
  unfolding joins
  road_tours stem cycle t = record { filled = t.filled; begins = t.begins; roads = λ s h. or_left (has_road p _ _) _ (t.roads s h) }

  pub best_never_worse : (k : ℕ) → Best p k → BestBefore p k
  best_never_worse k best stem cycle tour = best stem cycle (road_tours stem cycle tour)

  module _ (left : Left p) where
    pub joins_as_before : (u v : ℕ) → joins p u v ≡ has_road p u v
    unfolding joins
    joins_as_before u v = by (dec_lt u p.places)
      where
        by : Dec (u < p.places) → joins p u v ≡ has_road p u v
        by (yes h) = left_joins p u v (left u h)
        by (no h) = rw (le-ltb u p.places (omega arith), and-false, or-false)

    pub tours_as_before : (stem cycle : List ℕ) → IsLasso p stem cycle ↔ RoadTour p stem cycle
    tours_as_before stem cycle =
        (λ t. record { filled = t.filled; begins = t.begins; roads = λ s h. sym (joins_as_before _ _) ∙ t.roads s h }, road_tours stem cycle)

    pub best_as_before : (k : ℕ) → Best p k ↔ BestBefore p k
    best_as_before k = (best_never_worse k, λ best stem cycle tour. best stem cycle ((tours_as_before stem cycle).0 tour))
