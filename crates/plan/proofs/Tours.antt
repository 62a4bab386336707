-- Laws of tours, and what parking makes of them (02, note 7).
--   best_kept               == demand 3 to the letter: the best set against the kept byte of every tour that the hard rule accepts
--   lone_place              == a lone place that has a road out is the loop of a tour, whatever its run-in, only where a road leads from it to
--                              itself: a reading of 01 that the definitions shut out
--   parked_loop             == a tour that comes to a place without a road out parks there: its loop is this place, again and again
--   parked_stem             == and if it begins there, so is its run-in
--   stem_under, cycle_under == the places of a tour are places of the plan
use mathlib.Core.Path.{◌≡◌, sym, ap, ◌∙◌}
use mathlib.Core.Bool.{true}
use mathlib.Core.Logic.{◌⊎◌}
use mathlib.Core.List.{List, [], ◌∷◌}
use Prim.Native.Nat.{ℕ, zero, suc, ◌+◌, ◌-◌, ◌%◌, ◌≤◌, ◌<◌}
use native.Mathlib.Nat.{mod-eq_of_lt, add-sub_cancel_left}
use native.Mathlib.Omega.{arith}
use lib.ListN.{length, get_or}
use borrow.Author.Tests.{eqb-true}
use Rattle.text.specs.List.{under}
use Rattle.text.proofs.Lists.{under_intro}
use Rattle.automata.specs.Acceptance.{lasso_at}
use Rattle.automata.proofs.Lassos.{lasso_stem, lasso_cycle, lasso_period}
use Rattle.plan.specs.WellFormed.{WellFormed}
use Rattle.plan.specs.Tour.{IsLasso, Hard, has_road, leaves, parks}
use Rattle.plan.specs.Cost.{KeptIs, Better, Best}
use Rattle.plan.specs.declared.Plan.{Plan}
use Rattle.plan.proofs.Joins.{left_joins, parked_joins, joins_from}

loop_at : (stem cycle : List ℕ) (i : ℕ) → i < length cycle → lasso_at stem cycle (length stem + i) ≡ get_or cycle i 0
loop_at stem cycle i h = lasso_cycle stem cycle (length stem + i) (omega arith) ∙ rw (add-sub_cancel_left, mod-eq_of_lt h)

module _ (p : Plan) where
  pub best_kept : (k : ℕ) → Best p k → (stem cycle : List ℕ) → IsLasso p stem cycle → Hard p stem cycle → (k' : ℕ) → KeptIs p stem cycle k' → (k ≡ k') ⊎ Better p k k'
  best_kept k best stem cycle lasso hard k' kept = best stem cycle lasso hard k' kept.small kept.accepted

  pub lone_place : (stem : List ℕ) (v : ℕ) → leaves p v ≡ true → IsLasso p stem (v ∷ []) → has_road p v v ≡ true
  lone_place stem v left lasso =
      sym (left_joins p v v left) ∙ rw (at (length stem) (omega arith), at (suc (length stem)) (omega arith)) at (lasso.roads (length stem) (omega arith))
    where
      at : (t : ℕ) → length stem ≤ t → lasso_at stem (v ∷ []) t ≡ v
      at t h = let e : (t - length stem) % 1 ≡ 0 = omega arith in lasso_cycle stem (v ∷ []) t h ∙ ap (λ i. get_or (v ∷ []) i 0) e

  module _ (v : ℕ) (parked : parks p v ≡ true) (stem cycle : List ℕ) (lasso : IsLasso p stem cycle) where
    stays : (t : ℕ) → t < length stem + length cycle → lasso_at stem cycle t ≡ v → lasso_at stem cycle (suc t) ≡ v
    stays t h e = sym (eqb-true v _ (sym (parked_joins p v (lasso_at stem cycle (suc t)) parked) ∙ rw e at (lasso.roads t h)))

    from_there : (t : ℕ) → lasso_at stem cycle t ≡ v → (k : ℕ) → t + k ≤ length stem + length cycle → lasso_at stem cycle (t + k) ≡ v
    from_there t e zero h = let z : t + 0 ≡ t = omega arith in rw z e
    from_there t e (suc k) h = let z : t + suc k ≡ suc (t + k) = omega arith in rw z (stays (t + k) (omega arith) (from_there t e k (omega arith)))

    pub parked_stem : lasso_at stem cycle 0 ≡ v → (i : ℕ) → i < length stem → get_or stem i 0 ≡ v
    parked_stem e i l = let z : 0 + i ≡ i = omega arith in sym (lasso_stem stem cycle i l) ∙ rw z at (from_there 0 e i (omega arith))

    pub parked_loop : (t : ℕ) → t < length stem + length cycle → lasso_at stem cycle t ≡ v → (i : ℕ) → i < length cycle → get_or cycle i 0 ≡ v
    parked_loop t h e i l =
        let r : ℕ = length stem in
        let whole : ℕ = length stem + length cycle in
        let there : t + (whole - t) ≡ r + length cycle = omega arith in
        let last : lasso_at stem cycle (r + length cycle) ≡ v = rw there at (from_there t e (whole - t) (omega arith)) in
        let first : lasso_at stem cycle r ≡ v = sym (lasso_period stem cycle r (omega arith)) ∙ last in
        sym (loop_at stem cycle i l) ∙ from_there r first i (omega arith)

-- every place of a tour is joined to the next, and what is joined are places of the plan
module _ (p : Plan) (ok : WellFormed p) where
  module _ (stem cycle : List ℕ) (lasso : IsLasso p stem cycle) where
    step_under : (t : ℕ) → t < length stem + length cycle → lasso_at stem cycle t < p.places
    step_under t h = joins_from p (lasso_at stem cycle t) (lasso_at stem cycle (suc t)) ok (lasso.roads t h)

    pub stem_under : under p.places stem ≡ true
    stem_under = under_intro p.places stem (λ i h. rw (lasso_stem stem cycle i h) at (step_under i (omega arith)))

    pub cycle_under : under p.places cycle ≡ true
    cycle_under = under_intro p.places cycle (λ i h. rw (loop_at stem cycle i h) at (step_under (length stem + i) (omega arith)))
