-- A route that passes its tests is a tour that the hard rule and the soft rules of k accept.
--   all_nth     == each of a list of tests that pass
--   stem, cycle == the places of the route
--   lasso, hard, softs == what holds of them
use mathlib.Core.Path.{◌≡◌, refl}
use mathlib.Core.Bool.{Bool, true}
use mathlib.Core.List.{List, [], ◌∷◌, map}
use Prim.Native.Nat.{ℕ, zero, suc, ◌<◌}
use native.Mathlib.Omega.{arith}
use borrow.Author.Tests.{ltb-true}
use lib.ListN.{length, get_or}
use Rattle.automata.specs.Automaton.{final}
use Rattle.base.proofs.Tests.{any_elim, and_left, and_right, all_elim}
use Rattle.plan.specs.WellFormed.{soft, WellFormed}
use Rattle.plan.specs.Tour.{IsLasso, Hard, Soft}
use Rattle.plan.specs.Cost.{keeps}
use Rattle.plan.specs.declared.Plan.{Plan}
use Rattle.graph.specs.Paths.{Walk}
use Rattle.product.specs.Product.{start_node, place_of, hard_of, soft_of}
use Rattle.optimality.specs.Offer.{Edge}
use Rattle.optimality.proofs.Witness.{witness_lasso, witness_hard, witness_soft}
use Rattle.figures.specs.Certificate.{implies}
use Rattle.figures.specs.Figure.{Route, all_of, meets, drive_tests}
use Rattle.figures.proofs.Certificates.{mp, walks-by}

pub all_nth : (bs : List Bool) → all_of bs ≡ true → (i : ℕ) → get_or bs i true ≡ true
unfolding all_of
all_nth [] h i = refl
all_nth (b ∷ bs) h zero = and_left b (all_of bs) h
all_nth (b ∷ bs) h (suc i) = all_nth bs (and_right b (all_of bs) h) i

module _ (p : Plan) (ok : WellFormed p) (k : ℕ) (r : Route) (h : all_of (drive_tests p k r) ≡ true) where
  test : (i : ℕ) → get_or (drive_tests p k r) i true ≡ true
  test = all_nth (drive_tests p k r) h

  stem_walk : Walk (Edge p) (start_node p) r.stem r.home
  stem_walk = walks-by p (start_node p) r.stem r.home (test 0)

  cycle_walk : Walk (Edge p) r.home r.cycle r.home
  cycle_walk = walks-by p r.home r.cycle r.home (test 1)

  filled : 0 < length r.cycle
  filled = ltb-true 0 (length r.cycle) (test 2)

  pub stem : List ℕ
  stem = map (place_of p) r.stem

  pub cycle : List ℕ
  cycle = map (place_of p) r.cycle

  pub lasso : IsLasso p stem cycle
  unfolding stem cycle
  lasso = witness_lasso p ok r.home r.stem r.cycle stem_walk cycle_walk filled

  pub hard : Hard p stem cycle
  unfolding stem cycle
  hard =
      let m = any_elim (λ t. final p.hard (hard_of p (get_or r.cycle t r.home))) (suc (length r.cycle)) (test 3) in
      witness_hard p ok r.home r.stem r.cycle stem_walk cycle_walk filled m.0 (omega arith) m.2

  pub softs : (i : ℕ) → i < p.rules → keeps k i ≡ true → Soft p stem cycle i
  unfolding stem cycle
  softs i l e =
      let q : ℕ → Bool = λ i. implies (keeps k i) (meets r (λ v. final (soft p i) (soft_of p i v))) in
      let m = any_elim (λ t. final (soft p i) (soft_of p i (get_or r.cycle t r.home))) (suc (length r.cycle)) (mp (keeps k i) _ (all_elim q p.rules (test 4) i l) e) in
      witness_soft p ok r.home r.stem r.cycle stem_walk cycle_walk filled i l m.0 (omega arith) m.2
