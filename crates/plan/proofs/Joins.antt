-- Which place leads to which (02, note 7).
--   left_joins           == a place with a road out is joined exactly by its roads
--   parked_joins         == a place without is joined to itself alone
--   no_place             == a number that is no place is joined to nothing
--   joins_from, joins_to == what is joined are places of the plan
use mathlib.Core.Path.{◌≡◌, refl}
use mathlib.Core.Bool.{Bool, true, false, not, ◌&&◌, and-true, and-false, or-false}
use Prim.Native.Nat.{ℕ, ◌≤◌, ◌<◌}
use native.Mathlib.Omega.{arith}
use borrow.Author.Tests.{ltb-true, eqb-true, not-true}
use lib.Dec.{eqb, ltb}
use Rattle.base.proofs.Tests.{any_elim, any_intro, and_left, and_right, or_elim, false_not_true}
use Rattle.plan.specs.WellFormed.{road, WellFormed}
use Rattle.plan.specs.Tour.{road_count, is_road, has_road, leaves, parks, joins}
use Rattle.plan.specs.declared.Plan.{Plan}

module _ (p : Plan) (u v : ℕ) where
  -- a road from u is a road out of it
  road_leaves : has_road p u v ≡ true → leaves p u ≡ true
  road_leaves h =
      let r = any_elim (is_road p u v) (road_count p) h in
      any_intro (λ i. eqb (road p i).from u) (road_count p) r.0 r.1 (and_left _ (eqb (road p r.0).to v) r.2)

  pub left_joins : leaves p u ≡ true → joins p u v ≡ has_road p u v
  unfolding joins
  left_joins h = rw (h, and-false, and-false, or-false)

  pub parked_joins : parks p u ≡ true → joins p u v ≡ eqb u v
  unfolding joins
  parked_joins h = by (has_road p u v) refl
    where
      by : (b : Bool) → has_road p u v ≡ b → joins p u v ≡ eqb u v
      by true e = absurd (false_not_true (road_leaves e) (not-true (leaves p u) (and_right (ltb u p.places) (not (leaves p u)) h)))
      by false e = rw (e, h, and-true)

  module _ (ok : WellFormed p) where
    pub joins_from : joins p u v ≡ true → u < p.places
    unfolding joins
    joins_from h = or_elim (has_road p u v) (eqb u v && parks p u) h by_road parked
      where
        by_road : has_road p u v ≡ true → u < p.places
        by_road e =
            let r = any_elim (is_road p u v) (road_count p) e in
            omega (arith, ok.from r.0, eqb-true (road p r.0).from u (and_left _ _ r.2))

        parked : (eqb u v && parks p u) ≡ true → u < p.places
        parked e = ltb-true u p.places (and_left _ _ (and_right (eqb u v) (parks p u) e))

    pub joins_to : joins p u v ≡ true → v < p.places
    unfolding joins
    joins_to h = or_elim (has_road p u v) (eqb u v && parks p u) h by_road parked
      where
        by_road : has_road p u v ≡ true → v < p.places
        by_road e =
            let r = any_elim (is_road p u v) (road_count p) e in
            omega (arith, ok.to r.0, eqb-true (road p r.0).to v (and_right (eqb (road p r.0).from u) _ r.2))

        parked : (eqb u v && parks p u) ≡ true → v < p.places
        parked e =
            omega (arith, eqb-true u v (and_left (eqb u v) _ e), ltb-true u p.places (and_left _ _ (and_right (eqb u v) (parks p u) e)))

    pub no_place : p.places ≤ u → joins p u v ≡ false
    no_place h = by (joins p u v) refl
      where
        by : (b : Bool) → joins p u v ≡ b → b ≡ false
        by false e = refl
        by true e = let l = joins_from e in absurd (omega arith)
