-- Which places a road leaves, as a list that is made road by road.
--   Exits p i exits == `exits` tells which places the first i roads of p leave
--   exits_none, exits_next == of no road; of one more
--   lent_road, lent_exit == an entry of the part of an array that the roads, or the places, take up
use mathlib.Core.Path.{◌≡◌, refl, ap, ◌∙◌}
use mathlib.Core.Bool.{Bool, true, false, ◌||◌, or-true, or-false}
use mathlib.Core.List.{List}
use Prim.Native.Nat.{ℕ, ◌+◌, ◌<◌}
use native.Mathlib.Decide.{ℕ_discrete}
use native.Mathlib.Numerals.{add-one}
use native.Mathlib.Omega.{arith}
use borrow.Author.Tests.{eq-eqb, ne_eqb}
use lib.ListN.{length, get_or, set, take, length-set, length-take, replicate, length-replicate, get_or-replicate}
use lib.Seq.{get_or-set_same, get_or-set_other, get_or-take}
use lib.Dec.{eqb}
use Rattle.base.specs.Below.{any_below}
use Rattle.plan.specs.Tour.{road_count, leaves}
use Rattle.plan.specs.WellFormed.{WellFormed, no_road, road}
use Rattle.plan.specs.declared.Plan.{Plan}

pub record Exits (p : Plan) (i : ℕ) (exits : List Bool) : Type 0 where
  pub long : length exits ≡ 128
  pub tells : (u : ℕ) → u < 128 → get_or exits u false ≡ any_below i (λ i. eqb (road p i).from u)

module _ (p : Plan) where
  pub lent_road : (i : ℕ) → i < length (take p.road_count p.roads) → get_or (take p.road_count p.roads) i no_road ≡ road p i
  lent_road i h = get_or-take p.road_count p.roads i no_road (omega (arith, length-take p.road_count p.roads))

  pub lent_exit : {exits : List Bool} {i : ℕ} → WellFormed p → Exits p i exits → i ≡ p.road_count → (u : ℕ) → u < length (take p.places exits)
      → get_or (take p.places exits) u false ≡ leaves p u
  lent_exit {exits} w E all u h =
      let below : u < p.places = omega (arith, length-take p.places exits) in
      get_or-take p.places exits u false below ∙ E.tells u (omega (arith, w.few))
      ∙ ap (λ n. any_below n (λ i. eqb (road p i).from u)) (let count : _ ≡ road_count p = omega (arith, w.roads) in count)

  pub exits_none : Exits p 0 (replicate 128 false)
  unfolding any_below
  exits_none = record { long = length-replicate {A = Bool} 128 false; tells = λ u h. get_or-replicate {A = Bool} 128 u false false h }

  pub exits_next : {exits : List Bool} {i a : ℕ} → Exits p i exits → a ≡ (road p i).from → a < 128 → Exits p (i + 1) (set exits a true)
  unfolding any_below
  exits_next {exits} {i} {a} E from h = record { long = length-set exits a true ∙ E.long; tells = λ u hu. rw (add-one i, ← from) (by u hu (ℕ_discrete a u)) }
    where
      by : (u : ℕ) → u < 128 → Dec (a ≡ u) → get_or (set exits a true) u false ≡ any_below i (λ i. eqb (road p i).from u) || eqb a u
      by u hu (yes e) = rw (← e, eq-eqb a a refl, or-true, get_or-set_same exits a true false (omega (arith, E.long))) refl
      by u hu (no e) = rw (ne_eqb a u e, or-false) (get_or-set_other exits a u true false (λ d. e (omega arith)) ∙ E.tells u hu)
