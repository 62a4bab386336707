-- Places that no road leaves, as a table of words tells them.
--   bare l a         == no road leaves place a, as the table l tells it
--   listed from to n == n roads, the one numbered i from place `from i` to place `to i`, as a test
--   parked free n    == each of the first n places that is free is joined to itself
--   bare_leaves      == in a table of a plan's roads a place is bare where no road of the plan leaves it
--   paths_made       == blank tables with the plan's roads, and then with the places that are bare, are the plan's paths
use mathlib.Core.Path.{◌≡◌, refl, sym, ap, ap₂, ◌∙◌}
use mathlib.Core.Bool.{Bool, true, not, ◌&&◌, ◌||◌, and_comm}
use mathlib.Core.List.{List}
use Prim.Native.Nat.{ℕ, ◌<◌}
use native.Mathlib.Decide.{ℕ_discrete}
use native.Mathlib.Omega.{arith}
use borrow.Author.Tests.{eq-eqb, ne_eqb}
use lib.ListN.{length, replicate}
use lib.Dec.{eqb, ltb}
use Rattle.base.specs.Below.{any_below}
use Rattle.base.proofs.Tests.{any_intro, any_elim, any_same, and_intro, and_left, bool_same}
use Rattle.nodes.specs.Sets.{road_b}
use Rattle.nodes.proofs.Words.{blank_at}
use Rattle.nodes.proofs.Roads.{road_none}
use Rattle.plan.specs.Tour.{road_count, is_road, has_road, leaves, parks, joins}
use Rattle.plan.specs.WellFormed.{WellFormed, road}
use Rattle.plan.specs.declared.Plan.{Plan}
use Rattle.roadmap.specs.Words.{single, Gains, Paths}
use Rattle.roadmap.proofs.Gains.{Told}
use Rattle.roadmap.proofs.Paths as told

abbrev pub bare : List ℕ → ℕ → Bool
bare l a = not (any_below 128 (road_b l a))

abbrev pub listed : (ℕ → ℕ) → (ℕ → ℕ) → ℕ → ℕ → ℕ → Bool
listed from to n x y = any_below n (λ i. single (from i) (to i) x y)

abbrev pub parked : (ℕ → Bool) → ℕ → ℕ → ℕ → Bool
parked free n x y = eqb x y && (ltb x n && free x)

-- a table that was blank tells what was added
gained : {R : ℕ → ℕ → Bool} {l l₁ : List ℕ} → l ≡ replicate 256 0 → Gains R l l₁ → (x y : ℕ) → x < 128 → y < 128 → road_b l₁ x y ≡ R x y
gained {R} {l} e g x y hx hy = g.has x y hx hy ∙ ap (λ r. r || R x y) (ap (λ k. road_b k x y) e ∙ road_none (replicate 256 0) (blank_at 256) x y)

module _ (p : Plan) (ok : WellFormed p) where
  abbrev from : ℕ → ℕ
  from i = (road p i).from

  abbrev to : ℕ → ℕ
  to i = (road p i).to

  -- the roads so listed are those of the plan
  listed_road : (x y : ℕ) → listed from to p.road_count x y ≡ has_road p x y
  listed_road x y = let count : p.road_count ≡ road_count p = omega (arith, ok.roads) in ap (λ n. any_below n (is_road p x y)) count

  listed_back : (x y : ℕ) → listed to from p.road_count x y ≡ has_road p y x
  listed_back x y =
      any_same (λ i. single (to i) (from i) x y) (is_road p y x) p.road_count (λ i _. and_comm (eqb (to i) x) (eqb (from i) y)) ∙ listed_road y x

  pub bare_leaves : (l : List ℕ) → ((x y : ℕ) → x < 128 → y < 128 → road_b l x y ≡ has_road p x y) → (a : ℕ) → a < 128 → bare l a ≡ not (leaves p a)
  bare_leaves l tells a h = ap not (bool_same _ _ there back)
    where
      there : any_below 128 (road_b l a) ≡ true → leaves p a ≡ true
      there e =
          let m = any_elim (road_b l a) 128 e in
          let r = any_elim (is_road p a m.0) (road_count p) (sym (tells a m.0 h m.1) ∙ m.2) in
          any_intro (λ i. eqb (road p i).from a) (road_count p) r.0 r.1 (and_left _ (eqb (road p r.0).to m.0) r.2)

      back : leaves p a ≡ true → any_below 128 (road_b l a) ≡ true
      back e =
          let r = any_elim (λ i. eqb (road p i).from a) (road_count p) e in
          let b = (road p r.0).to in
          let below : b < 128 = omega (arith, ok.to r.0, ok.few) in
          any_intro (road_b l a) 128 b below (tells a b h below ∙ any_intro (is_road p a b) (road_count p) r.0 r.1 (and_intro r.2 (eq-eqb b b refl)))

  -- a place that is joined to itself is so turned round
  parked_round : (free : ℕ → Bool) (n x y : ℕ) → parked free n x y ≡ parked free n y x
  parked_round free n x y = by (ℕ_discrete x y)
    where
      by : Dec (x ≡ y) → parked free n x y ≡ parked free n y x
      by (yes e) = rw e
      by (no e) = rw (ne_eqb x y e, ne_eqb y x (λ k. e (sym k)))

  module _ {roads₀ broads₀ roads₁ broads₁ roads₂ broads₂ : List ℕ} (blank : roads₀ ≡ replicate 256 0) (blank_back : broads₀ ≡ replicate 256 0)
      (marked : Gains (listed from to p.road_count) roads₀ roads₁) (marked_back : Gains (listed to from p.road_count) broads₀ broads₁)
      (stay : Gains (parked (bare roads₁) p.places) roads₁ roads₂) (stay_back : Gains (parked (bare roads₁) p.places) broads₁ broads₂)
      (long : length roads₂ ≡ 256) (long_back : length broads₂ ≡ 256) where
    tells : (x y : ℕ) → x < 128 → y < 128 → road_b roads₁ x y ≡ has_road p x y
    tells x y hx hy = gained blank marked x y hx hy ∙ listed_road x y

    parks_so : (x y : ℕ) → x < 128 → parked (bare roads₁) p.places x y ≡ eqb x y && parks p x
    parks_so x y hx = ap (λ f. eqb x y && (ltb x p.places && f)) (bare_leaves roads₁ tells x hx)

    joined : Told (joins p) roads₂ broads₂
    unfolding joins
    joined = record {
      forth = λ x y hx hy. stay.has x y hx hy ∙ ap₂ ◌||◌ (tells x y hx hy) (parks_so x y hx);
      back =
          λ x y hx hy.
          stay_back.has y x hy hx
          ∙ ap₂ ◌||◌ (gained blank_back marked_back y x hy hx ∙ listed_back y x) (parked_round (bare roads₁) p.places y x ∙ parks_so x y hx);
    }

    pub paths_made : Paths p roads₂ broads₂
    paths_made = told.paths_made p ok long long_back joined
