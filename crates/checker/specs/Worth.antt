-- What a tour is worth, as the checker finds it, rule by rule.
--   Known p stem cycle   == the places of run-in and loop are places of p
--   KeptBit p stem cycle i weight r == r is the weight if soft rule i + 1 accepts the tour, else 0
--   Keeping p stem cycle i weight kept == kept is exact for the first i soft rules, and weight is the bit of the next
use Rattle.std.specs.Prelude.{◌≡◌, true, false, List, ℕ, ◌^◌, ◌≤◌, ◌<◌}
use Rattle.automata.specs.WellFormed.{Below}
use Rattle.plan.specs.Tour.{Soft}
use Rattle.plan.specs.Cost.{keeps}
use Rattle.plan.specs.declared.Plan.{Plan}

pub record Known (p : Plan) (stem cycle : List ℕ) : Type 0 where
  pub in_stem : Below p.places stem
  pub in_cycle : Below p.places cycle

pub data KeptBit (p : Plan) (stem cycle : List ℕ) (i weight r : ℕ) : Type 0 where
  kept : r ≡ weight → Soft p stem cycle i → KeptBit p stem cycle i weight r
  left : r ≡ 0 → (Soft p stem cycle i → ⊥) → KeptBit p stem cycle i weight r

pub record Keeping (p : Plan) (stem cycle : List ℕ) (i weight kept : ℕ) : Type 0 where
  pub listed : i ≤ p.rules
  pub next : weight ≡ 2 ^ i
  pub small : kept < 2 ^ i
  pub accepted : (j : ℕ) → j < i → keeps kept j ≡ true → Soft p stem cycle j
  pub refused : (j : ℕ) → j < i → keeps kept j ≡ false → Soft p stem cycle j → ⊥
