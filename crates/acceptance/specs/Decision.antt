-- Acceptance of a run-in and a loop, decided: functions of the two lists, over the states below n. Steps are related by δ v q r: under the
-- entry v, from the state q to the state r; F tells which states accept.
--   after δ n vs X r   == over the entries of vs, some state of X leads to r
--   turn δ n vs q r    == over the entries of vs, q leads to r
--   meet δ n F vs q r  == and on the way, both ends counted, an accepting state is met
--   linked R k q r     == q is r, or leads to r by steps of R that pass through states below k only
--   decided δ n q₀ F stem cycle
--                      == from q₀, over the run-in and then over turns of the loop, a state is reached that leads back to itself by turns of
--                         the loop, in the first of which an accepting state is met
use Rattle.std.specs.Prelude.{Bool, ◌&&◌, ◌||◌, List, [], ◌∷◌, ℕ, zero, suc, eqb}
use Rattle.base.specs.Below.{any_below}

unfoldable pub after : (ℕ → ℕ → ℕ → Bool) → ℕ → List ℕ → (ℕ → Bool) → ℕ → Bool
after δ n [] X r = X r
after δ n (v ∷ vs) X r = after δ n vs (λ s. any_below n (λ q. X q && δ v q s)) r

unfoldable pub turn : (ℕ → ℕ → ℕ → Bool) → ℕ → List ℕ → ℕ → ℕ → Bool
turn δ n [] q r = eqb q r
turn δ n (v ∷ vs) q r = any_below n (λ s. δ v q s && turn δ n vs s r)

unfoldable pub meet : (ℕ → ℕ → ℕ → Bool) → ℕ → (ℕ → Bool) → List ℕ → ℕ → ℕ → Bool
meet δ n F [] q r = F q && eqb q r
meet δ n F (v ∷ vs) q r = any_below n (λ s. δ v q s && meet δ n F vs s r) || (F q && turn δ n (v ∷ vs) q r)

unfoldable pub linked : (ℕ → ℕ → Bool) → ℕ → ℕ → ℕ → Bool
linked R zero q r = eqb q r || R q r
linked R (suc k) q r = linked R k q r || (linked R k q k && linked R k k r)

abbrev pub turns : (ℕ → ℕ → ℕ → Bool) → ℕ → List ℕ → ℕ → ℕ → Bool
turns δ n cycle = linked (turn δ n cycle) n

unfoldable pub decided : (ℕ → ℕ → ℕ → Bool) → ℕ → ℕ → (ℕ → Bool) → List ℕ → List ℕ → Bool
decided δ n q₀ F stem cycle =
    any_below n (λ s.
    any_below n (λ p. after δ n stem (eqb q₀) p && turns δ n cycle p s)
    && any_below n (λ t. meet δ n F cycle s t && turns δ n cycle t s))
