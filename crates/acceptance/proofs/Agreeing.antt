-- What is decided depends only on the steps at the entries of the run-in and of the loop, from states below n, and on which of these states
-- accept. Entries are below `places`; δ and ε agree there, and F and G on the states.
--   after_agree, turn_agree, meet_agree == `after`, `turn` and `meet` of the two
--   decided_same                        == and so what is decided
use mathlib.Core.Path.{◌≡◌, refl, ap, ap₂}
use mathlib.Core.Bool.{Bool, ◌&&◌, ◌||◌}
use mathlib.Core.List.{List, [], ◌∷◌}
use Prim.Native.Nat.{ℕ, suc, ◌≤◌, ◌<◌}
use native.Mathlib.Nat.{le_refl}
use native.Mathlib.Omega.{arith}
use lib.Dec.{eqb}
use Rattle.base.proofs.Tests.{any_same}
use Rattle.automata.specs.WellFormed.{Below}
use Rattle.acceptance.specs.Decision.{after, turn, meet, turns, decided}
use Rattle.acceptance.proofs.Links.{linked_same}

module _ (δ ε : ℕ → ℕ → ℕ → Bool) (n places : ℕ) (F G : ℕ → Bool) (steps : (v q r : ℕ) → v < places → q < n → δ v q r ≡ ε v q r)
    (accepts : (q : ℕ) → q < n → F q ≡ G q) where
  after_agree : (vs : List ℕ) → Below places vs → (X Y : ℕ → Bool) → ((q : ℕ) → X q ≡ Y q) → (r : ℕ) → after δ n vs X r ≡ after ε n vs Y r
  unfolding after
  after_agree [] h X Y e r = e r
  after_agree (v ∷ vs) h X Y e r =
      after_agree vs (λ i. h (suc i)) _ _ (λ s. any_same _ _ n (λ q l. ap₂ ◌&&◌ (e q) (steps v q s (h 0) l))) r

  turn_agree : (vs : List ℕ) → Below places vs → (q : ℕ) → q < n → (r : ℕ) → turn δ n vs q r ≡ turn ε n vs q r
  unfolding turn
  turn_agree [] h q l r = refl
  turn_agree (v ∷ vs) h q l r = any_same _ _ n (λ s m. ap₂ ◌&&◌ (steps v q s (h 0) l) (turn_agree vs (λ i. h (suc i)) s m r))

  meet_agree : (vs : List ℕ) → Below places vs → (q : ℕ) → q < n → (r : ℕ) → meet δ n F vs q r ≡ meet ε n G vs q r
  unfolding meet
  meet_agree [] h q l r = ap (λ b. b && eqb q r) (accepts q l)
  meet_agree (v ∷ vs) h q l r =
      ap₂ ◌||◌ (any_same _ _ n (λ s m. ap₂ ◌&&◌ (steps v q s (h 0) l) (meet_agree vs (λ i. h (suc i)) s m r)))
      (ap₂ ◌&&◌ (accepts q l) (turn_agree (v ∷ vs) h q l r))

  pub decided_same : (q₀ : ℕ) (stem cycle : List ℕ) → n ≤ 32 → Below places stem → Below places cycle
      → decided δ n q₀ F stem cycle ≡ decided ε n q₀ G stem cycle
  unfolding decided
  decided_same q₀ stem cycle few in_stem in_cycle =
      any_same _ _ n (λ s l. ap₂ ◌&&◌
      (any_same _ _ n (λ p m. ap₂ ◌&&◌ (after_agree stem in_stem (eqb q₀) (eqb q₀) (λ q. refl) p) (back p m s l)))
      (any_same _ _ n (λ t m. ap₂ ◌&&◌ (meet_agree cycle in_cycle s l t) (back t m s l))))
    where
      back : (q : ℕ) → q < n → (r : ℕ) → r < n → turns δ n cycle q r ≡ turns ε n cycle q r
      back q l r m =
          linked_same (turn δ n cycle) (turn ε n cycle) n few (λ q l r m. turn_agree cycle in_cycle q l r) n (le_refl n) q l r (omega arith)
