-- A product held at a bound M after every factor is the exact product held at M: once at M, the product stays at M or falls to 0
-- with a factor 0, as the exact one does.
use mathlib.Core.Path.{◌≡◌, refl, ◌∙◌}
use mathlib.Core.Bool.{Bool, true, false, cond}
use mathlib.Core.List.{List, [], ◌∷◌}
use Prim.Native.Nat.{ℕ, zero, suc, ◌+◌, ◌*◌, ◌≤◌, ◌<◌, min}
use native.Mathlib.Omega.{arith}
use native.Mathlib.Numerals.{add-one}
use native.Mathlib.Nat.{mul_assoc}
use lib.ListN.{get_or}
use lib.Dec.{ltb}
use borrow.Author.Tests.{ltb-true, ltb-false}
use Rattle.std.proofs.lemmas.Option.{same_Some}
use Rattle.std.specs.Prelude.{None, Some}
use Rattle.base.specs.Below.{product_below}
use Rattle.automata.specs.declared.Automaton.{Automaton}
use Rattle.plan.specs.Size.{size, too_large, Sized}
use Rattle.plan.specs.WellFormed.{soft}
use Rattle.plan.specs.declared.Plan.{Plan}

module _ (M : ℕ) where
  held_mul : (a b : ℕ) → min (min a M * b) M ≡ min (a * b) M
  held_mul a zero = omega arith
  held_mul a (suc k) = by_test (ltb M a) refl
    where
      by_test : (t : Bool) → ltb M a ≡ t → min (min a M * suc k) M ≡ min (a * suc k) M
      by_test true p = let l : M < a = ltb-true M a p in let e : min a M ≡ M = omega arith in rw e (omega arith)
      by_test false p = let l : a ≤ M = ltb-false M a p in let e : min a M ≡ a = omega arith in rw e

  -- no factor yet
  pub product_none : (f : ℕ → ℕ) (n : ℕ) → n ≤ M → n ≡ min (n * product_below 0 f) M
  unfolding product_below
  product_none f n h = omega arith

  -- one factor more
  pub product_more : (f : ℕ → ℕ) (n₀ n i q r : ℕ) → n ≡ min (n₀ * product_below i f) M → q ≡ f i → r ≡ min (n * q) M
      → r ≡ min (n₀ * product_below (i + 1) f) M
  unfolding product_below
  product_more f n₀ n i q r e k h =
      let x = product_below i f in
      let step : r ≡ min (n₀ * x * f i) M = h ∙ rw (k, e) (held_mul (n₀ * x) (f i)) in
      step ∙ rw (add-one i, mul_assoc n₀ x (f i))

  pub size_whole : (p : Plan) (a n₀ n : ℕ) → a ≡ min (1 * p.places) M → n₀ ≡ min (a * p.hard.states) M
      → n ≡ min (n₀ * product_below p.rules (λ i. (soft p i).states + 1)) M → n ≡ min (size p) M
  unfolding size
  size_whole p a n₀ n ha h₀ h =
      let e : min (1 * p.places) M ≡ min p.places M = omega arith in
      let k : n₀ ≡ min (p.places * p.hard.states) M = h₀ ∙ rw (ha, e) (held_mul p.places p.hard.states) in
      h ∙ rw k (held_mul (p.places * p.hard.states) (product_below p.rules (λ i. (soft p i).states + 1)))

pub sized_large : (p : Plan) → Sized p None → too_large p ≡ true
sized_large p s = by (too_large p) s
  where
    by : (b : Bool) → None ≡ cond b None (Some (size p)) → b ≡ true
    by true e = refl
    by false e = cc

module _ (p : Plan) (n : ℕ) (s : Sized p (Some n)) where
  by : (b : Bool) → Some n ≡ cond b None (Some (size p)) → (b ≡ false) × (n ≡ size p)
  by true e = cc
  by false e = (refl, same_Some n (size p) e)

  pub sized_fits : too_large p ≡ false
  sized_fits = (by (too_large p) s).0

  pub sized_small : size p ≤ 2048
  sized_small = ltb-false 2048 (size p) sized_fits

  pub sized_nodes : n ≡ size p
  sized_nodes = (by (too_large p) s).1

-- past the end of a list it does not matter which automaton without states is read
pub states_default : (l : List Automaton) (i : ℕ) (d e : Automaton) → d.states ≡ e.states → (get_or l i d).states ≡ (get_or l i e).states
states_default [] i d e h = h
states_default (a ∷ l) zero d e h = refl
states_default (a ∷ l) (suc i) d e h = states_default l i d e h
