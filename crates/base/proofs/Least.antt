-- Laws of the least number below n with a property.
--   LeastAt n p i == i is below n and has the property, and no number before it has
--   least_found   == what is found is that number
--   least_none    == where nothing is found, no number below n has the property
--   least_at, least_nowhere == the converses
use mathlib.Core.Path.{◌≡◌, refl, sym, ap, ◌∙◌}
use mathlib.Core.Bool.{Bool, true, false, cond}
use Prim.Native.Nat.{ℕ, zero, suc, ◌<◌}
use native.Mathlib.Decide.{ℕ_discrete}
use native.Mathlib.Omega.{arith}
use Rattle.base.specs.Least.{Found, nowhere, at, or_else, least_below}

pub record LeastAt (n : ℕ) (p : ℕ → Bool) (i : ℕ) : Type 0 where
  pub below : i < n
  pub holds : p i ≡ true
  pub first : (k : ℕ) → k < i → p k ≡ false

never : {i : ℕ} → at i ≡ nowhere → ⊥
never e = let z : ◌≡◌ {A = ℕ} 0 1 = cc in omega arith

same : {i j : ℕ} → at j ≡ at i → j ≡ i
same e = cc

module _ (p : ℕ → Bool) where
  pub least_none : (n : ℕ) → least_below n p ≡ nowhere → (k : ℕ) → k < n → p k ≡ false
  unfolding least_below
  least_none zero e k l = absurd (omega arith)
  least_none (suc n) e k l = by (least_below n p) refl (p n) refl e (least_none n) (ℕ_discrete k n)
    where
      by : (f : Found) → least_below n p ≡ f → (b : Bool) → p n ≡ b → or_else f (cond b (at n) nowhere) ≡ nowhere
          → (least_below n p ≡ nowhere → (k : ℕ) → k < n → p k ≡ false) → Dec (k ≡ n) → p k ≡ false
      by nowhere none false out e before (yes here) = rw here out
      by nowhere none false out e before (no there) = before none k (omega arith)
      by nowhere none true out e before d = absurd (never e)
      by (at j) some b out e before d = absurd (never e)

  pub least_found : (n i : ℕ) → least_below n p ≡ at i → LeastAt n p i
  unfolding least_below
  least_found zero i e = absurd (never (sym e))
  least_found (suc n) i e = by (least_below n p) refl (p n) refl e (least_found n i)
    where
      by : (f : Found) → least_below n p ≡ f → (b : Bool) → p n ≡ b → or_else f (cond b (at n) nowhere) ≡ at i
          → (least_below n p ≡ at i → LeastAt n p i) → LeastAt (suc n) p i
      by nowhere none true out e before =
          let here : n ≡ i = same e in
          record { below = omega arith; holds = rw here at out; first = λ k l. least_none n none k (omega arith) }
      by nowhere none false out e before = absurd (never (sym e))
      by (at j) some b out e before =
          let there = before (some ∙ e) in
          record { below = omega (arith, there.below); holds = there.holds; first = there.first }

  pub least_nowhere : (n : ℕ) → ((k : ℕ) → k < n → p k ≡ false) → least_below n p ≡ nowhere
  unfolding least_below
  least_nowhere zero none = refl
  least_nowhere (suc n) none = rw (least_nowhere n (λ k l. none k (omega arith)), none n (omega arith))

  pub least_at : (n i : ℕ) → LeastAt n p i → least_below n p ≡ at i
  unfolding least_below
  least_at zero i l = absurd (omega arith)
  least_at (suc n) i l = by (ℕ_discrete i n) (least_at n i)
    where
      by : Dec (i ≡ n) → (LeastAt n p i → least_below n p ≡ at i) → or_else (least_below n p) (cond (p n) (at n) nowhere) ≡ at i
      by (yes here) before =
          rw (least_nowhere n (λ k b. l.first k (omega arith)), rw here at l.holds) (ap at (sym here))
      by (no there) before =
          rw (before (record { below = omega arith; holds = l.holds; first = l.first }))
