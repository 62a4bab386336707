-- `linked R n` is the least relation on the states below n that contains R, is reflexive and is transitive (Warshall's).
--   linked_refl, linked_one == it is reflexive, and contains R
--   linked_trans            == it is transitive, where the state in the middle is below n
--   linked_least            == and it is contained in every relation that is all this
use mathlib.Core.Path.{◌≡◌, refl}
use mathlib.Core.Bool.{Bool, true, ◌&&◌}
use Prim.Native.Nat.{ℕ, zero, suc, ◌<◌}
use native.Mathlib.Decide.{ℕ_discrete}
use native.Mathlib.Omega.{arith}
use borrow.Author.Tests.{eq-eqb, eqb-true}
use lib.Dec.{eqb}
use Rattle.base.proofs.Tests.{and_intro, and_left, and_right, or_left, or_right, or_elim}
use Rattle.acceptance.specs.Decision.{linked}

module _ (R : ℕ → ℕ → Bool) where
  -- with one state more to pass through: what was linked, and what is linked to that state and from it
  linked_more : (k q r : ℕ) → linked R k q r ≡ true → linked R (suc k) q r ≡ true
  unfolding linked
  linked_more k q r = or_left (linked R k q r) (linked R k q k && linked R k k r)

  linked_through : (k q r : ℕ) → linked R k q k ≡ true → linked R k k r ≡ true → linked R (suc k) q r ≡ true
  unfolding linked
  linked_through k q r g h = or_right (linked R k q r) (linked R k q k && linked R k k r) (and_intro g h)

  linked_by : (k q r : ℕ) {C : Type 0} → linked R (suc k) q r ≡ true
      → (linked R k q r ≡ true → C) → (linked R k q k ≡ true → linked R k k r ≡ true → C) → C
  unfolding linked
  linked_by k q r h f g =
      or_elim (linked R k q r) (linked R k q k && linked R k k r) h f
      (λ e. g (and_left (linked R k q k) (linked R k k r) e) (and_right (linked R k q k) (linked R k k r) e))

  pub linked_refl : (k q : ℕ) → linked R k q q ≡ true
  unfolding linked
  linked_refl zero q = or_left (eqb q q) (R q q) (eq-eqb q q refl)
  linked_refl (suc k) q = linked_more k q q (linked_refl k q)

  pub linked_one : (k q r : ℕ) → R q r ≡ true → linked R k q r ≡ true
  unfolding linked
  linked_one zero q r h = or_right (eqb q r) (R q r) h
  linked_one (suc k) q r h = linked_more k q r (linked_one k q r h)

  pub linked_trans : (n q m r : ℕ) → m < n → linked R n q m ≡ true → linked R n m r ≡ true → linked R n q r ≡ true
  linked_trans zero q m r l g h = absurd (omega arith)
  linked_trans (suc k) q m r l g h = at (ℕ_discrete m k) (linked_trans k)
    where
      to : linked R (suc k) q k ≡ true → linked R k q k ≡ true
      to e = linked_by k q k e (λ d. d) (λ d _. d)

      from : linked R (suc k) k r ≡ true → linked R k k r ≡ true
      from e = linked_by k k r e (λ d. d) (λ _ d. d)

      at : Dec (m ≡ k) → ((q m r : ℕ) → m < k → linked R k q m ≡ true → linked R k m r ≡ true → linked R k q r ≡ true) → linked R (suc k) q r ≡ true
      at (yes e) ih = linked_through k q r (to (rw e at g)) (from (rw e at h))
      at (no e) ih =
          let s : m < k = omega arith in
          linked_by k q m g
          (λ qm. linked_by k m r h
          (λ mr. linked_more k q r (ih q m r s qm mr))
          (λ mk kr. linked_through k q r (ih q m k s qm mk) kr))
          (λ qk km. linked_by k m r h
          (λ mr. linked_through k q r qk (ih k m r s km mr))
          (λ mk kr. linked_through k q r qk kr))

  pub linked_least : (T : ℕ → ℕ → Type 0) → ((q r : ℕ) → q ≡ r → T q r) → ((q r : ℕ) → R q r ≡ true → T q r)
      → ((q m r : ℕ) → T q m → T m r → T q r) → (k q r : ℕ) → linked R k q r ≡ true → T q r
  unfolding linked
  linked_least T same one trans zero q r h = or_elim (eqb q r) (R q r) h (λ e. same q r (eqb-true q r e)) (one q r)
  linked_least T same one trans (suc k) q r h =
      let ih = linked_least T same one trans k in
      linked_by k q r h (ih q r) (λ qk kr. trans q k r (ih q k qk) (ih k r kr))
