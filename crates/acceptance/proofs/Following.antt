-- The run-in followed by a set of states.
--   after_same                     == of sets with the same members the same is reached
--   after_lands                    == of a set of states below n, by steps to such states, no others are reached
--   after_narrow                   == and no others are passed
--   following_step, -end           == place by place
use mathlib.Core.Path.{◌≡◌, refl, sym, ap, ◌∙◌}
use mathlib.Core.Bool.{Bool, true, false, ◌&&◌}
use mathlib.Core.List.{List, [], ◌∷◌}
use Prim.Native.Nat.{ℕ, suc, ◌+◌, ◌*◌, ◌≤◌, ◌<◌}
use native.Mathlib.Numerals.{add-one}
use native.Mathlib.Omega.{arith}
use lib.ListN.{length, get_or, drop}
use lib.Seq.{drop-cons, drop-length}
use Rattle.base.specs.Below.{any_below}
use Rattle.base.specs.Bits.{has_bit, Members}
use Rattle.acceptance.specs.Decision.{after}
use Rattle.acceptance.specs.Table.{step_in, gathered, Narrow, Following}
use Rattle.base.proofs.Tests.{false_not_true, bool_same, any_same, any_intro, any_elim, and_left, and_right}
use Rattle.base.proofs.Members.{members_lt}
use Rattle.acceptance.proofs.Gathers.{outside}

module _ (δ : ℕ → ℕ → ℕ → Bool) where
  pub after_same : (n : ℕ) (vs : List ℕ) (X Y : ℕ → Bool) → ((q : ℕ) → X q ≡ Y q) → (r : ℕ) → after δ n vs X r ≡ after δ n vs Y r
  unfolding after
  after_same n [] X Y e r = e r
  after_same n (v ∷ vs) X Y e r =
      after_same n vs _ _ (λ s. any_same _ _ n (λ q l. ap (λ b. b && δ v q s) (e q))) r

  -- sets of states below n, among more
  pub after_narrow : (n m : ℕ) → n ≤ m → ((v q r : ℕ) → δ v q r ≡ true → r < n) → (vs : List ℕ) (X : ℕ → Bool) → ((q : ℕ) → X q ≡ true → q < n)
      → (r : ℕ) → after δ m vs X r ≡ after δ n vs X r
  unfolding after
  after_narrow n m few lands [] X below r = refl
  after_narrow n m few lands (v ∷ vs) X below r =
      after_same m vs _ _ (λ s. fewer s) r ∙ after_narrow n m few lands vs (λ s. any_below n (λ q. X q && δ v q s)) next r
    where
      fewer : (s : ℕ) → any_below m (λ q. X q && δ v q s) ≡ any_below n (λ q. X q && δ v q s)
      fewer s = bool_same _ _
          (λ h. let f = any_elim (λ q. X q && δ v q s) m h in any_intro (λ q. X q && δ v q s) n f.0 (below f.0 (and_left _ _ f.2)) f.2)
          (λ h. let f = any_elim (λ q. X q && δ v q s) n h in any_intro (λ q. X q && δ v q s) m f.0 (omega (arith, f.1)) f.2)

      next : (s : ℕ) → any_below n (λ q. X q && δ v q s) ≡ true → s < n
      next s h = let f = any_elim (λ q. X q && δ v q s) n h in lands v f.0 s (and_right (X f.0) _ f.2)

  pub after_lands : (n : ℕ) → ((v q r : ℕ) → δ v q r ≡ true → r < n) → (vs : List ℕ) (X : ℕ → Bool) → ((q : ℕ) → X q ≡ true → q < n)
      → (r : ℕ) → after δ n vs X r ≡ true → r < n
  unfolding after
  after_lands n lands [] X below r h = below r h
  after_lands n lands (v ∷ vs) X below r h = after_lands n lands vs (λ s. any_below n (λ q. X q && δ v q s)) next r h
    where
      next : (s : ℕ) → any_below n (λ q. X q && δ v q s) ≡ true → s < n
      next s h = let f = any_elim (λ q. X q && δ v q s) n h in lands v f.0 s (and_right (X f.0) _ f.2)

module _ (steps vs : List ℕ) (set : ℕ) where
  pub following_step : (i reached row next : ℕ) → i < length vs → Narrow 32 steps → Following steps vs set i reached → row ≡ get_or vs i 0 * 32
      → Members next (gathered steps row reached) → Following steps vs set (i + 1) next
  unfolding after gathered step_in
  following_step i reached row next l narrow f e m = record {
    small = members_lt 32 next m (λ k h. none k h (gathered steps row reached k) refl);
    whole = λ r.
        ap (λ vs. after (step_in steps) 32 vs (has_bit next) r) (ap (λ i. drop i vs) (add-one i))
        ∙ after_same (step_in steps) 32 (drop (suc i) vs) (has_bit next) _ (λ s. m.has s ∙ ap (λ a. gathered steps a reached s) e) r
        ∙ ap (λ vs. after (step_in steps) 32 vs (has_bit reached) r) (sym (drop-cons vs i 0 l))
        ∙ f.whole r;
  }
    where
      none : (k : ℕ) → 32 ≤ k → (b : Bool) → gathered steps row reached k ≡ b → gathered steps row reached k ≡ false
      none k h false e = e
      none k h true e =
          let x = any_elim (λ q. has_bit reached q && has_bit (get_or steps (row + q) 0) k) 32 e in
          absurd (false_not_true (and_right (has_bit reached x.0) _ x.2) (outside 32 (get_or steps (row + x.0) 0) k (narrow.narrow (row + x.0)) h))

  pub following_end : (i reached : ℕ) → i ≡ length vs → Following steps vs set i reached → Members reached (after (step_in steps) 32 vs (has_bit set))
  unfolding after
  following_end i reached l f =
      record { has = λ r. ap (λ vs. after (step_in steps) 32 vs (has_bit reached) r) (sym (ap (λ i. drop i vs) l ∙ drop-length vs)) ∙ f.whole r }
