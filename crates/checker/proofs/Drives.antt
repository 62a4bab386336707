-- What the checker finds. It drives along the run-in from before the tour, and then along the loop from the run-in's last place, each as far as
-- the steps are allowed; where it stops, the drive breaks.
--   driving_start, driving_step, driving_stop, driving_end == the loop that drives
--   stopped_same  == tests that agree stop at the same index
--   break_in_stem == it stops in the run-in
--   break_no_loop == the run-in is driven whole, and the loop is empty
--   break_in_loop == it stops in the loop
--   break_closing == both are driven whole, and no road closes the loop
--   break_none    == both are driven whole, and a road closes the loop
use mathlib.Core.Path.{◌≡◌, refl, sym, ap, ap₂, ◌∙◌}
use mathlib.Core.Bool.{Bool, true, false}
use mathlib.Core.List.{List}
use Prim.Native.Nat.{ℕ, zero, suc, ◌+◌, ◌-◌, ◌≤◌, ◌<◌}
use native.Mathlib.Decide.{dec_lt, ℕ_discrete}
use native.Mathlib.Omega.{arith}
use borrow.Author.Tests.{ne_eqb, le-ltb, ltb-true}
use lib.ListN.{length, get_or}
use Rattle.base.specs.Least.{nowhere, at}
use Rattle.plan.specs.WellFormed.{WellFormed}
use Rattle.plan.specs.declared.Plan.{Plan}
use Rattle.base.proofs.Tests.{and_left}
use Rattle.checker.specs.Break.{drawn, first_break}
use Rattle.checker.specs.Drive.{before, allowed, prior_of, Stopped, Driving}
use Rattle.checker.specs.Passing.{passes, Passed, closing, closes, stops, ends, whole}
use Rattle.checker.proofs.Drawn.{drawn_length, drawn_stem, drawn_loop}
use Rattle.checker.proofs.Passing.{closes_road, judged}

pub driving_start : (ok : ℕ → ℕ → Bool) (from : ℕ) (s : List ℕ) → Driving ok from s from 0
driving_start ok from s = record { inside = omega arith; last = refl; driven = λ k l. absurd (let z : ⊥ = omega arith in z) }

module _ {ok : ℕ → ℕ → Bool} {from : ℕ} {s : List ℕ} {u i : ℕ} (d : Driving ok from s u i) where
  pub driving_step : i < length s → ok u (get_or s i 0) ≡ true → Driving ok from s (get_or s i 0) (i + 1)
  driving_step l h = record {
    inside = omega arith;
    last = rw (ne_eqb (i + 1) 0 (λ e. omega arith)) (let e : i ≡ i + 1 - 1 = omega arith in ap (λ k. get_or s k 0) e);
    driven = λ k b. by k b (ℕ_discrete k i);
  }
    where
      by : (k : ℕ) → k < i + 1 → Dec (k ≡ i) → ok (prior_of from s k) (get_or s k 0) ≡ true
      by k b (yes e) = rw (e, ← d.last) h
      by k b (no e) = d.driven k (omega arith)

  pub driving_stop : i < length s → ok u (get_or s i 0) ≡ false → Stopped ok from s i
  driving_stop l h = record { inside = d.inside; driven = d.driven; stopped = λ b. rw (← d.last) h }

  pub driving_end : length s ≤ i → Stopped ok from s i
  driving_end l = record { inside = d.inside; driven = d.driven; stopped = λ b. absurd (let z : ⊥ = omega arith in z) }

pub stopped_same : {ok ok' : ℕ → ℕ → Bool} {from : ℕ} {s : List ℕ} {i : ℕ} → ((u v : ℕ) → ok u v ≡ ok' u v)
    → Stopped ok from s i → Stopped ok' from s i
stopped_same same d = record {
  inside = d.inside;
  driven = λ k l. sym (same _ _) ∙ d.driven k l;
  stopped = λ l. sym (same _ _) ∙ d.stopped l;
}

-- the drive along run-in and loop as one list
module _ (ok : ℕ → ℕ → Bool) (from : ℕ) (stem cycle : List ℕ) where
  prior_stem : (k : ℕ) → k ≤ length stem → prior_of from (drawn stem cycle) k ≡ prior_of from stem k
  prior_stem zero h = refl
  prior_stem (suc k) h = rw (ne_eqb (suc k) 0 (λ e. omega arith)) (drawn_stem stem cycle (suc k - 1) (omega arith))

  prior_loop : (j : ℕ) → prior_of from (drawn stem cycle) (length stem + j) ≡ prior_of (prior_of from stem (length stem)) cycle j
  prior_loop zero =
      let e : length stem + 0 ≡ length stem = omega arith in
      ap (prior_of from (drawn stem cycle)) e ∙ prior_stem (length stem) (omega arith)
  prior_loop (suc j) =
      rw (ne_eqb (length stem + suc j) 0 (λ e. omega arith), ne_eqb (suc j) 0 (λ e. omega arith))
      (drawn_loop stem cycle (length stem + suc j - 1) (suc j - 1) (omega arith))

  step_stem : (k : ℕ) → k < length stem
      → ok (prior_of from (drawn stem cycle) k) (get_or (drawn stem cycle) k 0) ≡ ok (prior_of from stem k) (get_or stem k 0)
  step_stem k h = ap₂ ok (prior_stem k (omega arith)) (drawn_stem stem cycle k h)

  step_loop : (t j : ℕ) → t ≡ length stem + j
      → ok (prior_of from (drawn stem cycle) t) (get_or (drawn stem cycle) t 0) ≡ ok (prior_of (prior_of from stem (length stem)) cycle j) (get_or cycle j 0)
  step_loop t j e = ap₂ ok (ap (prior_of from (drawn stem cycle)) e ∙ prior_loop j) (drawn_loop stem cycle t j e)

  stopped_stem : (i : ℕ) → Stopped ok from stem i → i < length stem → Stopped ok from (drawn stem cycle) i
  stopped_stem i d h = record {
    inside = omega (arith, drawn_length stem cycle);
    driven = λ k l. step_stem k (omega arith) ∙ d.driven k l;
    stopped = λ l. step_stem i h ∙ d.stopped h;
  }

  stopped_loop : (i j : ℕ) → Stopped ok from stem i → length stem ≤ i → Stopped ok (prior_of from stem (length stem)) cycle j
      → Stopped ok from (drawn stem cycle) (length stem + j)
  stopped_loop i j d h e = record {
    inside = omega (arith, drawn_length stem cycle);
    driven = λ k l. by k l (dec_lt k (length stem));
    stopped = λ l. step_loop (length stem + j) j refl ∙ e.stopped (omega (arith, drawn_length stem cycle));
  }
    where
      by : (k : ℕ) → k < length stem + j → Dec (k < length stem) → ok (prior_of from (drawn stem cycle) k) (get_or (drawn stem cycle) k 0) ≡ true
      by k l (yes b) = step_stem k b ∙ d.driven k (omega arith)
      by k l (no b) = step_loop k (k - length stem) (omega arith) ∙ e.driven (k - length stem) (omega arith)

-- a step that is allowed leads to a place that passes, once the place before is one of the plan
module _ (p : Plan) (w : WellFormed p) where
  allowed_known : (u v : ℕ) → allowed p u v ≡ true → v < p.places
  unfolding allowed
  allowed_known u v h = ltb-true v p.places (and_left _ _ h)

  module _ (s : List ℕ) where
    allowed_passes : (k : ℕ) → (0 < k → get_or s (k - 1) 0 < p.places) → allowed p (prior_of before s k) (get_or s k 0) ≡ passes p s k
    unfolding allowed passes
    allowed_passes zero h = refl
    allowed_passes (suc k) h =
        let known = h (omega arith) in
        rw (ne_eqb (suc k) 0 (λ e. omega arith), ne_eqb (get_or s (suc k - 1) 0) before (λ e. omega (arith, w.few)))

    module _ (i : ℕ) (d : Stopped (allowed p) before s i) where
      step_passes : (k : ℕ) → k ≤ i → allowed p (prior_of before s k) (get_or s k 0) ≡ passes p s k
      step_passes k l = allowed_passes k (λ b. allowed_known _ _ (d.driven (k - 1) (omega arith)))

      driven_passed : Passed p s i
      driven_passed = record { each = λ k l. sym (step_passes k (omega arith)) ∙ d.driven k l }

      stopped_fails : i < length s → passes p s i ≡ false
      stopped_fails l = sym (step_passes i (omega arith)) ∙ d.stopped l

module _ (p : Plan) (w : WellFormed p) (stem cycle : List ℕ) where
  breaks_at : (i : ℕ) → Stopped (allowed p) before (drawn stem cycle) i → i < length (drawn stem cycle) → first_break p stem cycle ≡ at i
  breaks_at i d h = judged p stem cycle (stops i h (driven_passed p w (drawn stem cycle) i d) (stopped_fails p w (drawn stem cycle) i d h) refl)

  pub break_in_stem : (i : ℕ) → Stopped (allowed p) before stem i → i < length stem → first_break p stem cycle ≡ at i
  break_in_stem i d h = breaks_at i (stopped_stem (allowed p) before stem cycle i d h) (omega (arith, drawn_length stem cycle))

  module _ (i : ℕ) (d : Stopped (allowed p) before stem i) (all : length stem ≤ i) where
    pub break_in_loop : (j : ℕ) → Stopped (allowed p) (prior_of before stem (length stem)) cycle j → j < length cycle
        → first_break p stem cycle ≡ at (length stem + j)
    break_in_loop j e h =
        breaks_at (length stem + j) (stopped_loop (allowed p) before stem cycle i j d all e) (omega (arith, drawn_length stem cycle))

    -- both are driven whole
    all_passed : (j : ℕ) → Stopped (allowed p) (prior_of before stem (length stem)) cycle j → length cycle ≤ j
        → Passed p (drawn stem cycle) (length (drawn stem cycle))
    all_passed j e h =
        let passed = driven_passed p w (drawn stem cycle) (length stem + j) (stopped_loop (allowed p) before stem cycle i j d all e) in
        record { each = λ k l. passed.each k (omega (arith, drawn_length stem cycle)) }

    pub break_no_loop : length cycle ≡ 0 → first_break p stem cycle ≡ at (length stem)
    unfolding closes
    break_no_loop h =
        judged p stem cycle
        (ends (all_passed 0 empty (omega arith))
        (rw (closes, le-ltb 0 (length cycle) (omega arith)))
        (ap at (omega (arith, drawn_length stem cycle))))
      where
        empty : Stopped (allowed p) (prior_of before stem (length stem)) cycle 0
        empty = record {
          inside = omega arith;
          driven = λ k l. absurd (let z : ⊥ = omega arith in z);
          stopped = λ l. absurd (let z : ⊥ = omega arith in z);
        }

    module _ (j : ℕ) (e : Stopped (allowed p) (prior_of before stem (length stem)) cycle j) (turn : length cycle ≤ j)
        (filled : 0 < length cycle) where
      pub break_closing : closing p cycle ≡ false
          → first_break p stem cycle ≡ at (length stem + length cycle)
      break_closing h = judged p stem cycle (ends (all_passed j e turn) (closes_road p cycle filled ∙ h) (ap at (sym (drawn_length stem cycle))))

      pub break_none : closing p cycle ≡ true → first_break p stem cycle ≡ nowhere
      break_none h = judged p stem cycle (whole (all_passed j e turn) (closes_road p cycle filled ∙ h) refl)
