-- The five causes of a break (02, note 4) taken together: inside the drive a place does not pass, and at its end the loop does not close.
--   passes_first, passes_next               == the test of place 0, and of a later one
--   passes_known, passes_start, passes_road == what a place that passes is
--   closes_filled, closes_road              == a loop that closes has a place, and of such a loop the test is its closing road
--   and-false                               == a conjunction with what is false
--   judged                                  == a verdict tells the first break
--   verdict                                 == the first break has a verdict
use mathlib.Core.Path.{◌≡◌, refl, sym, ap, ◌∙◌}
use mathlib.Core.Bool.{Bool, true, false, not, ◌&&◌, ◌||◌}
use mathlib.Core.List.{List}
use Prim.Native.Nat.{ℕ, zero, suc, ◌-◌, ◌<◌}
use native.Mathlib.Decide.{ℕ_discrete, dec_lt}
use native.Mathlib.Omega.{arith}
use borrow.Author.Tests.{lt-ltb, le-ltb, eq-eqb, ne_eqb, le-leb, lt-leb, ltb-true, eqb-true, not-true, not-false}
use lib.ListN.{length, get_or}
use lib.Dec.{eqb, leb, ltb}
use Rattle.base.specs.Least.{Found, nowhere, at}
use Rattle.plan.specs.Tour.{joins}
use Rattle.plan.specs.declared.Plan.{Plan}
use Rattle.base.proofs.Tests.{and_left, and_right}
use Rattle.base.proofs.Least.{LeastAt, least_found, least_none, least_at, least_nowhere}
use Rattle.checker.specs.Break.{breaks, drawn, loopless, first_break}
use Rattle.checker.specs.Passing.{passes, Passed, closing, closes, Verdict, stops, ends, whole}
use Rattle.checker.proofs.Drawn.{drawn_length}

pub and-false : (a : Bool) → (a && false) ≡ false
and-false true = refl
and-false false = refl

-- where the one does not hold or the other does not, not both hold
either : (a b : Bool) → (not a || (not b || false)) ≡ not (a && b)
either true true = refl
either true false = refl
either false b = refl

beyond : (n v : ℕ) → leb n v ≡ not (ltb v n)
beyond n v = by (dec_lt v n)
  where
    by : Dec (v < n) → leb n v ≡ not (ltb v n)
    by (yes h) = rw (lt-leb n v h, lt-ltb v n h)
    by (no h) = rw (le-leb n v (omega arith), le-ltb v n (omega arith))

module _ (p : Plan) (s : List ℕ) where
  pub passes_first : passes p s 0 ≡ ltb (get_or s 0 0) p.places && eqb (get_or s 0 0) p.start
  unfolding passes
  passes_first = refl

  pub passes_next : (k : ℕ) → 0 < k → passes p s k ≡ ltb (get_or s k 0) p.places && joins p (get_or s (k - 1) 0) (get_or s k 0)
  unfolding passes
  passes_next k h = rw (passes, ne_eqb k 0 (λ e. omega arith))

  pub passes_known : (k : ℕ) → passes p s k ≡ true → get_or s k 0 < p.places
  unfolding passes
  passes_known k h = ltb-true (get_or s k 0) p.places (and_left _ _ h)

  pub passes_start : passes p s 0 ≡ true → get_or s 0 0 ≡ p.start
  passes_start h = eqb-true (get_or s 0 0) p.start (and_right (ltb (get_or s 0 0) p.places) _ (sym passes_first ∙ h))

  pub passes_road : (k : ℕ) → 0 < k → passes p s k ≡ true → joins p (get_or s (k - 1) 0) (get_or s k 0) ≡ true
  passes_road k l h = and_right (ltb (get_or s k 0) p.places) _ (sym (passes_next k l) ∙ h)

  causes : (k : ℕ) → (leb p.places (get_or s k 0) || ((eqb k 0 && true) && not (eqb (get_or s 0 0) p.start)
      || ((ltb 0 k && true) && not (joins p (get_or s (k - 1) 0) (get_or s k 0)) || false))) ≡ not (passes p s k)
  causes zero = rw (beyond p.places (get_or s 0 0), passes_first) (either (ltb (get_or s 0 0) p.places) (eqb (get_or s 0 0) p.start))
  causes (suc k) =
      let later : 0 < suc k = omega arith in
      rw (ne_eqb (suc k) 0 (λ e. omega arith), lt-ltb 0 (suc k) later, beyond p.places (get_or s (suc k) 0), passes_next (suc k) later)
      (either (ltb (get_or s (suc k) 0) p.places) (joins p (get_or s (suc k - 1) 0) (get_or s (suc k) 0)))

module _ (p : Plan) (cycle : List ℕ) where
  pub closes_filled : closes p cycle ≡ true → 0 < length cycle
  unfolding closes
  closes_filled h = ltb-true 0 (length cycle) (and_left _ _ h)

  pub closes_road : 0 < length cycle → closes p cycle ≡ closing p cycle
  unfolding closes
  closes_road h = rw (closes, lt-ltb 0 (length cycle) h)

module _ (p : Plan) (stem cycle : List ℕ) where
  with_loop : (k : ℕ) → k < length (drawn stem cycle) → loopless stem cycle k ≡ false
  with_loop k h = by (ℕ_discrete k (length stem))
    where
      by : Dec (k ≡ length stem) → loopless stem cycle k ≡ false
      by (yes e) = rw (eq-eqb k (length stem) e, ne_eqb (length cycle) 0 (λ z. omega (arith, drawn_length stem cycle)))
      by (no e) = rw (ne_eqb k (length stem) e)

  breaks_inside : (k : ℕ) → k < length (drawn stem cycle) → breaks p stem cycle k ≡ not (passes p (drawn stem cycle) k)
  unfolding breaks
  breaks_inside k h =
      let n = length (drawn stem cycle) in
      rw (lt-ltb k n h, ne_eqb k n (λ e. omega arith), with_loop k h) (causes p (drawn stem cycle) k)

  breaks_end : breaks p stem cycle (length (drawn stem cycle)) ≡ not (closes p cycle)
  unfolding breaks closes
  breaks_end =
      let n = length (drawn stem cycle) in
      rw (le-ltb n n (omega arith), eq-eqb n n refl, and-false (eqb n 0), and-false (ltb 0 n), closes) (by (ℕ_discrete (length cycle) 0))
    where
      by : Dec (length cycle ≡ 0) → (ltb 0 (length cycle) && not (closing p cycle) || loopless stem cycle (length (drawn stem cycle)))
          ≡ not (ltb 0 (length cycle) && closing p cycle)
      by (yes e) = rw (e, eq-eqb (length (drawn stem cycle)) (length stem) (omega (arith, drawn_length stem cycle)))
      by (no e) =
          rw (lt-ltb 0 (length cycle) (omega arith), ne_eqb (length cycle) 0 e, and-false (eqb (length (drawn stem cycle)) (length stem)))
          (either true (closing p cycle))

  passed_unbroken : (n k : ℕ) → n < suc (length (drawn stem cycle)) → Passed p (drawn stem cycle) n → k < n → breaks p stem cycle k ≡ false
  passed_unbroken n k h passed l = breaks_inside k (omega arith) ∙ ap not (passed.each k l)

  unbroken_passed : (n : ℕ) → n < suc (length (drawn stem cycle)) → ((k : ℕ) → k < n → breaks p stem cycle k ≡ false) → Passed p (drawn stem cycle) n
  unbroken_passed n h none = record { each = λ k l. not-false _ (sym (breaks_inside k (omega arith)) ∙ none k l) }

  pub judged : {f : Found} → Verdict p (drawn stem cycle) (closes p cycle) f → first_break p stem cycle ≡ f
  judged (stops i h before here e) =
      least_at (breaks p stem cycle) (suc (length (drawn stem cycle))) i
      (record { below = omega arith; holds = breaks_inside i h ∙ ap not here; first = λ k l. passed_unbroken i k (omega arith) before l })
      ∙ sym e
  judged (ends before gap e) =
      let n = length (drawn stem cycle) in
      least_at (breaks p stem cycle) (suc n) n
      (record { below = omega arith; holds = breaks_end ∙ ap not gap; first = λ k l. passed_unbroken n k (omega arith) before l })
      ∙ sym e
  judged (whole before closed e) =
      let n = length (drawn stem cycle) in
      least_nowhere (breaks p stem cycle) (suc n) (λ k l. by k l (dec_lt k n)) ∙ sym e
    where
      by : (k : ℕ) → k < suc (length (drawn stem cycle)) → Dec (k < length (drawn stem cycle)) → breaks p stem cycle k ≡ false
      by k l (yes h) = passed_unbroken (length (drawn stem cycle)) k (omega arith) before h
      by k l (no h) = let n : k ≡ length (drawn stem cycle) = omega arith in rw n (breaks_end ∙ ap not closed)

  pub verdict : Verdict p (drawn stem cycle) (closes p cycle) (first_break p stem cycle)
  verdict = by (first_break p stem cycle) refl
    where
      by : (f : Found) → first_break p stem cycle ≡ f → Verdict p (drawn stem cycle) (closes p cycle) f
      by nowhere e =
          let n = length (drawn stem cycle) in
          let none = least_none (breaks p stem cycle) (suc n) e in
          whole (unbroken_passed n (omega arith) (λ k l. none k (omega arith))) (not-false _ (sym breaks_end ∙ none n (omega arith))) refl
      by (at i) e = found (least_found (breaks p stem cycle) (suc (length (drawn stem cycle))) i e) (dec_lt i (length (drawn stem cycle)))
        where
          found : LeastAt (suc (length (drawn stem cycle))) (breaks p stem cycle) i → Dec (i < length (drawn stem cycle))
              → Verdict p (drawn stem cycle) (closes p cycle) (at i)
          found l (yes h) = stops i h (unbroken_passed i l.below l.first) (not-true _ (sym (breaks_inside i h) ∙ l.holds)) refl
          found l (no h) =
              let n : i ≡ length (drawn stem cycle) = omega arith in
              ends (rw n at (unbroken_passed i l.below l.first))
              (not-true _ (sym breaks_end ∙ ap (breaks p stem cycle) (sym n) ∙ l.holds))
              (ap at n)
