-- A drive without a break is exactly a tour of the plan (01, "Tours and what they keep").
--   whole_lasso == what does not break is a tour
--   lasso_whole == a tour does not break
--   whole_known == what does not break has places of the plan alone
use mathlib.Core.Path.{◌≡◌, refl, sym, ap, ap₂, ◌∙◌}
use mathlib.Core.Bool.{true}
use mathlib.Core.List.{List}
use Prim.Native.Nat.{ℕ, zero, suc, ◌+◌, ◌-◌, ◌<◌}
use native.Mathlib.Decide.{dec_lt}
use native.Mathlib.Omega.{arith}
use borrow.Author.Tests.{lt-ltb, eq-eqb}
use lib.ListN.{length, get_or}
use Rattle.automata.specs.Acceptance.{lasso_at}
use Rattle.base.specs.Least.{nowhere}
use Rattle.plan.specs.Tour.{joins, IsLasso}
use Rattle.plan.specs.WellFormed.{WellFormed}
use Rattle.plan.specs.declared.Plan.{Plan}
use Rattle.plan.proofs.Joins.{joins_to}
use Rattle.base.proofs.Tests.{and_intro}
use Rattle.checker.specs.Break.{drawn, first_break}
use Rattle.checker.specs.Passing.{passes, Passed, closing, closes, Verdict, stops, ends, whole}
use Rattle.checker.proofs.Drawn.{drawn_length, drawn_stem, drawn_loop, lasso_drawn, lasso_again}
use Rattle.checker.proofs.Passing.{passes_first, passes_next, passes_known, passes_start, passes_road, closes_filled, closes_road}
use Rattle.checker.proofs.Passing.{judged, verdict}

module _ (p : Plan) (stem cycle : List ℕ) where
  whole_passed : first_break p stem cycle ≡ nowhere → Passed p (drawn stem cycle) (length (drawn stem cycle)) × (closes p cycle ≡ true)
  whole_passed e = by (verdict p stem cycle)
    where
      by : Verdict p (drawn stem cycle) (closes p cycle) (first_break p stem cycle)
          → Passed p (drawn stem cycle) (length (drawn stem cycle)) × (closes p cycle ≡ true)
      by (stops i l before here f) = absurd (let z : ◌≡◌ {A = ℕ} 0 1 = cc in omega arith)
      by (ends before gap f) = absurd (let z : ◌≡◌ {A = ℕ} 0 1 = cc in omega arith)
      by (whole before closed f) = (before, closed)

  pub whole_known : first_break p stem cycle ≡ nowhere
      → ((i : ℕ) → i < length stem → get_or stem i 0 < p.places) × ((i : ℕ) → i < length cycle → get_or cycle i 0 < p.places)
  whole_known e = (
    λ i l. rw (sym (drawn_stem stem cycle i l)) (known i (omega (arith, drawn_length stem cycle))),
    λ i l. rw (sym (drawn_loop stem cycle (length stem + i) i refl)) (known (length stem + i) (omega (arith, drawn_length stem cycle))),
  )
    where
      known : (i : ℕ) → i < length (drawn stem cycle) → get_or (drawn stem cycle) i 0 < p.places
      known i l = passes_known p (drawn stem cycle) i ((whole_passed e).0.each i l)

  -- the roads of the tour below its last step, and that one
  road_inside : (k : ℕ) → suc k < length (drawn stem cycle) → joins p (lasso_at stem cycle k) (lasso_at stem cycle (suc k))
      ≡ joins p (get_or (drawn stem cycle) (suc k - 1) 0) (get_or (drawn stem cycle) (suc k) 0)
  road_inside k h =
      let e : k ≡ suc k - 1 = omega arith in
      ap₂ (joins p) (lasso_drawn stem cycle k (omega arith) ∙ ap (λ i. get_or (drawn stem cycle) i 0) e) (lasso_drawn stem cycle (suc k) h)

  road_last : (t : ℕ) → suc t ≡ length (drawn stem cycle) → 0 < length cycle
      → joins p (lasso_at stem cycle t) (lasso_at stem cycle (suc t)) ≡ closing p cycle
  road_last t n h =
      ap₂ (joins p)
      (lasso_drawn stem cycle t (omega arith) ∙ drawn_loop stem cycle t (length cycle - 1) (omega (arith, drawn_length stem cycle)))
      (ap (lasso_at stem cycle) n ∙ lasso_again stem cycle)

  pub whole_lasso : first_break p stem cycle ≡ nowhere → IsLasso p stem cycle
  whole_lasso e = record {
    filled = filled;
    begins = lasso_drawn stem cycle 0 some ∙ passes_start p (drawn stem cycle) (passed.each 0 some);
    roads = λ t l. road t (omega (arith, drawn_length stem cycle)) (dec_lt (suc t) (length (drawn stem cycle)));
  }
    where
      passed : Passed p (drawn stem cycle) (length (drawn stem cycle))
      passed = (whole_passed e).0

      filled : 0 < length cycle
      filled = closes_filled p cycle (whole_passed e).1

      some : 0 < length (drawn stem cycle)
      some = omega (arith, filled, drawn_length stem cycle)

      road : (t : ℕ) → t < length (drawn stem cycle) → Dec (suc t < length (drawn stem cycle))
          → joins p (lasso_at stem cycle t) (lasso_at stem cycle (suc t)) ≡ true
      road t l (yes h) = road_inside t h ∙ passes_road p (drawn stem cycle) (suc t) (omega arith) (passed.each (suc t) h)
      road t l (no h) = road_last t (omega arith) filled ∙ sym (closes_road p cycle filled) ∙ (whole_passed e).1

  pub lasso_whole : WellFormed p → IsLasso p stem cycle → first_break p stem cycle ≡ nowhere
  lasso_whole w l = judged p stem cycle (whole (record { each = passed }) closed refl)
    where
      passed : (k : ℕ) → k < length (drawn stem cycle) → passes p (drawn stem cycle) k ≡ true
      passed zero h =
          let e : get_or (drawn stem cycle) 0 0 ≡ p.start = sym (lasso_drawn stem cycle 0 h) ∙ l.begins in
          passes_first p (drawn stem cycle)
          ∙ and_intro (lt-ltb (get_or (drawn stem cycle) 0 0) p.places (omega (arith, w.start))) (eq-eqb (get_or (drawn stem cycle) 0 0) p.start e)
      passed (suc k) h =
          let r = sym (road_inside k h) ∙ l.roads k (omega (arith, drawn_length stem cycle)) in
          passes_next p (drawn stem cycle) (suc k) (omega arith)
          ∙ and_intro (lt-ltb (get_or (drawn stem cycle) (suc k) 0) p.places (joins_to p _ _ w r)) r

      closed : closes p cycle ≡ true
      closed =
          let n = length (drawn stem cycle) in
          closes_road p cycle l.filled
          ∙ sym (road_last (n - 1) (omega (arith, l.filled, drawn_length stem cycle)) l.filled)
          ∙ l.roads (n - 1) (omega (arith, l.filled, drawn_length stem cycle))
