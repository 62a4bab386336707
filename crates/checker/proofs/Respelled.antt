-- The same drive spelled otherwise breaks at the same place, or not at all: its loop written twice, or its first turn written as run-in.
-- Below the total length the places are the same. At the total length a loop that does not close becomes a place that no road leads to; and
-- a loop that closes is driven once more, by the same roads.
--   break_doubled == the loop written twice
--   break_turned  == the loop's first turn written as run-in
use mathlib.Core.Path.{◌≡◌, refl, sym, ap, ap₂, ◌∙◌, subst₂}
use mathlib.Core.Bool.{true, cond, ◌&&◌}
use mathlib.Core.List.{List, [], ◌∷◌, ◌++◌, append_assoc, append-nil}
use Prim.Native.Nat.{ℕ, ◌+◌, ◌-◌, ◌≤◌, ◌<◌}
use native.Mathlib.Decide.{dec_lt, ℕ_discrete}
use native.Mathlib.Omega.{arith}
use borrow.Author.Tests.{lt-ltb}
use lib.ListN.{length, get_or}
use lib.Dec.{eqb, ltb}
use Rattle.base.specs.Least.{Found}
use Rattle.plan.specs.Tour.{joins}
use Rattle.plan.specs.declared.Plan.{Plan}
use Rattle.base.proofs.Tests.{and_intro}
use Rattle.checker.specs.Break.{drawn, first_break}
use Rattle.checker.specs.Passing.{passes, Passed, closes, Verdict, stops, ends, whole}
use Rattle.checker.proofs.Drawn.{drawn_length, drawn_stem, drawn_loop}
use Rattle.checker.proofs.Passing.{and-false, passes_next, passes_known, closes_road, judged, verdict}

-- the loop once more
abbrev again : List ℕ → List ℕ → List ℕ
again stem cycle = drawn (drawn stem cycle) cycle

module _ (p : Plan) (stem cycle : List ℕ) (filled : 0 < length cycle) where
  total : length (drawn stem cycle) ≡ length stem + length cycle
  total = drawn_length stem cycle

  again_total : length (again stem cycle) ≡ length (drawn stem cycle) + length cycle
  again_total = drawn_length (drawn stem cycle) cycle

  again_place : (t : ℕ) → length (drawn stem cycle) ≤ t → get_or (again stem cycle) t 0 ≡ get_or (drawn stem cycle) (t - length cycle) 0
  again_place t h =
      let n = length (drawn stem cycle) in
      drawn_loop (drawn stem cycle) cycle t (t - n) (omega arith) ∙ sym (drawn_loop stem cycle (t - length cycle) (t - n) (omega (arith, total)))

  -- below the total length, at it, and behind it
  passes_before : (k : ℕ) → k < length (drawn stem cycle) → passes p (again stem cycle) k ≡ passes p (drawn stem cycle) k
  unfolding passes
  passes_before k h =
      ap₂ (λ u v. ltb v p.places && cond (eqb k 0) (eqb v p.start) (joins p u v))
      (drawn_stem (drawn stem cycle) cycle (k - 1) (omega arith)) (drawn_stem (drawn stem cycle) cycle k h)

  passes_seam : passes p (again stem cycle) (length (drawn stem cycle)) ≡ ltb (get_or cycle 0 0) p.places && closes p cycle
  passes_seam =
      let n = length (drawn stem cycle) in
      passes_next p (again stem cycle) n (omega (arith, total))
      ∙ ap₂ (λ u v. ltb v p.places && joins p u v)
      (drawn_stem (drawn stem cycle) cycle (n - 1) (omega (arith, total)) ∙ drawn_loop stem cycle (n - 1) (length cycle - 1) (omega (arith, total)))
      (drawn_loop (drawn stem cycle) cycle n 0 (omega arith))
      ∙ ap (λ c. ltb (get_or cycle 0 0) p.places && c) (sym (closes_road p cycle filled))

  passes_later : (k : ℕ) → length (drawn stem cycle) < k → passes p (again stem cycle) k ≡ passes p (drawn stem cycle) (k - length cycle)
  passes_later k l =
      let e : k - 1 - length cycle ≡ k - length cycle - 1 = omega arith in
      passes_next p (again stem cycle) k (omega arith)
      ∙ ap₂ (λ u v. ltb v p.places && joins p u v)
      (again_place (k - 1) (omega arith) ∙ ap (λ i. get_or (drawn stem cycle) i 0) e) (again_place k (omega arith))
      ∙ sym (passes_next p (drawn stem cycle) (k - length cycle) (omega (arith, total)))

  passed_before : (n : ℕ) → n ≤ length (drawn stem cycle) → Passed p (drawn stem cycle) n → Passed p (again stem cycle) n
  passed_before n h before = record { each = λ k l. passes_before k (omega arith) ∙ before.each k l }

  turned : {f : Found} → Verdict p (drawn stem cycle) (closes p cycle) f → Verdict p (again stem cycle) (closes p cycle) f
  turned (stops i h before here e) = stops i (omega (arith, again_total)) (passed_before i (omega arith) before) (passes_before i h ∙ here) e
  turned (ends before gap e) =
      let n = length (drawn stem cycle) in
      stops n (omega (arith, again_total)) (passed_before n (omega arith) before)
      (passes_seam ∙ rw gap (and-false (ltb (get_or cycle 0 0) p.places))) e
  turned (whole before closed e) =
      whole (record { each = λ k l. by k l (dec_lt k (length (drawn stem cycle))) (ℕ_discrete k (length (drawn stem cycle))) }) closed e
    where
      known : get_or cycle 0 0 < p.places
      known =
          rw (sym (drawn_loop stem cycle (length stem) 0 (omega arith)))
          (passes_known p (drawn stem cycle) (length stem) (before.each (length stem) (omega (arith, total))))

      by : (k : ℕ) → k < length (again stem cycle) → Dec (k < length (drawn stem cycle)) → Dec (k ≡ length (drawn stem cycle))
          → passes p (again stem cycle) k ≡ true
      by k l (yes h) d = passes_before k h ∙ before.each k h
      by k l (no h) (yes d) = ap (passes p (again stem cycle)) d ∙ passes_seam ∙ and_intro (lt-ltb (get_or cycle 0 0) p.places known) closed
      by k l (no h) (no d) = passes_later k (omega arith) ∙ before.each (k - length cycle) (omega (arith, total, again_total))

closes_doubled : (p : Plan) (cycle : List ℕ) → 0 < length cycle → closes p (cycle ++ cycle) ≡ closes p cycle
closes_doubled p cycle filled =
    let two = drawn_length cycle cycle in
    closes_road p (cycle ++ cycle) (omega (arith, two))
    ∙ ap₂ (joins p) (drawn_loop cycle cycle (length (cycle ++ cycle) - 1) (length cycle - 1) (omega (arith, two))) (drawn_stem cycle cycle 0 filled)
    ∙ sym (closes_road p cycle filled)

pub break_turned : (p : Plan) (stem cycle : List ℕ) → first_break p (stem ++ cycle) cycle ≡ first_break p stem cycle
break_turned p stem [] = ap (λ s. first_break p s []) (append-nil stem)
break_turned p stem (c ∷ cs) = judged p (stem ++ (c ∷ cs)) (c ∷ cs) (turned p stem (c ∷ cs) (omega arith) (verdict p stem (c ∷ cs)))

pub break_doubled : (p : Plan) (stem cycle : List ℕ) → first_break p stem (cycle ++ cycle) ≡ first_break p stem cycle
break_doubled p stem [] = refl
break_doubled p stem (c ∷ cs) =
    let cycle : List ℕ = c ∷ cs in
    judged p stem (cycle ++ cycle)
    (subst₂ (λ s d. Verdict p s d (first_break p stem cycle)) (append_assoc stem cycle cycle) (sym (closes_doubled p cycle (omega arith)))
    (turned p stem cycle (omega arith) (verdict p stem cycle)))
