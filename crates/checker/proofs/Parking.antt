-- A tour of a plan in which every place has a road out is checked as before parking counted (02, note 7).
--   breaks_by joined p stem cycle i == `breaks`, with any test of which place is joined to which
--   road_break p stem cycle         == the first break then: by roads alone
--   break_as_before                == in such a plan it is the first break
--   RuledBefore                    == what was told of a tour then
--   ruled_as_before                == and so of such a plan now
use mathlib.Core.Path.{◌≡◌, refl, ap, subst, sym, fun_ext}
use mathlib.Core.Bool.{Bool, cond, not, ◌&&◌, ◌||◌}
use mathlib.Core.List.{List}
use mathlib.Core.Logic.{◌↔◌}
use Prim.Native.Nat.{ℕ, suc, ◌-◌}
use lib.ListN.{length, get_or}
use lib.Dec.{eqb, ltb}
use Rattle.std.specs.Prelude.{Result, Ok, Err}
use Rattle.base.specs.Least.{Found, least_below}
use Rattle.plan.specs.Size.{too_large}
use Rattle.plan.specs.Tour.{has_road}
use Rattle.plan.specs.declared.Plan.{Plan}
use Rattle.plan.specs.declared.Refusal.{Refusal}
use Rattle.plan.specs.declared.Refusal.TheVariants.{ProductTooLarge}
use Rattle.plan.proofs.Parking.{Left, joins_as_before}
use Rattle.checker.specs.Break.{drawn, unknown, misplaced, loopless, breaks, first_break}
use Rattle.checker.specs.Check.{Check, Ruling, refuse, by_break, ruling, Ruled, RuledOf}

abbrev pub breaks_by : (ℕ → ℕ → Bool) → Plan → List ℕ → List ℕ → ℕ → Bool
breaks_by joined p stem cycle i =
    let s = drawn stem cycle in
    let roadless = (ltb 0 i && ltb i (length s)) && not (joined (get_or s (i - 1) 0) (get_or s i 0)) in
    let unclosed = (eqb i (length s) && ltb 0 (length cycle)) && not (joined (get_or cycle (length cycle - 1) 0) (get_or cycle 0 0)) in
    unknown p s i || (misplaced p s i || (roadless || (unclosed || loopless stem cycle i)))

abbrev pub road_break : Plan → List ℕ → List ℕ → Found
road_break p stem cycle = least_below (suc (length (drawn stem cycle))) (breaks_by (has_road p) p stem cycle)

abbrev pub ruling_before : Result Plan Refusal → List ℕ → List ℕ → Ruling
ruling_before (Err x) stem cycle = refuse x
ruling_before (Ok p) stem cycle = cond (too_large p) (refuse ProductTooLarge) (by_break p (road_break p stem cycle))

abbrev pub RuledBefore : Result Plan Refusal → List ℕ → List ℕ → Check → Type 0
RuledBefore x stem cycle c = Ruled (ruling_before x stem cycle) stem cycle c

module _ (p : Plan) (left : Left p) (stem cycle : List ℕ) where
  pub break_as_before : first_break p stem cycle ≡ road_break p stem cycle
  unfolding breaks
  break_as_before =
      ap (λ (joined : ℕ → ℕ → Bool). least_below (suc (length (drawn stem cycle))) (breaks_by joined p stem cycle))
      (fun_ext λ u. fun_ext λ v. joins_as_before p left u v)

rulings : (x : Result Plan Refusal) → ((p : Plan) → x ≡ Ok p → Left p) → (stem cycle : List ℕ) → ruling x stem cycle ≡ ruling_before x stem cycle
unfolding ruling
rulings (Err y) left stem cycle = λ i. refuse y
rulings (Ok p) left stem cycle = ap (λ b. cond (too_large p) (refuse ProductTooLarge) (by_break p b)) (break_as_before p (left p refl) stem cycle)

pub ruled_as_before : (x : Result Plan Refusal) → ((p : Plan) → x ≡ Ok p → Left p) → (stem cycle : List ℕ) (c : Check)
    → RuledOf x stem cycle c ↔ RuledBefore x stem cycle c
ruled_as_before x left stem cycle c =
    let e = rulings x left stem cycle in (subst (λ r. Ruled r stem cycle c) e, subst (λ r. Ruled r stem cycle c) (sym e))
