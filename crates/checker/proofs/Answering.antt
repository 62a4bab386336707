-- What is answered to a plan file and a tour is determined, and does not depend on how the tour is spelled: its loop written twice, or its first
-- turn written as run-in.
--   worthy_same       == a tour is worth one thing
--   check_same        == a plan file and a tour have one answer
--   Respelled stem cycle stem' cycle'
--                     == the two spellings break at the same place, and the same rules accept them, in every plan: so they have the same answers
--   check_doubled     == the answer to a tour is the answer to it with its loop written twice
--   check_turned      == and to it with the loop's first turn written as run-in
--   respelled_doubled, respelled_turned
--                     == so two answers, one to each spelling, are equal
--   own_worth         == a tour of the plan that the hard rule accepts is told to be accepted, with what it keeps and what that costs
--   index-of          == refusal 9 has the index of the first break, as 64 bits hold it
use mathlib.Core.Path.{◌≡◌, refl, sym, ap, ◌∙◌, subst}
use mathlib.Core.Bool.{Bool, true, false, cond}
use mathlib.Core.Logic.{◌↔◌}
use mathlib.Core.List.{List, ◌++◌}
use Prim.Native.Nat.{ℕ}
use native.Mathlib.Omega.{arith}
use Rattle.std.specs.Prelude.{Result, Ok, Err}
use Rattle.base.specs.Least.{Found, nowhere, at}
use Rattle.base.proofs.Tests.{false_not_true}
use Rattle.automata.proofs.Respelled.{accepts_doubled, accepts_turned}
use Rattle.plan.specs.WellFormed.{WellFormed}
use Rattle.plan.specs.Size.{too_large}
use Rattle.plan.specs.Tour.{label, IsLasso, Hard, Soft}
use Rattle.plan.specs.Cost.{keeps, KeptIs, cost}
use Rattle.plan.specs.Returned.{number_of, index_of}
use Rattle.plan.specs.declared.Plan.{Plan}
use Rattle.plan.specs.declared.Refusal.{Refusal}
use Rattle.plan.specs.declared.Refusal.TheVariants.{ProductTooLarge}
use Rattle.plan.proofs.Sums.{kept_ext}
use Rattle.reader.specs.Reading.{read_plan}
use Rattle.reader.proofs.Answers.{Early, read_early}
use Rattle.checker.specs.Break.{first_break}
use Rattle.checker.specs.Check.{Ruling, refuse, judge, by_break, ruling, Check, Worthy, Ruled, RuledOf, CheckOf}
use Rattle.checker.specs.Outcome.{held}
use Rattle.checker.specs.declared.Worth.{Worth}
use Rattle.checker.proofs.Breaks.{lasso_whole}
use Rattle.checker.proofs.Respelled.{break_doubled, break_turned}

-- two Booleans that tell one thing
told_same : {H : Type 0} (a b : Bool) → (a ≡ true → H) → (a ≡ false → H → ⊥) → (b ≡ true → H) → (b ≡ false → H → ⊥) → a ≡ b
told_same true true yes-a no-a yes-b no-b = refl
told_same true false yes-a no-a yes-b no-b = absurd (no-b refl (yes-a refl))
told_same false true yes-a no-a yes-b no-b = absurd (no-a refl (yes-b refl))
told_same false false yes-a no-a yes-b no-b = refl

kept_same : {p : Plan} {stem cycle : List ℕ} {k k' : ℕ} → KeptIs p stem cycle k → KeptIs p stem cycle k' → k ≡ k'
kept_same {p} {k = k} {k' = k'} x y =
    kept_ext p.rules k k' x.small y.small
    (λ i l. told_same (keeps k i) (keeps k' i) (x.accepted i l) (x.refused i l) (y.accepted i l) (y.refused i l))

pub worthy_same : {p : Plan} {stem cycle : List ℕ} {w w' : Worth} → Worthy p stem cycle w → Worthy p stem cycle w' → w ≡ w'
worthy_same {p} {w = w} {w' = w'} x y =
    let a = told_same w.accepts w'.accepts x.accepted x.refused y.accepted y.refused in
    let k = kept_same x.kept y.kept in
    let s = x.cost ∙ ap (cost p) k ∙ sym y.cost in
    λ i. record { accepts = a i; kept = k i; cost = s i }

ruled_same : (r : Ruling) (stem cycle : List ℕ) (c c' : Check) → Ruled r stem cycle c → Ruled r stem cycle c' → c ≡ c'
unfolding Ruled
ruled_same (refuse x) stem cycle c c' h h' = h ∙ sym h'
ruled_same (judge p) stem cycle c c' h h' = h.told ∙ ap Ok (worthy_same h.worthy h'.worthy) ∙ sym h'.told

pub check_same : (file stem cycle : List ℕ) (c c' : Check) → CheckOf file stem cycle c → CheckOf file stem cycle c' → c ≡ c'
check_same file stem cycle c c' h h' = ruled_same (ruling (read_plan file) stem cycle) stem cycle c c' h h'

record Respelled (stem cycle stem' cycle' : List ℕ) : Type 0 where
  breaks : (p : Plan) → first_break p stem' cycle' ≡ first_break p stem cycle
  hard : (p : Plan) → Hard p stem cycle ↔ Hard p stem' cycle'
  soft : (p : Plan) (i : ℕ) → Soft p stem cycle i ↔ Soft p stem' cycle' i

doubled : (stem cycle : List ℕ) → Respelled stem cycle stem (cycle ++ cycle)
doubled stem cycle = record {
  breaks = λ p. break_doubled p stem cycle;
  hard = λ p. accepts_doubled _ _ _ (label p) stem cycle;
  soft = λ p i. accepts_doubled _ _ _ (label p) stem cycle;
}

turned : (stem cycle : List ℕ) → Respelled stem cycle (stem ++ cycle) cycle
turned stem cycle = record {
  breaks = λ p. break_turned p stem cycle;
  hard = λ p. accepts_turned _ _ _ (label p) stem cycle;
  soft = λ p i. accepts_turned _ _ _ (label p) stem cycle;
}

module _ {stem cycle stem' cycle' : List ℕ} (s : Respelled stem cycle stem' cycle') where
  kept_respelled : (p : Plan) (k : ℕ) → KeptIs p stem cycle k → KeptIs p stem' cycle' k
  kept_respelled p k x = record {
    small = x.small;
    accepted = λ i l e. (s.soft p i).0 (x.accepted i l e);
    refused = λ i l e h. x.refused i l e ((s.soft p i).1 h);
  }

  worthy_respelled : (p : Plan) (w : Worth) → Worthy p stem cycle w → Worthy p stem' cycle' w
  worthy_respelled p w x = record {
    accepted = λ e. (s.hard p).0 (x.accepted e);
    refused = λ e h. x.refused e ((s.hard p).1 h);
    kept = kept_respelled p w.kept x.kept;
    cost = x.cost;
  }

  ruling_respelled : (r : Result Plan Refusal) → ruling r stem cycle ≡ ruling r stem' cycle'
  unfolding ruling
  ruling_respelled (Err x) = refl
  ruling_respelled (Ok p) = ap (λ f. cond (too_large p) (refuse ProductTooLarge) (by_break p f)) (sym (s.breaks p))

  ruled_respelled : (r : Ruling) (c : Check) → Ruled r stem cycle c → Ruled r stem' cycle' c
  unfolding Ruled
  ruled_respelled (refuse x) c h = h
  ruled_respelled (judge p) c h = record { worth = h.worth; told = h.told; worthy = worthy_respelled p h.worth h.worthy }

  check_respelled : (file : List ℕ) (c : Check) → CheckOf file stem cycle c → CheckOf file stem' cycle' c
  check_respelled file c h =
      let r = read_plan file in
      subst (λ r. Ruled r stem' cycle' c) (ruling_respelled r) (ruled_respelled (ruling r stem cycle) c h)

module _ (file stem cycle : List ℕ) (c : Check) (h : CheckOf file stem cycle c) where
  pub check_doubled : CheckOf file stem (cycle ++ cycle) c
  check_doubled = check_respelled (doubled stem cycle) file c h

  pub check_turned : CheckOf file (stem ++ cycle) cycle c
  check_turned = check_respelled (turned stem cycle) file c h

  pub respelled_doubled : (c' : Check) → CheckOf file stem (cycle ++ cycle) c' → c ≡ c'
  respelled_doubled c' = check_same file stem (cycle ++ cycle) c c' check_doubled

  pub respelled_turned : (c' : Check) → CheckOf file (stem ++ cycle) cycle c' → c ≡ c'
  respelled_turned c' = check_same file (stem ++ cycle) cycle c c' check_turned

module _ (p : Plan) (stem cycle : List ℕ) where
  tour_judged : WellFormed p → too_large p ≡ false → IsLasso p stem cycle → ruling (Ok p) stem cycle ≡ judge p
  unfolding ruling
  tour_judged ok fits lasso = rw (fits, lasso_whole p stem cycle ok lasso)

  hard_ruled : (k : ℕ) → Hard p stem cycle → KeptIs p stem cycle k
      → Ruled (judge p) stem cycle (Ok (record { accepts = true; kept = k; cost = cost p k }))
  unfolding Ruled
  hard_ruled k hard kept = record {
    worth = record { accepts = true; kept = k; cost = cost p k };
    told = refl;
    worthy = record { accepted = λ e. hard; refused = λ e. absurd (false_not_true refl e); kept = kept; cost = refl };
  }

  pub own_worth : (k : ℕ) (c : Check) → WellFormed p → too_large p ≡ false → IsLasso p stem cycle → Hard p stem cycle → KeptIs p stem cycle k
      → RuledOf (Ok p) stem cycle c → c ≡ Ok (record { accepts = true; kept = k; cost = cost p k })
  own_worth k c ok fits lasso hard kept h =
      ruled_same (judge p) stem cycle c _ (subst (λ r. Ruled r stem cycle c) (tour_judged ok fits lasso) h) (hard_ruled k hard kept)

-- a plan file's own refusals have other numbers, and so has that by the plan's size
broken : (r : Result Plan Refusal) (stem cycle : List ℕ) (c : Check) → Early (number_of r) → RuledOf r stem cycle c → number_of c ≡ 9
    → (p : Plan) × (i : ℕ) × (r ≡ Ok p) × (first_break p stem cycle ≡ at i) × (index_of c ≡ held i)
unfolding ruling Ruled
broken (Err x) stem cycle c early h n = absurd (early.none 9 (omega arith) (omega arith) (omega (arith, ap number_of h)))
broken (Ok p) stem cycle c early h n = by (too_large p) (first_break p stem cycle) refl h
  where
    by : (large : Bool) (f : Found) → first_break p stem cycle ≡ f → Ruled (cond large (refuse ProductTooLarge) (by_break p f)) stem cycle c
        → (q : Plan) × (i : ℕ) × (◌≡◌ {A = Result Plan Refusal} (Ok p) (Ok q)) × (first_break q stem cycle ≡ at i) × (index_of c ≡ held i)
    by true f e h = absurd (omega (arith, ap number_of h))
    by false nowhere e h = absurd (omega (arith, ap number_of h.told))
    by false (at i) e h = (p, i, refl, e, ap index_of h)

pub index-of : (file stem cycle : List ℕ) (c : Check) → CheckOf file stem cycle c → number_of c ≡ 9
    → (p : Plan) × (i : ℕ) × (read_plan file ≡ Ok p) × (first_break p stem cycle ≡ at i) × (index_of c ≡ held i)
index-of file stem cycle c = broken (read_plan file) stem cycle c (read_early file).0
