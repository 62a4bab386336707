-- The answer by its ruling.
--   ruled_large   == the product is too large
--   ruled_broken  == the tour breaks
--   ruled_whole   == it does not: the answer is what the tour is worth
--   read_ruled, refused_ruled == of a plan file: it was read, or turned away
use mathlib.Core.Path.{◌≡◌, refl, sym, ap, ◌∙◌, subst}
use mathlib.Core.List.{List}
use Prim.Native.Nat.{ℕ}
use mathlib.Core.Bool.{true, false, not}
use Rattle.std.specs.Prelude.{Option, Some, None, Result, Ok, Err}
use Rattle.std.specs.Option.{is_some}
use Rattle.std.proofs.lemmas.Option.{same_Some}
use Rattle.base.specs.Least.{Found, nowhere, at}
use Rattle.plan.specs.Size.{too_large, Sized}
use Rattle.plan.proofs.Products.{sized_large, sized_fits}
use Rattle.plan.specs.declared.Plan.{Plan}
use Rattle.plan.specs.declared.Refusal.{Refusal}
use Rattle.plan.specs.declared.Refusal.TheVariants.{ProductTooLarge, Broken}
use Rattle.reader.specs.Reading.{read_plan}
use Rattle.checker.specs.Break.{first_break}
use Rattle.checker.specs.Outcome.{held, break_of}
use Rattle.checker.specs.Check.{Check, Worthy, Ruled, ruling, RuledOf, CheckOf}
use Rattle.checker.specs.declared.Worth.{Worth}

-- a break that is told is that of the definition
pub told_broken : (f : Found) (i : ℕ) → Some i ≡ break_of f → (k : ℕ) × (f ≡ at k) × (i ≡ held k)
told_broken nowhere i e = cc
told_broken (at k) i e = (k, refl, same_Some i (held k) e)

pub told_whole : (f : Found) → None ≡ break_of f → f ≡ nowhere
told_whole nowhere e = refl
told_whole (at k) e = cc

-- whether there is a size tells whether the product is too large
sized_judged : (p : Plan) (r : Option ℕ) → Sized p r → too_large p ≡ not (is_some r)
sized_judged p None s = sized_large p s
sized_judged p (Some n) s = sized_fits p n s

module _ (p : Plan) (r : Option ℕ) (s : Sized p r) (stem cycle : List ℕ) where
  pub ruled_large : is_some r ≡ false → RuledOf (Ok p) stem cycle (Err ProductTooLarge)
  unfolding Ruled ruling
  ruled_large e = rw (sized_judged p r s, e) refl

  pub ruled_broken : (i : ℕ) → is_some r ≡ true → Some i ≡ break_of (first_break p stem cycle) → RuledOf (Ok p) stem cycle (Err (Broken i))
  unfolding Ruled ruling
  ruled_broken i e b = let k = told_broken (first_break p stem cycle) i b in rw (sized_judged p r s, e, k.1) (ap (λ i. Err (Broken i)) k.2)

  pub ruled_whole : (w : Worth) → is_some r ≡ true → None ≡ break_of (first_break p stem cycle) → Worthy p stem cycle w → RuledOf (Ok p) stem cycle (Ok w)
  unfolding Ruled ruling
  ruled_whole w e b x = rw (sized_judged p r s, e, told_whole (first_break p stem cycle) b) (record { worth = w; told = refl; worthy = x })

module _ (file : List ℕ) (r : Result Plan Refusal) (e : r ≡ read_plan file) (stem cycle : List ℕ) where
  pub read_ruled : (c : Check) (p : Plan) → r ≡ Ok p → RuledOf (Ok p) stem cycle c → CheckOf file stem cycle c
  read_ruled c p o x = subst (λ r. RuledOf r stem cycle c) (sym o ∙ e) x

  pub refused_ruled : (x : Refusal) → r ≡ Err x → CheckOf file stem cycle (Err x)
  unfolding Ruled ruling
  refused_ruled x o = subst (λ r. RuledOf r stem cycle (Err x)) (sym o ∙ e) refl
