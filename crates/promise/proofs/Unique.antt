-- What is answered is determined: two tours that keep the promise, for one plan, tell the same cost, kept byte and count.
-- Each set is at least as good as the other, so their keys are equal, and so are they.
--   best_unique   == two best sets that tours keep are equal
--   answer_unique == two answers to one plan differ at most in the two lengths
use mathlib.Core.Path.{◌≡◌, sym, ap, ◌∙◌}
use mathlib.Core.List.{List}
use Prim.Native.Nat.{ℕ}
use native.Mathlib.Omega.{arith}
use lib.Count.{ones}
use Rattle.plan.specs.WellFormed.{WellFormed}
use Rattle.plan.specs.Tour.{IsLasso, Hard}
use Rattle.plan.specs.Cost.{KeptIs, cost, Best}
use Rattle.plan.specs.declared.Plan.{Plan}
use Rattle.plan.proofs.Keys.{better_key, key_injective}
use Rattle.plan.proofs.Tours.{best_kept}
use Rattle.answer.specs.declared.Answer.{Answer}
use Rattle.promise.specs.Promise.{TourOf}

module _ (p : Plan) (ok : WellFormed p) where
  pub best_unique : (k k' : ℕ) → Best p k → Best p k' → (stem cycle stem' cycle' : List ℕ) → IsLasso p stem cycle → Hard p stem cycle → KeptIs p stem cycle k
      → IsLasso p stem' cycle' → Hard p stem' cycle' → KeptIs p stem' cycle' k' → k ≡ k'
  best_unique k k' best best' stem cycle stem' cycle' lasso hard kept lasso' hard' kept' =
      let le = better_key p ok.rules k k' (best_kept p k best stem' cycle' lasso' hard' k' kept') in
      let ge = better_key p ok.rules k' k (best_kept p k' best' stem cycle lasso hard k kept) in
      key_injective p ok.rules k k' kept.small kept'.small (omega arith)

  pub answer_unique : (runin loop runin₁ loop₁ runin₂ loop₂ : List ℕ) (a b : Answer) → TourOf p runin loop runin₁ loop₁ a → TourOf p runin loop runin₂ loop₂ b
      → (a.cost ≡ b.cost) × (a.kept ≡ b.kept) × (a.count ≡ b.count)
  answer_unique runin loop runin₁ loop₁ runin₂ loop₂ a b s t =
      let k = best_unique s.kept t.kept s.best t.best s.stem s.cycle t.stem t.cycle s.lasso s.hard s.exact t.lasso t.hard t.exact in
      let e = s.answer in
      let f = t.answer in (
        ap (λ x. x.cost) e ∙ ap (cost p) k ∙ sym (ap (λ x. x.cost) f),
        ap (λ x. x.kept) e ∙ k ∙ sym (ap (λ x. x.kept) f),
        ap (λ x. x.count) e ∙ ap ones k ∙ sym (ap (λ x. x.count) f),
      )
