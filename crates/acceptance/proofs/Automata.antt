-- `decided` decides acceptance by an automaton whose first state and whose moves' targets are among its states; label gives each place's label.
--   hard_decided == without the trap, over the automaton's states
--   soft_decided == with the trap, which is one state more
use mathlib.Core.Path.{◌≡◌}
use mathlib.Core.Bool.{Bool, true}
use mathlib.Core.Logic.{◌↔◌}
use mathlib.Core.List.{List}
use Prim.Native.Nat.{ℕ, suc, ◌<◌}
use native.Mathlib.Omega.{arith}
use lib.ListN.{length}
use Rattle.automata.specs.Automaton.{step, trap_step, final}
use Rattle.automata.specs.WellFormed.{ToBelow}
use Rattle.automata.specs.Acceptance.{Accepting, HardAccepts, SoftAccepts, lasso_at}
use Rattle.automata.specs.declared.Automaton.{Automaton}
use Rattle.automata.proofs.Traps.{step_lands, trap_lands}
use Rattle.acceptance.specs.Decision.{decided}
use Rattle.acceptance.proofs.Decision.{decided_accepts, accepts_decided}

-- steps under the labels of a word's entries are steps over the word of their labels
module _ (δ : ℕ → ℕ → ℕ → Bool) (label : ℕ → ℕ) {q₀ : ℕ} {F : ℕ → Bool} {w : ℕ → ℕ} {r l : ℕ} where
  labelled : Accepting (λ v. δ (label v)) q₀ F w r l → Accepting δ q₀ F (λ t. label (w t)) r l
  labelled A = record {
    a = A.a;
    b = A.b;
    run = A.run;
    turns = A.turns;
    starts = A.starts;
    steps = A.steps;
    returns = A.returns;
    accepts = A.accepts;
  }

  unlabelled : Accepting δ q₀ F (λ t. label (w t)) r l → Accepting (λ v. δ (label v)) q₀ F w r l
  unlabelled A = record {
    a = A.a;
    b = A.b;
    run = A.run;
    turns = A.turns;
    starts = A.starts;
    steps = A.steps;
    returns = A.returns;
    accepts = A.accepts;
  }

module _ (a : Automaton) (label : ℕ → ℕ) (stem cycle : List ℕ) (first : a.first < a.states) (below : ToBelow a.states a) where
  pub hard_decided : (decided (λ v. step a (label v)) a.states a.first (final a) stem cycle ≡ true)
      ↔ HardAccepts a (λ t. label (lasso_at stem cycle t)) (length stem) (length cycle)
  hard_decided = (
    λ h. labelled (step a) label (decided_accepts (λ v. step a (label v)) a.states a.first (final a) stem cycle h),
    λ A. accepts_decided (λ v. step a (label v)) a.states a.first (final a) stem cycle first (λ v q r h. step_lands a (label v) below q r h)
        (unlabelled (step a) label A),
  )

  pub soft_decided : (decided (λ v. trap_step a (label v)) (suc a.states) a.first (final a) stem cycle ≡ true)
      ↔ SoftAccepts a (λ t. label (lasso_at stem cycle t)) (length stem) (length cycle)
  soft_decided = (
    λ h. labelled (trap_step a) label (decided_accepts (λ v. trap_step a (label v)) (suc a.states) a.first (final a) stem cycle h),
    λ A. accepts_decided (λ v. trap_step a (label v)) (suc a.states) a.first (final a) stem cycle (omega arith)
        (λ v q r h. omega (arith, trap_lands a (label v) below q r h))
        (unlabelled (trap_step a) label A),
  )
