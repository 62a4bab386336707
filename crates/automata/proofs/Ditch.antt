-- 01's acceptance with the trap is acceptance without it: the trap, 01's ditch, never accepts and leads only to itself, so that an accepting
-- run stays out of it. The automaton's moves are between its states.
--   ditch_stays == a run that is in the trap at step s is in it from there on
--   ditch_free  == a run that accepts with the trap is never in it
--   soft_hard   == what is accepted with the trap is accepted without it, by the same run
--   hard_soft   == and back
use mathlib.Core.Path.{◌≡◌, sym, ap, ◌∙◌}
use Prim.Native.Nat.{ℕ, suc, ◌+◌, ◌*◌, ◌≤◌, ◌<◌}
use native.Mathlib.Nat.{le_refl}
use native.Mathlib.Decide.{le_ind}
use native.Mathlib.Omega.{arith}
use Rattle.base.proofs.Tests.{false_not_true}
use Rattle.automata.specs.Automaton.{trap, final}
use Rattle.automata.specs.Acceptance.{HardAccepts, SoftAccepts}
use Rattle.automata.specs.WellFormed.{FromBelow, ToBelow}
use Rattle.automata.specs.declared.Automaton.{Automaton}
use Rattle.automata.proofs.Traps.{trap_stays, step_lands, trap_other, trap_refuses}

-- what is kept from each step to the next, up to step e, is kept from step s on
keeps : (P : ℕ → Type 0) (e s : ℕ) → ((t : ℕ) → t < e → P t → P (suc t)) → P s → (t : ℕ) → s ≤ t → t ≤ e → P t
keeps P e s next h = le_ind (λ t. t ≤ e → P t) (λ _. h) (λ t _ ih l. next t l (ih (omega arith)))

module _ (a : Automaton) (w : ℕ → ℕ) (r l : ℕ) where
  ditch_stays : (A : SoftAccepts a w r l) (s : ℕ) → A.run s ≡ trap a → (t : ℕ) → s ≤ t → t ≤ r + (A.a + A.b) * l → A.run t ≡ trap a
  ditch_stays A s =
      keeps (λ t. A.run t ≡ trap a) (r + (A.a + A.b) * l) s (λ t h e. trap_stays a _ (A.run (suc t)) (rw e at (A.steps t h)))

  ditch_free : (A : SoftAccepts a w r l) (t : ℕ) → t ≤ r + (A.a + A.b) * l → A.run t ≡ trap a → ⊥
  ditch_free A t inside h =
      let end : ℕ = r + (A.a + A.b) * l in
      let u = A.accepts in
      let back = A.returns ∙ ditch_stays A t h end inside (le_refl end) in
      let met = ditch_stays A (r + A.a * l) back u.0 (omega arith) (omega arith) in
      false_not_true u.3 (ap (final a) met ∙ trap_refuses a)

  pub soft_hard : FromBelow a.states a → SoftAccepts a w r l → HardAccepts a w r l
  soft_hard from A = record {
    a = A.a;
    b = A.b;
    run = A.run;
    turns = A.turns;
    starts = A.starts;
    steps = λ t h. sym (trap_other a _ from (A.run t) (A.run (suc t)) (ditch_free A (suc t) h)) ∙ A.steps t h;
    returns = A.returns;
    accepts = A.accepts;
  }

  pub hard_soft : FromBelow a.states a → ToBelow a.states a → HardAccepts a w r l → SoftAccepts a w r l
  hard_soft from to A = record {
    a = A.a;
    b = A.b;
    run = A.run;
    turns = A.turns;
    starts = A.starts;
    steps = λ t h.
        let lands = step_lands a _ to (A.run t) (A.run (suc t)) (A.steps t h) in
        trap_other a _ from (A.run t) (A.run (suc t)) (λ d. omega arith) ∙ A.steps t h;
    returns = A.returns;
    accepts = A.accepts;
  }
