-- A rule of a plan, hard or soft. A soft rule has the trap as one state more, but no run that accepts enters it, so that one verdict is
-- right for both.
--   Usable a          == what a plan file's ranges say of a rule, as far as it is used here
--   placed a labels v == the rule's own steps at place v, which has the label labels[v]
--   Tells P b         == b tells whether P
--   Judged a labels stem cycle b == b tells whether the rule accepts the tour of run-in and loop, 01's acceptance: as a hard rule, and as a
--                        soft one
use Rattle.std.specs.Prelude.{◌≡◌, Bool, true, false, List, ℕ, ◌^◌, ◌≤◌, ◌<◌, length, get_or}
use Rattle.automata.specs.Automaton.{step}
use Rattle.automata.specs.Acceptance.{lasso_at, HardAccepts, SoftAccepts}
use Rattle.automata.specs.WellFormed.{FromBelow, ToBelow}
use Rattle.automata.specs.declared.Automaton.{Automaton}

pub record Usable (a : Automaton) : Type 0 where
  pub few : a.states ≤ 16
  pub first : a.first < a.states
  pub accept : a.accept < 2 ^ a.states
  pub moves : a.move_count ≤ 64
  pub from : FromBelow a.states a
  pub to : ToBelow a.states a

abbrev pub placed : Automaton → List ℕ → ℕ → ℕ → ℕ → Bool
placed a labels v = step a (get_or labels v 0)

pub record Tells (P : Type 0) (b : Bool) : Type 0 where
  pub holds : b ≡ true → P
  pub fails : b ≡ false → P → ⊥

pub record Judged (a : Automaton) (labels stem cycle : List ℕ) (b : Bool) : Type 0 where
  pub hard : Tells (HardAccepts a (λ t. get_or labels (lasso_at stem cycle t) 0) (length stem) (length cycle)) b
  pub soft : Tells (SoftAccepts a (λ t. get_or labels (lasso_at stem cycle t) 0) (length stem) (length cycle)) b
