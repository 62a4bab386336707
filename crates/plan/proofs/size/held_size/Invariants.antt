use mathlib.Core.Path.{◌≡◌}
use mathlib.Core.List.{List}
use Prim.Native.Nat.{ℕ, ◌+◌, ◌*◌, ◌≤◌, min}
use lib.ListN.{get_or}
use Rattle.base.specs.Below.{product_below}
use Rattle.automata.specs.declared.Automaton.{Automaton}
use Rattle.automata.specs.WellFormed.{no_automaton}
use Rattle.plan.proofs.size.held_size.Given as goal

pub record Grown (rules n₀ : ℕ) (soft : List Automaton) (n i : ℕ) : Type 0 where
  pub within : i ≤ rules
  pub small : n ≤ 2049
  pub held : n ≡ min (n₀ * product_below i (λ k. (get_or soft k no_automaton).states + 1)) 2049

abbrev pub invariant-loop-a : goal.invariant-loop-a
invariant-loop-a l = Grown l.fn.plan.rules l.initial.n l.fn.plan.soft l.n l.a-index
