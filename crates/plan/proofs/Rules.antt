-- The soft rules as an array gives them, which past its end gives something else than no rule.
--   rule_number, rule_read == a number of a soft rule, and a whole rule, read from the array
use mathlib.Core.Path.{◌≡◌, refl}
use mathlib.Core.List.{List, [], ◌∷◌}
use Prim.Native.Nat.{ℕ, zero, suc, ◌≤◌, ◌<◌}
use native.Mathlib.Omega.{arith}
use lib.ListN.{get_or}
use Rattle.automata.specs.declared.Automaton.{Automaton}
use Rattle.automata.specs.WellFormed.{no_automaton, past_end}
use Rattle.plan.specs.declared.Plan.{Plan}
use Rattle.plan.specs.WellFormed.{soft, WellFormed}

pub rule_number : (f : Automaton → ℕ) (d : Automaton) → f past_end ≡ f d → (l : List Automaton) (k : ℕ) → f (get_or l k past_end) ≡ f (get_or l k d)
rule_number f d h [] k = h
rule_number f d h (a ∷ l) zero = refl
rule_number f d h (a ∷ l) (suc k) = rule_number f d h l k

same_rule : (d : Automaton) → d.states ≡ 0 → (l : List Automaton) (k : ℕ) → 1 ≤ (get_or l k d).states → get_or l k past_end ≡ get_or l k d
same_rule d z [] k h = absurd (omega arith)
same_rule d z (a ∷ l) zero h = refl
same_rule d z (a ∷ l) (suc k) h = same_rule d z l k h

pub rule_read : (p : Plan) → WellFormed p → (k : ℕ) → k < p.rules → get_or p.soft k past_end ≡ soft p k
rule_read p w k h = same_rule no_automaton refl p.soft k (w.softs k h).some
