-- What is decided over the table of a rule's steps tells whether the rule accepts, hard or soft.
--   judged == the entries of run-in and loop are places, whose rows are filled; there the table's steps are the rule's own, and without the
--             trap the same is accepted
use mathlib.Core.Path.{◌≡◌, sym, ◌∙◌}
use mathlib.Core.Bool.{Bool, true, false}
use mathlib.Core.List.{List}
use Prim.Native.Nat.{ℕ, ◌<◌}
use native.Mathlib.Omega.{arith}
use borrow.Author.Tests.{lt-ltb}
use lib.ListN.{length, get_or}
use Rattle.base.specs.Bits.{has_bit}
use Rattle.base.proofs.Tests.{false_not_true}
use Rattle.automata.specs.Automaton.{final}
use Rattle.automata.specs.WellFormed.{Below}
use Rattle.automata.specs.Acceptance.{lasso_at, HardAccepts}
use Rattle.automata.specs.declared.Automaton.{Automaton}
use Rattle.automata.proofs.Ditch.{soft_hard, hard_soft}
use Rattle.acceptance.specs.Decision.{decided}
use Rattle.acceptance.specs.Rule.{Usable, placed, Judged}
use Rattle.acceptance.specs.Table.{step_in, Filled}
use Rattle.acceptance.proofs.Agreeing.{decided_same}
use Rattle.acceptance.proofs.Automata.{hard_decided}

final_bit : (a : Automaton) (q : ℕ) → q < a.states → has_bit a.accept q ≡ final a q
unfolding final
final_bit a q l = rw (lt-ltb q a.states l)

pub judged : (a : Automaton) (labels stem cycle steps : List ℕ) (places : ℕ) (b : Bool) → Usable a
    → Filled (placed a labels) a.states places 0 steps → Below places stem → Below places cycle
    → b ≡ decided (step_in steps) a.states a.first (has_bit a.accept) stem cycle
    → Judged a labels stem cycle b
unfolding step_in
judged a labels stem cycle steps places b u f in_stem in_cycle e = record {
  hard = record { holds = accepted; fails = refused };
  soft = record {
    holds = λ h. hard_soft a w (length stem) (length cycle) u.from u.to (accepted h);
    fails = λ h A. refused h (soft_hard a w (length stem) (length cycle) u.from A);
  };
}
  where
    w : ℕ → ℕ
    w t = get_or labels (lasso_at stem cycle t) 0

    Accepted : Type 0
    Accepted = HardAccepts a w (length stem) (length cycle)

    same : b ≡ decided (placed a labels) a.states a.first (final a) stem cycle
    same =
        e ∙ decided_same (step_in steps) (placed a labels) a.states places (has_bit a.accept) (final a)
        (λ v q r inside l. (f.rows v q inside l).has r) (final_bit a) a.first stem cycle (omega (arith, u.few)) in_stem in_cycle

    accepted : b ≡ true → Accepted
    accepted h = (hard_decided a (λ v. get_or labels v 0) stem cycle u.first u.to).0 (sym same ∙ h)

    refused : b ≡ false → Accepted → ⊥
    refused h A = false_not_true (same ∙ (hard_decided a (λ v. get_or labels v 0) stem cycle u.first u.to).1 A) h
