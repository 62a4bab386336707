-- Readings of 01 that `decided` shuts out, each by an automaton that would tell; `decided` is computed. Acceptance itself shuts them out
-- then, by the laws of Automata: of each, NAME tells what is decided, NAME-accepts or NAME-refused what is accepted.
-- All are of one tour: places 0 and 1 have the labels 1 and 0, the run-in is place 0 and the loop place 1.
--   label v, word t == the label of place v, and of the place at step t of the tour
--   hard a, soft a  == the tour is accepted by a, without and with the trap, as decided
--   run_in_only     == an accepting state met only in the run-in does not count: not accepted
--   second_move     == a second fitting move counts as much as the first listed: accepted by it alone
--   fitting_move    == the trap is not entered while a move fits, though another move of the state does not: accepted
--   no_move         == it is entered, and the state not kept, where none fits: not accepted
--   start_label     == the start place's label is read on leaving the first state (01, case 8): accepted by it alone
--   start_skipped   == and it is not skipped: not accepted, though the loop's label would do
use mathlib.Core.Path.{◌≡◌, refl}
use mathlib.Core.Bool.{Bool, true, false}
use mathlib.Core.List.{List, [], ◌∷◌}
use Prim.Native.Nat.{ℕ, zero, suc, ◌<◌}
use native.Mathlib.Omega.{arith}
use lib.ListN.{get_or}
use Rattle.base.specs.Below.{any_below}
use Rattle.base.specs.Bits.{bit}
use Rattle.base.proofs.Tests.{false_not_true}
use Rattle.automata.specs.Automaton.{no_move as move_of_zeros, guard, fits, leads, step, blocked, trap_step, final}
use Rattle.automata.specs.Acceptance.{HardAccepts, SoftAccepts, lasso_at}
use Rattle.automata.specs.declared.Automaton.{Automaton}
use Rattle.automata.specs.declared.Move.{Move}
use Rattle.automata.proofs.Readings.{going, early, marked}
use Rattle.acceptance.specs.Decision.{after, turn, meet, linked, decided}
use Rattle.acceptance.proofs.Automata.{hard_decided, soft_decided}

abbrev pub label : ℕ → ℕ
label v = get_or (1 ∷ 0 ∷ []) v 0

abbrev pub hard : Automaton → Bool
hard a = decided (λ v. step a (label v)) a.states a.first (final a) (0 ∷ []) (1 ∷ [])

abbrev pub soft : Automaton → Bool
soft a = decided (λ v. trap_step a (label v)) (suc a.states) a.first (final a) (0 ∷ []) (1 ∷ [])

abbrev pub word : ℕ → ℕ
word t = label (lasso_at (0 ∷ []) (1 ∷ []) t)

-- every move of a list, and the move of zeros past its end, leads to a state below n
abbrev Each : ℕ → List Move → Type 0
Each n [] = 0 < n
Each n (m ∷ ms) = (m.to < n) × Each n ms

each_below : (n : ℕ) (ms : List Move) → Each n ms → (i : ℕ) → (get_or ms i move_of_zeros).to < n
each_below n [] h i = h
each_below n (m ∷ ms) h zero = h.0
each_below n (m ∷ ms) h (suc i) = each_below n ms h.1 i

module _ (a : Automaton) (first : a.first < a.states) (each : Each a.states a.moves) where
  hard_accepts : hard a ≡ true → HardAccepts a word 1 1
  hard_accepts = (hard_decided a label (0 ∷ []) (1 ∷ []) first (each_below a.states a.moves each)).0

  hard_refuses : hard a ≡ false → HardAccepts a word 1 1 → ⊥
  hard_refuses e A = false_not_true ((hard_decided a label (0 ∷ []) (1 ∷ []) first (each_below a.states a.moves each)).1 A) e

  soft_accepts : soft a ≡ true → SoftAccepts a word 1 1
  soft_accepts = (soft_decided a label (0 ∷ []) (1 ∷ []) first (each_below a.states a.moves each)).0

  soft_refuses : soft a ≡ false → SoftAccepts a word 1 1 → ⊥
  soft_refuses e A = false_not_true ((soft_decided a label (0 ∷ []) (1 ∷ []) first (each_below a.states a.moves each)).1 A) e

-- state 0, which accepts, is left for state 1 at once and for ever
pub run_in_only : hard early ≡ false
unfolding decided after turn meet linked any_below step leads fits guard final bit
run_in_only = refl

pub run_in_only_refused : HardAccepts early word 1 1 → ⊥
run_in_only_refused = hard_refuses early (omega arith) (omega arith) run_in_only

-- of the two moves from state 0 the first stays there for ever, and the second leads to state 1, which accepts and stays
abbrev pub branching : Automaton
branching = record {
  states = 2;
  first = 0;
  accept = 2;
  move_count = 3;
  moves = going 0 0 0 0 ∷ going 0 0 0 1 ∷ going 1 0 0 1 ∷ [];
}

pub second_move : hard branching ≡ true
unfolding decided after turn meet linked any_below step leads fits guard final bit
second_move = refl

pub second_move_accepts : HardAccepts branching word 1 1
second_move_accepts = hard_accepts branching (omega arith) (omega arith) second_move

-- state 0 accepts; of its two moves, which stay there, one fits where mark 0 is and the other where it is not
abbrev pub choosing : Automaton
choosing = record {
  states = 1;
  first = 0;
  accept = 1;
  move_count = 2;
  moves = going 0 1 0 0 ∷ going 0 0 1 0 ∷ [];
}

pub fitting_move : soft choosing ≡ true
unfolding decided after turn meet linked any_below trap_step blocked step leads fits guard final bit
fitting_move = refl

pub fitting_move_accepts : SoftAccepts choosing word 1 1
fitting_move_accepts = soft_accepts choosing (omega arith) (omega arith) fitting_move

-- state 0 accepts; its one move stays there, and fits where mark 0 is, so not in the loop
abbrev pub asking : Automaton
asking = record { states = 1; first = 0; accept = 1; move_count = 1; moves = going 0 1 0 0 ∷ [] }

pub no_move : soft asking ≡ false
unfolding decided after turn meet linked any_below trap_step blocked step leads fits guard final bit
no_move = refl

pub no_move_refused : SoftAccepts asking word 1 1 → ⊥
no_move_refused = soft_refuses asking (omega arith) (omega arith) no_move

-- state 1, which accepts and stays, is entered from state 0 where mark 0 is
pub start_label : soft marked ≡ true
unfolding decided after turn meet linked any_below trap_step blocked step leads fits guard final bit
start_label = refl

pub start_label_accepts : SoftAccepts marked word 1 1
start_label_accepts = soft_accepts marked (omega arith) (omega arith) start_label

-- the same where mark 0 is not
abbrev pub unmarked : Automaton
unmarked = record { states = 2; first = 0; accept = 2; move_count = 2; moves = going 0 0 1 1 ∷ going 1 0 0 1 ∷ [] }

pub start_skipped : soft unmarked ≡ false
unfolding decided after turn meet linked any_below trap_step blocked step leads fits guard final bit
start_skipped = refl

pub start_skipped_refused : SoftAccepts unmarked word 1 1 → ⊥
start_skipped_refused = soft_refuses unmarked (omega arith) (omega arith) start_skipped
