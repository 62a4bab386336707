use mathlib.Core.Path.{◌≡◌}
use mathlib.Core.List.{List, ◌++◌}
use Prim.Native.Nat.{ℕ}
use lib.ListN.{length, drop, replicate}
use Rattle.automata.specs.declared.Move.{Move}
use Rattle.automata.specs.Automaton.{no_move}
use Rattle.text.specs.declared.line.Cursor.{Cursor}
use Rattle.text.specs.declared.line.Numbers.{Numbers}
use Rattle.reader.proofs.Steps.{MovesRead}
use Rattle.reader.proofs.block.move_block.Given as goal

-- i of n moves are read; behind those and what is lent for the others stand moves of zeros
pub record Moved (s : List ℕ) (n states labels : ℕ) (from c : Cursor) (items : List Move) (i end : ℕ) : Type 0 where
  pub size : length items ≡ n
  pub last : end ≡ n
  pub read : (xs : Numbers) → MovesRead s n states labels xs from c (items ++ drop n (replicate 64 no_move)) i

abbrev pub invariant-loop-m : goal.invariant-loop-m
invariant-loop-m l = Moved l.s l.n l.states l.labels l.initial.cursor l.cursor l.m-items l.m-index l.m-index-end
