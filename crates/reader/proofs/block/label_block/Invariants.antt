use mathlib.Core.Path.{◌≡◌}
use mathlib.Core.List.{List, ◌++◌}
use Prim.Native.Nat.{ℕ}
use lib.ListN.{length, drop, replicate}
use Rattle.text.specs.declared.line.Cursor.{Cursor}
use Rattle.text.specs.declared.line.Numbers.{Numbers}
use Rattle.reader.proofs.Steps.{LabelsRead}
use Rattle.reader.proofs.block.label_block.Given as goal

-- i of n labels are read; behind those and what is lent for the others stand zeros
pub record Labelled (s : List ℕ) (n bound : ℕ) (from c : Cursor) (items : List ℕ) (i end : ℕ) : Type 0 where
  pub size : length items ≡ n
  pub last : end ≡ n
  pub read : (xs : Numbers) → LabelsRead s n bound xs from c (items ++ drop n (replicate 128 0)) i

abbrev pub invariant-loop-label : goal.invariant-loop-label
invariant-loop-label l = Labelled l.s l.n l.bound l.initial.cursor l.cursor l.label-items l.label-index l.label-index-end
