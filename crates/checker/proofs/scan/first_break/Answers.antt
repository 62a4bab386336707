-- `first_break` meets its contract: the table is blank.
use Prim.Native.Nat.{ℕ}
use native.Mathlib.Omega.{arith}
use lib.ListN.{length-replicate}
use Rattle.checker.proofs.Roads.{replicate_blank}
use Rattle.checker.proofs.scan.first_break.Goals as goal

pub chart-requires : goal.chart-requires
chart-requires c = (c.requires, replicate_blank 16512 (omega arith), length-replicate {A = ℕ} 16512 0)
