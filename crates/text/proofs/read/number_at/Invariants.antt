use mathlib.Core.Path.{◌≡◌}
use mathlib.Core.List.{List}
use Prim.Native.Nat.{ℕ, ◌+◌, ◌-◌, ◌≤◌, min}
use lib.ListN.{drop}
use Rattle.text.specs.Scan.{digit_count, value}
use Rattle.text.proofs.read.number_at.Given as goal

pub record Scanned (s : List ℕ) (at i v : ℕ) : Type 0 where
  pub from : at ≤ i
  -- the bytes passed are digits
  pub count : digit_count (drop at s) ≡ (i - at) + digit_count (drop i s)
  -- v is their value, held
  pub held : min (value 0 (drop at s)) 4000000000 ≡ min (value v (drop i s)) 4000000000
  pub small : v ≤ 4000000000

abbrev pub invariant-loop-i : goal.invariant-loop-i
invariant-loop-i l = Scanned l.s l.at l.i l.v
