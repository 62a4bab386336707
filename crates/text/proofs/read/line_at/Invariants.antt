use mathlib.Core.Path.{◌≡◌}
use Prim.Native.Nat.{◌+◌, ◌-◌, ◌≤◌}
use lib.ListN.{take, drop}
use Rattle.text.specs.Scan.{newlines, line_at}
use Rattle.text.proofs.read.line_at.Given as goal

abbrev pub invariant-loop-b : goal.invariant-loop-b
invariant-loop-b l = (l.line + newlines (take (l.at - l.b-index) (drop l.b-index l.s)) ≡ line_at l.s l.at) × (l.line ≤ l.b-index + 1)
