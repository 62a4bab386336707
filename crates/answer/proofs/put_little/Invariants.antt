use mathlib.Core.Path.{◌≡◌}
use mathlib.Core.List.{◌++◌}
use Prim.Native.Nat.{◌-◌}
use lib.ListN.{take}
use Rattle.answer.specs.Block.{little}
use Rattle.answer.proofs.put_little.Given as goal

-- the bytes that are written, and before them what the rest comes to
abbrev pub invariant-loop-byte : goal.invariant-loop-byte
invariant-loop-byte l = little l.n l.x ≡ take l.byte-index l.byte-items ++ little (l.n - l.byte-index) l.rest
