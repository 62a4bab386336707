-- How the block of a check is written.
--   flag_byte  == 1 for true as the code casts it
--   block_done == its first twelve bytes, four zeros and the index are the block
use mathlib.Core.Path.{◌≡◌, refl}
use mathlib.Core.Bool.{Bool, true, false}
use mathlib.Core.List.{List, ◌++◌}
use Prim.Native.Nat.{ℕ, ◌≤◌}
use native.Mathlib.Omega.{arith}
use mir.Val.{bool_byte}
use lib.ListN.{length, drop}
use Rattle.text.specs.Over.{Wrote}
use Rattle.text.proofs.Overs.{wrote_front, wrote_three}
use Rattle.answer.specs.Block.{little, head_of}
use Rattle.plan.specs.Returned.{number_of, line_of, index_of}
use Rattle.checker.specs.Check.{Check, worth_of}
use Rattle.checker.specs.Block.{flag, block_of}
use Rattle.checker.specs.declared.Worth.{Worth}

pub flag_byte : (b : Bool) → bool_byte b ≡ flag b
flag_byte true = refl
flag_byte false = refl

pub block_done : (c : Check) {b b₁ b₂ b₃ : List ℕ} (n line : ℕ) (w : Worth) (f i : ℕ) → 24 ≤ length b
    → n ≡ number_of c → line ≡ line_of c → w ≡ worth_of c → f ≡ flag w.accepts → i ≡ index_of c
    → Wrote b 0 (head_of n w.kept f line w.cost) b₁ 12
    → Wrote b₁ 12 (little 4 0) b₂ 16
    → Wrote b₂ 16 (little 8 i) b₃ 24
    → b₃ ≡ block_of c ++ drop 24 b
unfolding little head_of block_of
block_done c n line w f i room e g h k m d₁ d₂ d₃ =
    rw (← e, ← g, ← h, ← k, ← m) (wrote_front (wrote_three (head_of n w.kept f line w.cost) (little 4 0) (little 8 i) (omega arith) d₁ d₂ d₃)).1
