-- The laws of the answer block: its length, and that its bytes say the answer.
--   length_little  == n bytes are n
--   length_block   == the block has sixteen bytes
--   number_little  == the bytes of a number say it, where it has room in them
--   head_done      == six fields written one after the other are the first twelve bytes
--   block_done     == with the lengths of run-in and loop behind them they are the block
--   answer_block   == the bytes of an answer say it, where its numbers have room in them
use mathlib.Core.Path.{◌≡◌, refl, ap}
use mathlib.Core.List.{List, ◌++◌}
use Prim.Native.Nat.{ℕ, zero, suc, ◌*◌, ◌/◌, ◌^◌, ◌≤◌, ◌<◌}
use native.Mathlib.Nat.{div-add-mod', div-lt_iff_lt-mul, pow-zero, pow-suc}
use native.Mathlib.Omega.{arith}
use lib.ListN.{length, drop}
use Rattle.text.proofs.Overs.{left_start, left_next, left_last, wrote_front, wrote_three}
use Rattle.answer.specs.Block.{little, head_of, block_of, number, answer_of, Narrow}
use Rattle.text.specs.Over.{Wrote}
use Rattle.answer.specs.declared.Answer.{Answer}

pub length_little : (n x : ℕ) → length (little n x) ≡ n
unfolding little
length_little zero x = refl
length_little (suc n) x = ap suc (length_little n (x / 256))

pub length_block : (a : Answer) → length (block_of a) ≡ 16
unfolding little head_of block_of
length_block a = refl

pub number_little : (n x : ℕ) → x < 256 ^ n → number (little n x) ≡ x
unfolding little number
number_little zero x h = omega (arith, pow-zero 256)
number_little (suc n) x h =
    let above : x < 256 ^ n * 256 = rw (pow-suc 256 n) at h in
    rw (number_little n (x / 256) ((div-lt_iff_lt-mul (omega arith)).1 above)) (div-add-mod' x 256)

pub answer_block : (a : Answer) → Narrow a → answer_of (block_of a) ≡ a
unfolding little head_of block_of answer_of
answer_block a h =
    rw (
      number_little 1 a.number h.number,
      number_little 1 a.kept h.kept,
      number_little 1 a.count h.count,
      number_little 4 a.line h.line,
      number_little 4 a.cost h.cost,
      number_little 2 a.stem h.stem,
      number_little 2 a.cycle h.cycle,
    )

pub head_done : (n kept third line cost : ℕ) {b b₁ b₂ b₃ b₄ b₅ b₆ : List ℕ} → 12 ≤ length b
    → Wrote b 0 (little 1 n) b₁ 1
    → Wrote b₁ 1 (little 1 kept) b₂ 2
    → Wrote b₂ 2 (little 1 third) b₃ 3
    → Wrote b₃ 3 (little 1 0) b₄ 4
    → Wrote b₄ 4 (little 4 line) b₅ 8
    → Wrote b₅ 8 (little 4 cost) b₆ 12
    → Wrote b 0 (head_of n kept third line cost) b₆ 12
unfolding little head_of
head_done n kept third line cost {b} room d₁ d₂ d₃ d₄ d₅ d₆ =
    let l₁ = left_next (little 1 n) _ (left_start b 0 (head_of n kept third line cost) (omega arith)) d₁ in
    let l₂ = left_next (little 1 kept) _ l₁ d₂ in
    let l₃ = left_next (little 1 third) _ l₂ d₃ in
    let l₄ = left_next (little 1 0) _ l₃ d₄ in
    let l₅ = left_next (little 4 line) _ l₄ d₅ in
    left_last l₅ d₆

pub block_done : (a : Answer) {b b₁ b₂ b₃ : List ℕ} → 16 ≤ length b
    → Wrote b 0 (head_of a.number a.kept a.count a.line a.cost) b₁ 12
    → Wrote b₁ 12 (little 2 a.stem) b₂ 14
    → Wrote b₂ 14 (little 2 a.cycle) b₃ 16
    → b₃ ≡ block_of a ++ drop 16 b
unfolding little head_of block_of
block_done a room d₁ d₂ d₃ =
    (wrote_front (wrote_three (head_of a.number a.kept a.count a.line a.cost) (little 2 a.stem) (little 2 a.cycle) (omega arith) d₁ d₂ d₃)).1
