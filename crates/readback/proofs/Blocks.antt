-- The block of a reply: its length, how it is written, and that its bytes say the reply.
--   length_block == it has thirty-two bytes
--   block_done   == its first twelve bytes, the line and both lengths, written one after the other, are the block
--   Narrow q     == each number of q has room in its bytes
--   block_says   == then the bytes of the block say the reply
--   reply_narrow == so it is of every text, with buffers of lengths that 64 bits can hold
use mathlib.Core.Path.{◌≡◌, refl}
use mathlib.Core.Bool.{Bool, true, false}
use mathlib.Core.List.{List, ◌++◌}
use Prim.Native.Nat.{ℕ, ◌≤◌, ◌<◌}
use native.Mathlib.Omega.{arith}
use lib.Dec.{ltb}
use lib.ListN.{length, drop}
use borrow.Author.Tests.{ltb-true, ltb-false}
use Rattle.text.specs.Over.{Wrote}
use Rattle.text.proofs.Overs.{left_start, left_next, left_last, wrote_front}
use Rattle.answer.specs.Block.{little, head_of}
use Rattle.answer.proofs.Blocks.{number_little}
use Rattle.plan.specs.Answers.{kind_of, consistent}
use Rattle.plan.proofs.Numbers.{never, number_low}
use Rattle.readback.specs.Reading.{read_answer}
use Rattle.plan.specs.Returned.{number_of, line_of}
use Rattle.plan.specs.declared.Refusal.{Refusal}
use Rattle.readback.specs.Reply.{record_of}
use Rattle.readback.specs.Block.{block_of, said, said_by}
use Rattle.readback.specs.declared.Record.{Record}
use Rattle.std.specs.Prelude.{Result, Ok, Err}
use Rattle.readback.proofs.PrintsBack.{read_sound, read_fits, reply_line_low}

pub length_block : (q : Result Record Refusal) → length (block_of q) ≡ 32
unfolding little head_of block_of
length_block q = refl

pub block_done : (q : Result Record Refusal) {b b₁ b₂ b₃ b₄ : List ℕ} (n line : ℕ) (x : Record) → 32 ≤ length b → n ≡ number_of q → line ≡ line_of q → x ≡ record_of q
    → Wrote b 0 (head_of n x.kept x.number line x.cost) b₁ 12
    → Wrote b₁ 12 (little 4 x.line) b₂ 16
    → Wrote b₂ 16 (little 8 x.stem) b₃ 24
    → Wrote b₃ 24 (little 8 x.cycle) b₄ 32
    → b₄ ≡ block_of q ++ drop 32 b
unfolding little head_of block_of
block_done q {b} n line x room e f g d₁ d₂ d₃ d₄ =
    let head : List ℕ = head_of n x.kept x.number line x.cost in
    let l₁ = left_next head _ (left_start b 0 (head ++ (little 4 x.line ++ (little 8 x.stem ++ little 8 x.cycle))) (omega arith)) d₁ in
    let l₂ = left_next (little 4 x.line) _ l₁ d₂ in
    let l₃ = left_next (little 8 x.stem) _ l₂ d₃ in
    rw (← e, ← f, ← g) (wrote_front (left_last l₃ d₄)).1

pub record Narrow (q : Result Record Refusal) : Type 0 where
  pub number : number_of q < 256
  pub line : line_of q < 4294967296
  pub answer : (record_of q).number < 256
  pub plan_line : (record_of q).line < 4294967296
  pub cost : (record_of q).cost < 4294967296
  pub kept : (record_of q).kept < 256
  pub stem : (record_of q).stem < 18446744073709551616
  pub cycle : (record_of q).cycle < 18446744073709551616

pub block_says : (q : Result Record Refusal) → Narrow q → said_by (block_of q) ≡ said q
unfolding little head_of block_of said_by
block_says q h =
    rw (
      number_little 1 (number_of q) h.number,
      number_little 1 (record_of q).kept h.kept,
      number_little 1 (record_of q).number h.answer,
      number_little 4 (line_of q) h.line,
      number_little 4 (record_of q).cost h.cost,
      number_little 4 (record_of q).line h.plan_line,
      number_little 8 (record_of q).stem h.stem,
      number_little 8 (record_of q).cycle h.cycle,
    )

agreed_low : (n line cost kept stem cycle : ℕ) → consistent (kind_of n) line cost kept stem cycle ≡ true → n < 11
agreed_low n line cost kept stem cycle e = by (ltb n 11) refl
  where
    by : (t : Bool) → ltb n 11 ≡ t → n < 11
    by true h = ltb-true n 11 h
    by false h = let z : false ≡ true = rw (never n (ltb-false n 11 h)) at e in let w : ◌≡◌ {A = ℕ} 0 1 = cc in absurd (omega arith)

module _ (s : List ℕ) (r l : ℕ) (few : r < 18446744073709551616) (short : l < 18446744073709551616) where
  pub reply_narrow : Narrow (read_answer s r l)
  reply_narrow = by (read_answer s r l) refl
    where
      by : (q : Result Record Refusal) → read_answer s r l ≡ q → Narrow (read_answer s r l)
      by (Ok x) e =
          let sound = read_sound s r l x e in
          let room = read_fits s r l x e in
          rw e (record {
            number = omega arith;
            line = omega arith;
            answer = omega (arith, agreed_low x.number _ _ _ _ _ sound.agrees);
            plan_line = omega (arith, sound.line);
            cost = omega (arith, sound.cost);
            kept = omega (arith, sound.kept);
            stem = omega (arith, room.0);
            cycle = omega (arith, room.1);
          })
      by (Err x) e =
          let low = rw e at (reply_line_low s r l) in
          rw e (record {
            number = omega (arith, number_low x);
            line = omega (arith, low);
            answer = omega arith;
            plan_line = omega arith;
            cost = omega arith;
            kept = omega arith;
            stem = omega arith;
            cycle = omega arith;
          })
