-- What a host's call returns and leaves in the bytes that were lent (01, "For the host and for the rig"; 02, notes 2
-- and 4).
--   Buffers, buffers     == the bytes of answer block, run-in and loop
--   TooShort b b' r      == the block is too short: its refusal's number is returned, and nothing is touched
--   ByBlock n b b' r P   == so where the block has fewer than n bytes; else P
--   Answered plan b b' r == an answer to the plan file is told, and stands in the first sixteen bytes of the block
--   Promise plan b b' r  == what `plan_tour` on a plan file and buffers b returns, r, and leaves in the buffers, b': one of the
--                           two, by the length of the block
--   reply_to text b       == the reply to the text of an answer, beside buffers b
--   Replied text b b' r  == it stands in the first thirty-two bytes of the block, and where the text was read its places stand at the front of
--                           run-in and loop; no other byte has changed
--   Reading text b b' r  == what `read_answer` returns and leaves: one of the two, by the length of the block
--   Checked plan runin loop block block' r == the check of a proposed tour stands in the first twenty-four bytes of the block
--   Checking plan runin loop block block' r == what `check_tour` returns and leaves in the block, by its length; run-in and loop are only read
use Rattle.std.specs.Prelude.{◌≡◌, Result, Bool, true, false, List, ◌++◌, ℕ, ltb, length, drop}
use Rattle.plan.specs.Refusal.{number}
use Rattle.plan.specs.Returned.{number_of}
use Rattle.plan.specs.declared.Refusal.{Refusal}
use Rattle.plan.specs.declared.Refusal.TheVariants as refusal
use Rattle.answer.specs.Block.{block_of}
use Rattle.answer.specs.declared.Answer.{Answer}
use Rattle.promise.specs.Promise.{AnswerTo}
use Rattle.checker.specs.Check.{Check, CheckOf}
use Rattle.checker.specs.Block as check_block
use Rattle.readback.specs.Reading.{read_answer, runin_of, loop_of, written}
use Rattle.readback.specs.Block as block
use Rattle.readback.specs.declared.Record.{Record}

pub record Buffers : Type 0 where
  pub block : List ℕ
  pub runin : List ℕ
  pub loop : List ℕ

abbrev pub buffers : List ℕ → List ℕ → List ℕ → Buffers
buffers block runin loop = record { block = block; runin = runin; loop = loop }

pub record TooShort (b b' : Buffers) (r : ℕ) : Type 0 where
  pub answer : r ≡ number refusal.BlockTooShort
  pub untouched : b' ≡ b

pub record Answered (plan : List ℕ) (b b' : Buffers) (r : ℕ) : Type 0 where
  pub answer : Answer
  pub told : AnswerTo plan b.runin b.loop b'.runin b'.loop answer
  pub block : b'.block ≡ block_of answer ++ drop 16 b.block
  pub returned : r ≡ answer.number

abbrev pub either : Bool → Type 0 → Type 0 → Type 0
either true P Q = P
either false P Q = Q

abbrev pub ByBlock : ℕ → Buffers → Buffers → ℕ → Type 0 → Type 0
ByBlock n b b' r P = either (ltb (length b.block) n) (TooShort b b' r) P

unfoldable pub Promise : List ℕ → Buffers → Buffers → ℕ → Type 0
Promise plan b b' r = ByBlock 16 b b' r (Answered plan b b' r)

abbrev pub reply_to : List ℕ → Buffers → Result Record Refusal
reply_to text b = read_answer text (length b.runin) (length b.loop)

pub record Replied (text : List ℕ) (b b' : Buffers) (r : ℕ) : Type 0 where
  pub returned : r ≡ number_of (reply_to text b)
  pub block : b'.block ≡ block.block_of (reply_to text b) ++ drop 32 b.block
  pub runin : b'.runin ≡ written (reply_to text b) (runin_of text) b.runin
  pub loop : b'.loop ≡ written (reply_to text b) (loop_of text) b.loop

unfoldable pub Reading : List ℕ → Buffers → Buffers → ℕ → Type 0
Reading text b b' r = ByBlock 32 b b' r (Replied text b b' r)

pub record Checked (plan runin loop block block' : List ℕ) (r : ℕ) : Type 0 where
  pub check : Check
  pub told : CheckOf plan runin loop check
  pub returned : r ≡ number_of check
  pub filled : block' ≡ check_block.block_of check ++ drop 24 block

unfoldable pub Checking : List ℕ → List ℕ → List ℕ → List ℕ → List ℕ → ℕ → Type 0
Checking plan runin loop block block' r =
    ByBlock 24 (buffers block runin loop) (buffers block' runin loop) r (Checked plan runin loop block block' r)
