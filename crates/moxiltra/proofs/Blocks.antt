-- The blocks of the entries: the promise from an answer or a reply that is told and written, and what its bytes say.
--   short       == a block that is too short
--   block_short == so of `plan_tour`
--   block_told  == the answer stands in the block
--   block_exact == reading the sixteen bytes back gives the answer that is told, not only remainders of its numbers
--   reply_short, reply_told == the same of `read_answer`
--   reply_exact == reading the thirty-two bytes back gives the reply, with buffers of lengths that 64 bits can hold
--   check_short, check_told, check_is == the same of `check_tour`
use mathlib.Core.Path.{◌≡◌, refl, ap, ◌∙◌}
use mathlib.Core.List.{List, ◌++◌}
use Prim.Native.Nat.{ℕ, ◌≤◌, ◌<◌}
use borrow.Author.Tests.{lt-ltb, le-ltb}
use lib.ListN.{length, take, drop}
use lib.Seq.{take_at}
use Rattle.std.specs.Prelude.{Result}
use Rattle.plan.specs.Refusal.{number}
use Rattle.plan.specs.Returned.{number_of}
use Rattle.plan.specs.declared.Refusal.{Refusal}
use Rattle.plan.specs.declared.Refusal.TheVariants as refusal
use Rattle.answer.specs.Block.{block_of, answer_of}
use Rattle.answer.specs.declared.Answer.{Answer}
use Rattle.answer.proofs.Blocks.{length_block, answer_block}
use Rattle.readback.specs.Reading.{runin_of, loop_of, written}
use Rattle.readback.specs.Block as reply
use Rattle.readback.specs.Block.{said, said_by}
use Rattle.readback.specs.declared.Record.{Record}
use Rattle.readback.proofs.Blocks.{block_says, reply_narrow, length_block as length-reply}
use Rattle.checker.specs.Check.{Check, CheckOf}
use Rattle.checker.specs.Block as check_block
use Rattle.promise.specs.Promise.{AnswerTo}
use Rattle.promise.proofs.Bounds.{told_narrow}
use Rattle.moxiltra.specs.Entries.{Buffers, buffers, ByBlock, Answered, Promise, reply_to, Replied, Reading, Checked, Checking}

module _ (n : ℕ) (b b' : Buffers) (r : ℕ) (P : Type 0) where
  short : length b.block < n → r ≡ number refusal.BlockTooShort → b' ≡ b → ByBlock n b b' r P
  short h e same = rw (lt-ltb (length b.block) n h) (record { answer = e; untouched = same })

  long : n ≤ length b.block → P → ByBlock n b b' r P
  long h p = rw (le-ltb (length b.block) n h) p

  long_is : n ≤ length b.block → ByBlock n b b' r P → P
  long_is h p = rw (le-ltb (length b.block) n h) at p

pub block_short : (plan : List ℕ) (b : Buffers) → length b.block < 16 → (r : ℕ) → r ≡ number refusal.BlockTooShort → Promise plan b b r
unfolding Promise
block_short plan b h r e = short 16 b b r _ h e refl

pub block_told : (plan block runin loop block' runin' loop' : List ℕ) (a : Answer) → 16 ≤ length block
    → AnswerTo plan runin loop runin' loop' a → block' ≡ block_of a ++ drop 16 block → Promise plan (buffers block runin loop) (buffers block' runin' loop') a.number
unfolding Promise
block_told plan block runin loop block' runin' loop' a h t w =
    long 16 (buffers block runin loop) (buffers block' runin' loop') a.number _ h (record { answer = a; told = t; block = w; returned = refl })

pub reply_short : (text : List ℕ) (b : Buffers) → length b.block < 32 → (r : ℕ) → r ≡ number refusal.BlockTooShort → Reading text b b r
unfolding Reading
reply_short text b h r e = short 32 b b r _ h e refl

pub reply_told : (text block runin loop block' runin' loop' : List ℕ) (q : Result Record Refusal) (r : ℕ) → 32 ≤ length block
    → q ≡ reply_to text (buffers block runin loop) → runin' ≡ written q (runin_of text) runin → loop' ≡ written q (loop_of text) loop
    → block' ≡ reply.block_of q ++ drop 32 block → r ≡ number_of q
    → Reading text (buffers block runin loop) (buffers block' runin' loop') r
unfolding Reading
reply_told text block runin loop block' runin' loop' q r h e f g w n =
    long 32 (buffers block runin loop) (buffers block' runin' loop') r _ h (record { returned = n ∙ rw e; block = w ∙ rw e; runin = f ∙ rw e; loop = g ∙ rw e })

pub check_short : (plan runin loop block : List ℕ) → length block < 24 → (r : ℕ) → r ≡ number refusal.BlockTooShort → Checking plan runin loop block block r
unfolding Checking
check_short plan runin loop block h r e = short 24 (buffers block runin loop) (buffers block runin loop) r _ h e refl

pub check_told : (plan runin loop block block' : List ℕ) (c : Check) (r : ℕ) → 24 ≤ length block → CheckOf plan runin loop c
    → block' ≡ check_block.block_of c ++ drop 24 block → r ≡ number_of c → Checking plan runin loop block block' r
unfolding Checking
check_told plan runin loop block block' c r h t w n =
    long 24 (buffers block runin loop) (buffers block' runin loop) r _ h (record { check = c; told = t; returned = n; filled = w })

module _ (plan : List ℕ) (b b' : Buffers) (r : ℕ) (h : 16 ≤ length b.block) (P : Promise plan b b' r) where
  pub answered : Answered plan b b' r
  unfolding Promise
  answered = long_is 16 b b' r _ h P

  pub block_exact : answer_of (take 16 b'.block) ≡ answered.answer
  block_exact =
      let a = answered.answer in
      ap (λ x. answer_of (take 16 x)) answered.block
      ∙ ap answer_of (take_at (block_of a) (drop 16 b.block) 16 (length_block a))
      ∙ answer_block a (told_narrow plan b.runin b.loop b'.runin b'.loop a answered.told)

module _ (text : List ℕ) (b b' : Buffers) (r : ℕ) (h : 32 ≤ length b.block) (P : Reading text b b' r) where
  pub replied : Replied text b b' r
  unfolding Reading
  replied = long_is 32 b b' r _ h P

  pub reply_exact : length b.runin < 18446744073709551616 → length b.loop < 18446744073709551616
      → said_by (take 32 b'.block) ≡ said (reply_to text b)
  reply_exact few low =
      ap (λ x. said_by (take 32 x)) replied.block
      ∙ ap said_by (take_at (reply.block_of (reply_to text b)) (drop 32 b.block) 32 (length-reply (reply_to text b)))
      ∙ block_says (reply_to text b) (reply_narrow text (length b.runin) (length b.loop) few low)

pub check_is : (plan runin loop block block' : List ℕ) (r : ℕ) → 24 ≤ length block → Checking plan runin loop block block' r → Checked plan runin loop block block' r
unfolding Checking
check_is plan runin loop block block' r h P = long_is 24 (buffers block runin loop) (buffers block' runin loop) r _ h P
