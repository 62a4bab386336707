-- The answer block (01, "For the host and for the rig"), and what its bytes say.
--   little n x   == the n lowest bytes of x, the lowest first
--   head_of n kept third line cost
--                == the twelve bytes that a block of numbers begins with
--   block_of a    == the sixteen bytes of the answer a
--   number bytes == the number that bytes say, the lowest first
--   answer_of b   == the answer that a block's bytes say
--   Narrow a     == each number of a has room in its bytes
use Rattle.std.specs.Prelude.{List, [], ◌∷◌, ◌++◌, ℕ, zero, suc, ◌+◌, ◌*◌, ◌/◌, ◌%◌, ◌<◌, take, drop}
use Rattle.answer.specs.declared.Answer.{Answer}

unfoldable pub little : ℕ → ℕ → List ℕ
little zero x = []
little (suc n) x = x % 256 ∷ little n (x / 256)

-- byte 0 the number, 1 kept, 2 what the block has there, 3 zero, 4..7 line, 8..11 cost
unfoldable pub head_of : ℕ → ℕ → ℕ → ℕ → ℕ → List ℕ
head_of n kept third line cost = little 1 n ++ (little 1 kept ++ (little 1 third ++ (0 ∷ (little 4 line ++ little 4 cost))))

-- of the head, byte 2 the count of kept; 12..13 run-in length, 14..15 loop length
unfoldable pub block_of : Answer → List ℕ
block_of a = head_of a.number a.kept a.count a.line a.cost ++ (little 2 a.stem ++ little 2 a.cycle)

unfoldable pub number : List ℕ → ℕ
number [] = 0
number (b ∷ bs) = number bs * 256 + b

unfoldable pub answer_of : List ℕ → Answer
answer_of b =
    record {
      number = number (take 1 b);
      line = number (take 4 (drop 4 b));
      cost = number (take 4 (drop 8 b));
      kept = number (take 1 (drop 1 b));
      count = number (take 1 (drop 2 b));
      stem = number (take 2 (drop 12 b));
      cycle = number (take 2 (drop 14 b));
    }

pub record Narrow (a : Answer) : Type 0 where
  pub number : a.number < 256
  pub line : a.line < 4294967296
  pub cost : a.cost < 4294967296
  pub kept : a.kept < 256
  pub count : a.count < 256
  pub stem : a.stem < 65536
  pub cycle : a.cycle < 65536
