-- The block of a check (02, note 4, for a host).
--   flag b         == 1 if b holds, else 0
--   block_of c     == its twenty-four bytes
use Rattle.std.specs.Prelude.{Bool, cond, List, ◌++◌, ℕ}
use Rattle.answer.specs.Block.{little, head_of}
use Rattle.plan.specs.Returned.{number_of, line_of, index_of}
use Rattle.checker.specs.Check.{Check, worth_of}

abbrev pub flag : Bool → ℕ
flag b = cond b 1 0

-- of the head, byte 2 is 1 if the hard rule accepts; 12..15 zero, 16..23 index
unfoldable pub block_of : Check → List ℕ
block_of c =
    let w = worth_of c in
    head_of (number_of c) w.kept (flag w.accepts) (line_of c) w.cost ++ (little 4 0 ++ little 8 (index_of c))
