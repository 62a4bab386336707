-- The block of a reply (02, note 2, for a host), and what its bytes say.
--   block_of q == its thirty-two bytes
--   Said      == the numbers of a block: the reply's number and line, and of the answer that was read its number, line, cost, kept, and the
--                lengths of run-in and loop
--   said q    == those of a reply
--   said_by b  == those that the bytes b say
use Rattle.std.specs.Prelude.{List, ◌++◌, ℕ, take, drop, Result}
use Rattle.answer.specs.Block as bytes
use Rattle.answer.specs.Block.{little, head_of}
use Rattle.plan.specs.Returned.{number_of, line_of}
use Rattle.readback.specs.Reply.{record_of}
use Rattle.readback.specs.declared.Record.{Record}
use Rattle.plan.specs.declared.Refusal.{Refusal}

-- of the head, byte 2 the answer's number; 12..15 the answer's line, 16..23 run-in length, 24..31 loop length
unfoldable pub block_of : Result Record Refusal → List ℕ
block_of q =
    let x = record_of q in
    head_of (number_of q) x.kept x.number (line_of q) x.cost ++ (little 4 x.line ++ (little 8 x.stem ++ little 8 x.cycle))

pub record Said : Type 0 where
  pub number : ℕ
  pub line : ℕ
  pub answer : Record

abbrev pub said : Result Record Refusal → Said
said q = record { number = number_of q; line = line_of q; answer = record_of q }

unfoldable pub said_by : List ℕ → Said
said_by b =
    record {
      number = bytes.number (take 1 b);
      line = bytes.number (take 4 (drop 4 b));
      answer = record {
        number = bytes.number (take 1 (drop 2 b));
        line = bytes.number (take 4 (drop 12 b));
        cost = bytes.number (take 4 (drop 8 b));
        kept = bytes.number (take 1 (drop 1 b));
        stem = bytes.number (take 8 (drop 16 b));
        cycle = bytes.number (take 8 (drop 24 b));
      };
    }
