-- The lines of an answer: how long they can be, and the text as these lines.
--   figures_length == room for the lines that hold a number
--   text_length    == room for all six
--   lines_of, text_lines == the text as its six lines, one behind the other
use mathlib.Core.Path.{◌≡◌}
use mathlib.Core.List.{List, [], ◌++◌, append-nil, append_assoc}
use Prim.Native.Nat.{ℕ, ◌+◌, ◌*◌, ◌≤◌, ◌<◌}
use native.Mathlib.Omega.{arith}
use lib.ListN.{length, length-append}
use Rattle.text.specs.Decimal.{decimal}
use Rattle.text.specs.KeyLine.{joined, key_line}
use Rattle.text.proofs.KeyLines.{Bytes, joined_length, number_length, line_length}
use Rattle.answer.specs.Text.{answer_key, line_key, cost_key, kept_key, runin_key, loop_key, figures, text_of}
use Rattle.answer.specs.declared.Answer.{Answer}

pub figures_length : (a : Answer) → a.number < 4294967296 → a.line < 4294967296 → a.cost < 4294967296
    → a.kept < 4294967296 → length (figures a) ≤ 66
unfolding figures
figures_length a hn hl hc hk =
    simp (length-append, line_length)
    (omega (
      arith,
      number_length a.number hn,
      number_length a.line hl,
      number_length a.cost hc,
      number_length a.kept hk,
    ))

pub text_length : (a : Answer) (stem cycle : List ℕ) → length (figures a) ≤ 66 → Bytes stem → Bytes cycle
    → length (text_of a stem cycle) ≤ 79 + 4 * (length stem + length cycle)
unfolding text_of
text_length a stem cycle h hs hc =
    simp (length-append, line_length) (omega (arith, joined_length stem hs, joined_length cycle hc))

-- the room that `write_text` asks for is enough
pub text_room : (a : Answer) (stem cycle : List ℕ) (room : ℕ) → a.number < 4294967296 → a.line < 4294967296 → a.cost < 4294967296
    → a.kept < 4294967296 → Bytes stem → Bytes cycle → 128 + 4 * (length stem + length cycle) ≤ room → 0 + length (text_of a stem cycle) ≤ room
text_room a stem cycle room hn hl hc hk hs hy h = omega (arith, text_length a stem cycle (figures_length a hn hl hc hk) hs hy)

-- the text as its six lines, one behind the other
abbrev pub lines_of : Answer → List ℕ → List ℕ → List ℕ
lines_of a stem cycle =
    key_line answer_key (decimal a.number)
    ++ (key_line line_key (decimal a.line)
    ++ (key_line cost_key (decimal a.cost)
    ++ (key_line kept_key (decimal a.kept) ++ (key_line runin_key (joined stem) ++ (key_line loop_key (joined cycle) ++ [])))))

pub text_lines : (a : Answer) (stem cycle : List ℕ) → text_of a stem cycle ≡ lines_of a stem cycle
unfolding figures text_of
text_lines a stem cycle = simp (append_assoc, append-nil)
