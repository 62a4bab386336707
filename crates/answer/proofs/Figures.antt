-- Figures for the two forms of an answer, by computation.
--   figure_text  == the six lines that 01, "For the host and for the rig", prints of its plan without an accepted tour
--   figure_block == the block of an answer whose numbers take all their bytes
use mathlib.Core.Path.{◌≡◌, refl}
use mathlib.Core.List.{[], ◌∷◌, ◌++◌}
use Rattle.answer.specs.Block.{little, head_of, block_of}
use Rattle.text.specs.Decimal.{digits_of, decimal}
use Rattle.text.specs.KeyLine.{joined, key_line}
use Rattle.answer.specs.Text.{figures, text_of}
use Rattle.answer.specs.declared.Answer.{Answer}

abbrev pub refused : Answer
refused = record { number = 6; line = 0; cost = 0; kept = 0; count = 0; stem = 0; cycle = 0 }

-- answer=6, line=0, cost=0, kept=0, runin=, loop=
pub figure_text : text_of refused [] []
    ≡ (97 ∷ 110 ∷ 115 ∷ 119 ∷ 101 ∷ 114 ∷ 61 ∷ 54 ∷ 10 ∷ [])
    ++ ((108 ∷ 105 ∷ 110 ∷ 101 ∷ 61 ∷ 48 ∷ 10 ∷ [])
    ++ ((99 ∷ 111 ∷ 115 ∷ 116 ∷ 61 ∷ 48 ∷ 10 ∷ [])
    ++ ((107 ∷ 101 ∷ 112 ∷ 116 ∷ 61 ∷ 48 ∷ 10 ∷ [])
    ++ ((114 ∷ 117 ∷ 110 ∷ 105 ∷ 110 ∷ 61 ∷ 10 ∷ []) ++ (108 ∷ 111 ∷ 111 ∷ 112 ∷ 61 ∷ 10 ∷ [])))))
unfolding digits_of decimal joined key_line figures text_of
figure_text = refl

abbrev pub wide_answer : Answer
wide_answer =
    record { number = 0; line = 67305985; cost = 32000000; kept = 253; count = 7; stem = 2048; cycle = 20480 }

pub figure_block : block_of wide_answer
    ≡ 0 ∷ 253 ∷ 7 ∷ 0 ∷ 1 ∷ 2 ∷ 3 ∷ 4 ∷ 0 ∷ 72 ∷ 232 ∷ 1 ∷ 0 ∷ 8 ∷ 0 ∷ 80 ∷ []
unfolding little head_of block_of
figure_block = refl
