-- The six lines that program plantour prints (01, "For the host and for the rig").
--   answer_key to loop_key  == the keys with their equals sign, in the order of the lines
--   figures a             == the four lines of an answer that hold a number
--   text_of a stem cycle   == all six lines
use Rattle.std.specs.Prelude.{List, [], ◌∷◌, ◌++◌, ℕ}
use Rattle.text.specs.Decimal.{decimal}
use Rattle.text.specs.KeyLine.{joined, key_line}
use Rattle.answer.specs.declared.Answer.{Answer}

abbrev pub answer_key : List ℕ
answer_key = 97 ∷ 110 ∷ 115 ∷ 119 ∷ 101 ∷ 114 ∷ 61 ∷ []

abbrev pub line_key : List ℕ
line_key = 108 ∷ 105 ∷ 110 ∷ 101 ∷ 61 ∷ []

abbrev pub cost_key : List ℕ
cost_key = 99 ∷ 111 ∷ 115 ∷ 116 ∷ 61 ∷ []

abbrev pub kept_key : List ℕ
kept_key = 107 ∷ 101 ∷ 112 ∷ 116 ∷ 61 ∷ []

abbrev pub runin_key : List ℕ
runin_key = 114 ∷ 117 ∷ 110 ∷ 105 ∷ 110 ∷ 61 ∷ []

abbrev pub loop_key : List ℕ
loop_key = 108 ∷ 111 ∷ 111 ∷ 112 ∷ 61 ∷ []

unfoldable pub figures : Answer → List ℕ
figures a =
    key_line answer_key (decimal a.number)
    ++ (key_line line_key (decimal a.line)
    ++ (key_line cost_key (decimal a.cost) ++ key_line kept_key (decimal a.kept)))

unfoldable pub text_of : Answer → List ℕ → List ℕ → List ℕ
text_of a stem cycle = figures a ++ (key_line runin_key (joined stem) ++ key_line loop_key (joined cycle))
