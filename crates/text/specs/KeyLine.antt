-- Lists of numbers and key lines as text.
--   commaed ns        == each number of ns in decimal behind a comma
--   joined ns         == the numbers ns in decimal, joined by commas
--   key_line key value == a key, its value, and the end of the line
use Rattle.std.specs.Prelude.{List, [], ◌∷◌, ◌++◌, ℕ}
use Rattle.text.specs.Decimal.{decimal}

unfoldable pub commaed : List ℕ → List ℕ
commaed [] = []
commaed (n ∷ ns) = 44 ∷ (decimal n ++ commaed ns)

unfoldable pub joined : List ℕ → List ℕ
joined [] = []
joined (n ∷ ns) = decimal n ++ commaed ns

unfoldable pub key_line : List ℕ → List ℕ → List ℕ
key_line key value = key ++ (value ++ (10 ∷ []))
