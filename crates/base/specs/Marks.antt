-- Marks in a table of bytes, one after the other.
--   marks cell n l == l with 1 at each of cell 0 .. cell (n - 1); a cell past the end changes nothing
use Rattle.std.specs.Prelude.{List, ℕ, zero, suc, set}

unfoldable pub marks : (ℕ → ℕ) → ℕ → List ℕ → List ℕ
marks cell zero l = l
marks cell (suc n) l = set (marks cell n l) (cell n) 1
