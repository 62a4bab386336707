-- Numbers as text.
--   digits_of k n  == the decimal digits of n as bytes, the highest first, k steps of division allowed
--   decimal n     == n in decimal without a leading zero; 0 itself is one digit
use Rattle.std.specs.Prelude.{cond, List, [], ◌∷◌, ◌++◌, ℕ, zero, suc, ◌+◌, ◌/◌, ◌%◌, ltb}

unfoldable pub digits_of : ℕ → ℕ → List ℕ
digits_of zero n = []
digits_of (suc k) n = cond (ltb n 10) ((48 + n) ∷ []) (digits_of k (n / 10) ++ ((48 + n % 10) ∷ []))

-- a number has no more digits than its own value and one
unfoldable pub decimal : ℕ → List ℕ
decimal n = digits_of (suc n) n
