-- Bits of a number.
--   bit m i     == bit i of m, 0 or 1
--   has_bit m i  == bit i of m is set
--   Members m P == m is the set of the numbers with the property P, as bits
use Rattle.std.specs.Prelude.{◌≡◌, Bool, ℕ, zero, suc, ◌/◌, ◌%◌, eqb}

unfoldable pub bit : ℕ → ℕ → ℕ
bit m zero = m % 2
bit m (suc i) = bit (m / 2) i

abbrev pub has_bit : ℕ → ℕ → Bool
has_bit m i = eqb (bit m i) 1

pub record Members (m : ℕ) (P : ℕ → Bool) : Type 0 where
  pub has : (i : ℕ) → has_bit m i ≡ P i
