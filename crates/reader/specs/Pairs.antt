-- Pairs of places, as the reader notes them: the pair a, b has the number a * 128 + b, and a bit in a list of words of 32 bits.
--   pair_of a b       == the number of the pair
--   noted words a b  == its bit is set
--   noted_of words xs == so that of the first two numbers of a line
--   noting words a b == the words once it is
--   Noted words P    == the pairs that are noted are those with the property P
use Rattle.std.specs.Prelude.{◌≡◌, Bool, List, ℕ, ◌+◌, ◌*◌, ◌/◌, ◌%◌, ◌^◌, ◌<◌, get_or, set}
use Rattle.std.specs.Int.Bits.{bit_or}
use Rattle.base.specs.Bits.{has_bit}
use Rattle.text.specs.declared.line.Numbers.{Numbers}

abbrev pub pair_of : ℕ → ℕ → ℕ
pair_of a b = a * 128 + b

abbrev pub noted : List ℕ → ℕ → ℕ → Bool
noted words a b = has_bit (get_or words (pair_of a b / 32) 0) (pair_of a b % 32)

abbrev pub noted_of : List ℕ → Numbers → Bool
noted_of words xs = noted words xs.first xs.second

abbrev pub noting : List ℕ → ℕ → ℕ → List ℕ
noting words a b = set words (pair_of a b / 32) (bit_or (get_or words (pair_of a b / 32) 0) (2 ^ (pair_of a b % 32)))

pub record Noted (words : List ℕ) (P : Numbers → Bool) : Type 0 where
  pub has : (xs : Numbers) → xs.first < 128 → xs.second < 128 → noted_of words xs ≡ P xs
