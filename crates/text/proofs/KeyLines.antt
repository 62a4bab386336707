-- The parts of lists and key lines, and how long they can be.
--   commaed_next   == from an entry on: a comma, the entry, and what is left behind it
--   joined_first   == numbers joined are the first and then the others behind commas
--   Bytes s        == every entry of s is a byte
--   joined_length  == four bytes are room for a byte in decimal and its comma
--   number_length  == ten bytes are room for a number of 32 bits
--   line_length    == the length of a line
use mathlib.Core.Path.{◌≡◌, refl}
use mathlib.Core.List.{List, [], ◌∷◌, ◌++◌}
use Prim.Native.Nat.{ℕ, suc, ◌+◌, ◌*◌, ◌≤◌, ◌<◌}
use native.Mathlib.Numerals.{add-one}
use native.Mathlib.Omega.{arith}
use lib.ListN.{length, drop, get_or, length-append}
use lib.Seq.{drop-cons}
use Rattle.text.proofs.Decimals.{decimal_length}
use Rattle.text.specs.Decimal.{decimal}
use Rattle.text.specs.KeyLine.{commaed, joined, key_line}

pub commaed_next : (ns : List ℕ) (i : ℕ) → i < length ns
    → commaed (drop i ns) ≡ 44 ∷ (decimal (get_or ns i 0) ++ commaed (drop (i + 1) ns))
unfolding commaed
commaed_next ns i h = rw (add-one i, drop-cons ns i 0 h)

pub joined_first : (ns : List ℕ) → 0 < length ns → joined ns ≡ decimal (get_or ns 0 0) ++ commaed (drop 1 ns)
unfolding joined
joined_first [] h = absurd (omega arith)
joined_first (n ∷ ns) h = refl

abbrev pub Bytes : List ℕ → Type 0
Bytes s = (i : ℕ) → get_or s i 0 < 256

commaed_length : (ns : List ℕ) → Bytes ns → length (commaed ns) ≤ 4 * length ns
unfolding commaed
commaed_length [] h = omega arith
commaed_length (n ∷ ns) h =
    simp length-append
    (omega (arith, decimal_length 3 n (omega arith) (omega (arith, h 0)), commaed_length ns (λ i. h (suc i))))

pub joined_length : (ns : List ℕ) → Bytes ns → length (joined ns) ≤ 4 * length ns
unfolding joined
joined_length [] h = omega arith
joined_length (n ∷ ns) h =
    simp length-append
    (omega (arith, decimal_length 3 n (omega arith) (omega (arith, h 0)), commaed_length ns (λ i. h (suc i))))

pub number_length : (x : ℕ) → x < 4294967296 → length (decimal x) ≤ 10
number_length x h = decimal_length 10 x (omega arith) (omega arith)

pub line_length : (key value : List ℕ) → length (key_line key value) ≡ length key + length value + 1
unfolding key_line
line_length key value = simp length-append (omega arith)
