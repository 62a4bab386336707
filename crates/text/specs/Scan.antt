-- Keys, decimal numbers and line numbers of a text (01, "The plan file").
--   starts_with key d   == d begins with key
--   is_digit b          == b is an ASCII digit
--   canonical f n      == n digits, of which f is the first, are a number: there is one, and no leading zero
--   digit_count d       == how many digits d begins with
--   value v d          == what v and then those digits write in decimal, exactly, at any digit count
--   Number             == a number with the index just past it; None where there is none of good form
--   pick t n           == n if t, and None if not
--   leading d at e     == the number that d begins with, where d stands at index `at` of a text
--   number_at s at e    == the number at index `at` of s, ended by the byte e, with the index just past e; None if none is there
--   key_at s at key     == the index just past the key, if it stands at index `at` of s
--   first_number s k e  == the number behind the key that ends before index k, ended by the byte e; None if there is no key
--   next_number s n e   == the number behind n, ended by the byte e; None if n is: a chain of numbers stays so
--   else_number s n m e == where n is None, the number behind m, ended by the byte e; else None
--   either n m         == n, or where it is None m
--   value_of n          == the value of a number, 0 of None
--   cap n              == n with its value held at 4,000,000,000; no part of the format, it says what the code knows of a number
--   newline b          == 1 for the byte 10, 0 for any other
--   newlines d         == how many bytes of d are 10
--   line_at s at        == the line, from 1, that begins at index `at` of s
use Rattle.std.specs.Prelude.{Bool, true, false, cond, List, [], ◌∷◌, ℕ, ◌+◌, ◌-◌, ◌*◌, min, take, drop, get_or, length, ltb, leb, eqb, Option, Some, None}

unfoldable pub starts_with : List ℕ → List ℕ → Bool
starts_with [] d = true
starts_with (k ∷ ks) [] = false
starts_with (k ∷ ks) (b ∷ d) = cond (eqb b k) (starts_with ks d) false

unfoldable pub is_digit : ℕ → Bool
is_digit b = cond (ltb b 48) false (leb b 57)

unfoldable pub canonical : ℕ → ℕ → Bool
canonical f n = cond (eqb n 0) false (cond (eqb f 48) (eqb n 1) true)

unfoldable pub digit_count : List ℕ → ℕ
digit_count [] = 0
digit_count (b ∷ d) = cond (is_digit b) (digit_count d + 1) 0

unfoldable pub value : ℕ → List ℕ → ℕ
value v [] = v
value v (b ∷ d) = cond (is_digit b) (value (v * 10 + (b - 48)) d) v

abbrev pub Number : Type 0
Number = Option (ℕ × ℕ)

abbrev pub pick : {T : Type 0} → Bool → Option T → Option T
pick true n = n
pick false n = None

unfoldable pub leading : List ℕ → ℕ → ℕ → Number
leading d at e =
    pick (ltb (digit_count d) (length d))
    (pick (eqb (get_or d (digit_count d) 0) e) (pick (canonical (get_or d 0 0) (digit_count d)) (Some (value 0 d, at + digit_count d + 1))))

unfoldable pub number_at : List ℕ → ℕ → ℕ → Number
number_at s at e = leading (drop at s) at e

unfoldable pub key_at : List ℕ → ℕ → List ℕ → Option ℕ
key_at s at key = pick (starts_with key (drop at s)) (Some (at + length key))

abbrev pub first_number : List ℕ → Option ℕ → ℕ → Number
first_number s (Some i) e = number_at s i e
first_number s None e = None

abbrev pub next_number : List ℕ → Number → ℕ → Number
next_number s (Some (v, i)) e = number_at s i e
next_number s None e = None

abbrev pub else_number : List ℕ → Number → Number → ℕ → Number
else_number s (Some (v, i)) m e = None
else_number s None m e = next_number s m e

abbrev pub either : Number → Number → Number
either (Some (v, i)) m = Some (v, i)
either None m = m

abbrev pub value_of : Number → ℕ
value_of (Some (v, i)) = v
value_of None = 0

unfoldable pub cap : Number → Number
cap (Some (v, i)) = Some (min v 4000000000, i)
cap None = None

abbrev pub newline : ℕ → ℕ
newline b = cond (eqb b 10) 1 0

unfoldable pub newlines : List ℕ → ℕ
newlines [] = 0
newlines (b ∷ d) = newline b + newlines d

unfoldable pub line_at : List ℕ → ℕ → ℕ
line_at s at = 1 + newlines (take at s)
