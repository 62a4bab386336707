-- A number that is written is read back: at any index, behind it any byte that is no digit (`read_back`), and as no number that another
-- byte should end (`number_other`).
--   Digits s          == every byte of s is a digit
--   count_append      == the digits in front and then those of the rest are counted
--   value_append      == and the rest goes on with their value
--   decimal_digits    == a number in decimal is digits
--   decimal_value     == and they say it
--   decimal_canonical == and they have no leading zero
use mathlib.Core.Path.{◌≡◌, refl, ◌∙◌}
use mathlib.Core.Bool.{Bool, true, false, cond}
use mathlib.Core.List.{List, [], ◌∷◌, ◌++◌}
use Prim.Native.Nat.{ℕ, zero, suc, ◌+◌, ◌*◌, ◌/◌, ◌%◌, ◌<◌}
use native.Mathlib.Nat.{add-zero, div-add-mod', mod-lt}
use native.Mathlib.Omega.{arith}
use borrow.Author.Tests.{lt-ltb, le-ltb, le-leb, eq-eqb, ne_eqb}
use lib.ListN.{length, drop, get_or, length-append, get_or-append}
use lib.Seq.{get_or-append_seam}
use lib.Dec.{eqb}
use Rattle.std.specs.Prelude.{Some, None}
use Rattle.text.specs.Scan.{is_digit, canonical, digit_count, value, leading, number_at}
use Rattle.text.specs.Decimal.{decimal}
use Rattle.text.proofs.Decimals.{decimal_small, decimal_more, decimal_each, decimal_some, decimal_lead}

abbrev Digits : List ℕ → Type 0
Digits s = digit_count s ≡ length s

first_digit : (b : ℕ) (s : List ℕ) → Digits (b ∷ s) → (is_digit b ≡ true) × Digits s
unfolding digit_count
first_digit b s e = by (is_digit b) e
  where
    by : (t : Bool) → cond t (digit_count s + 1) 0 ≡ suc (length s) → (t ≡ true) × Digits s
    by true h = (refl, omega arith)
    by false h = absurd (omega arith)

count_append : (s t : List ℕ) → Digits s → digit_count (s ++ t) ≡ length s + digit_count t
unfolding digit_count
count_append [] t h = omega arith
count_append (b ∷ s) t h =
    let d = first_digit b s h in
    rw (d.0, count_append s t d.1) (omega arith)

value_append : (s t : List ℕ) (v : ℕ) → Digits s → value v (s ++ t) ≡ value (value v s) t
unfolding value
value_append [] t v h = refl
value_append (b ∷ s) t v h =
    let d = first_digit b s h in
    rw d.0 (value_append s t _ d.1)

-- the byte of a digit d
module _ (d : ℕ) (h : d < 10) where
  glyph_digit : is_digit (48 + d) ≡ true
  unfolding is_digit
  glyph_digit = rw (le-ltb (48 + d) 48 (omega arith), le-leb (48 + d) 57 (omega arith))

  glyph_count : digit_count ((48 + d) ∷ []) ≡ 1
  unfolding digit_count
  glyph_count = rw glyph_digit

  glyph_value : (v : ℕ) → value v ((48 + d) ∷ []) ≡ v * 10 + d
  unfolding value
  glyph_value v = rw glyph_digit (omega arith)

decimal_digits : (n : ℕ) → Digits (decimal n)
decimal_digits =
    decimal_each (λ n. Digits (decimal n)) (λ n h. rw (decimal_small n h) (glyph_count n h))
    (λ n h tenth.
    rw (decimal_more n h, count_append (decimal (n / 10)) _ tenth, length-append, glyph_count (n % 10) (mod-lt n (omega arith))))

decimal_value : (n : ℕ) → value 0 (decimal n) ≡ n
decimal_value =
    decimal_each (λ n. value 0 (decimal n) ≡ n) (λ n h. rw (decimal_small n h, glyph_value n h 0) (omega arith))
    (λ n h tenth.
    rw (decimal_more n h, value_append (decimal (n / 10)) _ 0 (decimal_digits (n / 10)), tenth, glyph_value (n % 10) (mod-lt n (omega arith)) (n / 10))
    (div-add-mod' n 10))

decimal_canonical : (n : ℕ) → canonical (get_or (decimal n) 0 0) (length (decimal n)) ≡ true
unfolding canonical
decimal_canonical zero = rw (decimal_small 0 (omega arith))
decimal_canonical (suc n) =
    rw (
      ne_eqb (length (decimal (suc n))) 0 (λ e. omega (arith, decimal_some (suc n))),
      ne_eqb (get_or (decimal (suc n)) 0 0) 48 (λ e. omega (arith, decimal_lead (suc n) (omega arith))),
    )

module _ (n e : ℕ) (rest : List ℕ) (h : is_digit e ≡ false) where
  abbrev whole : List ℕ
  whole = decimal n ++ (e ∷ rest)

  whole_count : digit_count whole ≡ length (decimal n)
  unfolding digit_count
  whole_count = count_append (decimal n) (e ∷ rest) (decimal_digits n) ∙ rw (h, add-zero)

  whole_value : value 0 whole ≡ n
  unfolding value
  whole_value = value_append (decimal n) (e ∷ rest) 0 (decimal_digits n) ∙ rw (h, decimal_value n)

  whole_longer : length (decimal n) < length whole
  whole_longer = rw (length-append (decimal n)) (omega arith)

  pub read_back : (s : List ℕ) (at : ℕ) → drop at s ≡ whole → number_at s at e ≡ Some (n, at + length (decimal n) + 1)
  unfolding number_at leading
  read_back s at k =
      rw (
        k,
        whole_count,
        whole_value,
        lt-ltb _ _ whole_longer,
        get_or-append_seam (decimal n) e rest 0,
        eq-eqb e e refl,
        get_or-append (decimal n) (e ∷ rest) 0 0 (decimal_some n),
        decimal_canonical n,
      )

  pub number_other : (s : List ℕ) (at f : ℕ) → drop at s ≡ whole → eqb e f ≡ false → number_at s at f ≡ None
  unfolding number_at leading
  number_other s at f k other = rw (k, whole_count, lt-ltb _ _ whole_longer, get_or-append_seam (decimal n) e rest 0, other)
