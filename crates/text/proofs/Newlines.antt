-- The state laws of the count of line ends, and that a line's number is at least 1 and at most one above the text's length.
use mathlib.Core.Path.{◌≡◌, refl, ap, ◌∙◌}
use mathlib.Core.List.{List, [], ◌∷◌}
use mathlib.Core.Bool.{Bool, true, false, cond}
use Prim.Native.Nat.{ℕ, suc, ◌+◌, ◌-◌, ◌≤◌, ◌<◌, min}
use native.Mathlib.Decide.{dec_lt}
use native.Mathlib.Omega.{arith}
use native.Mathlib.Numerals.{add-one}
use lib.ListN.{length, take, drop, get_or, drop_of_length-le, length-take}
use lib.Dec.{eqb}
use borrow.Author.Tests.{eq-eqb, ne_eqb}
use lib.Seq.{drop-cons, take-nil}
use Rattle.std.specs.List.{count_by}
use Rattle.std.proofs.lemmas.List.{get_or-take}
use Rattle.std.proofs.lemmas.List.Recursion.{is_count_by}
use Rattle.text.specs.Scan.{newline, newlines, line_at}

-- the line ends of a text, counted
pub newlines_count : (d : List ℕ) → newlines d ≡ count_by (λ b. eqb b 10) d
unfolding newlines
newlines_count = is_count_by newlines (λ b. eqb b 10) refl (λ b d. one (eqb b 10) (newlines d))
  where
    one : (t : Bool) (n : ℕ) → cond t 1 0 + n ≡ cond t (1 + n) n
    one true n = omega arith
    one false n = omega arith

pub line_counted : (s : List ℕ) (at n : ℕ) → n ≡ count_by (λ b. eqb b 10) (take at s) → 1 + n ≡ line_at s at
unfolding line_at
line_counted s at n e = rw (newlines_count (take at s), e)

pub line_start : (s : List ℕ) (at : ℕ) → line_at s at ≡ 1 + newlines (take (at - 0) (drop 0 s))
unfolding line_at
line_start s at = let e : at - 0 ≡ at = omega arith in rw e

module _ (s : List ℕ) (at i : ℕ) where
  pub newlines_more : i < at → i < length s
      → newlines (take (at - i) (drop i s)) ≡ newline (get_or s i 0) + newlines (take (at - (i + 1)) (drop (i + 1) s))
  unfolding newlines
  newlines_more h l = let e : at - i ≡ suc (at - (i + 1)) = omega arith in rw (e, drop-cons s i 0 l, add-one i)

  pub newlines_past : length s ≤ i → newlines (take (at - i) (drop i s)) ≡ 0
  unfolding newlines
  newlines_past h = rw (drop_of_length-le s h, take-nil)

  pub newlines_done : at ≤ i → newlines (take (at - i) (drop i s)) ≡ 0
  unfolding newlines
  newlines_done h = let e : at - i ≡ 0 = omega arith in rw e

-- the line ends before index `at`, entry by entry, of which there are m: on by one that is a line end, and by another; none is left at the end
module _ (s : List ℕ) (at m : ℕ) (many : m ≡ min at (length s)) where
  newlines_on : (i : ℕ) → i < length (take m s)
      → newlines (take (at - i) (drop i s)) ≡ newline (get_or (take m s) i 0) + newlines (take (at - (i + 1)) (drop (i + 1) s))
  newlines_on i h =
      let inside : i < m = omega (arith, length-take m s) in
      rw (get_or-take m s i 0 inside) (newlines_more s at i (omega arith) (omega arith))

  pub newlines_end : (i : ℕ) → i < length (take m s) → get_or (take m s) i 0 ≡ 10
      → newlines (take (at - i) (drop i s)) ≡ 1 + newlines (take (at - (i + 1)) (drop (i + 1) s))
  newlines_end i h e = newlines_on i h ∙ ap (λ t. cond t 1 0 + newlines (take (at - (i + 1)) (drop (i + 1) s))) (eq-eqb _ _ e)

  pub newlines_else : (i : ℕ) → i < length (take m s) → (get_or (take m s) i 0 ≡ 10 → ⊥)
      → newlines (take (at - i) (drop i s)) ≡ newlines (take (at - (i + 1)) (drop (i + 1) s))
  newlines_else i h d =
      let none : newline (get_or (take m s) i 0) ≡ 0 = ap (λ t. cond t 1 0) (ne_eqb _ _ d) in
      omega (arith, newlines_on i h, none)

  pub newlines_all : (i : ℕ) → length (take m s) ≤ i → newlines (take (at - i) (drop i s)) ≡ 0
  newlines_all i h = by (dec_lt i at)
    where
      by : Dec (i < at) → newlines (take (at - i) (drop i s)) ≡ 0
      by (yes l) = newlines_past s at i (omega (arith, length-take m s))
      by (no d) = newlines_done s at i (omega arith)

newline_most : (b : ℕ) → newline b ≤ 1
newline_most b = by_test (eqb b 10)
  where
    by_test : (t : Bool) → cond t 1 0 ≤ 1
    by_test true = omega arith
    by_test false = omega arith

newlines_most : (d : List ℕ) → newlines d ≤ length d
unfolding newlines
newlines_most [] = omega arith
newlines_most (b ∷ d) = omega (arith, newline_most b, newlines_most d)

pub line_least : (s : List ℕ) (at : ℕ) → 1 ≤ line_at s at
unfolding line_at
line_least s at = omega arith

pub line_most : (s : List ℕ) (at : ℕ) → line_at s at ≤ length s + 1
unfolding line_at
line_most s at = omega (arith, newlines_most (take at s), length-take at s)
