-- A number that is read is what writing it gives: the other half of `ReadBack`.
--   digit_back   == a digit more behind a number that is not 0 is a digit more of the number
--   Back d       == so with all the digits that d begins with: behind a number v that is not 0, or if there are none
--   digits_back  == this holds of every d
--   canonical_is == digits that are a number: there is one, and if there are more, the first is no 0
--   number_back  == the digits that a text begins with, if they are a number, are its value in decimal
--   pick_value   == a test that leaves a value is passed
--   written_back == a number that is read stands there in decimal with the byte that ends it, and the index is just past that
use mathlib.Core.Path.{◌≡◌, refl, sym, ap, ◌∙◌}
use mathlib.Core.Bool.{Bool, true, false, cond}
use mathlib.Core.List.{List, [], ◌∷◌, ◌++◌, append-nil, append_assoc}
use Prim.Native.Nat.{ℕ, suc, ◌+◌, ◌-◌, ◌*◌, ◌≤◌, ◌<◌, min}
use native.Mathlib.Numerals.{add-one}
use native.Mathlib.Omega.{arith}
use borrow.Author.Tests.{ltb-true, eqb-true, eqb-false}
use lib.Arith.{digits_div, digits_mod}
use lib.Dec.{ltb, eqb}
use lib.ListN.{length, take, drop, get_or}
use lib.Seq.{length-take-le, split_at, drop-drop}
use Rattle.std.specs.Prelude.{Option, Some}
use Rattle.text.specs.Scan.{is_digit, canonical, digit_count, value, pick, leading, number_at, value_of}
use Rattle.text.specs.Decimal.{decimal}
use Rattle.text.proofs.Decimals.{decimal_small, decimal_more}
use Rattle.text.proofs.Held.{index_of}
use Rattle.text.proofs.Scans.{digit_range}

digit_back : (v b : ℕ) → 0 < v → is_digit b ≡ true → decimal (v * 10 + (b - 48)) ≡ decimal v ++ (b ∷ [])
digit_back v b some h =
    let r = digit_range b h in
    let low : b - 48 < 10 = omega arith in
    let same : 48 + (b - 48) ≡ b = omega arith in
    rw (decimal_more (v * 10 + (b - 48)) (omega arith), digits_div v low, digits_mod v low, same)

abbrev Back : List ℕ → Type 0
Back d = (v : ℕ) → min (digit_count d) 1 ≤ v → decimal (value v d) ≡ decimal v ++ take (digit_count d) d

digits_back : (d : List ℕ) → Back d
unfolding value digit_count
digits_back [] v some = sym (append-nil (decimal v))
digits_back (b ∷ d) v some = by (digits_back d) (is_digit b) refl
  where
    by : Back d → (t : Bool) → is_digit b ≡ t → decimal (value v (b ∷ d)) ≡ decimal v ++ take (digit_count (b ∷ d)) (b ∷ d)
    by rest true h =
        let more : 0 < v = omega (arith, rw h at some) in
        rw (h, add-one) (rest (v * 10 + (b - 48)) (omega arith) ∙ rw (digit_back v b more h, append_assoc))
    by rest false h = rw h (sym (append-nil (decimal v)))

canonical_is : (f n : ℕ) → canonical f n ≡ true → (0 < n) × (48 ≤ f → min (n - 1) 1 ≤ f - 48)
unfolding canonical
canonical_is f n c = by (eqb n 0) (eqb f 48) refl refl c
  where
    by : (t u : Bool) → eqb n 0 ≡ t → eqb f 48 ≡ u → cond t false (cond u (eqb n 1) true) ≡ true
        → (0 < n) × (48 ≤ f → min (n - 1) 1 ≤ f - 48)
    by true u h k e = let z : ◌≡◌ {A = ℕ} 0 1 = cc in absurd (omega arith)
    by false true h k e = omega (arith, eqb-false n 0 h, eqb-true n 1 e)
    by false false h k e = omega (arith, eqb-false n 0 h, eqb-false f 48 k)

number_back : (d : List ℕ) → canonical (get_or d 0 0) (digit_count d) ≡ true → decimal (value 0 d) ≡ take (digit_count d) d
unfolding value digit_count
number_back [] c = absurd (omega (arith, canonical_is 0 0 c))
number_back (b ∷ d) c = by (is_digit b) refl
  where
    by : (t : Bool) → is_digit b ≡ t → decimal (value 0 (b ∷ d)) ≡ take (digit_count (b ∷ d)) (b ∷ d)
    by true h =
        let r = digit_range b h in
        let f = (canonical_is b (digit_count d + 1) (rw h at c)).1 r.0 in
        let x = 0 * 10 + (b - 48) in
        let same : 48 + x ≡ b = omega arith in
        rw (h, add-one) (digits_back d x (omega arith) ∙ rw (decimal_small x (omega arith), same))
    by false h = absurd (omega (arith, canonical_is b 0 (rw h at c)))

pub pick_value : {T : Type 0} (t : Bool) (n : Option T) (x : T) → pick t n ≡ Some x → (t ≡ true) × (n ≡ Some x)
pick_value true n x e = (refl, e)
pick_value false n x e = let z : ◌≡◌ {A = ℕ} 0 1 = cc in absurd (omega arith)

pub written_back : (s : List ℕ) (at e v i : ℕ) → number_at s at e ≡ Some (v, i)
    → (drop at s ≡ decimal v ++ (e ∷ drop i s)) × (i ≡ at + length (decimal v) + 1)
unfolding number_at leading
written_back s at e v i k =
    let d = drop at s in
    let n = digit_count d in
    let inside = pick_value (ltb n (length d)) _ (v, i) k in
    let ended = pick_value (eqb (get_or d n 0) e) _ (v, i) inside.1 in
    let good = pick_value (canonical (get_or d 0 0) n) _ (v, i) ended.1 in
    let fits : n < length d = ltb-true n (length d) inside.0 in
    let past : at + n + 1 ≡ i = ap index_of good.1 in
    let same : value 0 d ≡ v = ap value_of good.1 in
    let digits : decimal v ≡ take n d = rw same at (number_back d good.0) in
    let count : length (decimal v) ≡ n = ap length digits ∙ length-take-le n d (omega arith) in
    let there : at + suc n ≡ i = omega arith in
    (split_at d n 0 fits ∙ rw (digits, eqb-true (get_or d n 0) e ended.0, drop-drop (suc n) at s, there), omega arith)
