-- The state laws of the decimal scan: what one digit more, a byte that is no digit and the end of the text make of the
-- digit count and of the value, and what `number_at` comes to where the digits end. Holding the value at a bound M after
-- every digit gives the exact value held at M (`held`): once above M, a value only grows.
use mathlib.Core.Path.{◌≡◌, refl, sym, ap, ◌∙◌}
use mathlib.Core.List.{List, [], ◌∷◌}
use mathlib.Core.Bool.{Bool, true, false, cond, ◌&&◌}
use Prim.Native.Nat.{ℕ, ◌+◌, ◌-◌, ◌*◌, ◌≤◌, ◌<◌, min}
use native.Mathlib.Omega.{arith}
use native.Mathlib.Numerals.{add-one}
use native.Mathlib.Nat.{add-zero}
use native.Mathlib.Decide.{dec_lt, ℕ_discrete}
use lib.ListN.{length, take, drop, get_or, drop_of_length-le, length-drop}
use lib.Dec.{eqb, ltb, leb}
use lib.Pointwise.{pointwise}
use lib.Seq.{drop-cons, get_or-drop, take_all}
use borrow.Author.Tests.{lt-ltb, le-ltb, ltb-false, leb-true, le-leb, eq-eqb, ne_eqb}
use Rattle.std.specs.Char.{is_ascii_digit}
use Rattle.std.proofs.lemmas.Bool.{lt-leb}
use Rattle.std.proofs.lemmas.List.{drop_min}
use Rattle.std.specs.Prelude.{Some, None}
use Rattle.text.specs.Scan.{starts_with, is_digit, canonical, digit_count, value, leading, number_at, key_at, cap}

last_two : (t u : Bool) → cond t false u ≡ true → (t ≡ false) × (u ≡ true)
last_two true u e = let z : ◌≡◌ {A = ℕ} 0 1 = cc in absurd (omega arith)
last_two false u e = (refl, e)

-- a byte is a digit as the library tests it
pub ascii_digit : (b : ℕ) → is_ascii_digit b ≡ is_digit b
unfolding is_digit
ascii_digit b = by (dec_lt b 48)
  where
    by : Dec (b < 48) → is_ascii_digit b ≡ cond (ltb b 48) false (leb b 57)
    by (yes h) = rw (lt-ltb b 48 h, lt-leb 48 b h)
    by (no h) = rw (le-ltb b 48 (omega arith), le-leb 48 b (omega arith))

flipped : (a b : ℕ) → eqb a b ≡ eqb b a
flipped a b = by (ℕ_discrete a b)
  where
    by : Dec (a ≡ b) → eqb a b ≡ eqb b a
    by (yes e) = rw (eq-eqb a b e, eq-eqb b a (sym e))
    by (no d) = rw (ne_eqb a b d, ne_eqb b a (λ e. d (sym e)))

-- a text begins with a key as the library tests it
pub begins : (key d : List ℕ) → pointwise eqb key (take (length key) d) ≡ starts_with key d
unfolding starts_with
begins [] d = refl
begins (k ∷ ks) [] = refl
begins (k ∷ ks) (b ∷ d) = rw (flipped k b) (by (eqb b k) (begins ks d))
  where
    by : (t : Bool) → pointwise eqb ks (take (length ks) d) ≡ starts_with ks d
        → (t && pointwise eqb ks (take (length ks) d)) ≡ cond t (starts_with ks d) false
    by true e = e
    by false e = refl

-- what stands from an index on, which may be past the text
pub tail : (s : List ℕ) (at i : ℕ) → i ≡ min at (length s) → take (length s - i) (drop i s) ≡ drop at s
tail s at i e = rw e (take_all (length s - min at (length s)) (drop (min at (length s)) s) (simp length-drop (omega arith)) ∙ drop_min at s)

module _ (s : List ℕ) (at : ℕ) (key rest : List ℕ) (r : Bool) (e : r ≡ pointwise eqb key (take (length key) rest)) (f : rest ≡ drop at s) where
  same : starts_with key (drop at s) ≡ r
  same = sym (begins key (drop at s)) ∙ sym (rw (← f) e)

  pub key_found : r ≡ true → Some (at + length key) ≡ key_at s at key
  unfolding key_at
  key_found h = rw (same, h)

  pub key_missing : r ≡ false → None ≡ key_at s at key
  unfolding key_at
  key_missing h = rw (same, h)

pub digit_range : (b : ℕ) → is_digit b ≡ true → (48 ≤ b) × (b ≤ 57)
unfolding is_digit
digit_range b e = let h = last_two _ _ e in (ltb-false b 48 h.0, leb-true b 57 h.1)

module _ (M : ℕ) where
  held_more : (t : Bool) (v x : ℕ) (d : List ℕ) → ((w : ℕ) → min (value w d) M ≡ min (value (min w M) d) M)
      → min (cond t (value (v * 10 + x) d) v) M ≡ min (cond t (value (min v M * 10 + x) d) (min v M)) M
  held_more true v x d ih =
      let e : min (v * 10 + x) M ≡ min (min v M * 10 + x) M = omega arith in
      ih (v * 10 + x) ∙ ap (λ (w : ℕ). min (value w d) M) e ∙ sym (ih (min v M * 10 + x))
  held_more false v x d ih = omega arith

  held : (d : List ℕ) (v : ℕ) → min (value v d) M ≡ min (value (min v M) d) M
  unfolding value
  held [] v = omega arith
  held (b ∷ d) v = held_more (is_digit b) v (b - 48) d (held d)

module _ (s : List ℕ) (i : ℕ) where
  pub none_past : length s ≤ i → digit_count (drop i s) ≡ 0
  unfolding digit_count
  none_past h = rw (drop_of_length-le s h)

  module _ (h : i < length s) where
    module _ (e : is_digit (get_or s i 0) ≡ false) where
      pub none_here : digit_count (drop i s) ≡ 0
      unfolding digit_count
      none_here = rw (drop-cons s i 0 h, e)

      pub value_here : (v : ℕ) → value v (drop i s) ≡ v
      unfolding value
      value_here v = rw (drop-cons s i 0 h, e)

    module _ (e : is_digit (get_or s i 0) ≡ true) where
      pub digit_count_more : digit_count (drop i s) ≡ digit_count (drop (i + 1) s) + 1
      unfolding digit_count
      digit_count_more = rw (drop-cons s i 0 h, e, add-one i)

      value_more : (v : ℕ) → value v (drop i s) ≡ value (v * 10 + (get_or s i 0 - 48)) (drop (i + 1) s)
      unfolding value
      value_more v = rw (drop-cons s i 0 h, e, add-one i)

      pub held_value : (M v : ℕ) → min (value v (drop i s)) M ≡ min (value (min (v * 10 + (get_or s i 0 - 48)) M) (drop (i + 1) s)) M
      held_value M v = ap (λ (w : ℕ). min w M) (value_more v) ∙ held M (drop (i + 1) s) _

-- the digits from `at` on end at index i
module _ (s : List ℕ) (at i e : ℕ) (from : at ≤ i) (count : digit_count (drop at s) ≡ i - at) where
  pub ends_text : length s ≤ i → None ≡ cap (number_at s at e)
  unfolding number_at leading cap
  ends_text h = let g : length (drop at s) ≤ i - at = simp length-drop (omega arith) in rw (count, le-ltb _ _ g)

  first : get_or (drop at s) 0 0 ≡ get_or s at 0
  first = rw (get_or-drop at s 0 0, add-zero at)

  last : get_or (drop at s) (i - at) 0 ≡ get_or s i 0
  last = get_or-drop at s (i - at) 0 ∙ ap (λ (k : ℕ). get_or s k 0) (omega arith)

  module _ (h : i < length s) where
    inside : i - at < length (drop at s)
    inside = simp length-drop (omega arith)

    pub ends_otherwise : (get_or s i 0 ≡ e → ⊥) → None ≡ cap (number_at s at e)
    unfolding number_at leading cap
    ends_otherwise k = rw (count, lt-ltb _ _ inside, last, ne_eqb _ _ k)

    module _ (k : get_or s i 0 ≡ e) where
      pub not_canonical : canonical (get_or s at 0) (i - at) ≡ false → None ≡ cap (number_at s at e)
      unfolding number_at leading cap
      not_canonical c = rw (count, lt-ltb _ _ inside, last, eq-eqb _ _ k, first, c)

      pub number_read : canonical (get_or s at 0) (i - at) ≡ true → (v : ℕ) → v ≡ min (value 0 (drop at s)) 4000000000
          → Some (v, i + 1) ≡ cap (number_at s at e)
      unfolding number_at leading cap
      number_read c v w =
          let j : at + (i - at) + 1 ≡ i + 1 = omega arith in
          rw (count, lt-ltb _ _ inside, last, eq-eqb _ _ k, first, c, w, j)
