-- The laws of numbers in decimal, by induction on the number's tenth.
--   decimal_small  == a number below ten is its digit
--   decimal_more   == any other is its tenth and then its last digit
--   decimal_longer == and has one digit more than that
--   decimal_each   == what holds below ten, and of a number if of its tenth, holds of each
--   decimal_some   == there is a digit
--   decimal_lead   == the first digit is no 0, but for 0 itself
--   decimal_first  == the first byte is not below the byte of 0
--   decimal_length == a number below 10 ^ k has at most k digits
use mathlib.Core.Path.{◌≡◌, sym, ap, ◌∙◌}
use mathlib.Core.List.{[], ◌∷◌, ◌++◌}
use Prim.Native.Nat.{ℕ, zero, suc, ◌+◌, ◌*◌, ◌/◌, ◌%◌, ◌^◌, ◌≤◌, ◌<◌}
use native.Mathlib.Decide.{dec_lt}
use native.Mathlib.Nat.{div-lt_iff_lt-mul, pow-zero, pow-suc}
use native.Mathlib.Omega.{arith}
use borrow.Author.Tests.{lt-ltb, le-ltb}
use lib.ListN.{length, get_or, length-append, get_or-append}
use Rattle.text.specs.Decimal.{digits_of, decimal}

digits_small : (k n : ℕ) → n < 10 → digits_of (suc k) n ≡ (48 + n) ∷ []
unfolding digits_of
digits_small k n h = rw (lt-ltb n 10 h)

digits_more : (k n : ℕ) → 10 ≤ n → digits_of (suc k) n ≡ digits_of k (n / 10) ++ ((48 + n % 10) ∷ [])
unfolding digits_of
digits_more k n h = rw (le-ltb n 10 h)

-- more steps than are needed change nothing
digits_same : (j k n : ℕ) → n < j → n < k → digits_of j n ≡ digits_of k n
digits_same zero k n hj hk = absurd (omega arith)
digits_same (suc j) zero n hj hk = absurd (omega arith)
digits_same (suc j) (suc k) n hj hk = by (digits_same j k (n / 10)) (dec_lt n 10)
  where
    by : (n / 10 < j → n / 10 < k → digits_of j (n / 10) ≡ digits_of k (n / 10)) → Dec (n < 10)
        → digits_of (suc j) n ≡ digits_of (suc k) n
    by tenth (yes h) = digits_small j n h ∙ sym (digits_small k n h)
    by tenth (no h) =
        let big : 10 ≤ n = omega arith in
        rw (digits_more j n big, digits_more k n big, tenth (omega arith) (omega arith))

pub decimal_small : (n : ℕ) → n < 10 → decimal n ≡ (48 + n) ∷ []
unfolding decimal
decimal_small n h = digits_small n n h

pub decimal_more : (n : ℕ) → 10 ≤ n → decimal n ≡ decimal (n / 10) ++ ((48 + n % 10) ∷ [])
unfolding decimal
decimal_more n h =
    rw (digits_more n n h, digits_same n (suc (n / 10)) (n / 10) (omega arith) (omega arith))

pub decimal_longer : (n : ℕ) → 10 ≤ n → length (decimal n) ≡ length (decimal (n / 10)) + 1
decimal_longer n h = ap length (decimal_more n h) ∙ simp length-append

module _ (P : ℕ → Type 0) (small : (n : ℕ) → n < 10 → P n) (more : (n : ℕ) → 10 ≤ n → P (n / 10) → P n) where
  each_below : (k n : ℕ) → n < k → P n
  each_below zero n h = absurd (omega arith)
  each_below (suc k) n h = by (each_below k (n / 10)) (dec_lt n 10)
    where
      by : (n / 10 < k → P (n / 10)) → Dec (n < 10) → P n
      by tenth (yes s) = small n s
      by tenth (no s) = more n (omega arith) (tenth (omega arith))

  pub decimal_each : (n : ℕ) → P n
  decimal_each n = each_below (suc n) n (omega arith)

pub decimal_some : (n : ℕ) → 0 < length (decimal n)
decimal_some =
    decimal_each (λ n. 0 < length (decimal n))
    (λ n h. rw (decimal_small n h) (omega arith))
    (λ n h tenth. rw (decimal_more n h) (simp length-append (omega arith)))

pub decimal_lead : (n : ℕ) → 0 < n → 48 < get_or (decimal n) 0 0
decimal_lead =
    decimal_each (λ n. 0 < n → 48 < get_or (decimal n) 0 0)
    (λ n h some. rw (decimal_small n h) (omega arith))
    (λ n h tenth some.
    rw (decimal_more n h, get_or-append (decimal (n / 10)) ((48 + n % 10) ∷ []) 0 0 (decimal_some (n / 10)))
    (tenth (omega arith)))

pub decimal_first : (n : ℕ) → 48 ≤ get_or (decimal n) 0 0
decimal_first zero = rw (decimal_small 0 (omega arith)) (omega arith)
decimal_first (suc n) = omega (arith, decimal_lead (suc n) (omega arith))

pub decimal_length : (k n : ℕ) → 0 < k → n < 10 ^ k → length (decimal n) ≤ k
decimal_length zero n some h = absurd (omega arith)
decimal_length (suc k) n some h = by (decimal_length k (n / 10)) (dec_lt n 10)
  where
    by : (0 < k → n / 10 < 10 ^ k → length (decimal (n / 10)) ≤ k) → Dec (n < 10) → length (decimal n) ≤ suc k
    by tenth (yes s) = rw (decimal_small n s) (omega arith)
    by tenth (no s) =
        let above : n < 10 ^ k * 10 = rw (pow-suc 10 k) at h in
        let below : n / 10 < 10 ^ k = (div-lt_iff_lt-mul {k = 10} {x = n} {y = 10 ^ k} (omega arith)).1 above in
        rw (decimal_more n (omega arith)) (simp length-append (omega (arith, tenth (positive k below) below)))
      where
        positive : (j : ℕ) → n / 10 < 10 ^ j → 0 < j
        positive zero z = absurd (omega (arith, pow-zero 10))
        positive (suc j) z = omega arith
