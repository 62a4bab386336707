-- Sets of numbers as bits.
--   members_none, members_one == the empty set; the set of one number
--   has_or, has_and           == the members of two sets joined, and of what they share
--   members_or                == two sets joined
--   members_same              == the same set by another property
--   or_member                 == a member is joined to a set without a change
--   members_lt                == a set of numbers below n is below 2 ^ n
--   lowest-, without-lowest-  == a number that is not 0 has its lowest bit where its trailing zeros end; m AND (m - 1) has the other bits
use mathlib.Core.Path.{◌≡◌, refl, sym, ap, ◌∙◌}
use mathlib.Core.Bool.{Bool, true, false, ◌&&◌, ◌||◌}
use Prim.Native.Nat.{ℕ, zero, suc, ◌+◌, ◌-◌, ◌/◌, ◌%◌, ◌^◌, ◌≤◌, ◌<◌, min, max}
use native.Mathlib.Nat.{pow-suc}
use native.Mathlib.Decide.{dec_lt, ℕ_discrete}
use native.Mathlib.Omega.{arith}
use borrow.Author.Tests.{eq-eqb, ne_eqb, eqb-true}
use lib.Bits.{bit_and, bit_or, and_le_r}
use lib.Count.{count_trailing_zeros, under}
use lib.Dec.{eqb}
use Rattle.base.specs.Bits.{bit, has_bit, Members}
use Rattle.base.proofs.Tests.{false_not_true}
use Rattle.base.proofs.Bits.{bit_lt, bit_zero, bit-and, bit-or, bit_ext, bits_lt, bit_add_same, bit_add_other}

pub members_none : Members 0 (λ i. false)
members_none = record { has = λ i. rw (bit_zero i) }

pub members_one : (i : ℕ) → Members (2 ^ i) (λ k. eqb i k)
members_one i = record { has = λ k. at k (ℕ_discrete i k) }
  where
    alone : 2 ^ i ≡ 0 + 2 ^ i
    alone = omega arith

    at : (k : ℕ) → Dec (i ≡ k) → has_bit (2 ^ i) k ≡ eqb i k
    at k (yes e) = rw (eq-eqb i k e, ← e) (eq-eqb _ _ (ap (λ m. bit m i) alone ∙ bit_add_same i 0 (bit_zero i)))
    at k (no e) =
        let z : bit (2 ^ i) k ≡ 0 = ap (λ m. bit m k) alone ∙ bit_add_other i k 0 (bit_zero i) (λ s. e (sym s)) ∙ bit_zero k in
        rw (ne_eqb i k e, z)

or_bits : (x y : ℕ) → x < 2 → y < 2 → eqb (max x y) 1 ≡ eqb x 1 || eqb y 1
or_bits zero y hx hy = let e : max 0 y ≡ y = omega arith in rw e
or_bits (suc zero) zero hx hy = refl
or_bits (suc zero) (suc zero) hx hy = refl
or_bits (suc zero) (suc (suc y)) hx hy = absurd (omega arith)
or_bits (suc (suc x)) y hx hy = absurd (omega arith)

pub has_or : (a b i : ℕ) → has_bit (bit_or a b) i ≡ has_bit a i || has_bit b i
has_or a b i = ap (λ m. eqb m 1) (bit-or a b i) ∙ or_bits (bit a i) (bit b i) (bit_lt a i) (bit_lt b i)

and_bits : (x y : ℕ) → x < 2 → y < 2 → eqb (min x y) 1 ≡ eqb x 1 && eqb y 1
and_bits zero y hx hy = let e : min 0 y ≡ 0 = omega arith in rw e
and_bits (suc zero) zero hx hy = refl
and_bits (suc zero) (suc zero) hx hy = refl
and_bits (suc zero) (suc (suc y)) hx hy = absurd (omega arith)
and_bits (suc (suc x)) y hx hy = absurd (omega arith)

pub has_and : (a b i : ℕ) → has_bit (bit_and a b) i ≡ has_bit a i && has_bit b i
has_and a b i = ap (λ m. eqb m 1) (bit-and a b i) ∙ and_bits (bit a i) (bit b i) (bit_lt a i) (bit_lt b i)

pub members_or : {a b : ℕ} {P Q : ℕ → Bool} → Members a P → Members b Q → Members (bit_or a b) (λ i. P i || Q i)
members_or {a} {b} p q = record { has = λ i. has_or a b i ∙ rw (p.has i, q.has i) }

pub members_same : {m : ℕ} {P Q : ℕ → Bool} → ((i : ℕ) → P i ≡ Q i) → Members m P → Members m Q
members_same e p = record { has = λ i. p.has i ∙ e i }

bit_unset : (m i : ℕ) → has_bit m i ≡ false → bit m i ≡ 0
bit_unset m i h = at (ℕ_discrete (bit m i) 1)
  where
    at : Dec (bit m i ≡ 1) → bit m i ≡ 0
    at (yes e) = absurd (false_not_true (eq-eqb _ _ e) h)
    at (no e) = omega (arith, bit_lt m i)

pub or_member : (m i : ℕ) → has_bit m i ≡ true → bit_or m (2 ^ i) ≡ m
or_member m i h = bit_ext (bit_or m (2 ^ i)) m (λ k. bit-or m (2 ^ i) k ∙ at k (ℕ_discrete i k))
  where
    at : (k : ℕ) → Dec (i ≡ k) → max (bit m k) (bit (2 ^ i) k) ≡ bit m k
    at k (yes e) = rw (← e) (omega (arith, eqb-true (bit m i) 1 h, bit_lt (2 ^ i) i))
    at k (no e) = omega (arith, bit_unset (2 ^ i) k ((members_one i).has k ∙ ne_eqb i k e))

pub members_lt : {P : ℕ → Bool} (n m : ℕ) → Members m P → ((i : ℕ) → n ≤ i → P i ≡ false) → m < 2 ^ n
members_lt n m p none = bits_lt n m (λ i l. bit_unset m i (p.has i ∙ none i l))

-- the lowest bit
pub lowest_set : (k m : ℕ) → (m ≡ 0 → ⊥) → m < 2 ^ k → (bit m (count_trailing_zeros k m) ≡ 1) × (count_trailing_zeros k m < k)
unfolding count_trailing_zeros bit
lowest_set zero m some h = absurd (some (omega arith))
lowest_set (suc k) m some h = at (m % 2) refl (λ some. lowest_set k (m / 2) some (omega (arith, rw pow-suc at h)))
  where
    at : (d : ℕ) → m % 2 ≡ d → ((m / 2 ≡ 0 → ⊥) → (bit (m / 2) (count_trailing_zeros k (m / 2)) ≡ 1) × (count_trailing_zeros k (m / 2) < k))
        → (bit m (count_trailing_zeros (suc k) m) ≡ 1) × (count_trailing_zeros (suc k) m < suc k)
    at zero e ih = let r = ih (λ z. some (omega arith)) in rw e (r.0, omega (arith, r.1))
    at (suc zero) e ih = rw e (e, omega arith)
    at (suc (suc d)) e ih = absurd (omega arith)

-- what is left without it
record Lowered (m q : ℕ) : Type 0 where
  below : (i : ℕ) → i < q → bit m i ≡ 0
  here : bit (m - 1) q ≡ 0
  above : (i : ℕ) → q < i → bit (m - 1) i ≡ bit m i

lowered : (k m : ℕ) → (m ≡ 0 → ⊥) → m < 2 ^ k → Lowered m (count_trailing_zeros k m)
unfolding count_trailing_zeros bit
lowered zero m some h = absurd (some (omega arith))
lowered (suc k) m some h = at (m % 2) refl (λ some. lowered k (m / 2) some (omega (arith, rw pow-suc at h)))
  where
    at : (d : ℕ) → m % 2 ≡ d → ((m / 2 ≡ 0 → ⊥) → Lowered (m / 2) (count_trailing_zeros k (m / 2))) → Lowered m (under d (count_trailing_zeros k (m / 2)))
    at zero e ih = record { below = low; here = ap (λ x. bit x (count_trailing_zeros k (m / 2))) half ∙ r.here; above = high }
      where
        r : Lowered (m / 2) (count_trailing_zeros k (m / 2))
        r = ih (λ z. some (omega arith))

        half : (m - 1) / 2 ≡ m / 2 - 1
        half = omega (arith, some)

        low : (i : ℕ) → i < suc (count_trailing_zeros k (m / 2)) → bit m i ≡ 0
        low zero l = e
        low (suc i) l = r.below i (omega arith)

        high : (i : ℕ) → suc (count_trailing_zeros k (m / 2)) < i → bit (m - 1) i ≡ bit m i
        high zero l = absurd (omega arith)
        high (suc i) l = rw half (r.above i (omega arith))
    at (suc zero) e ih = record { below = λ i l. absurd (omega arith); here = omega arith; above = high }
      where
        half : (m - 1) / 2 ≡ m / 2
        half = omega arith

        high : (i : ℕ) → 0 < i → bit (m - 1) i ≡ bit m i
        high zero l = absurd (omega arith)
        high (suc i) l = rw half
    at (suc (suc d)) e ih = absurd (omega arith)

module _ (k m : ℕ) (some : m ≡ 0 → ⊥) (small : m < 2 ^ k) where
  pub without_lowest_here : bit (bit_and m (m - 1)) (count_trailing_zeros k m) ≡ 0
  without_lowest_here = omega (arith, bit-and m (m - 1) (count_trailing_zeros k m), (lowered k m some small).here)

  pub without_lowest_other : (i : ℕ) → (i ≡ count_trailing_zeros k m → ⊥) → bit (bit_and m (m - 1)) i ≡ bit m i
  without_lowest_other i apart = bit-and m (m - 1) i ∙ at (dec_lt i (count_trailing_zeros k m))
    where
      at : Dec (i < count_trailing_zeros k m) → min (bit m i) (bit (m - 1) i) ≡ bit m i
      at (yes l) = omega (arith, (lowered k m some small).below i l)
      at (no l) = omega (arith, (lowered k m some small).above i (omega arith))

  pub without_lowest_lt : bit_and m (m - 1) < m
  without_lowest_lt = omega (arith, some, and_le_r m (m - 1))
