-- Laws of sums and of kept bytes.
--   sum_change                 == a sum in which one term is another
--   keeps_bit                  == equal tests of two kept bytes, equal bits
--   kept_ext                   == kept bytes below 2 ^ n that agree on n rules are equal
use mathlib.Core.Path.{◌≡◌, sym, ◌∙◌}
use Prim.Native.Nat.{ℕ, zero, suc, ◌+◌, ◌^◌, ◌<◌}
use native.Mathlib.Decide.{dec_lt, ℕ_discrete}
use native.Mathlib.Omega.{arith}
use borrow.Author.Tests.{eqb-true, eq-eqb}
use Rattle.base.specs.Below.{sum_below}
use Rattle.base.specs.Bits.{bit}
use Rattle.base.proofs.Sums.{sum_le}
use Rattle.base.proofs.Bits.{bit_lt, bit_ext, bit_high}
use Rattle.plan.specs.Cost.{keeps}

pub sum_change : (n u : ℕ) (f g : ℕ → ℕ) → u < n → ((i : ℕ) → (i ≡ u → ⊥) → g i ≡ f i) → sum_below n g + f u ≡ sum_below n f + g u
unfolding sum_below
sum_change zero u f g h same = absurd (omega arith)
sum_change (suc n) u f g h same = by (ℕ_discrete u n) (sum_change n u f g)
  where
    by : Dec (u ≡ n) → (u < n → ((i : ℕ) → (i ≡ u → ⊥) → g i ≡ f i) → sum_below n g + f u ≡ sum_below n f + g u)
        → sum_below n g + g n + f u ≡ sum_below n f + f n + g u
    by (yes e) ih =
        let le = sum_le n f g (λ i l. omega (arith, same i (λ q. omega arith))) in
        let ge = sum_le n g f (λ i l. omega (arith, same i (λ q. omega arith))) in
        rw e (omega arith)
    by (no d) ih = omega (arith, ih (omega arith) same, same n (λ q. d (sym q)))

pub keeps_bit : (k k' i : ℕ) → keeps k i ≡ keeps k' i → bit k i ≡ bit k' i
keeps_bit k k' i e = by (ℕ_discrete (bit k i) 1) (ℕ_discrete (bit k' i) 1)
  where
    by : Dec (bit k i ≡ 1) → Dec (bit k' i ≡ 1) → bit k i ≡ bit k' i
    by (yes a) (yes b) = omega arith
    by (no a) (no b) = omega (arith, bit_lt k i, bit_lt k' i)
    by (yes a) (no b) = absurd (b (eqb-true (bit k' i) 1 (sym e ∙ eq-eqb (bit k i) 1 a)))
    by (no a) (yes b) = absurd (a (eqb-true (bit k i) 1 (e ∙ eq-eqb (bit k' i) 1 b)))

pub kept_ext : (n k k' : ℕ) → k < 2 ^ n → k' < 2 ^ n → ((i : ℕ) → i < n → keeps k i ≡ keeps k' i) → k ≡ k'
kept_ext n k k' small small' agree = bit_ext k k' (λ i. at i (dec_lt i n))
  where
    at : (i : ℕ) → Dec (i < n) → bit k i ≡ bit k' i
    at i (yes h) = keeps_bit k k' i (agree i h)
    at i (no h) = bit_high n k i small (omega arith) ∙ sym (bit_high n k' i small' (omega arith))
