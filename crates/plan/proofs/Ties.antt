-- Laws of `tie`, the part of the key that settles ties: its order is that of the first rule on which two sets differ.
--   tie_lt               == the tie of n rules is below 2 ^ n
--   agree_tie, tie_agree == equal ties, equal sets
--   first_tie, tie_first == a smaller tie, the first differing rule kept
--   tie_mono, tie_strict == more rules kept, a smaller tie
use mathlib.Core.Path.{◌≡◌, refl, sym, ap, ap₂, subst}
use mathlib.Core.Bool.{Bool, true, false, cond}
use Prim.Native.Nat.{ℕ, zero, suc, ◌+◌, ◌*◌, ◌^◌, ◌≤◌, ◌<◌}
use native.Mathlib.Nat.{pow-suc}
use native.Mathlib.Decide.{dec_lt, ℕ_discrete}
use native.Mathlib.Omega.{arith}
use Rattle.base.proofs.Tests.{false_not_true}
use Rattle.plan.specs.Cost.{keeps, First}
use Rattle.plan.specs.Key.{tie}

-- the digit of a rule: 0 where it is kept
abbrev digit : Bool → ℕ
digit b = cond b 0 1

digit_lt : (b : Bool) → digit b < 2
digit_lt true = omega arith
digit_lt false = omega arith

digit_injective : (b b' : Bool) → digit b ≡ digit b' → b ≡ b'
digit_injective true true e = refl
digit_injective true false e = absurd (omega arith)
digit_injective false true e = absurd (omega arith)
digit_injective false false e = refl

digit_true : (b : Bool) → digit b < 1 → b ≡ true
digit_true true h = refl
digit_true false h = absurd (omega arith)

digit_false : (b : Bool) → 0 < digit b → b ≡ false
digit_false true h = absurd (omega arith)
digit_false false h = refl

pub tie_lt : (n k : ℕ) → tie n k < 2 ^ n
unfolding tie
tie_lt zero k = omega arith
tie_lt (suc n) k = rw pow-suc (omega (arith, tie_lt n k, digit_lt (keeps k n)))

abbrev pub Agree : ℕ → ℕ → ℕ → Type 0
Agree n k k' = (i : ℕ) → i < n → keeps k i ≡ keeps k' i

pub tie_agree : (n k k' : ℕ) → Agree n k k' → tie n k ≡ tie n k'
unfolding tie
tie_agree zero k k' h = refl
tie_agree (suc n) k k' h = ap₂ (λ x b. x * 2 + digit b) (tie_agree n k k' (λ i l. h i (omega arith))) (h n (omega arith))

pub agree_tie : (n k k' : ℕ) → tie n k ≡ tie n k' → Agree n k k'
unfolding tie
agree_tie zero k k' e i l = absurd (omega arith)
agree_tie (suc n) k k' e i l = at (ℕ_discrete i n) (agree_tie n k k' (omega (arith, digit_lt (keeps k n), digit_lt (keeps k' n))) i)
  where
    at : Dec (i ≡ n) → (i < n → keeps k i ≡ keeps k' i) → keeps k i ≡ keeps k' i
    at (yes p) ih = subst (λ x. keeps k x ≡ keeps k' x) (sym p) (digit_injective (keeps k n) (keeps k' n) (omega (arith, digit_lt (keeps k n), digit_lt (keeps k' n))))
    at (no p) ih = ih (omega arith)

pub first_tie : (n k k' : ℕ) → First n k k' → tie n k < tie n k'
unfolding tie
first_tie zero k k' f = absurd (omega (arith, f.listed))
first_tie (suc n) k k' f =
    at (ℕ_discrete f.rule n) (λ l. first_tie n k k' (record { rule = f.rule; listed = l; before = f.before; kept = f.kept; dropped = f.dropped }))
  where
    at : Dec (f.rule ≡ n) → (f.rule < n → tie n k < tie n k') → tie n k * 2 + digit (keeps k n) < tie n k' * 2 + digit (keeps k' n)
    at (yes e) ih =
        omega (
          arith,
          tie_agree n k k' (λ i l. f.before i (omega arith)),
          ap digit (subst (λ x. keeps k x ≡ true) e f.kept),
          ap digit (subst (λ x. keeps k' x ≡ false) e f.dropped),
        )
    at (no e) ih = omega (arith, ih (omega (arith, f.listed)), digit_lt (keeps k n))

pub tie_first : (n k k' : ℕ) → tie n k < tie n k' → First n k k'
unfolding tie
tie_first zero k k' l = absurd (omega arith)
tie_first (suc n) k k' l = at (dec_lt (tie n k) (tie n k')) (tie_first n k k')
  where
    at : Dec (tie n k < tie n k') → (tie n k < tie n k' → First n k k') → First (suc n) k k'
    at (yes p) ih = let f = ih p in record { rule = f.rule; listed = omega (arith, f.listed); before = f.before; kept = f.kept; dropped = f.dropped }
    at (no p) ih = record {
      rule = n;
      listed = omega arith;
      before = agree_tie n k k' (omega (arith, digit_lt (keeps k n), digit_lt (keeps k' n)));
      kept = digit_true (keeps k n) (omega (arith, digit_lt (keeps k' n)));
      dropped = digit_false (keeps k' n) (omega (arith, digit_lt (keeps k n)));
    }

-- k' keeps every rule that k keeps
abbrev pub Within : ℕ → ℕ → ℕ → Type 0
Within n k k' = (i : ℕ) → i < n → keeps k i ≡ true → keeps k' i ≡ true

pub cond_mono : (b b' : Bool) (x : ℕ) → (b ≡ true → b' ≡ true) → cond b' 0 x ≤ cond b 0 x
cond_mono true true x h = omega arith
cond_mono true false x h = absurd (false_not_true (h refl) refl)
cond_mono false true x h = omega arith
cond_mono false false x h = omega arith

pub tie_mono : (n k k' : ℕ) → Within n k k' → tie n k' ≤ tie n k
unfolding tie
tie_mono zero k k' h = omega arith
tie_mono (suc n) k k' h = omega (arith, tie_mono n k k' (λ i l. h i (omega arith)), cond_mono (keeps k n) (keeps k' n) 1 (h n (omega arith)))

pub tie_strict : (n k k' : ℕ) → Within n k k' → (i : ℕ) → i < n → keeps k i ≡ false → keeps k' i ≡ true → tie n k' < tie n k
unfolding tie
tie_strict zero k k' h i l out into = absurd (omega arith)
tie_strict (suc n) k k' h i l out into = at (ℕ_discrete i n) (λ m. tie_strict n k k' (λ j q. h j (omega arith)) i m out into)
  where
    at : Dec (i ≡ n) → (i < n → tie n k' < tie n k) → tie n k' * 2 + digit (keeps k' n) < tie n k * 2 + digit (keeps k n)
    at (yes e) ih =
        omega (
          arith,
          tie_mono n k k' (λ j q. h j (omega arith)),
          ap digit (subst (λ x. keeps k x ≡ false) e out),
          ap digit (subst (λ x. keeps k' x ≡ true) e into),
        )
    at (no e) ih = omega (arith, ih (omega arith), cond_mono (keeps k n) (keeps k' n) 1 (h n (omega arith)))
