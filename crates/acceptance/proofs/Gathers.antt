-- Sets joined by way of a table: the loop that takes the lowest member again and again.
--   gathering_start, -step, -end == what the members passed have, and what those to come have, is what all have
--   inside, outside              == the members of a set of numbers below n are below n
--   narrower                     == a table of such sets, of more numbers
--   gathered_below               == of a set of numbers below n, only these are looked at
use mathlib.Core.Path.{◌≡◌, refl, sym, ap, ◌∙◌}
use mathlib.Core.Bool.{Bool, true, false, ◌&&◌, ◌||◌, or_assoc, or-false}
use mathlib.Core.List.{List}
use Prim.Native.Nat.{ℕ, ◌+◌, ◌-◌, ◌^◌, ◌≤◌, ◌<◌}
use native.Mathlib.Nat.{pow-le-pow_right}
use native.Mathlib.Decide.{dec_lt, ℕ_discrete}
use native.Mathlib.Omega.{arith}
use borrow.Author.Tests.{eq-eqb}
use lib.ListN.{get_or}
use lib.Bits.{bit_and, bit_or}
use lib.Count.{count_trailing_zeros}
use lib.Dec.{eqb}
use Rattle.base.specs.Below.{any_below}
use Rattle.base.specs.Bits.{has_bit, Members}
use Rattle.acceptance.specs.Table.{gathered, Narrow, Gathering}
use Rattle.base.proofs.Tests.{false_not_true, bool_same, any_intro, any_elim, and_intro, and_left, and_right, or_left, or_right, or_elim}
use Rattle.base.proofs.Bits.{bit_zero, bit_high}
use Rattle.base.proofs.Members.{has_or, lowest_set, without_lowest_here, without_lowest_other, without_lowest_lt}

-- a set of numbers below n has no member from n on
pub outside : (n set q : ℕ) → set < 2 ^ n → n ≤ q → has_bit set q ≡ false
outside n set q h l = rw (bit_high n set q h l)

pub inside : (n set q : ℕ) → set < 2 ^ n → has_bit set q ≡ true → q < n
inside n set q h m = at (dec_lt q n)
  where
    at : Dec (q < n) → q < n
    at (yes l) = l
    at (no l) = absurd (false_not_true m (outside n set q h (omega arith)))

pub narrower : (n m : ℕ) (table : List ℕ) → n ≤ m → Narrow n table → Narrow m table
narrower n m table l x =
    record { narrow = λ t. let e : 2 ^ n ≤ 2 ^ m = pow-le-pow_right (omega arith) {i = n} {j = m} l in omega (arith, x.narrow t, e) }

-- the lowest member of a set of numbers below 32
pub lowest_below : (left : ℕ) → (left ≡ 0 → ⊥) → left < 2 ^ 32 → count_trailing_zeros 64 left < 32
lowest_below left some small =
    let fits : left < 2 ^ 64 = omega arith in
    inside 32 left (count_trailing_zeros 64 left) small (eq-eqb _ _ (lowest_set 64 left some fits).0)

module _ (table : List ℕ) (at : ℕ) where
  abbrev through : ℕ → ℕ → ℕ → Bool
  through set i q = has_bit set q && has_bit (get_or table (at + q) 0) i

  gathered_intro : (set i q : ℕ) → q < 32 → has_bit set q ≡ true → has_bit (get_or table (at + q) 0) i ≡ true → gathered table at set i ≡ true
  unfolding gathered
  gathered_intro set i q l m h = any_intro (through set i) 32 q l (and_intro m h)

  gathered_elim : (set i : ℕ) → gathered table at set i ≡ true → (q : ℕ) × (q < 32) × (has_bit set q ≡ true) × (has_bit (get_or table (at + q) 0) i ≡ true)
  unfolding gathered
  gathered_elim set i h = let f = any_elim (through set i) 32 h in (f.0, f.1, and_left _ _ f.2, and_right (has_bit set f.0) _ f.2)

  pub gathered_below : (n set i : ℕ) → n ≤ 32 → set < 2 ^ n → gathered table at set i ≡ any_below n (through set i)
  unfolding gathered
  gathered_below n set i few small = bool_same _ _ there back
    where
      there : any_below 32 (through set i) ≡ true → any_below n (through set i) ≡ true
      there h =
          let f = any_elim (through set i) 32 h in
          any_intro (through set i) n f.0 (inside n set f.0 small (and_left _ _ f.2)) f.2

      back : any_below n (through set i) ≡ true → any_below 32 (through set i) ≡ true
      back h = let f = any_elim (through set i) n h in any_intro (through set i) 32 f.0 (omega (arith, f.1)) f.2

  gathered_none : (i : ℕ) → gathered table at 0 i ≡ false
  gathered_none i = by (gathered table at 0 i) refl
    where
      by : (b : Bool) → gathered table at 0 i ≡ b → gathered table at 0 i ≡ false
      by false e = e
      by true e = let f = gathered_elim 0 i e in absurd (false_not_true f.2 (rw (bit_zero f.0)))

  pub gathering_start : (set : ℕ) → set < 2 ^ 32 → Gathering table at set 0 set
  gathering_start set small = record { small = small; whole = λ i. rw (bit_zero i) }

  module _ (set out left : ℕ) (some : left ≡ 0 → ⊥) (g : Gathering table at set out left) where
    abbrev q : ℕ
    q = count_trailing_zeros 64 left

    abbrev rest : ℕ
    rest = bit_and left (left - 1)

    fits : left < 2 ^ 64
    fits = omega (arith, g.small)

    member : has_bit left q ≡ true
    member = eq-eqb _ _ (lowest_set 64 left some fits).0

    pub lowest_inside : q < 32
    lowest_inside = inside 32 left q g.small member

    other : (p : ℕ) → (p ≡ q → ⊥) → has_bit rest p ≡ has_bit left p
    other p apart = ap (λ b. eqb b 1) (without_lowest_other 64 left some fits p apart)

    absent : has_bit rest q ≡ false
    absent = rw (without_lowest_here 64 left some fits)

    split : (i : ℕ) → (has_bit (get_or table (at + q) 0) i || gathered table at rest i) ≡ gathered table at left i
    split i = bool_same _ _ there back
      where
        there : (has_bit (get_or table (at + q) 0) i || gathered table at rest i) ≡ true → gathered table at left i ≡ true
        there h = or_elim (has_bit (get_or table (at + q) 0) i) _ h
            (λ here. gathered_intro left i q lowest_inside member here)
            (λ more.
            let f = gathered_elim rest i more in
            let apart : f.0 ≡ q → ⊥ = λ e. false_not_true f.2 (ap (has_bit rest) e ∙ absent) in
            gathered_intro left i f.0 f.1 (sym (other f.0 apart) ∙ f.2) f.3)

        back : gathered table at left i ≡ true → (has_bit (get_or table (at + q) 0) i || gathered table at rest i) ≡ true
        back h = let f = gathered_elim left i h in by f.0 f.1 f.2 f.3 (ℕ_discrete f.0 q)
          where
            by : (p : ℕ) → p < 32 → has_bit left p ≡ true → has_bit (get_or table (at + p) 0) i ≡ true → Dec (p ≡ q)
                → (has_bit (get_or table (at + q) 0) i || gathered table at rest i) ≡ true
            by p l m h (yes e) = or_left _ (gathered table at rest i) (ap (λ p. has_bit (get_or table (at + p) 0) i) (sym e) ∙ h)
            by p l m h (no e) = or_right (has_bit (get_or table (at + q) 0) i) _ (gathered_intro rest i p l (other p e ∙ m) h)

    pub gathering_step : Gathering table at set (bit_or out (get_or table (at + q) 0)) rest
    gathering_step = record {
      small = omega (arith, g.small, without_lowest_lt 64 left some fits);
      whole = λ i.
          ap (λ b. b || gathered table at rest i) (has_or out (get_or table (at + q) 0) i)
          ∙ or_assoc (has_bit out i) (has_bit (get_or table (at + q) 0) i) (gathered table at rest i)
          ∙ ap (λ b. has_bit out i || b) (split i)
          ∙ g.whole i;
    }

  pub gathering_end : (set out left : ℕ) → left ≡ 0 → Gathering table at set out left → Members out (gathered table at set)
  gathering_end set out left e g = record { has = λ i. sym (or-false (has_bit out i)) ∙ ap (λ b. has_bit out i || b) (sym (gathered_none i) ∙ ap (λ l. gathered table at l i) (sym e)) ∙ g.whole i }
