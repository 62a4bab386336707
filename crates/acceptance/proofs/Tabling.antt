-- The table of the sets of an automaton of at most eight states, filled set by set.
--   step_members                 == an entry of the table of steps is where its state leads
--   led_none, led_more           == where the empty set leads; where a set of states below q leads together with state q
--   sizes_double                 == the sets of q + 1 states are twice those of q
--   tabled_first                 == the empty set of place v
--   tabled_extend                == with a state more there are twice as many sets
use mathlib.Core.Path.{◌≡◌, refl, sym, ap, ◌∙◌}
use mathlib.Core.Bool.{Bool, true, false, ◌&&◌, ◌||◌}
use mathlib.Core.List.{List}
use Prim.Native.Nat.{ℕ, ◌+◌, ◌-◌, ◌*◌, ◌^◌, ◌%◌, ◌≤◌, ◌<◌}
use native.Mathlib.Decide.{dec_lt, ℕ_discrete}
use native.Mathlib.Nat.{pow-suc, mod-eq_of_lt, one-mul}
use Rattle.std.proofs.Math.Pow.{pow-lt}
use native.Mathlib.Numerals.{add-one}
use native.Mathlib.Omega.{arith}
use borrow.Author.Tests.{eq-eqb}
use lib.ListN.{length, get_or, set}
use lib.Seq.{get_or-set_same, get_or-set_other}
use lib.Pow.{pow_mono}
use lib.Dec.{eqb}
use Rattle.base.specs.Bits.{bit, has_bit, Members}
use Rattle.base.proofs.Tests.{false_not_true, bool_same, any_intro, any_elim, and_intro, and_left, and_right, or_left, or_right, or_elim}
use Rattle.base.proofs.Bits.{bit_zero, bit_high, bit_add_same, bit_add_other}
use Rattle.base.proofs.Members.{members_none, members_or, members_same}
use Rattle.acceptance.specs.Table.{step_in}
use Rattle.acceptance.specs.Sets.{led_by, Extended, Tabled}

-- ---- where a set leads
module _ (steps : List ℕ) (v : ℕ) where
  abbrev by : ℕ → ℕ → ℕ → Bool
  by x r q = has_bit x q && step_in steps v q r

  led_intro : (x r q : ℕ) → q < 8 → has_bit x q ≡ true → step_in steps v q r ≡ true → led_by steps v x r ≡ true
  unfolding led_by
  led_intro x r q l m h = any_intro (by x r) 8 q l (and_intro m h)

  led_elim : (x r : ℕ) → led_by steps v x r ≡ true → (q : ℕ) × (q < 8) × (has_bit x q ≡ true) × (step_in steps v q r ≡ true)
  unfolding led_by
  led_elim x r h = let f = any_elim (by x r) 8 h in (f.0, f.1, and_left _ _ f.2, and_right (has_bit x f.0) _ f.2)

  pub step_members : (q : ℕ) → Members (get_or steps (v * 32 + q) 0) (step_in steps v q)
  unfolding step_in
  step_members q = record { has = λ r. refl }

  pub led_none : (r : ℕ) → led_by steps v 0 r ≡ false
  led_none r = none (led_by steps v 0 r) refl
    where
      none : (b : Bool) → led_by steps v 0 r ≡ b → b ≡ false
      none false e = refl
      none true e = let f = led_elim 0 r e in absurd (false_not_true f.2 (rw (bit_zero f.0)))

  module _ (q x : ℕ) (few : q < 8) (small : x < 2 ^ q) where
    absent : bit x q ≡ 0
    absent = bit_high q x q small (omega arith)

    other : (p : ℕ) → (p ≡ q → ⊥) → has_bit (x + 2 ^ q) p ≡ has_bit x p
    other p apart = ap (λ b. eqb b 1) (bit_add_other q p x absent apart)

    member : has_bit (x + 2 ^ q) q ≡ true
    member = eq-eqb _ _ (bit_add_same q x absent)

    pub led_more : (r : ℕ) → (led_by steps v x r || step_in steps v q r) ≡ led_by steps v (x + 2 ^ q) r
    led_more r = bool_same _ _ there back
      where
        there : (led_by steps v x r || step_in steps v q r) ≡ true → led_by steps v (x + 2 ^ q) r ≡ true
        there h = or_elim (led_by steps v x r) _ h
            (λ old.
            let f = led_elim x r old in
            let apart : f.0 ≡ q → ⊥ = λ e. false_not_true f.2 (ap (has_bit x) e ∙ rw absent) in
            led_intro _ r f.0 f.1 (other f.0 apart ∙ f.2) f.3)
            (λ new. led_intro _ r q few member new)

        back : led_by steps v (x + 2 ^ q) r ≡ true → (led_by steps v x r || step_in steps v q r) ≡ true
        back h = let f = led_elim _ r h in at f.0 f.1 f.2 f.3 (ℕ_discrete f.0 q)
          where
            at : (p : ℕ) → p < 8 → has_bit (x + 2 ^ q) p ≡ true → step_in steps v p r ≡ true → Dec (p ≡ q) → (led_by steps v x r || step_in steps v q r) ≡ true
            at p l m s (yes e) = or_right (led_by steps v x r) _ (ap (λ p. step_in steps v p r) (sym e) ∙ s)
            at p l m s (no e) = or_left _ (step_in steps v q r) (led_intro x r p l (sym (other p e) ∙ m) s)

-- ---- twice as many sets
pub sizes_double : (q : ℕ) → 2 ^ q * 2 ≡ 2 ^ (q + 1)
sizes_double q = rw (add-one, pow-suc) (omega arith)

-- the number of those sets, as a program makes it
shift_one : (q : ℕ) → q < 8 → 1 * 2 ^ q % 2 ^ 64 ≡ 2 ^ q
shift_one q l = let most : 2 ^ q < 2 ^ 8 = pow-lt l in mod-eq_of_lt (omega arith) ∙ one-mul (2 ^ q)

-- ---- the table
module _ {steps : List ℕ} {n v : ℕ} {sets : List ℕ} where
  pub tabled_first : Tabled steps n v 0 sets → n ≤ 8 → v * 256 < length sets → Tabled steps n v 1 (set sets (v * 256) 0)
  tabled_first t few room = record {
    places = λ u x before small.
        let other = get_or-set_other sets (v * 256) (u * 256 + x) 0 0 (omega (arith, pow_mono few)) in
        rw other (t.places u x before small);
    part = λ x only.
        let none : x ≡ 0 = omega arith in
        let here : v * 256 + 0 ≡ v * 256 = omega arith in
        rw (none, here, get_or-set_same sets (v * 256) 0 0 room) (members_same (λ r. sym (led_none steps v r)) members_none);
  }

  pub tabled_extend : {q next : ℕ} {longer : List ℕ} → Tabled steps n v (2 ^ q) sets → q < n → n ≤ 8
      → Extended (v * 256) (1 * 2 ^ q % 2 ^ 64) next sets (1 * 2 ^ q % 2 ^ 64) longer → Members next (step_in steps v q) → Tabled steps n v (2 ^ (q + 1)) longer
  tabled_extend {q} {next} {longer} t l few shifted m = record {
    places = λ u x before small. rw (e.below (u * 256 + x) (omega (arith, pow_mono few))) (t.places u x before small);
    part = λ x inside. at x (omega (arith, inside, sizes_double q)) (dec_lt x (2 ^ q));
  }
    where
      e : Extended (v * 256) (2 ^ q) next sets (2 ^ q) longer
      e = rw (shift_one q (omega arith)) at shifted

      upper : (x : ℕ) → x < 2 ^ q → Members (get_or longer (v * 256 + (x + 2 ^ q)) 0) (led_by steps v (x + 2 ^ q))
      upper x low =
          let place : v * 256 + (x + 2 ^ q) ≡ v * 256 + 2 ^ q + x = omega arith in
          rw (place, e.joined x low) (members_same (led_more steps v q x (omega arith) low) (members_or (t.part x low) m))

      at : (x : ℕ) → x < 2 ^ q * 2 → Dec (x < 2 ^ q) → Members (get_or longer (v * 256 + x) 0) (led_by steps v x)
      at x inside (yes low) = rw (e.below (v * 256 + x) (omega arith)) (t.part x low)
      at x inside (no high) = let rest : x - 2 ^ q + 2 ^ q ≡ x = omega arith in rw rest at (upper (x - 2 ^ q) (omega arith))
