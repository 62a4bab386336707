-- What a tour is worth, rule by rule.
--   usable_hard, usable_soft     == the rules of a plan are usable
--   whole_places                 == the places of a tour that does not break are places of the plan
--   bit_kept, bit_left           == a soft rule accepts, or not
--   keeping_start, -next, -end   == the kept byte, rule by rule
--   hard-told                    == whether the hard rule accepts
use mathlib.Core.Path.{◌≡◌, refl, sym, ap, ◌∙◌, subst}
use mathlib.Core.Bool.{Bool, true, false}
use mathlib.Core.List.{List}
use Prim.Native.Nat.{ℕ, ◌+◌, ◌*◌, ◌^◌, ◌≤◌, ◌<◌}
use native.Mathlib.Nat.{pow-suc, pow-le-pow_right}
use native.Mathlib.Numerals.{add-one}
use native.Mathlib.Decide.{dec_lt, ℕ_discrete}
use native.Mathlib.Omega.{arith}
use borrow.Author.Tests.{eq-eqb}
use lib.ListN.{length, get_or, get_or-eq_default}
use lib.Dec.{eqb}
use Rattle.base.specs.Least.{nowhere}
use Rattle.base.specs.Bits.{bit, has_bit}
use Rattle.base.proofs.Tests.{false_not_true}
use Rattle.base.proofs.Bits.{bit_high, bit_add_same, bit_add_other, bit_add_lt}
use Rattle.automata.specs.WellFormed as automaton
use Rattle.automata.specs.WellFormed.{past_end}
use Rattle.automata.specs.declared.Automaton.{Automaton}
use Rattle.acceptance.specs.Rule.{Usable, Judged}
use Rattle.plan.specs.WellFormed.{soft, WellFormed}
use Rattle.plan.specs.Tour.{Soft}
use Rattle.plan.specs.Cost.{keeps, KeptIs}
use Rattle.plan.specs.declared.Plan.{Plan}
use Rattle.plan.proofs.Rules.{rule_read}
use Rattle.checker.specs.Break.{first_break}
use Rattle.checker.specs.Worth.{Known, KeptBit, kept, left, Keeping}
use Rattle.checker.proofs.Breaks.{whole_known}

usable : {most labels : ℕ} {a : Automaton} → most ≤ 16 → automaton.WellFormed most labels a → Usable a
usable l w = record { few = omega (arith, l, w.few); first = w.first; accept = w.accept; moves = w.moves; from = w.from; to = w.to }

module _ (p : Plan) (w : WellFormed p) where
  pub usable_hard : Usable p.hard
  usable_hard = usable (omega arith) w.hard

  pub usable_soft : (i : ℕ) → i < p.rules → Usable (get_or p.soft i past_end)
  usable_soft i l = rw (rule_read p w i l) (usable (omega arith) (w.softs i l))

  module _ (stem cycle : List ℕ) where
    pub whole_places : first_break p stem cycle ≡ nowhere → Known p stem cycle
    whole_places e = let k = whole_known p stem cycle e in record { in_stem = λ i. at stem k.0 i (dec_lt i (length stem)); in_cycle = λ i. at cycle k.1 i (dec_lt i (length cycle)) }
      where
        at : (s : List ℕ) → ((i : ℕ) → i < length s → get_or s i 0 < p.places) → (i : ℕ) → Dec (i < length s) → get_or s i 0 < p.places
        at s k i (yes l) = k i l
        at s k i (no l) = let z : get_or s i 0 ≡ 0 = get_or-eq_default s 0 (omega arith) in omega (arith, z, w.some)

    module _ (i weight : ℕ) (l : i < p.rules) (b : Bool) (j : Judged (get_or p.soft i past_end) p.labels stem cycle b) where
      own : Judged (soft p i) p.labels stem cycle b
      own = subst (λ (a : Automaton). Judged a p.labels stem cycle b) (rule_read p w i l) j

      pub bit_kept : b ≡ true → KeptBit p stem cycle i weight weight
      bit_kept e = kept refl (own.soft.holds e)

      pub bit_left : b ≡ false → KeptBit p stem cycle i weight 0
      bit_left e = left refl (own.soft.fails e)

module _ (p : Plan) (stem cycle : List ℕ) where
  pub keeping_start : Keeping p stem cycle 0 1 0
  keeping_start = record { listed = omega arith; next = refl; small = omega arith; accepted = λ j l. absurd (omega arith); refused = λ j l. absurd (omega arith) }

  module _ (i weight k : ℕ) (x : Keeping p stem cycle i weight k) (l : i < p.rules) where
    wider : (m : ℕ) → m < 2 ^ i → m < 2 ^ (i + 1)
    wider m h = rw (add-one i, pow-suc) (omega arith)

    doubled : weight * 2 ≡ 2 ^ (i + 1)
    doubled = rw (add-one i, pow-suc) (omega (arith, x.next))

    clear : bit k i ≡ 0
    clear = bit_high i k i x.small (omega arith)

    pub keeping_next : (r : ℕ) → KeptBit p stem cycle i weight r → Keeping p stem cycle (i + 1) (weight * 2) (k + r)
    keeping_next r (kept e s) = record {
      listed = omega arith;
      next = doubled;
      small = rw sum (bit_add_lt (i + 1) i k (omega arith) (wider k x.small) clear);
      accepted = λ j h b. at j h b (ℕ_discrete j i);
      refused = λ j h b t. off j h b t (ℕ_discrete j i);
    }
      where
        sum : k + r ≡ k + 2 ^ i
        sum = omega (arith, e, x.next)

        others : (j : ℕ) → (j ≡ i → ⊥) → keeps (k + r) j ≡ keeps k j
        others j n = ap (λ m. has_bit m j) sum ∙ ap (λ b. eqb b 1) (bit_add_other i j k clear n)

        at : (j : ℕ) → j < i + 1 → keeps (k + r) j ≡ true → Dec (j ≡ i) → Soft p stem cycle j
        at j h b (yes f) = rw f s
        at j h b (no f) = x.accepted j (omega arith) (sym (others j f) ∙ b)

        off : (j : ℕ) → j < i + 1 → keeps (k + r) j ≡ false → Soft p stem cycle j → Dec (j ≡ i) → ⊥
        off j h b t (yes f) = false_not_true (ap (has_bit (k + r)) f ∙ ap (λ m. has_bit m i) sum ∙ eq-eqb _ _ (bit_add_same i k clear)) b
        off j h b t (no f) = x.refused j (omega arith) (sym (others j f) ∙ b) t
    keeping_next r (left e n) = record {
      listed = omega arith;
      next = doubled;
      small = rw same (wider k x.small);
      accepted = λ j h b. at j h b (ℕ_discrete j i);
      refused = λ j h b t. off j h b t (ℕ_discrete j i);
    }
      where
        same : k + r ≡ k
        same = omega (arith, e)

        at : (j : ℕ) → j < i + 1 → keeps (k + r) j ≡ true → Dec (j ≡ i) → Soft p stem cycle j
        at j h b (yes f) = absurd (false_not_true b (ap (has_bit (k + r)) f ∙ ap (λ m. has_bit m i) same ∙ ap (λ b. eqb b 1) clear))
        at j h b (no f) = x.accepted j (omega arith) (sym (ap (λ m. has_bit m j) same) ∙ b)

        off : (j : ℕ) → j < i + 1 → keeps (k + r) j ≡ false → Soft p stem cycle j → Dec (j ≡ i) → ⊥
        off j h b t (yes f) = n (subst (λ j. Soft p stem cycle j) f t)
        off j h b t (no f) = x.refused j (omega arith) (sym (ap (λ m. has_bit m j) same) ∙ b) t

  pub keeping_end : (i weight k : ℕ) → i ≡ p.rules → Keeping p stem cycle i weight k → KeptIs p stem cycle k
  keeping_end i weight k e x = record {
    small = rw (← e) x.small;
    accepted = λ j l. x.accepted j (omega (arith, e));
    refused = λ j l. x.refused j (omega (arith, e));
  }

  -- sums and weights stay small
  pub keeping_low : (i weight k : ℕ) → i ≤ 8 → Keeping p stem cycle i weight k → (weight ≤ 256) × (k < 256)
  keeping_low i weight k l x =
      let e : 2 ^ i ≤ 2 ^ 8 = pow-le-pow_right (omega arith) {i = i} {j = 8} l in (omega (arith, x.next, e), omega (arith, x.small, e))

  pub bit_low : {i weight r : ℕ} → KeptBit p stem cycle i weight r → r ≤ weight
  bit_low (kept e s) = omega (arith, e)
  bit_low (left e n) = omega (arith, e)
