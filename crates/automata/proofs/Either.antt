-- The fifth number of a move: the label must have at least one bit of any, unless any is 0.
--   guard_none     == with any 0 the guard asks for need and bar alone
--   fits_none      == an automaton whose any is all zeros has the fitting moves that it had without the number
--   guard_either   == a move that asks for one of two marks may be taken exactly where one of two moves may that ask for one each
--   guard_sum      == the same with the numbers added, as a plan file has them
--   half i m       == the move m with mark i in need, and any 0
--   SplitMove a b  == b lists the moves of a, and instead of one that asks for mark i or mark j the two that ask for one each
--   split_alike    == then a and b have the same steps and blocked states, so that they accept the same words (`alike_hard`, `alike_soft`)
use mathlib.Core.Path.{◌≡◌, refl, sym, ap, ◌∙◌}
use mathlib.Core.Bool.{Bool, true, false, not, ◌&&◌, ◌||◌, or_assoc, or-false}
use Prim.Native.Nat.{ℕ, zero, suc, ◌+◌, ◌^◌}
use Rattle.std.proofs.Math.Bool.{and-true, and-or_distrib_left}
use native.Mathlib.Decide.{ℕ_discrete}
use native.Mathlib.Omega.{arith}
use lib.Bits.{bit_and, bit_or}
use lib.Dec.{eqb}
use Rattle.base.specs.Below.{any_below}
use Rattle.base.specs.Bits.{bit}
use Rattle.automata.specs.Automaton.{guard, move, opens, move_count, fits, leads, step, blocked}
use Rattle.automata.specs.declared.Automaton.{Automaton}
use Rattle.automata.specs.declared.Move.{Move}
use Rattle.base.proofs.Tests.{bool_same, or_left, or_right, or_elim}
use Rattle.base.proofs.Bits.{bit_lt, bit_zero, bit-or, bit_ext, bit_add_same, bit_add_other}
use Rattle.automata.proofs.Repeats.{Relisted, any_relisted, Alike}
use Rattle.automata.proofs.Guards.{Satisfies, guard_satisfies, satisfies_guard}

pub guard_none : (x need bar : ℕ) → guard x need bar 0 ≡ eqb (bit_and x need) need && eqb (bit_and x bar) 0
unfolding guard
guard_none x need bar = and-true (eqb (bit_and x need) need && eqb (bit_and x bar) 0)

pub fits_none : (a : Automaton) → ((i : ℕ) → (move a i).any ≡ 0) → (x q i : ℕ)
    → fits a x q i ≡ eqb (move a i).from q && (eqb (bit_and x (move a i).need) (move a i).need && eqb (bit_and x (move a i).bar) 0)
unfolding fits
fits_none a none x q i = rw (none i, guard_none x (move a i).need (move a i).bar)

-- a number with the one bit i
pub record Lone (a i : ℕ) : Type 0 where
  pub here : bit a i ≡ 1
  pub only : (k : ℕ) → bit a k ≡ 1 → k ≡ i

module _ (x need bar : ℕ) where
  -- a label that has one of the marks of any has that mark as needed; and the other way round
  narrow : (any a i : ℕ) → Lone a i → Satisfies x need bar any → bit x i ≡ 1 → Satisfies x (bit_or need a) bar 0
  narrow any a i one s h = record { has = λ k e. has k e (ℕ_discrete (bit need k) 1); lacks = s.lacks; meets = λ n. absurd (n refl) }
    where
      has : (k : ℕ) → bit (bit_or need a) k ≡ 1 → Dec (bit need k ≡ 1) → bit x k ≡ 1
      has k e (yes d) = s.has k d
      has k e (no d) = ap (bit x) (one.only k (omega (arith, bit-or need a k, bit_lt need k, bit_lt a k))) ∙ h

  widen : (any a i : ℕ) → Lone a i → bit any i ≡ 1 → Satisfies x (bit_or need a) bar 0 → Satisfies x need bar any
  widen any a i one m s = record {
    has = λ k e. s.has k (omega (arith, bit-or need a k, bit_lt a k));
    lacks = s.lacks;
    meets = λ n. (i, m, s.has i (omega (arith, bit-or need a i, one.here, bit_lt need i)));
  }

  module _ (a b i j : ℕ) (one : Lone a i) (other : Lone b j) where
    abbrev both : Bool
    both = guard x (bit_or need a) bar 0 || guard x (bit_or need b) bar 0

    has_a : bit (bit_or a b) i ≡ 1
    has_a = omega (arith, bit-or a b i, one.here, bit_lt b i)

    has_b : bit (bit_or a b) j ≡ 1
    has_b = omega (arith, bit-or a b j, other.here, bit_lt a j)

    there : Satisfies x need bar (bit_or a b) → both ≡ true
    there s = let m = s.meets (λ z. omega (arith, has_a, ap (λ m. bit m i) z, bit_zero i)) in at m.0 m.1 m.2 (ℕ_discrete (bit a m.0) 1)
      where
        at : (k : ℕ) → bit (bit_or a b) k ≡ 1 → bit x k ≡ 1 → Dec (bit a k ≡ 1) → both ≡ true
        at k m h (yes e) =
            let g = narrow (bit_or a b) a i one s (ap (bit x) (sym (one.only k e)) ∙ h) in
            or_left (guard x (bit_or need a) bar 0) (guard x (bit_or need b) bar 0) (satisfies_guard x (bit_or need a) bar 0 g)
        at k m h (no e) =
            let d : bit b k ≡ 1 = omega (arith, bit-or a b k, bit_lt a k, bit_lt b k) in
            let g = narrow (bit_or a b) b j other s (ap (bit x) (sym (other.only k d)) ∙ h) in
            or_right (guard x (bit_or need a) bar 0) (guard x (bit_or need b) bar 0) (satisfies_guard x (bit_or need b) bar 0 g)

    pub guard_either : guard x need bar (bit_or a b) ≡ both
    guard_either = bool_same _ _
        (λ h. there (guard_satisfies x need bar (bit_or a b) h))
        (λ h. satisfies_guard x need bar (bit_or a b) (or_elim (guard x (bit_or need a) bar 0) (guard x (bit_or need b) bar 0) h
        (λ g. widen (bit_or a b) a i one has_a (guard_satisfies x (bit_or need a) bar 0 g))
        (λ g. widen (bit_or a b) b j other has_b (guard_satisfies x (bit_or need b) bar 0 g))))

-- marks as powers of 2
power_here : (i : ℕ) → bit (2 ^ i) i ≡ 1
power_here i = let e : 2 ^ i ≡ 0 + 2 ^ i = omega arith in ap (λ m. bit m i) e ∙ bit_add_same i 0 (bit_zero i)

power_other : (i k : ℕ) → (k ≡ i → ⊥) → bit (2 ^ i) k ≡ 0
power_other i k n = let e : 2 ^ i ≡ 0 + 2 ^ i = omega arith in ap (λ m. bit m k) e ∙ bit_add_other i k 0 (bit_zero i) n ∙ bit_zero k

power_lone : (i : ℕ) → Lone (2 ^ i) i
power_lone i = record { here = power_here i; only = λ k e. at k e (ℕ_discrete k i) }
  where
    at : (k : ℕ) → bit (2 ^ i) k ≡ 1 → Dec (k ≡ i) → k ≡ i
    at k e (yes d) = d
    at k e (no d) = absurd (let z : ⊥ = omega (arith, power_other i k d) in z)

-- adding a mark that is not there is joining it
add_or : (m i : ℕ) → bit m i ≡ 0 → m + 2 ^ i ≡ bit_or m (2 ^ i)
add_or m i h = bit_ext (m + 2 ^ i) (bit_or m (2 ^ i)) (λ k. at k (ℕ_discrete k i))
  where
    at : (k : ℕ) → Dec (k ≡ i) → bit (m + 2 ^ i) k ≡ bit (bit_or m (2 ^ i)) k
    at k (yes e) = rw e (omega (arith, bit_add_same i m h, bit-or m (2 ^ i) i, power_here i, h))
    at k (no e) = omega (arith, bit_add_other i k m h e, bit-or m (2 ^ i) k, power_other i k e)

pub guard_sum : (x need bar i j : ℕ) → (i ≡ j → ⊥) → bit need i ≡ 0 → bit need j ≡ 0
    → guard x need bar (2 ^ i + 2 ^ j) ≡ guard x (need + 2 ^ i) bar 0 || guard x (need + 2 ^ j) bar 0
guard_sum x need bar i j apart hi hj =
    rw (add_or need i hi, add_or need j hj, add_or (2 ^ i) j (power_other i j (λ e. apart (sym e))))
    (guard_either x need bar (2 ^ i) (2 ^ j) i j (power_lone i) (power_lone j))

-- an automaton with one move replaced by two
abbrev pub half : ℕ → Move → Move
half i m = record { from = m.from; need = m.need + 2 ^ i; bar = m.bar; any = 0; to = m.to }

unfoldable pub first_then : Move → (ℕ → Move) → ℕ → Move
first_then m others zero = m
first_then m others (suc k) = others k

pub record SplitMove (a b : Automaton) : Type 0 where
  pub states : a.states ≡ b.states
  pub first : a.first ≡ b.first
  pub accept : a.accept ≡ b.accept
  pub i : ℕ
  pub j : ℕ
  pub apart : i ≡ j → ⊥
  pub m : Move
  pub either : m.any ≡ 2 ^ i + 2 ^ j
  pub lacks_i : bit m.need i ≡ 0
  pub lacks_j : bit m.need j ≡ 0
  pub others : ℕ → Move
  pub n : ℕ
  pub whole : Relisted (move a) (move_count a) (first_then m others) (suc n)
  pub halves : Relisted (move b) (move_count b) (first_then (half i m) (first_then (half j m) others)) (suc (suc n))

any_first : (p : Move → Bool) (m : Move) (xs : ℕ → Move) (n : ℕ) → any_below (suc n) (λ k. p (first_then m xs k)) ≡ p m || any_below n (λ k. p (xs k))
unfolding any_below first_then
any_first p m xs zero = sym (or-false (p m))
any_first p m xs (suc n) = ap (λ b. b || p (xs n)) (any_first p m xs n) ∙ or_assoc (p m) (any_below n (λ k. p (xs k))) (p (xs n))

-- a choice of two guards, with other tests on either side
among : (l g h r : Bool) → ((l && (g || h)) && r) ≡ (((l && g) && r) || ((l && h) && r))
among false g h r = refl
among true true h true = refl
among true true true false = refl
among true true false false = refl
among true false h r = refl

module _ (a b : Automaton) (s : SplitMove a b) where
  abbrev one : Move
  one = half s.i s.m

  abbrev other : Move
  other = half s.j s.m

  split_opens : (x : ℕ) → opens x s.m ≡ opens x one || opens x other
  split_opens x = rw s.either (guard_sum x s.m.need s.m.bar s.i s.j s.apart s.lacks_i s.lacks_j)

  split_any : (p : Move → Bool) → p s.m ≡ p one || p other → any_below (move_count a) (λ k. p (move a k)) ≡ any_below (move_count b) (λ k. p (move b k))
  split_any p e =
      any_relisted p (move a) (move_count a) (first_then s.m s.others) (suc s.n) s.whole
      ∙ any_first p s.m s.others s.n
      ∙ ap (λ t. t || any_below s.n (λ k. p (s.others k))) e
      ∙ or_assoc (p one) (p other) (any_below s.n (λ k. p (s.others k)))
      ∙ ap (λ t. p one || t) (sym (any_first p other s.others s.n))
      ∙ sym (any_first p one (first_then other s.others) (suc s.n))
      ∙ sym (any_relisted p (move b) (move_count b) (first_then one (first_then other s.others)) (suc (suc s.n)) s.halves)

  split_step : (x q r : ℕ) → step a x q r ≡ step b x q r
  unfolding step leads fits
  split_step x q r =
      split_any (λ (m : Move). (eqb m.from q && opens x m) && eqb m.to r)
      (ap (λ t. (eqb s.m.from q && t) && eqb s.m.to r) (split_opens x) ∙ among (eqb s.m.from q) (opens x one) (opens x other) (eqb s.m.to r))

  split_blocked : (x q : ℕ) → blocked a x q ≡ blocked b x q
  unfolding blocked fits
  split_blocked x q = ap not (split_any (λ (m : Move). eqb m.from q && opens x m)
      (ap (λ t. eqb s.m.from q && t) (split_opens x) ∙ and-or_distrib_left (eqb s.m.from q) (opens x one) (opens x other)))

  pub split_alike : Alike a b
  split_alike = record { states = s.states; first = s.first; accept = s.accept; steps = split_step; blocks = split_blocked }
