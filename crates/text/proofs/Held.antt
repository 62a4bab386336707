-- Numbers whose value is held, as the code knows them: a chain of held numbers is the chain of the exact ones, held.
--   Held n m               == m is the number n, its value held
--   Told n x i             == the number n ends before index i, and x is its value, held
--   index_of n             == the index behind a number, 0 of None
--   held_told, held_bad    == what a held number says of the exact one
--   told_held, bad_held    == and back
--   else_held, either_held == the steps of a chain
use mathlib.Core.Path.{◌≡◌, refl, sym, ap, ◌∙◌}
use mathlib.Core.List.{List}
use Prim.Native.Nat.{ℕ, min}
use native.Mathlib.Omega.{arith}
use Rattle.std.specs.Prelude.{Some, None}
use Rattle.text.specs.Scan.{Number, next_number, else_number, either, value_of, cap}

pub record Held (n m : Number) : Type 0 where
  pub same : m ≡ cap n

pub record Told (n : Number) (x i : ℕ) : Type 0 where
  pub is : n ≡ Some (value_of n, i)
  pub held : x ≡ min (value_of n) 4000000000

abbrev pub index_of : Number → ℕ
index_of (Some (v, i)) = i
index_of None = 0

cap_value : (n : Number) (x i : ℕ) → cap n ≡ Some (x, i) → Told n x i
unfolding cap
cap_value (Some (v, j)) x i e = record { is = ap (λ k. Some (v, k)) (ap index_of e); held = sym (ap value_of e) }
cap_value None x i e = let z : ◌≡◌ {A = ℕ} 0 1 = cc in absurd (omega arith)

cap_none : (n : Number) → cap n ≡ None → n ≡ None
unfolding cap
cap_none (Some (v, j)) e = let z : ◌≡◌ {A = ℕ} 0 1 = cc in absurd (omega arith)
cap_none None e = refl

-- m is the number n, held
module _ (n m : Number) (h : m ≡ cap n) where
  pub held_told : (x i : ℕ) → m ≡ Some (x, i) → Told n x i
  held_told x i e = cap_value n x i (sym h ∙ e)

  pub held_bad : m ≡ None → n ≡ None
  held_bad e = cap_none n (sym h ∙ e)

-- and back: a number that is told is held so
pub told_held : (n : Number) (x i : ℕ) → Told n x i → Held n (Some (x, i))
unfolding cap
told_held n x i a = record { same = rw (a.is, a.held) }

pub bad_held : (n : Number) → n ≡ None → Held n None
unfolding cap
bad_held n e = record { same = rw e }

next_cap : (s : List ℕ) (n : Number) (e : ℕ) → next_number s (cap n) e ≡ next_number s n e
unfolding cap
next_cap s (Some (v, i)) e = refl
next_cap s None e = refl

else_cap : (s : List ℕ) (n m : Number) (e : ℕ) → else_number s (cap n) (cap m) e ≡ else_number s n m e
unfolding cap
else_cap s (Some (v, i)) m e = refl
else_cap s None m e = next_cap s m e

either_cap : (n m : Number) → either (cap n) (cap m) ≡ cap (either n m)
unfolding cap
either_cap (Some (v, i)) m = refl
either_cap None m = refl

pub else_held : (s : List ℕ) (e : ℕ) (n m p q r : Number) → Held n m → Held p q → r ≡ cap (else_number s m q e) → Held (else_number s n p e) r
else_held s e n m p q r h g k = record { same = k ∙ rw (h.same, g.same) (ap cap (else_cap s n p e)) }

pub either_held : (n m p q r : Number) → Held n m → Held p q → r ≡ either m q → Held (either n p) r
either_held n m p q r h g k = record { same = k ∙ rw (h.same, g.same) (either_cap n p) }
