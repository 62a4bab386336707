-- Laws of marks.
--   marks_length == marking keeps the length
--   marks_at     == an entry is 1 where some cell is it, else what it was
--   marks_apart  == entries that are no cell stay
--   marks_same   == cells that agree mark the same
--   mark_next    == one turn more, as a loop has it
use mathlib.Core.Path.{◌≡◌, refl, sym, ap₂, ◌∙◌}
use mathlib.Core.Bool.{cond, ◌||◌, or-false, or-true}
use mathlib.Core.List.{List}
use Prim.Native.Nat.{ℕ, zero, suc, ◌+◌, ◌<◌}
use native.Mathlib.Decide.{ℕ_discrete}
use native.Mathlib.Numerals.{add-one}
use native.Mathlib.Omega.{arith}
use borrow.Author.Tests.{eq-eqb, ne_eqb}
use lib.ListN.{length, get_or, set, length-set}
use lib.Seq.{get_or-set_same, get_or-set_other}
use lib.Dec.{eqb}
use Rattle.base.specs.Below.{any_below}
use Rattle.base.specs.Marks.{marks}

module _ (cell : ℕ → ℕ) where
  pub marks_length : (n : ℕ) (l : List ℕ) → length (marks cell n l) ≡ length l
  unfolding marks
  marks_length zero l = refl
  marks_length (suc n) l = length-set (marks cell n l) (cell n) 1 ∙ marks_length n l

  pub marks_apart : (n : ℕ) (l : List ℕ) (i : ℕ) → ((t : ℕ) → t < n → cell t ≡ i → ⊥) → get_or (marks cell n l) i 0 ≡ get_or l i 0
  unfolding marks
  marks_apart zero l i h = refl
  marks_apart (suc n) l i h =
      get_or-set_other (marks cell n l) (cell n) i 1 0 (λ e. h n (omega arith) (sym e)) ∙ marks_apart n l i (λ t k. h t (omega arith))

  pub marks_at : (n : ℕ) (l : List ℕ) (i : ℕ) → i < length l → get_or (marks cell n l) i 0 ≡ cond (any_below n (λ t. eqb (cell t) i)) 1 (get_or l i 0)
  unfolding marks any_below
  marks_at zero l i h = refl
  marks_at (suc n) l i h = at (ℕ_discrete (cell n) i) (marks_at n l i h)
    where
      at : Dec (cell n ≡ i) → get_or (marks cell n l) i 0 ≡ cond (any_below n (λ t. eqb (cell t) i)) 1 (get_or l i 0)
          → get_or (set (marks cell n l) (cell n) 1) i 0 ≡ cond (any_below n (λ t. eqb (cell t) i) || eqb (cell n) i) 1 (get_or l i 0)
      at (yes e) ih =
          rw (eq-eqb (cell n) i e, or-true, e) (get_or-set_same (marks cell n l) i 1 0 (let z : i < length (marks cell n l) = omega (arith, marks_length n l) in z))
      at (no e) ih = rw (ne_eqb (cell n) i e, or-false) (get_or-set_other (marks cell n l) (cell n) i 1 0 (λ k. e (sym k)) ∙ ih)

  pub marks_same : (other : ℕ → ℕ) (n : ℕ) (l : List ℕ) → ((t : ℕ) → t < n → cell t ≡ other t) → marks cell n l ≡ marks other n l
  unfolding marks
  marks_same other zero l h = refl
  marks_same other (suc n) l h = ap₂ (λ m x. set m x 1) (marks_same other n l (λ t k. h t (omega arith))) (h n (omega arith))

  pub mark_next : (n : ℕ) (l now next : List ℕ) (x : ℕ) → now ≡ marks cell n l → x ≡ cell n → next ≡ set now x 1 → next ≡ marks cell (n + 1) l
  unfolding marks
  mark_next n l now next x e k s = rw (add-one, ← e, ← k) s
