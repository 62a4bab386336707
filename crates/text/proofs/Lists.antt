-- Laws of `under`: all numbers of a list are below a bound.
--   under_intro, under_elim == so it is where every entry is below it, and only there
--   under_append            == a joined list is where both its parts are
--   under_more              == and below every bound that is not smaller
use mathlib.Core.Path.{◌≡◌, refl}
use mathlib.Core.Bool.{Bool, true, false, ◌&&◌, and_assoc}
use mathlib.Core.List.{List, [], ◌∷◌, ◌++◌}
use Prim.Native.Nat.{ℕ, zero, suc, ◌≤◌, ◌<◌}
use native.Mathlib.Omega.{arith}
use lib.ListN.{length, get_or}
use lib.Dec.{ltb}
use borrow.Author.Tests.{ltb-true, lt-ltb}
use Rattle.text.specs.List.{under}

pub under_intro : (bound : ℕ) (ns : List ℕ) → ((i : ℕ) → i < length ns → get_or ns i 0 < bound) → under bound ns ≡ true
unfolding under
under_intro bound [] h = refl
under_intro bound (n ∷ ns) h = rw (lt-ltb n bound (h 0 (omega arith))) (under_intro bound ns (λ i l. h (suc i) (omega arith)))

pub under_elim : (bound : ℕ) (ns : List ℕ) → under bound ns ≡ true → (i : ℕ) → i < length ns → get_or ns i 0 < bound
unfolding under
under_elim bound [] u i l = absurd (omega arith)
under_elim bound (n ∷ ns) u i l = by (ltb n bound) refl u (under_elim bound ns) i l
  where
    by : (b : Bool) → ltb n bound ≡ b → (b && under bound ns) ≡ true → (under bound ns ≡ true → (i : ℕ) → i < length ns → get_or ns i 0 < bound)
        → (i : ℕ) → i < length (n ∷ ns) → get_or (n ∷ ns) i 0 < bound
    by true e u rest zero l = ltb-true n bound e
    by true e u rest (suc i) l = rest u i (omega arith)
    by false e u rest i l = let z : ◌≡◌ {A = ℕ} 0 1 = cc in absurd (omega arith)

pub under_append : (bound : ℕ) (vs ws : List ℕ) → under bound (vs ++ ws) ≡ under bound vs && under bound ws
unfolding under
under_append bound [] ws = refl
under_append bound (v ∷ vs) ws = rw (under_append bound vs ws, and_assoc)

pub under_more : (a b : ℕ) → a ≤ b → (ns : List ℕ) → under a ns ≡ true → under b ns ≡ true
under_more a b h ns u = under_intro b ns (λ i l. omega (arith, under_elim a ns u i l))
