-- What lines were read as, and what that says of them.
--   told_fault, made_fault  == where that is a fault, the lines end with it
--   Told l x y c, told_read == where it is a value y with a cursor c, they end without a fault, at c, and y is x
--   Made l x y, made_read   == the same without a cursor
--   ended_fault, ended_read == what the end of a text says of its last line
--   told_judged             == what is read of a line of one number
use mathlib.Core.Path.{◌≡◌, refl, ap}
use mathlib.Core.Bool.{Bool, true, false, cond}
use mathlib.Core.List.{List}
use native.Mathlib.Omega.{arith}
use lib.Dec.{ltb}
use lib.ListN.{length}
use Rattle.std.specs.Prelude.{ℕ, ⊤, Ok, Err, Result}
use Rattle.text.specs.Line.{Line, pair, bad_form, judged, first_of, finish, ended, told, made}
use Rattle.text.specs.declared.fault.Fault.{Fault}
use Rattle.text.specs.declared.line.Numbers.{Numbers}
use Rattle.text.specs.declared.line.Cursor.{Cursor}

module _ {T : Type 0} where
  pub told_fault : (l : Line) (x : T) (f : Fault) → Err f ≡ told l x → l ≡ Err f
  told_fault (Err g) x f e = let p : f ≡ g = cc e in rw p
  told_fault (Ok (xs, c)) x f e = let z : ◌≡◌ {A = ℕ} 0 1 = cc in absurd (omega arith)

  pub record Told (l : Line) (x y : T) (c : Cursor) : Type 0 where
    pub numbers : Numbers
    pub line : l ≡ Ok (numbers, c)
    pub same : y ≡ x

  pub told_read : (l : Line) (x y : T) (c : Cursor) → Ok (y, c) ≡ told l x → Told l x y c
  told_read (Err g) x y c e = let z : ◌≡◌ {A = ℕ} 0 1 = cc in absurd (omega arith)
  told_read (Ok (xs, d)) x y c e =
      let p : ◌≡◌ {A = T × Cursor} (y, c) (x, d) = cc e in
      let k : c ≡ d = ap (λ q. q.1) p in
      record { numbers = xs; line = rw k; same = ap (λ q. q.0) p }

  pub made_fault : (l : Line) (x : T) (f : Fault) → Err f ≡ made l x → l ≡ Err f
  made_fault (Err g) x f e = let p : f ≡ g = cc e in rw p
  made_fault (Ok (xs, c)) x f e = let z : ◌≡◌ {A = ℕ} 0 1 = cc in absurd (omega arith)

  pub record Made (l : Line) (x y : T) : Type 0 where
    pub numbers : Numbers
    pub end : Cursor
    pub line : l ≡ Ok (numbers, end)
    pub same : y ≡ x

  pub made_read : (l : Line) (x y : T) → Ok y ≡ made l x → Made l x y
  made_read (Err g) x y e = let z : ◌≡◌ {A = ℕ} 0 1 = cc in absurd (omega arith)
  made_read (Ok (xs, c)) x y e = record { numbers = xs; end = c; line = refl; same = cc e }

module _ (s : List ℕ) (xs : Numbers) (c : Cursor) where
  pub ended_fault : (f : Fault) → Err f ≡ ended s c.at → finish s (Ok (xs, c)) ≡ Err f
  unfolding finish
  ended_fault f e = by (ltb c.at (length s)) e
    where
      by : (t : Bool) → ◌≡◌ {A = Result ⊤ Fault} (Err f) (cond t (Err (bad_form s c.at)) (Ok tt)) → ◌≡◌ {A = Line} (cond t (Err (bad_form s c.at)) (Ok (xs, c))) (Err f)
      by true p = let k : f ≡ bad_form s c.at = cc p in rw k
      by false p = let z : ◌≡◌ {A = ℕ} 0 1 = cc in absurd (omega arith)

  pub ended_read : (u : ⊤) → Ok u ≡ ended s c.at → finish s (Ok (xs, c)) ≡ Ok (xs, c)
  unfolding finish
  ended_read u e = by (ltb c.at (length s)) e
    where
      by : (t : Bool) → ◌≡◌ {A = Result ⊤ Fault} (Ok u) (cond t (Err (bad_form s c.at)) (Ok tt)) → ◌≡◌ {A = Line} (cond t (Err (bad_form s c.at)) (Ok (xs, c))) (Ok (xs, c))
      by true p = let z : ◌≡◌ {A = ℕ} 0 1 = cc in absurd (omega arith)
      by false p = refl

pub told_judged : (s : List ℕ) (at next : ℕ) (t : Bool) (x : ℕ)
    → judged s at next t x ≡ told (judged s at next t (pair x 0)) (first_of (judged s at next t (pair x 0)))
told_judged s at next true x = refl
told_judged s at next false x = refl
