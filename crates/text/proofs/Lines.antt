-- What a line comes to.
--   within_both             == what a range test says
--   same_below              == a test against a bound of at most 4,000,000,000 does not tell a held value from the exact one, and a
--                              number that passes it was not held
--   one_held                == so a line of good form is judged by held values as by the exact ones
--   one_bad                 == a line of one number has a bad form where there is no number
--   from_bad, from_good     == what the line at an index is, by its number
--   Fails s l f             == the fault f is that of the line l, or of a line of s
--   Led s Q l r             == behind the line l comes the line r: a fault, or, where l has none, numbers of which Q holds
--   closed_led, low         == what a line of any kind leads to, by its last number; and what is then below a bound
--   one_led, one_most       == a line of one number leads to one in its range
--   one_none, one_some      == and is read as promised
--   Ended l x v c           == lines that end with l, read as x, are told as v, with the cursor c behind them
--   told_ok, told_err, told_fault
--                           == how lines end that are told with a cursor, or with a fault; and back
--   one_ok, one_err         == so for a line of one number
use mathlib.Core.Path.{◌≡◌, refl, sym, ap, ◌∙◌}
use mathlib.Core.Bool.{Bool, true, false, cond}
use mathlib.Core.List.{List}
use Prim.Native.Nat.{ℕ, ◌-◌, ◌≤◌, ◌<◌, min}
use native.Mathlib.Omega.{arith}
use lib.Dec.{ltb}
use borrow.Author.Tests.{ltb-true, ltb-false, lt-ltb, le-ltb}
use Rattle.std.specs.Prelude.{Some, None, Result, Ok, Err}
use Rattle.text.specs.Fault as fault
use Rattle.text.specs.Scan.{Number, key_at, first_number, value_of, cap, line_at}
use Rattle.text.specs.Line.{Line, pair, bad_form, judged, closed, within, one_from, line_of_one, numbers_of, first_of, top, told, OneRead, good}
use Rattle.text.specs.declared.fault.Fault.{Fault}
use Rattle.text.specs.declared.line.Numbers.{Numbers}
use Rattle.text.specs.declared.line.Cursor.{Cursor}
use Rattle.text.proofs.Held.{Told, held_told, held_bad}
use Rattle.text.proofs.Told.{told_judged}

pub within_both : (x low bound : ℕ) → within x low bound ≡ true → (low ≤ x) × (x < bound)
unfolding within
within_both x low bound e = by_test (ltb x low) (ltb x bound) refl refl e
  where
    by_test : (t u : Bool) → ltb x low ≡ t → ltb x bound ≡ u → cond t false u ≡ true → (low ≤ x) × (x < bound)
    by_test true u p q e = let z : ◌≡◌ {A = ℕ} 0 1 = cc in absurd (omega arith)
    by_test false u p q e = (ltb-false x low p, ltb-true x bound (q ∙ e))

-- the exact values are v, the held ones x
pub record Same (v x bound : ℕ) : Type 0 where
  pub test : ltb x bound ≡ ltb v bound
  pub passed : ltb v bound ≡ true → x ≡ v

pub same_below : (v x bound : ℕ) → x ≡ min v 4000000000 → bound ≤ 4000000000 → Same v x bound
same_below v x bound e h = by (ltb v bound) refl
  where
    by : (t : Bool) → ltb v bound ≡ t → Same v x bound
    by true p = let l = ltb-true v bound p in record { test = lt-ltb x bound (omega arith) ∙ sym p; passed = λ q. omega arith }
    by false p = let l = ltb-false v bound p in record { test = le-ltb x bound (omega arith) ∙ sym p; passed = λ q. omega (arith, ltb-true v bound q) }

pub judged_same : {T : Type 0} (s : List ℕ) (at next : ℕ) (t u : Bool) (xs ys : T) → t ≡ u → (u ≡ true → xs ≡ ys)
    → judged s at next t xs ≡ judged s at next u ys
judged_same s at next t true xs ys e f = rw (e, f refl)
judged_same s at next t false xs ys e f = rw e

module _ (s : List ℕ) (at next : ℕ) where
  one_held : (v x low bound : ℕ) → x ≡ min v 4000000000 → bound ≤ 4000000000
      → judged s at next (within x low bound) (pair x 0) ≡ judged s at next (within v low bound) (pair v 0)
  unfolding within
  one_held v x low bound e h = by (ltb v low) (ltb x low) refl refl
    where
      k : Same v x bound
      k = same_below v x bound e h

      by : (t u : Bool) → ltb v low ≡ t → ltb x low ≡ u
          → judged s at next (cond u false (ltb x bound)) (pair x 0) ≡ judged s at next (cond t false (ltb v bound)) (pair v 0)
      by true true p q = refl
      by false false p q = judged_same s at next _ _ _ _ k.test (λ g. rw (k.passed g))
      by true false p q = let l = ltb-true v low p in let m = ltb-false x low q in absurd (omega arith)
      by false true p q =
          let l = ltb-false v low p in let m = ltb-true x low q in
          rw (le-ltb v bound (omega arith))

-- a line that stands behind one without a fault
pub one_bad : (s : List ℕ) (l : Line) (key : List ℕ) (xs : Numbers) (c : Cursor) → l ≡ Ok (xs, c) → (low bound : ℕ)
    → first_number s (key_at s c.at key) 10 ≡ None → Err (bad_form s c.at) ≡ line_of_one s l key low bound
unfolding line_of_one
one_bad s l key xs c p low bound e = rw (p, e)

-- the number behind a key
module _ (s : List ℕ) (at : ℕ) (key : List ℕ) where
  abbrev first : Number
  first = first_number s (key_at s at key) 10

  from_bad : (low bound : ℕ) → first ≡ None → Err (bad_form s at) ≡ one_from s at key low bound
  unfolding line_of_one
  from_bad low bound e = one_bad s (Ok (pair 0 0, record { at = at })) key _ _ refl low bound e

  from_good : (low bound x n : ℕ) → bound ≤ 4000000000 → Told first x n
      → judged s at n (within x low bound) (pair x 0) ≡ one_from s at key low bound
  from_good low bound x n h a = one_held s at n (value_of first) x low bound a.held h ∙ rw a.is

-- what a line leads to
pub data Fails (s : List ℕ) (l : Line) (f : Fault) : Type 0 where
  before : l ≡ Err f → Fails s l f
  here : (at : ℕ) → fault.line_of f ≡ line_at s at → Fails s l f

abbrev pub Led : List ℕ → (Numbers → Type 0) → Line → Line → Type 0
Led s Q l (Ok (xs, c)) = (good l ≡ true) × Q xs
Led s Q l (Err f) = Fails s l f

abbrev pub First : ℕ → ℕ → Numbers → Type 0
First low bound xs = within xs.first low bound ≡ true

module _ (s : List ℕ) (Q : Numbers → Type 0) (l : Line) where
  pub closed_led : good l ≡ true → (at : ℕ) (n : Number) (t : Bool) (xs : Numbers) → (t ≡ true → Q xs) → Led s Q l (closed s at n t xs)
  closed_led g at None t xs f = here at refl
  closed_led g at (Some (v, i)) true xs f = (g, f refl)
  closed_led g at (Some (v, i)) false xs f = here at refl

  pub low : (f : Numbers → ℕ) (bound : ℕ) → f (pair 0 0) ≡ 0 → ((xs : Numbers) → Q xs → f xs < bound) → (r : Line) → Led s Q l r
      → f (numbers_of r) ≤ bound - 1
  low f bound z h (Ok (xs, c)) g = omega (arith, h xs g.1)
  low f bound z h (Err e) g = omega (arith, z)

module _ (s : List ℕ) where
  pub one_led : (l : Line) (key : List ℕ) (low bound : ℕ) → Led s (First low bound) l (line_of_one s l key low bound)
  unfolding line_of_one
  one_led (Err f) key low bound = before refl
  one_led (Ok (xs, c)) key low bound =
      closed_led s (First low bound) (Ok (xs, c)) refl c.at (first_number s (key_at s c.at key) 10) _ _ (λ e. e)

module _ (s : List ℕ) (l : Line) (key : List ℕ) where
  pub one_most : (least bound : ℕ) → first_of (line_of_one s l key least bound) ≤ bound - 1
  one_most least bound =
      low s (First least bound) l (λ xs. xs.first) bound refl (λ xs h. (within_both xs.first least bound h).1) _ (one_led s l key least bound)

module _ (s : List ℕ) (at : ℕ) (key : List ℕ) (least bound : ℕ) where
  abbrev given : Line
  given = one_from s at key least bound

  abbrev value_in : Result (ℕ × Cursor) Fault → ℕ
  value_in (Ok (x, c)) = x
  value_in (Err f) = 0

  -- what a line of one number is read as is in its range
  one_low : (l : Line) → Led s (First least bound) top l → (x : ℕ) (c : Cursor) → told l (first_of l) ≡ Ok (x, c) → x < bound
  one_low (Ok (xs, d)) g x c e = let y : xs.first ≡ x = ap value_in e in omega (arith, (within_both xs.first least bound g.1).1, y)
  one_low (Err f) g x c e = let z : ◌≡◌ {A = ℕ} 0 1 = cc in absurd (omega arith)

  one_is : (r : Result (ℕ × Cursor) Fault) → r ≡ told given (first_of given) → OneRead given bound r
  one_is r e = record {
    same = e;
    low = λ x c h.
        one_low given (closed_led s (First least bound) top refl at (first_number s (key_at s at key) 10) _ _ (λ e. e)) x c (sym e ∙ h);
  }

  -- n is the number behind the key, held
  module _ (n : Number) (k : n ≡ cap (first_number s (key_at s at key) 10)) where
    pub one_none : n ≡ None → OneRead given bound (Err (bad_form s at))
    one_none e = one_is _ (rw (← from_bad s at key least bound (held_bad _ n k e)))

    pub one_some : bound ≤ 4000000000 → (x i : ℕ) → n ≡ Some (x, i) → OneRead given bound (judged s at i (within x least bound) x)
    one_some h x i e =
        one_is _ (told_judged s at i (within x least bound) x
        ∙ ap (λ l. told l (first_of l)) (from_good s at key least bound x i h (held_told _ n k x i e)))

-- lines that end with l and are told as v end at c
pub record Ended {T : Type 0} (l : Line) (x v : T) (c : Cursor) : Type 0 where
  pub numbers : Numbers
  pub line : l ≡ Ok (numbers, c)
  pub same : x ≡ v

pub told_ok : {T : Type 0} (l : Line) (x v : T) (c : Cursor) → told l x ≡ Ok (v, c) → Ended l x v c
told_ok {T} (Ok (xs, d)) x v c e =
    let p : ◌≡◌ {A = T × Cursor} (x, d) (v, c) = cc e in
    record { numbers = xs; line = ap (λ p. Ok (xs, p.1)) p; same = ap (λ p. p.0) p }
told_ok (Err f) x v c e = let z : ◌≡◌ {A = ℕ} 0 1 = cc in absurd (omega arith)

pub told_err : {T : Type 0} (l : Line) (x : T) (f : Fault) → told l x ≡ Err f → l ≡ Err f
told_err (Ok (xs, c)) x f e = let z : ◌≡◌ {A = ℕ} 0 1 = cc in absurd (omega arith)
told_err (Err g) x f e = let p : g ≡ f = cc e in rw p

pub told_fault : {T : Type 0} (l : Line) (x : T) (f : Fault) → l ≡ Err f → Err f ≡ told l x
told_fault l x f e = rw e

module _ (s : List ℕ) (at : ℕ) (key : List ℕ) (least bound : ℕ) (r : Result (ℕ × Cursor) Fault)
    (h : OneRead (one_from s at key least bound) bound r) where
  pub one_err : (f : Fault) → r ≡ Err f → one_from s at key least bound ≡ Err f
  one_err f e = told_err _ _ f (sym h.same ∙ e)

  pub one_ok : (v : ℕ) (c : Cursor) → r ≡ Ok (v, c) → one_from s at key least bound ≡ Ok (pair v 0, c)
  one_ok v c e = by (first_number s (key_at s at key) 10) _ (sym h.same ∙ e)
    where
      by : (n : Number) (t : Bool) → told (closed s at n t (pair (value_of n) 0)) (first_of (closed s at n t (pair (value_of n) 0))) ≡ Ok (v, c)
          → closed s at n t (pair (value_of n) 0) ≡ Ok (pair v 0, c)
      by None t e = let z : ◌≡◌ {A = ℕ} 0 1 = cc in absurd (omega arith)
      by (Some (w, i)) true e = let p : ◌≡◌ {A = ℕ × Cursor} (w, record { at = i }) (v, c) = cc e in ap (λ p. Ok (pair p.0 0, p.1)) p
      by (Some (w, i)) false e = let z : ◌≡◌ {A = ℕ} 0 1 = cc in absurd (omega arith)
