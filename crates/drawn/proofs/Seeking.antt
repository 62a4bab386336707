-- The search for a line that begins with a key.
--   key_stands          == whether a key stands at an index, by what is read there
--   with_turn           == one byte of the search
--   with_here, with_on  == the line is found where it begins with the key; else the search goes on with the next byte
--   with_past           == past the text there is none
use mathlib.Core.Path.{◌≡◌, refl, ◌∙◌}
use mathlib.Core.Bool.{Bool, true, false, cond, ◌&&◌}
use mathlib.Core.List.{List}
use Prim.Native.Nat.{ℕ, ◌+◌, ◌≤◌, ◌<◌}
use native.Mathlib.Omega.{arith}
use native.Mathlib.Numerals.{add-one}
use lib.Dec.{eqb}
use lib.ListN.{length, drop, get_or, drop_of_length-le}
use lib.Seq.{drop-cons}
use Rattle.std.specs.Prelude.{Option, Some, None, is_some}
use Rattle.text.specs.Scan.{starts_with, pick, key_at}
use Rattle.drawn.specs.Drawing.{line_with}

pub key_stands : (s : List ℕ) (at : ℕ) (key : List ℕ) (k : Option ℕ) → k ≡ key_at s at key → is_some k ≡ starts_with key (drop at s)
unfolding key_at
key_stands s at key k e = by (starts_with key (drop at s)) e
  where
    by : (t : Bool) → k ≡ pick t (Some (at + length key)) → is_some k ≡ t
    by true p = rw p
    by false p = rw p

module _ (s key : List ℕ) (fresh : Bool) (i : ℕ) where
  pub with_past : length s ≤ i → line_with key fresh i (drop i s) ≡ None
  unfolding line_with
  with_past h = rw (drop_of_length-le s h)

  module _ (h : i < length s) where
    with_turn : line_with key fresh i (drop i s)
        ≡ cond (fresh && starts_with key (drop i s)) (Some i) (line_with key (eqb (get_or s i 0) 10) (i + 1) (drop (i + 1) s))
    unfolding line_with
    with_turn = rw (drop-cons s i 0 h, add-one i)

    pub with_here : (fresh && starts_with key (drop i s)) ≡ true → line_with key fresh i (drop i s) ≡ Some i
    with_here e = with_turn ∙ rw e

    pub with_on : (fresh && starts_with key (drop i s)) ≡ false
        → line_with key fresh i (drop i s) ≡ line_with key (eqb (get_or s i 0) 10) (i + 1) (drop (i + 1) s)
    with_on e = with_turn ∙ rw e
