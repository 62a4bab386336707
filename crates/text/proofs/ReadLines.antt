-- A line that is written is read back: what stands at index `at` of s is a key line, and behind it `rest`.
--   drop_past, drop_next == what stands behind a part, and behind the byte that follows it
--   first-at       == the byte at an index is the first of what stands there
--   key_back       == a key that stands there is found
--   line-key, line_value, line_rest, line_end
--                  == of a key line: its key, what stands behind the key, what stands behind the line, and where that is
--   value_back     == the number behind the key of a line is the one that was written
--   within_from_0  == a number below a bound is in the range from 0 to it
--   one_back       == a line of one number is read as that number, with the index behind the line
--   entries_last   == a number that no comma ends is the last of its list
--   entries_back   == numbers that are joined are read one after the other
--   commas_fit     == numbers are no more than the bytes that they are written with
--   items_back     == a list is read as its numbers, also an empty one
--   list_back      == a line that holds a list is read as where that stands and how long it is, with the index behind the line
--   places_back    == the numbers that are then read there are those that were written
--   finish_back    == a line behind which nothing stands is the last
use mathlib.Core.Path.{◌≡◌, refl, sym, ap, ◌∙◌}
use mathlib.Core.Bool.{true}
use mathlib.Core.List.{List, [], ◌∷◌, ◌++◌, append-nil, append_assoc}
use Prim.Native.Nat.{ℕ, zero, suc, ◌+◌, ◌≤◌, ◌<◌}
use native.Mathlib.Nat.{add-zero}
use native.Mathlib.Omega.{arith}
use borrow.Author.Tests.{lt-ltb, le-ltb, eq-eqb, ne_eqb}
use lib.ListN.{length, drop, get_or, length-append, length-drop, get_or-append}
use lib.Seq.{drop-drop, drop-append_seam, get_or-drop}
use Rattle.std.specs.Prelude.{Some, None, Ok}
use Rattle.text.specs.Scan.{starts_with, is_digit, key_at, first_number, number_at}
use Rattle.text.specs.Decimal.{decimal}
use Rattle.text.specs.KeyLine.{commaed, joined, key_line}
use Rattle.text.specs.Line.{pair, within, line_of_one, finish}
use Rattle.text.specs.List.{items, last, entries, items_at, under, ListLine, list_line, places_of}
use Rattle.text.specs.declared.line.Numbers.{Numbers}
use Rattle.text.proofs.Decimals.{decimal_some, decimal_first}
use Rattle.text.proofs.ReadBack.{read_back, number_other}
use Rattle.text.proofs.KeyLines.{line_length}

pub drop_past : (s : List ℕ) (at : ℕ) (part rest : List ℕ) → drop at s ≡ part ++ rest → drop (at + length part) s ≡ rest
drop_past s at part rest k = sym (drop-drop (length part) at s) ∙ rw (k, drop-append_seam)

drop_next : (s : List ℕ) (at : ℕ) (part : List ℕ) (b : ℕ) (rest : List ℕ) → drop at s ≡ part ++ (b ∷ rest) → drop (at + length part + 1) s ≡ rest
drop_next s at part b rest k = drop_past s (at + length part) (b ∷ []) rest (drop_past s at part (b ∷ rest) k)

first-at : (s : List ℕ) (at : ℕ) → get_or s at 0 ≡ get_or (drop at s) 0 0
first-at s at = rw (get_or-drop at s 0 0, add-zero at)

starts : (key rest : List ℕ) → starts_with key (key ++ rest) ≡ true
unfolding starts_with
starts [] rest = refl
starts (b ∷ key) rest = rw (eq-eqb b b refl) (starts key rest)

pub key_back : (s : List ℕ) (at : ℕ) (key rest : List ℕ) → drop at s ≡ key ++ rest → key_at s at key ≡ Some (at + length key)
unfolding key_at
key_back s at key rest k = rw (k, starts key rest)

module _ (s : List ℕ) (at : ℕ) (key value rest : List ℕ) (k : drop at s ≡ key_line key value ++ rest) where
  parts : drop at s ≡ key ++ (value ++ (10 ∷ rest))
  unfolding key_line
  parts = k ∙ simp append_assoc

  line-key : key_at s at key ≡ Some (at + length key)
  line-key = key_back s at key (value ++ (10 ∷ rest)) parts

  line_value : drop (at + length key) s ≡ value ++ (10 ∷ rest)
  line_value = drop_past s at key (value ++ (10 ∷ rest)) parts

  pub line_rest : drop (at + length (key_line key value)) s ≡ rest
  line_rest = drop_past s at (key_line key value) rest k

  line_end : at + length key + length value + 1 ≡ at + length (key_line key value)
  line_end = rw (line_length key value) (omega arith)

pub within_from_0 : (x bound : ℕ) → x < bound → within x 0 bound ≡ true
unfolding within
within_from_0 x bound h = rw (le-ltb x 0 (omega arith), lt-ltb x bound h)

module _ (s : List ℕ) (at : ℕ) (key : List ℕ) (v : ℕ) (rest : List ℕ) (k : drop at s ≡ key_line key (decimal v) ++ rest) where
  pub value_back : first_number s (key_at s at key) 10 ≡ Some (v, at + length (key_line key (decimal v)))
  unfolding is_digit
  value_back =
      rw (
        line-key s at key (decimal v) rest k,
        read_back v 10 rest refl s (at + length key) (line_value s at key (decimal v) rest k),
        line_end s at key (decimal v) rest k,
      )

  pub one_back : (low bound : ℕ) → within v low bound ≡ true → (xs : Numbers)
      → line_of_one s (Ok (xs, record { at = at })) key low bound
      ≡ Ok (pair v 0, record { at = at + length (key_line key (decimal v)) })
  unfolding line_of_one
  one_back low bound fit xs = rw (value_back, fit)

entries_last : (k : ℕ) (s : List ℕ) (at : ℕ) → number_at s at 44 ≡ None → entries k s at ≡ last (number_at s at 10)
unfolding entries
entries_last zero s at none = refl
entries_last (suc k) s at none = rw none

entries_back : (vs : List ℕ) (k : ℕ) → length vs ≤ k → (s : List ℕ) (at v : ℕ) (rest : List ℕ) → drop at s ≡ joined (v ∷ vs) ++ (10 ∷ rest)
    → entries k s at ≡ items (v ∷ vs) (at + length (joined (v ∷ vs)) + 1)
unfolding entries joined commaed is_digit
entries_back [] k few s at v rest e =
    let here : drop at s ≡ decimal v ++ (10 ∷ rest) = e ∙ rw append-nil in
    rw (entries_last k s at (number_other v 10 rest refl s at 44 here refl), read_back v 10 rest refl s at here, append-nil)
entries_back (w ∷ ws) zero few s at v rest e = absurd (omega arith)
entries_back (w ∷ ws) (suc k) few s at v rest e =
    let behind = joined (w ∷ ws) ++ (10 ∷ rest) in
    let here : drop at s ≡ decimal v ++ (44 ∷ behind) = e ∙ simp append_assoc in
    let from = at + length (decimal v) + 1 in
    let next : drop from s ≡ behind = drop_next s at (decimal v) 44 behind here in
    let end : from + length (joined (w ∷ ws)) + 1 ≡ at + length (joined (v ∷ w ∷ ws)) + 1 = simp length-append (omega arith) in
    rw (read_back v 44 behind refl s at here, entries_back ws k (omega arith) s from w rest next, end)

commas_fit : (vs : List ℕ) → length vs ≤ length (commaed vs)
unfolding commaed
commas_fit [] = omega arith
commas_fit (v ∷ vs) = simp length-append (omega (arith, commas_fit vs))

items_back : (vs : List ℕ) (s : List ℕ) (at : ℕ) (rest : List ℕ) → drop at s ≡ joined vs ++ (10 ∷ rest)
    → items_at s at ≡ items vs (at + length (joined vs) + 1)
unfolding items_at joined
items_back [] s at rest e = rw (first-at s at, e, add-zero at)
items_back (v ∷ vs) s at rest e =
    let digits = get_or-append (decimal v) (commaed vs ++ (10 ∷ rest)) 0 0 (decimal_some v) in
    let first : get_or s at 0 ≡ get_or (decimal v) 0 0 = rw (first-at s at, e, append_assoc, digits) in
    let few : length vs ≤ length s = omega (arith, commas_fit vs, length-drop at s, simp length-append at (ap length e)) in
    rw (first, ne_eqb (get_or (decimal v) 0 0) 10 (λ z. omega (arith, decimal_first v)), entries_back vs (length s) few s at v rest e)

module _ (s : List ℕ) (at : ℕ) (key vs rest : List ℕ) (k : drop at s ≡ key_line key (joined vs) ++ rest) where
  line_items : items_at s (at + length key) ≡ items vs (at + length (key_line key (joined vs)))
  line_items = rw (items_back vs s (at + length key) rest (line_value s at key (joined vs) rest k), line_end s at key (joined vs) rest k)

  pub list_back : (bound : ℕ) → under bound vs ≡ true → (xs : Numbers)
      → ◌≡◌ {A = ListLine} (list_line s (Ok (xs, record { at = at })) key bound)
      (record {
        line = Ok (pair 0 0, record { at = at + length (key_line key (joined vs)) });
        list = record { at = at + length key; count = length vs };
      })
  unfolding list_line
  list_back bound fit xs = rw (line-key s at key (joined vs) rest k, line_items, fit)

  pub places_back : places_of s (record { at = at + length key; count = length vs }) ≡ vs
  places_back = rw line_items

pub finish_back : (s : List ℕ) (at : ℕ) → drop at s ≡ [] → (xs : Numbers)
    → finish s (Ok (xs, record { at = at })) ≡ Ok (xs, record { at = at })
unfolding finish
finish_back s at k xs = rw (le-ltb at (length s) (omega (arith, length-drop at s, ap length k)))
