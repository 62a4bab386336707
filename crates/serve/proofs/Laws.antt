-- The laws of `upcoming_places`: what it is in each of its three cases, by the two tests of the definition.
--   upcoming_stem     == below the stem's length: the rest of the stem
--   upcoming_none     == later, with an empty cycle: nothing
--   upcoming_cycle    == later, with a cycle that is not empty: the rest of this turn of it
--   offset_stem, offset_none, offset_cycle == where the part begins in the same three cases, and that the places stand there
--   in_stem, in_cycle == the offset lies within the list that step t stands in
--   serves_stem, serves_cycle == from the offset on that list is what comes
use mathlib.Core.Path.{◌≡◌, refl, sym, ◌∙◌}
use mathlib.Core.List.{List, []}
use Prim.Native.Nat.{ℕ, ◌-◌, ◌%◌, ◌≤◌, ◌<◌}
use native.Mathlib.Nat.{mod-lt}
use native.Mathlib.Omega.{arith}
use borrow.Author.Tests.{lt-ltb, le-ltb, eq-eqb, ne_eqb}
use lib.ListN.{length, take, drop, length-drop, drop_of_length-le}
use lib.Seq.{take_all}
use Rattle.serve.specs.Upcoming.{upcoming_places, offset_of, Offset}

module _ (stem cycle : List ℕ) (t : ℕ) where
  pub upcoming_stem : t < length stem → upcoming_places stem cycle t ≡ drop t stem
  unfolding upcoming_places
  upcoming_stem below = rw (lt-ltb t (length stem) below)

  pub upcoming_none : length stem ≤ t → length cycle ≡ 0 → upcoming_places stem cycle t ≡ []
  unfolding upcoming_places
  upcoming_none past empty = rw (le-ltb t (length stem) past, eq-eqb (length cycle) 0 empty)

  pub upcoming_cycle : length stem ≤ t → 0 < length cycle →
      upcoming_places stem cycle t ≡ drop ((t - length stem) % length cycle) cycle
  unfolding upcoming_places
  upcoming_cycle past some =
      rw (le-ltb t (length stem) past, ne_eqb (length cycle) 0 (λ (e : length cycle ≡ 0). omega arith))

module _ (s l t : ℕ) where
  pub offset_stem : t < s → Offset s l t t
  unfolding offset_of
  offset_stem below = record {
    value = rw (lt-ltb t s below);
    inside = rw (lt-ltb t s below) (omega arith);
    serves = λ stem cycle a b. rw (lt-ltb t s below) (upcoming_stem stem cycle t (omega arith));
  }

  pub offset_none : s ≤ t → l ≡ 0 → Offset s l t 0
  unfolding offset_of
  offset_none past empty = record {
    value = rw (le-ltb t s past, eq-eqb l 0 empty);
    inside = omega arith;
    serves = λ stem cycle a b. rw (le-ltb t s past) (upcoming_none stem cycle t (omega arith) (omega arith) ∙ sym (drop_of_length-le cycle {i = 0} (omega arith)));
  }

  pub offset_cycle : s ≤ t → 0 < l → Offset s l t ((t - s) % l)
  unfolding offset_of
  offset_cycle past some = record {
    value = rw (le-ltb t s past, ne_eqb l 0 (λ (e : l ≡ 0). omega arith));
    inside = rw (le-ltb t s past) (omega (arith, mod-lt (t - s) some));
    serves = λ stem cycle a b.
        rw (le-ltb t s past, ← a, ← b) (upcoming_cycle stem cycle t (omega arith) (omega arith));
  }

-- a part of a list from the offset to its end, by the test that picks the list
part_to_end : (i : ℕ) (s : List ℕ) → take (length s - i) (drop i s) ≡ drop i s
part_to_end i s = take_all (length s - i) (drop i s) (simp length-drop (omega arith))

module _ {s l t r : ℕ} (O : Offset s l t r) where
  pub in_stem : t < s → r ≤ s
  in_stem below = rw (lt-ltb t s below) at O.inside

  pub in_cycle : s ≤ t → r ≤ l
  in_cycle past = rw (le-ltb t s past) at O.inside

module _ (stem cycle : List ℕ) (t r : ℕ) (O : Offset (length stem) (length cycle) t r) where
  pub serves_stem : t < length stem → take (length stem - r) (drop r stem) ≡ upcoming_places stem cycle t
  serves_stem below = part_to_end r stem ∙ sym (rw (lt-ltb t (length stem) below) at (O.serves stem cycle refl refl))

  pub serves_cycle : length stem ≤ t → take (length cycle - r) (drop r cycle) ≡ upcoming_places stem cycle t
  serves_cycle past = part_to_end r cycle ∙ sym (rw (le-ltb t (length stem) past) at (O.serves stem cycle refl refl))
