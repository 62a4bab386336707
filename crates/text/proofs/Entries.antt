-- The numbers of a list, one after the other: how they are judged, and how they are written out.
--   front_none, front_ahead == nothing in front, and one number more in front
--   Passed s at bound count fit next
--               == so many numbers of the list at index `at` are passed, each ended by a comma; the next stands at `next`
--   passed_start, passed_more == none is passed at first; then one more
--   passed_end, passed_all    == where no number is ended by a comma, and where so many are passed as the text has bytes
--   ran_bad, ran_good         == the list, by the number behind those
--   no_end_past, ends_inside  == no line ends past the text
--   list_empty, list_entries  == a list is empty where its line ends at once, else its entries
--   list_keyless, list_bad, list_good
--                             == a line that holds a list, by its key and its list
use mathlib.Core.Path.{◌≡◌, refl, sym, ap, ◌∙◌}
use mathlib.Core.Bool.{Bool, true, false, ◌&&◌}
use mathlib.Core.List.{List, [], ◌∷◌, ◌++◌, append_assoc}
use Prim.Native.Nat.{ℕ, suc, ◌+◌, ◌-◌, ◌≤◌, ◌<◌}
use native.Mathlib.Omega.{arith}
use borrow.Author.Tests.{eqb-true, ltb-true, ltb-false}
use lib.ListN.{length, get_or, length-append, get_or-eq_default}
use lib.Dec.{ltb, eqb}
use Rattle.std.specs.Prelude.{Option, Some, None, Err}
use Rattle.text.specs.Scan.{Number, key_at, number_at, value_of, cap}
use Rattle.text.specs.Line.{pair, bad_form, judged, told}
use Rattle.text.specs.List.{Items, items, bad, ahead, entries, items_at, under, judged_list, list_from, ListLine}
use Rattle.text.specs.Runs.{in_front, Ran, listing}
use Rattle.text.specs.declared.list.Run.{Run}
use Rattle.text.specs.declared.list.Span.{Span}
use Rattle.text.proofs.Held.{Told, held_told, held_bad}
use Rattle.text.proofs.Lines.{same_below}
use Rattle.text.proofs.Lists.{under_append}

front_none : (l : Items) → l ≡ in_front [] l
front_none (items vs i) = refl
front_none bad = refl

front_ahead : (vs : List ℕ) (v : ℕ) (l : Items) → in_front vs (ahead v l) ≡ in_front (vs ++ (v ∷ [])) l
front_ahead vs v (items ws i) = rw (append_assoc vs (v ∷ []) ws)
front_ahead vs v bad = refl

under_one : (bound v : ℕ) (vs : List ℕ) → under bound (vs ++ (v ∷ [])) ≡ (under bound vs && ltb v bound)
unfolding under
under_one bound v vs = under_append bound vs (v ∷ []) ∙ ap (λ t. under bound vs && t) (and-true (ltb v bound))
  where
    and-true : (t : Bool) → (t && true) ≡ t
    and-true true = refl
    and-true false = refl

pub record Passed (s : List ℕ) (at bound count : ℕ) (fit : Bool) (next : ℕ) : Type 0 where
  pub numbers : List ℕ
  pub many : length numbers ≡ count
  pub few : count ≤ length s
  pub fits : fit ≡ under bound numbers
  -- what is left from here, behind the numbers passed, is the whole
  pub same : entries (length s) s at ≡ in_front numbers (entries (length s - count) s next)

-- n is the number at index i, held
held_at : (s : List ℕ) (i e : ℕ) (n : Number) → n ≡ cap (number_at s i e) → (x next : ℕ) → n ≡ Some (x, next) → Told (number_at s i e) x next
held_at s i e n h x next k = held_told (number_at s i e) n h x next k

none : (s : List ℕ) (i e : ℕ) (n : Number) → n ≡ cap (number_at s i e) → n ≡ None → number_at s i e ≡ None
none s i e n h k = held_bad (number_at s i e) n h k

module _ (s : List ℕ) (at bound : ℕ) where
  pub passed_start : Passed s at bound 0 true at
  unfolding under
  passed_start = record {
    numbers = [];
    many = refl;
    few = omega arith;
    fits = refl;
    same = let e : length s - 0 ≡ length s = omega arith in rw e (front_none (entries (length s) s at));
  }

  module _ (count : ℕ) (fit : Bool) (next : ℕ) (p : Passed s at bound count fit next) where
    module _ (h : count < length s) (n : Number) (k : n ≡ cap (number_at s next 44)) where
      left : length s - count ≡ suc (length s - (count + 1))
      left = omega arith

      pub passed_more : bound ≤ 4000000000 → (x i : ℕ) → n ≡ Some (x, i) → (t : Bool) → t ≡ (fit && ltb x bound) → Passed s at bound (count + 1) t i
      unfolding entries
      passed_more b x i e t f =
          let v = value_of (number_at s next 44) in
          let r = held_at s next 44 n k x i e in
          let test = (same_below v x bound r.held b).test in
          record {
            numbers = p.numbers ++ (v ∷ []);
            many = omega (arith, length-append p.numbers (v ∷ []), p.many);
            few = omega arith;
            fits = f ∙ rw (test, p.fits) (sym (under_one bound v p.numbers));
            same = p.same ∙ rw (left, r.is) (front_ahead p.numbers v (entries (length s - (count + 1)) s i));
          }

      pub passed_end : n ≡ None → Ran s at bound (record { count = count; fit = fit; next = next })
      unfolding entries
      passed_end e = record {
        numbers = p.numbers;
        many = p.many;
        few = p.few;
        fit = p.fits;
        same = p.same ∙ rw (left, none s next 44 n k e);
      }

    pub passed_all : length s ≤ count → Ran s at bound (record { count = length s; fit = fit; next = next })
    unfolding entries
    passed_all h = record {
      numbers = p.numbers;
      many = omega (arith, p.many, p.few);
      few = omega arith;
      fit = p.fits;
      same = let e : length s - count ≡ 0 = omega (arith, p.few) in p.same ∙ rw e;
    }

  module _ (r : Run) (p : Ran s at bound r) (n : Number) (k : n ≡ cap (number_at s r.next 10)) where
    pub ran_bad : n ≡ None → None ≡ listing bound (entries (length s) s at)
    ran_bad e = rw (p.same, none s r.next 10 n k e)

    pub ran_good : bound ≤ 4000000000 → (x i : ℕ) → n ≡ Some (x, i) → (t : Bool) → t ≡ (r.fit && ltb x bound)
        → Some (record { count = r.count + 1; fit = t; next = i }) ≡ listing bound (entries (length s) s at)
    ran_good b x i e t f =
        let v = value_of (number_at s r.next 10) in
        let g = held_at s r.next 10 n k x i e in
        let test = (same_below v x bound g.held b).test in
        let many : r.count + 1 ≡ length (p.numbers ++ (v ∷ [])) = omega (arith, length-append p.numbers (v ∷ []), p.many) in
        let fits : t ≡ under bound (p.numbers ++ (v ∷ [])) = f ∙ rw (test, p.fit) (sym (under_one bound v p.numbers)) in
        rw (p.same, g.is, many, fits)

module _ (s : List ℕ) (at : ℕ) where
  pub no_end_past : length s ≤ at → false ≡ eqb (get_or s at 0) 10
  no_end_past h = rw (get_or-eq_default s 0 h)

  pub ends_inside : eqb (get_or s at 0) 10 ≡ true → at < length s
  ends_inside e = by (ltb at (length s)) refl
    where
      by : (t : Bool) → ltb at (length s) ≡ t → at < length s
      by true h = ltb-true at (length s) h
      by false h = let z : ◌≡◌ {A = ℕ} 0 10 = sym (get_or-eq_default s 0 (ltb-false at (length s) h)) ∙ eqb-true (get_or s at 0) 10 e in absurd (omega arith)

  module _ (bound : ℕ) where
    pub list_empty : eqb (get_or s at 0) 10 ≡ true → Some (record { count = 0; fit = true; next = at + 1 }) ≡ listing bound (items_at s at)
    unfolding items_at under
    list_empty e = rw e

    pub list_entries : eqb (get_or s at 0) 10 ≡ false → listing bound (entries (length s) s at) ≡ listing bound (items_at s at)
    unfolding items_at
    list_entries e = rw e

module _ (s : List ℕ) (at : ℕ) (key : List ℕ) (bound : ℕ) where
  abbrev given : ListLine
  given = list_from s at key bound

  pub list_keyless : key_at s at key ≡ None → Err (bad_form s at) ≡ told given.line given.list
  list_keyless e = rw e

  module _ (i : ℕ) (e : key_at s at key ≡ Some i) (f : Option Run) (g : f ≡ listing bound (items_at s i)) where
    pub list_bad : f ≡ None → Err (bad_form s at) ≡ told given.line given.list
    list_bad z = rw e (by (items_at s i) (sym z ∙ g))
      where
        by : (l : Items) → None ≡ listing bound l
            → Err (bad_form s at) ≡ told (judged_list s at i l bound).line (judged_list s at i l bound).list
        by (items vs next) h = let z : ◌≡◌ {A = ℕ} 0 1 = cc in absurd (omega arith)
        by bad h = refl

    pub list_good : (r : Run) → f ≡ Some r → judged s at r.next r.fit (record { at = i; count = r.count }) ≡ told given.line given.list
    list_good r z = rw e (by (items_at s i) (sym z ∙ g))
      where
        test : (t : Bool) (next : ℕ) (l : Span) → judged s at next t l ≡ told (judged s at next t (pair 0 0)) l
        test true next l = refl
        test false next l = refl

        by : (l : Items) → Some r ≡ listing bound l
            → judged s at r.next r.fit (record { at = i; count = r.count }) ≡ told (judged_list s at i l bound).line (judged_list s at i l bound).list
        by (items vs next) h = let w : r ≡ record { count = length vs; fit = under bound vs; next = next } = cc h in rw w (test (under bound vs) next _)
        by bad h = let z : ◌≡◌ {A = ℕ} 0 1 = cc in absurd (omega arith)
