-- Laws of the table of who leads where.
--   puts at xs l   == l with the entries of the pairs xs
--   puts_through   == calls that put in a pair each put in all
--   charted_pairs  == the pairs of places that are joined make the table
--   charted_length == filling keeps the length
--   charted_apart  == what lies before the table and behind it stays
--   charted_at     == an entry that was 0 is 1 where the one place is joined to the other, else 0
use mathlib.Core.Path.{◌≡◌, refl, sym, ap, ◌∙◌}
use mathlib.Core.Bool.{Bool, true, false, cond, not, ◌&&◌, ◌||◌}
use mathlib.Core.List.{List, [], ◌∷◌, ◌++◌}
use Prim.Native.Nat.{ℕ, zero, suc, ◌+◌, ◌*◌, ◌≤◌, ◌<◌}
use native.Mathlib.Decide.{dec_lt}
use native.Mathlib.Omega.{arith}
use borrow.Author.Tests.{lt-ltb, ltb-true, eq-eqb, eqb-true}
use lib.ListN.{length, get_or, set, get_or-eq_default}
use lib.Seq.{set_out}
use lib.Dec.{eqb, ltb}
use Rattle.std.proofs.Common.{append-nil}
use Rattle.std.specs.List.{FoldsTo}
use Rattle.std.proofs.lemmas.Fn.{chained_keeps}
use Rattle.base.specs.Below.{any_below}
use Rattle.base.specs.Marks.{marks}
use Rattle.base.proofs.Tests.{bool_same, and_intro, and_left, and_right, any_intro, any_elim, any_same, pair_same}
use Rattle.base.proofs.Marks.{marks_length, marks_apart, marks_at}
use Rattle.plan.specs.Tour.{road_count, is_road, has_road, leaves, parks, joins}
use Rattle.plan.specs.WellFormed.{WellFormed, road}
use Rattle.plan.specs.declared.Plan.{Plan}
use Rattle.roadmap.specs.Chart.{road_cell, park_cell, charted}
use Rattle.roadmap.specs.Joined.{road_pairs, joined_pairs, pairs}

-- counted from elsewhere, two entries are one where they were
shifted : (at x y : ℕ) → eqb (at + x) (at + y) ≡ eqb x y
shifted at x y =
    bool_same _ _ (λ h. let e = eqb-true (at + x) (at + y) h in eq-eqb x y (omega arith)) (λ h. let e = eqb-true x y h in eq-eqb (at + x) (at + y) (omega arith))

-- the entries of pairs of places, set one after the other
pub puts : ℕ → List (ℕ × ℕ) → List ℕ → List ℕ
puts at [] l = l
puts at (x ∷ xs) l = puts at xs (set l (at + (x.0 * 128 + x.1)) 1)

puts_push : (at : ℕ) (xs : List (ℕ × ℕ)) (x : ℕ × ℕ) (l : List ℕ) → puts at (xs ++ (x ∷ [])) l ≡ set (puts at xs l) (at + (x.0 * 128 + x.1)) 1
unfolding puts
puts_push at [] x l = refl
puts_push at (y ∷ ys) x l = puts_push at ys x (set l (at + (y.0 * 128 + y.1)) 1)

-- what calls leave that put in a pair each
pub puts_through : {F N : Type 0} (R : F → ℕ × ℕ → F → Type 0) (xs : List (ℕ × ℕ)) (f g : F) → FoldsTo R f xs g → (name : F → N) (at : F → ℕ) (table : F → List ℕ)
    → ((f : F) (x : ℕ × ℕ) (g : F) → R f x g → (name g ≡ name f) × (at g ≡ at f) × (table g ≡ set (table f) (at f + (x.0 * 128 + x.1)) 1))
    → {l : List ℕ} → (name f ≡ name g → l ≡ table g) → l ≡ puts (at f) xs (table f)
unfolding puts
puts_through {F} R xs f g ran name at table step left = left (sym kept.0) ∙ kept.2
  where
    kept : (name g ≡ name f) × (at g ≡ at f) × (table g ≡ puts (at f) xs (table f))
    kept =
        chained_keeps R (λ xs g. (name g ≡ name f) × (at g ≡ at f) × (table g ≡ puts (at f) xs (table f)))
        (λ xs q x v j r. let s = step q x v r in (s.0 ∙ j.0, s.1 ∙ j.1, s.2 ∙ rw (j.1, j.2, puts_push (at f) xs x (table f)) refl)) xs f g (refl, refl, refl) ran

-- what a choice that is no `none` chose
chosen : (b : Bool) (x none i : ℕ) → i < none → cond b x none ≡ i → (b ≡ true) × (x ≡ i)
chosen true x none i h e = (refl, e)
chosen false x none i h e = absurd (omega arith)

first_or : (a b : Bool) → ◌≡◌ {A = ℕ} (cond b 1 (cond a 1 0)) (cond (a || b) 1 0)
first_or true true = refl
first_or true false = refl
first_or false b = refl

module _ (p : Plan) (at : ℕ) where
  abbrev roads : ℕ → ℕ
  roads = road_cell p at

  abbrev stays : ℕ → Bool
  stays u = not (leaves p u)

  abbrev driven : List ℕ → List ℕ
  driven l = marks roads p.road_count l

  pub charted_length : (l : List ℕ) → length (charted p at l) ≡ length l
  unfolding charted
  charted_length l = marks_length (park_cell stays at (length l)) p.places (driven l) ∙ marks_length roads p.road_count l

  module _ (w : WellFormed p) where
    pub charted_apart : (l : List ℕ) (i : ℕ) → (at ≤ i → i < at + 16384 → ⊥) → get_or (charted p at l) i 0 ≡ get_or l i 0
    unfolding charted
    charted_apart l i out = by (dec_lt i (length l))
      where
        by : Dec (i < length l) → get_or (charted p at l) i 0 ≡ get_or l i 0
        by (yes inside) =
            marks_apart (park_cell stays at (length l)) p.places (driven l) i
            (λ u k e. let c = chosen (stays u) _ (length l) i inside e in out (omega (arith, c.1)) (omega (arith, c.1, w.few)))
            ∙ marks_apart roads p.road_count l i (λ t _ e. out (omega arith) (omega (arith, w.from t, w.to t, w.few)))
        by (no past) = get_or-eq_default (charted p at l) 0 (omega (arith, charted_length l)) ∙ sym (get_or-eq_default l 0 (omega arith))

    module _ (u v : ℕ) (below : v < 128) where
      abbrev here : ℕ
      here = at + (u * 128 + v)

      -- the entry is that of some road
      road_here : any_below p.road_count (λ i. eqb (roads i) here) ≡ has_road p u v
      road_here =
          let count : p.road_count ≡ road_count p = omega (arith, w.roads) in
          any_same (λ i. eqb (roads i) here) (is_road p u v) p.road_count
          (λ i _. shifted at _ _ ∙ pair_same (road p i).from (road p i).to u v (omega (arith, w.to i, w.few)) below)
          ∙ ap (λ n. any_below n (is_road p u v)) count

      -- the entry is that of a place that parks
      park_here : (none : ℕ) → here < none → any_below p.places (λ x. eqb (park_cell stays at none x) here) ≡ eqb u v && parks p u
      park_here none h = bool_same _ _ there back
        where
          there : any_below p.places (λ x. eqb (park_cell stays at none x) here) ≡ true → eqb u v && parks p u ≡ true
          there k =
              let m = any_elim (λ x. eqb (park_cell stays at none x) here) p.places k in
              let c = chosen (stays m.0) _ none here h (eqb-true _ here m.2) in
              let same : m.0 ≡ u = omega (arith, c.1, m.1, w.few) in
              and_intro (eq-eqb u v (omega (arith, c.1, m.1, w.few))) (and_intro (lt-ltb u p.places (omega (arith, m.1))) (rw same at c.0))

          back : eqb u v && parks p u ≡ true → any_below p.places (λ x. eqb (park_cell stays at none x) here) ≡ true
          back k =
              let e : u ≡ v = eqb-true u v (and_left (eqb u v) (parks p u) k) in
              let q : parks p u ≡ true = and_right (eqb u v) (parks p u) k in
              let free : stays u ≡ true = and_right (ltb u p.places) (stays u) q in
              any_intro (λ x. eqb (park_cell stays at none x) here) p.places u (ltb-true u p.places (and_left _ (stays u) q))
              (eq-eqb (park_cell stays at none u) here (rw free (omega arith)))

      pub charted_at : (l : List ℕ) → here < length l → get_or l here 0 ≡ 0 → get_or (charted p at l) here 0 ≡ cond (joins p u v) 1 0
      unfolding charted joins
      charted_at l inside blank =
          marks_at (park_cell stays at (length l)) p.places (driven l) here (omega (arith, marks_length roads p.road_count l))
          ∙ rw (park_here (length l) inside, marks_at roads p.road_count l here inside, road_here, blank) (first_or (has_road p u v) (eqb u v && parks p u))

  -- pairs put in one after the other make the table
  puts_roads : (l : List ℕ) (n : ℕ) → puts at (road_pairs p n) l ≡ marks roads n l
  unfolding puts road_pairs marks
  puts_roads l zero = refl
  puts_roads l (suc n) = puts_push at (road_pairs p n) _ l ∙ ap (λ m. set m (roads n) 1) (puts_roads l n)

  puts_parked : (l : List ℕ) (n : ℕ) → puts at (joined_pairs p n) l ≡ marks (park_cell stays at (length l)) n (driven l)
  unfolding joined_pairs marks
  puts_parked l zero = puts_roads l p.road_count
  puts_parked l (suc n) = by (leaves p n) refl (puts_parked l n)
    where
      m : List ℕ
      m = marks (park_cell stays at (length l)) n (driven l)

      by : (b : Bool) → leaves p n ≡ b → puts at (joined_pairs p n) l ≡ m → puts at (joined_pairs p n ++ cond (leaves p n) [] ((n, n) ∷ [])) l ≡ set m (park_cell stays at (length l) n) 1
      by true e before =
          let long : length m ≡ length l = marks_length (park_cell stays at (length l)) n (driven l) ∙ marks_length roads p.road_count l in
          rw (e, append-nil) (before ∙ sym (set_out m (length l) 1 (omega arith)))
      by false e before = rw e (puts_push at (joined_pairs p n) (n, n) l ∙ ap (λ m. set m (at + (n * 128 + n)) 1) before)

  pub charted_pairs : (l : List ℕ) → puts at (pairs p) l ≡ charted p at l
  unfolding charted
  charted_pairs l = puts_parked l p.places
