-- Laws of the table of roads.
--   replicate_blank == a table of zeros is blank
--   charted_joins   == once the roads are put in, an entry is 1 exactly where a place is joined to the other
--   table_entry     == and so with the start's row
--   table_joins     == the rows of the places, in the table that is filled
--   table_allowed   == the table tells which steps are allowed
--   filled_table    == the table that is filled from a blank one is the plan's
use mathlib.Core.Path.{◌≡◌, refl, sym, ap, subst, ◌∙◌}
use mathlib.Core.Bool.{Bool, true, false, cond, ◌&&◌}
use mathlib.Core.List.{List}
use Prim.Native.Nat.{ℕ, zero, suc, ◌+◌, ◌*◌, ◌≤◌, ◌<◌}
use native.Mathlib.Decide.{dec_lt, ℕ_discrete}
use native.Mathlib.Omega.{arith}
use borrow.Author.Tests.{le-ltb, eq-eqb, ne_eqb}
use lib.ListN.{length, get_or, set, replicate, length-set, length-replicate}
use lib.Seq.{get_or-set_same, get_or-set_other}
use lib.Dec.{eqb, ltb}
use Rattle.plan.specs.Tour.{joins}
use Rattle.plan.specs.WellFormed.{WellFormed}
use Rattle.plan.specs.declared.Plan.{Plan}
use Rattle.plan.proofs.Joins.{no_place}
use Rattle.roadmap.specs.Chart.{charted}
use Rattle.roadmap.proofs.Charts.{charted_length, charted_apart, charted_at}
use Rattle.checker.specs.Drive.{before, allowed, on_table, Charted}
use Rattle.checker.specs.Roads.{road_table, Blank}

is_one : (b : Bool) → eqb (cond b 1 0) 1 ≡ b
is_one true = refl
is_one false = refl

pub replicate_blank : (n : ℕ) → 16512 ≤ n → Blank (replicate n 0)
replicate_blank n h = record { room = omega (arith, length-replicate {A = ℕ} n 0); zeros = empty n }
  where
    empty : (n i : ℕ) → ◌≡◌ {A = ℕ} (get_or (replicate n 0) i 0) 0
    empty zero i = refl
    empty (suc n) zero = refl
    empty (suc n) (suc i) = empty n i

module _ (p : Plan) (w : WellFormed p) (table : List ℕ) (blank : Blank table) where
  -- where the table has a row
  inside : (u v : ℕ) → u < 128 → v < 128 → get_or (charted p 0 table) (u * 128 + v) 0 ≡ cond (joins p u v) 1 0
  inside u v k h =
      let e : 0 + (u * 128 + v) ≡ u * 128 + v = omega arith in
      rw e at (charted_at p 0 w u v h table (omega (arith, blank.room)) (blank.zeros _))

  pub charted_joins : (u v : ℕ) → v < 128 → eqb (get_or (charted p 0 table) (u * 128 + v) 0) 1 ≡ joins p u v
  charted_joins u v h = by (dec_lt u 128)
    where
      by : Dec (u < 128) → eqb (get_or (charted p 0 table) (u * 128 + v) 0) 1 ≡ joins p u v
      by (yes k) = ap (λ x. eqb x 1) (inside u v k h) ∙ is_one (joins p u v)
      by (no k) =
          ap (λ x. eqb x 1) (charted_apart p 0 w table (u * 128 + v) (λ lo hi. omega arith) ∙ blank.zeros (u * 128 + v))
          ∙ sym (no_place p u v w (omega (arith, w.few)))

  pub table_entry : (u v : ℕ) → v < 128 → eqb (get_or (road_table p table) (u * 128 + v) 0) 1 ≡ cond (eqb u before) (eqb v p.start) (joins p u v)
  table_entry u v h = by (ℕ_discrete u before) (ℕ_discrete v p.start)
    where
      elsewhere : (u * 128 + v ≡ before * 128 + p.start → ⊥) → eqb (get_or (road_table p table) (u * 128 + v) 0) 1 ≡ joins p u v
      elsewhere other =
          ap (λ x. eqb x 1)
          (get_or-set_other (charted p 0 table) (before * 128 + p.start) (u * 128 + v) 1 0 other)
          ∙ charted_joins u v h

      by : Dec (u ≡ before) → Dec (v ≡ p.start)
          → eqb (get_or (road_table p table) (u * 128 + v) 0) 1 ≡ cond (eqb u before) (eqb v p.start) (joins p u v)
      by (yes e) (yes k) =
          let here : u * 128 + v ≡ before * 128 + p.start = omega arith in
          ap (λ x. eqb x 1)
          (ap (λ i. get_or (road_table p table) i 0) here
          ∙ get_or-set_same (charted p 0 table) (before * 128 + p.start) 1 0
          (omega (arith, w.start, w.few, blank.room, charted_length p 0 table)))
          ∙ sym (rw (eq-eqb u before e) (eq-eqb v p.start k))
      by (yes e) (no k) =
          elsewhere (λ z. k (omega arith)) ∙ no_place p u v w (omega (arith, w.few)) ∙ sym (rw (eq-eqb u before e) (ne_eqb v p.start k))
      by (no e) d = elsewhere (λ z. e (omega (arith, w.start, w.few))) ∙ sym (rw (ne_eqb u before e))

  pub table_joins : (u v : ℕ) → u < 128 → v < 128 → eqb (get_or (road_table p table) (u * 128 + v) 0) 1 ≡ joins p u v
  table_joins u v k h = table_entry u v h ∙ rw (ne_eqb u before (λ e. omega arith))

  pub table_allowed : (u v : ℕ) → on_table (road_table p table) p.places u v ≡ allowed p u v
  unfolding allowed
  table_allowed u v = by (dec_lt v p.places)
    where
      by : Dec (v < p.places)
          → on_table (road_table p table) p.places u v ≡ ltb v p.places && cond (eqb u before) (eqb v p.start) (joins p u v)
      by (yes h) = ap (λ b. ltb v p.places && b) (table_entry u v (omega (arith, w.few)))
      by (no h) = rw (le-ltb v p.places (omega arith))

-- what is left once the roads are put in is the start
pub filled_table : (p : Plan) (table filled : List ℕ) → WellFormed p → Blank table → length table ≡ 16512
    → filled ≡ charted p 0 table → Charted p (set filled (before * 128 + p.start) 1)
filled_table p table filled w blank long e = subst (λ (t : List ℕ). Charted p (set t (before * 128 + p.start) 1)) (sym e) whole
  where
    whole : Charted p (road_table p table)
    whole = record {
      long = length-set (charted p 0 table) (before * 128 + p.start) 1 ∙ charted_length p 0 table ∙ long;
      allows = table_allowed p w table blank;
      linked = table_joins p w table blank;
    }
