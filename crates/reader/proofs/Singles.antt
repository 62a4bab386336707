-- A plan that was read has every road once (02, note 6): where no line has a fault, each road line has a pair that no earlier one has.
--   Twice roads n    == two of the first n roads are the same
--   Single roads n   == no two of them are
--   single_twice     == not both
--   road_fresh       == a road line without a fault has a pair that is not doubled
--   roads_single     == so a block of road lines without a fault has every road once
--   read_single      == and so has the plan that is read
use mathlib.Core.Path.{◌≡◌, refl, subst, ◌∙◌}
use mathlib.Core.Bool.{Bool, true, false}
use mathlib.Core.List.{List}
use Prim.Native.Nat.{ℕ, ◌+◌, ◌≤◌, ◌<◌}
use native.Mathlib.Decide.{ℕ_discrete}
use native.Mathlib.Omega.{arith}
use borrow.Author.Tests.{eq-eqb}
use lib.ListN.{length, get_or, set, length-set, length-replicate}
use lib.Seq.{get_or-set_same, get_or-set_other}
use Rattle.std.specs.Prelude.{Some, None, Ok, Err}
use Rattle.base.proofs.Tests.{and_intro, any_intro, false_not_true}
use Rattle.text.specs.Scan.{first_number, key_at, next_number, value_of, Number}
use Rattle.text.specs.Line.{pair, closed, good, numbers_of, first_of, Line}
use Rattle.text.specs.declared.line.Numbers.{Numbers}
use Rattle.plan.specs.declared.Plan.{Plan}
use Rattle.plan.specs.declared.Road.{Road}
use Rattle.plan.specs.WellFormed.{no_road}
use Rattle.reader.specs.Keys.{road_key}
use Rattle.reader.specs.Line.{road_fits, once, road_line}
use Rattle.reader.specs.Blocks.{RoadBlock, Filling, road_of, on_line, earlier, road_step, road_block}
use Rattle.reader.specs.Map.{map_of}
use Rattle.reader.specs.Reading.{draft_of, read_plan}
use Rattle.reader.proofs.Columns.{filled}
use Rattle.reader.proofs.Faultless.{faulty, was_good}
use Rattle.reader.proofs.WellRead.{passed, map_good, roads_line, places_line, roads_good}

pub record Twice (roads : List Road) (n : ℕ) : Type 0 where
  pub one : ℕ
  pub other : ℕ
  pub apart : one < other
  pub listed : other < n
  pub same_from : (get_or roads one no_road).from ≡ (get_or roads other no_road).from
  pub same_to : (get_or roads one no_road).to ≡ (get_or roads other no_road).to

pub record Single (roads : List Road) (n : ℕ) : Type 0 where
  pub once : (i j : ℕ) → i < j → j < n → (get_or roads i no_road).from ≡ (get_or roads j no_road).from
      → (get_or roads i no_road).to ≡ (get_or roads j no_road).to → ⊥

pub single_twice : {roads : List Road} {n : ℕ} → Single roads n → Twice roads n → ⊥
single_twice s t = s.once t.one t.other t.apart t.listed t.same_from t.same_to

single_none : (roads : List Road) → Single roads 0
single_none roads = record { once = λ i j a b e f. omega arith }

once_fresh : (s : List ℕ) (at : ℕ) (again : Numbers → Bool) (b : Number) (fit : Bool) (xs : Numbers)
    → good (once s at (again xs) (closed s at b fit xs)) ≡ true → again (numbers_of (once s at (again xs) (closed s at b fit xs))) ≡ false
once_fresh s at again None fit xs g = absurd (false_not_true g refl)
once_fresh s at again (Some (v, i)) false xs g = absurd (false_not_true g refl)
once_fresh s at again (Some (v, i)) true xs g = by (again xs) refl g
  where
    by : (t : Bool) → again xs ≡ t → good (once s at t (closed s at (Some (v, i)) true xs)) ≡ true
        → again (numbers_of (once s at (again xs) (closed s at (Some (v, i)) true xs))) ≡ false
    by true e g = absurd (false_not_true g refl)
    by false e g = rw e e

pub road_fresh : (s : List ℕ) (l : Line) (key : List ℕ) (bound : ℕ) (again : Numbers → Bool) → good (road_line s l key bound again) ≡ true
    → again (numbers_of (road_line s l key bound again)) ≡ false
unfolding road_line
road_fresh s (Err f) key bound again g = absurd (false_not_true g refl)
road_fresh s (Ok (xs, c)) key bound again g =
    let a = first_number s (key_at s c.at key) 44 in let b = next_number s a 10 in let ys = pair (value_of a) (value_of b) in
    once_fresh s c.at again b (road_fits ys bound) ys g

module _ (s : List ℕ) (bound : ℕ) where
  -- what the lines so far leave, as long as the array has room
  record Kept (i : ℕ) (b : RoadBlock) : Type 0 where
    pub long : length b.roads ≡ 1024
    pub single : i ≤ 1024 → good b.line ≡ true → Single b.roads i

  -- a pair that is none of the first i is no copy of theirs
  single_next : (b : RoadBlock) (i : ℕ) (xs : Numbers) → i < length b.roads → earlier b i xs ≡ false
      → Single b.roads i → Single (set b.roads i (road_of xs)) (i + 1)
  single_next b i xs room new before = record { once = λ u v a l e f. by u v a l e f (ℕ_discrete v i) }
    where
      other : (u : ℕ) → u < i → get_or (set b.roads i (road_of xs)) u no_road ≡ get_or b.roads u no_road
      other u h = get_or-set_other b.roads i u (road_of xs) no_road (λ e. omega arith)

      here : get_or (set b.roads i (road_of xs)) i no_road ≡ road_of xs
      here = get_or-set_same b.roads i (road_of xs) no_road room

      by : (u v : ℕ) → u < v → v < i + 1 → (get_or (set b.roads i (road_of xs)) u no_road).from ≡ (get_or (set b.roads i (road_of xs)) v no_road).from
          → (get_or (set b.roads i (road_of xs)) u no_road).to ≡ (get_or (set b.roads i (road_of xs)) v no_road).to → Dec (v ≡ i) → ⊥
      by u v a l e f (no d) =
          let h = other u (omega arith) in let k = other v (omega arith) in
          before.once u v a (omega arith) (rw (h, k) at e) (rw (h, k) at f)
      by u v a l e f (yes d) =
          let below : u < i = omega arith in
          let h = other u below in
          let same_from : (get_or b.roads u no_road).from ≡ xs.first = rw (d, h, here) at e in
          let same_to : (get_or b.roads u no_road).to ≡ xs.second = rw (d, h, here) at f in
          false_not_true
          (any_intro (on_line b xs) i u below
          (and_intro (eq-eqb _ _ same_from) (eq-eqb _ _ same_to))) new

  kept_next : (x : Filling RoadBlock) → Kept x.next x.block → Kept (road_step s bound x).next (road_step s bound x).block
  kept_next x k =
      let b = x.block in
      let l = road_line s b.line road_key bound (earlier b x.next) in
      record {
        long = length-set b.roads x.next (road_of (numbers_of l)) ∙ k.long;
        single = λ h g.
            single_next b x.next (numbers_of l) (omega (arith, k.long))
            (road_fresh s b.line road_key bound (earlier b x.next) g)
            (k.single (omega arith) (was_good b.line l ((faulty s).road b.line road_key bound (earlier b x.next)) g));
      }

  pub roads_single : (l : Line) (n : ℕ) → n ≤ 1024 → good (road_block s l n bound).line ≡ true → Single (road_block s l n bound).roads n
  unfolding road_block
  roads_single l n h =
      (filled (road_step s bound) Kept (λ x. refl) kept_next n _
      (record {
        long = length-replicate {A = Road} 1024 no_road;
        single = λ o g. single_none _;
      })
      ).single h

pub read_single : (s : List ℕ) (p : Plan) → read_plan s ≡ Ok p → Single p.roads p.road_count
unfolding draft_of map_of
read_single s p e =
    let d = passed s p e in
    let g = map_good s d.no_fault in
    subst (λ (p : Plan). Single p.roads p.road_count) d.same
    (roads_single s (first_of (places_line s g)) (roads_line s g) (first_of (roads_line s g)) (omega (arith, (roads_good s g).below)) g)
