-- A road used to be allowed on two lines (02, note 6). Its refusal is all that moved: every file reads as it did, or it is turned away now for a
-- doubled road, and then a road stands twice.
--   road_before, step_before, roads_before, map_before, read_before
--                       == `road_line`, `road_step`, `road_block`, `map_of` and `read_plan`, with roads on any number of lines
--   AtDouble l          == l is the fault of a doubled road
--   line_narrowed, roads_narrowed, map_narrowed, draft_narrowed
--                       == lines, blocks, the map and the whole draft are what they were, or have such a fault; then a road stood twice in them
--   Turned s            == s is turned away for a doubled road
--   read_narrowed       == every file reads as before, or is turned away so, and a road stands twice in it
--   passed_as_before    == so every file that passes reads as before
--   single_as_before    == and so does every file that passed before and has each road once
--   twice_turned        == a file that passed before and has a road twice is turned away so
use mathlib.Core.Path.{◌≡◌, refl, sym, ap, subst, ◌∙◌}
use mathlib.Core.Bool.{Bool, true, false}
use mathlib.Core.List.{List}
use mathlib.Core.Logic.{◌⊎◌, inl, inr}
use Prim.Native.Nat.{ℕ, zero, suc, ◌+◌, ◌^◌, ◌≤◌, ◌<◌}
use native.Mathlib.Omega.{arith}
use borrow.Author.Tests.{eqb-true}
use lib.Dec.{eqb, ltb}
use lib.ListN.{length, get_or, set, replicate, length-set, length-replicate}
use lib.Seq.{get_or-set_same, get_or-set_other}
use Rattle.std.specs.Prelude.{Result, Some, None, Ok, Err}
use Rattle.base.proofs.Tests.{and_left, and_right, any_elim}
use Rattle.text.specs.Scan.{first_number, key_at, next_number, value_of, line_at, Number}
use Rattle.text.specs.Line.{behind, pair, closed, line_of_one, numbers_of, first_of, top, finish, Line}
use Rattle.text.specs.declared.fault.Fault.{Fault}
use Rattle.text.specs.declared.fault.Fault.TheVariants.{Doubled}
use Rattle.text.specs.declared.line.Numbers.{Numbers}
use Rattle.text.proofs.Lines.{one_most}
use Rattle.plan.specs.declared.Plan.{Plan}
use Rattle.plan.specs.declared.Refusal.TheVariants as refusal
use Rattle.plan.specs.declared.Refusal.{Refusal}
use Rattle.plan.specs.declared.Road.{Road}
use Rattle.plan.specs.WellFormed.{no_road}
use Rattle.reader.specs.Keys.{tour_key, marks_key, places_key, start_key, roads_key, road_key, rules_key}
use Rattle.reader.specs.Line.{road_fits, once, road_line, move_line}
use Rattle.reader.specs.Blocks.{RoadBlock, repeat, Filling, label_block, road_of, on_line, earlier, road_step, road_block, hard_block, soft_blocks}
use Rattle.reader.specs.Map.{MapBlock, map_of}
use Rattle.reader.specs.Reading.{draft_from, draft_of, answer, answer_to, read_plan}
use Rattle.reader.proofs.Sticky.{Sticky, hard_keeps, softs_keep}
use Rattle.reader.proofs.WellRead.{answer_passed}
use Rattle.reader.proofs.Singles.{Twice, Single, single_twice, read_single}

-- reading as it was
unfoldable pub road_before : List ℕ → Line → List ℕ → ℕ → Line
road_before s prior key bound =
    behind prior
    (λ at.
    let a = first_number s (key_at s at key) 44 in
    let b = next_number s a 10 in
    let xs = pair (value_of a) (value_of b) in
    closed s at b (road_fits xs bound) xs)

abbrev pub step_before : List ℕ → ℕ → Filling RoadBlock → Filling RoadBlock
step_before s bound x =
    let l = road_before s x.block.line road_key bound in
    record { next = x.next + 1; block = record { line = l; roads = set x.block.roads x.next (road_of (numbers_of l)) } }

unfoldable pub roads_before : List ℕ → Line → ℕ → ℕ → RoadBlock
roads_before s prior n bound =
    (repeat n (step_before s bound) (record { next = 0; block = record { line = prior; roads = replicate 1024 no_road } })).block

unfoldable pub map_before : List ℕ → MapBlock
map_before s =
    let tour = line_of_one s top tour_key 1 2 in
    let marks = line_of_one s tour marks_key 0 9 in
    let places = line_of_one s marks places_key 1 129 in
    let labels = label_block s places (first_of places) (2 ^ first_of marks) in
    let start = line_of_one s labels.line start_key 0 (first_of places) in
    let count = line_of_one s start roads_key 0 1025 in
    let roads = roads_before s count (first_of count) (first_of places) in
    record {
      line = roads.line;
      map = record {
        marks = first_of marks;
        places = first_of places;
        start = first_of start;
        road_count = first_of count;
        labels = labels.labels;
        roads = roads.roads;
      };
    }

unfoldable pub read_before : List ℕ → Result Plan Refusal
read_before s = answer_to s (draft_from s (map_before s))

pub record AtDouble (l : Line) : Type 0 where
  pub told : ℕ
  pub fault : l ≡ Err (Doubled told)

-- such a fault stays
behind_double : {l r : Line} → AtDouble l → ((f : Fault) → l ≡ Err f → r ≡ Err f) → AtDouble r
behind_double d h = record { told = d.told; fault = h _ d.fault }

stays : (s : List ℕ) → Sticky s AtDouble
unfolding line_of_one road_line move_line
stays s = record {
  one = λ l key low bound d. behind_double d (λ f e. rw e);
  road = λ l key bound again d. behind_double d (λ f e. rw e);
  move = λ l key q labels d. behind_double d (λ f e. rw e);
}

-- a line: as it was, or doubled; then it had numbers that are so
pub record Again (again : Numbers → Bool) (l r : Line) : Type 0 where
  pub at_double : AtDouble l
  pub again_there : again (numbers_of r) ≡ true

module _ (s : List ℕ) where
  once_narrowed : (at : ℕ) (again : Numbers → Bool) (b : Number) (fit : Bool) (xs : Numbers)
      → (once s at (again xs) (closed s at b fit xs) ≡ closed s at b fit xs) ⊎ Again again (once s at (again xs) (closed s at b fit xs)) (closed s at b fit xs)
  once_narrowed at again None fit xs = inl refl
  once_narrowed at again (Some (v, i)) false xs = inl refl
  once_narrowed at again (Some (v, i)) true xs = by (again xs) refl
    where
      by : (t : Bool) → again xs ≡ t
          → (once s at (again xs) (Ok (xs, record { at = i })) ≡ Ok (xs, record { at = i }))
          ⊎ Again again (once s at (again xs) (Ok (xs, record { at = i }))) (Ok (xs, record { at = i }))
      by true e = inr (record { at_double = record { told = line_at s at; fault = rw e }; again_there = e })
      by false e = inl (rw e)

  pub line_narrowed : (l : Line) (key : List ℕ) (bound : ℕ) (again : Numbers → Bool)
      → (road_line s l key bound again ≡ road_before s l key bound) ⊎ Again again (road_line s l key bound again) (road_before s l key bound)
  unfolding road_line road_before
  line_narrowed (Err f) key bound again = inl refl
  line_narrowed (Ok (xs, c)) key bound again =
      let a = first_number s (key_at s c.at key) 44 in let b = next_number s a 10 in let ys = pair (value_of a) (value_of b) in
      once_narrowed c.at again b (road_fits ys bound) ys

  -- a road more leaves what stood twice, and a pair that an earlier line has stands twice then
  twice_more : (roads : List Road) (n : ℕ) (x : Road) → Twice roads n → Twice (set roads n x) (n + 1)
  twice_more roads n x t =
      let e = other t.one (omega (arith, t.apart, t.listed)) in let f = other t.other t.listed in
      record {
        one = t.one;
        other = t.other;
        apart = t.apart;
        listed = omega (arith, t.listed);
        same_from = rw (e, f) t.same_from;
        same_to = rw (e, f) t.same_to;
      }
    where
      other : (u : ℕ) → u < n → get_or (set roads n x) u no_road ≡ get_or roads u no_road
      other u h = get_or-set_other roads n u x no_road (λ e. omega arith)

  twice_new : (b : RoadBlock) (n : ℕ) (xs : Numbers) → n < length b.roads → earlier b n xs ≡ true → Twice (set b.roads n (road_of xs)) (n + 1)
  twice_new b n xs room e =
      let f = any_elim (on_line b xs) n e in
      let u = f.0 in
      let h = get_or-set_other b.roads n u (road_of xs) no_road (λ z. omega (arith, f.1)) in
      let k = get_or-set_same b.roads n (road_of xs) no_road room in
      record {
        one = u;
        other = n;
        apart = f.1;
        listed = omega arith;
        same_from = rw (h, k) (eqb-true _ _ (and_left _ (eqb (get_or b.roads u no_road).to xs.second) f.2));
        same_to = rw (h, k) (eqb-true _ _ (and_right (eqb (get_or b.roads u no_road).from xs.first) _ f.2));
      }

  -- two readings of n road lines, the later and the earlier one
  pub record Stopped (n : ℕ) (x y : RoadBlock) : Type 0 where
    pub at_double : AtDouble x.line
    pub twice : Twice y.roads n

  abbrev Alike : Filling RoadBlock → Filling RoadBlock → Type 0
  Alike x y = (x ≡ y) ⊎ Stopped y.next x.block y.block

  record Roomy (n : ℕ) (y : Filling RoadBlock) : Type 0 where
    pub long : length y.block.roads ≡ 1024
    pub left : y.next + n ≤ 1024

  step_narrowed : (bound n : ℕ) (x y : Filling RoadBlock) → Roomy (suc n) y → Alike x y → Alike (road_step s bound x) (step_before s bound y)
  step_narrowed bound n x y room (inl e) = by (line_narrowed y.block.line road_key bound (earlier y.block y.next))
    where
      by : (road_line s y.block.line road_key bound (earlier y.block y.next) ≡ road_before s y.block.line road_key bound)
          ⊎ Again (earlier y.block y.next) (road_line s y.block.line road_key bound (earlier y.block y.next)) (road_before s y.block.line road_key bound)
          → Alike (road_step s bound x) (step_before s bound y)
      by (inl d) = inl (rw (e, d))
      by (inr a) = inr (record {
        at_double = rw e a.at_double;
        twice = twice_new y.block y.next (numbers_of (road_before s y.block.line road_key bound)) (omega (arith, room.long, room.left)) a.again_there;
      })
  step_narrowed bound n x y room (inr p) =
      inr (record { at_double = (stays s).road x.block.line road_key bound _ p.at_double; twice = twice_more _ _ _ p.twice })

  repeat_narrowed : (bound n : ℕ) (x y : Filling RoadBlock) → Roomy n y → Alike x y
      → ((repeat n (road_step s bound) x).block ≡ (repeat n (step_before s bound) y).block)
      ⊎ Stopped (y.next + n) (repeat n (road_step s bound) x).block (repeat n (step_before s bound) y).block
  unfolding repeat
  repeat_narrowed bound zero x y room (inl e) = inl (rw e)
  repeat_narrowed bound zero x y room (inr p) = let e : y.next + 0 ≡ y.next = omega arith in inr (rw e p)
  repeat_narrowed bound (suc n) x y room a =
      let e : y.next + suc n ≡ y.next + 1 + n = omega arith in
      rw e (repeat_narrowed bound n (road_step s bound x) (step_before s bound y)
      (record {
        long = length-set y.block.roads y.next _ ∙ room.long;
        left = omega (arith, room.left);
      })
      (step_narrowed bound n x y room a))

  from_narrowed : (bound n : ℕ) (b : RoadBlock) → length b.roads ≡ 1024 → n ≤ 1024
      → ((repeat n (road_step s bound) (record { next = 0; block = b })).block ≡ (repeat n (step_before s bound) (record { next = 0; block = b })).block)
      ⊎ Stopped n (repeat n (road_step s bound) (record { next = 0; block = b })).block (repeat n (step_before s bound) (record { next = 0; block = b })).block
  from_narrowed bound n b room h =
      let e : n ≡ 0 + n = omega arith in
      subst (λ k. (x ≡ y) ⊎ Stopped k x y) (sym e) (repeat_narrowed bound n start start (record { long = room; left = omega arith }) (inl refl))
    where
      start : Filling RoadBlock
      start = record { next = 0; block = b }

      x : RoadBlock
      x = (repeat n (road_step s bound) start).block

      y : RoadBlock
      y = (repeat n (step_before s bound) start).block

  pub roads_narrowed : (l : Line) (n bound : ℕ) → n ≤ 1024
      → (road_block s l n bound ≡ roads_before s l n bound) ⊎ Stopped n (road_block s l n bound) (roads_before s l n bound)
  unfolding road_block roads_before
  roads_narrowed l n bound h = from_narrowed bound n _ (length-replicate {A = Road} 1024 no_road) h

  -- two roads of the map as it was are the same
  abbrev pub TwiceBefore : Type 0
  TwiceBefore = Twice (map_before s).map.roads (map_before s).map.road_count

  pub map_narrowed : (map_of s ≡ map_before s) ⊎ (AtDouble (map_of s).line × TwiceBefore)
  unfolding map_of map_before
  map_narrowed = by (roads_narrowed count (first_of count) (first_of places) (omega (arith, one_most s start roads_key 0 1025)))
    where
      marks : Line
      marks = line_of_one s (line_of_one s top tour_key 1 2) marks_key 0 9

      places : Line
      places = line_of_one s marks places_key 1 129

      start : Line
      start = line_of_one s (label_block s places (first_of places) (2 ^ first_of marks)).line start_key 0 (first_of places)

      count : Line
      count = line_of_one s start roads_key 0 1025

      by : (road_block s count (first_of count) (first_of places) ≡ roads_before s count (first_of count) (first_of places))
          ⊎ Stopped (first_of count) (road_block s count (first_of count) (first_of places)) (roads_before s count (first_of count) (first_of places))
          → (map_of s ≡ map_before s) ⊎ (AtDouble (map_of s).line × TwiceBefore)
      by (inl e) = inl (rw e)
      by (inr p) = inr (p.at_double, p.twice)

  finish_double : (l : Line) → AtDouble l → AtDouble (finish s l)
  unfolding finish
  finish_double l d = behind_double d (λ f e. rw e)

  pub draft_narrowed : (draft_of s ≡ draft_from s (map_before s)) ⊎ (AtDouble (draft_of s).line × TwiceBefore)
  unfolding draft_of
  draft_narrowed = by map_narrowed
    where
      by : (map_of s ≡ map_before s) ⊎ (AtDouble (map_of s).line × TwiceBefore)
          → (draft_of s ≡ draft_from s (map_before s)) ⊎ (AtDouble (draft_of s).line × TwiceBefore)
      by (inl e) = inl (ap (draft_from s) e)
      by (inr d) =
          let bound = 2 ^ (map_of s).map.marks in
          let hard = hard_block s (map_of s).line bound in
          let count = line_of_one s hard.line rules_key 0 9 in
          inr (
            finish_double (soft_blocks s count (first_of count) bound).line
                (softs_keep s AtDouble (stays s) count (first_of count) bound
                ((stays s).one hard.line rules_key 0 9 (hard_keeps s AtDouble (stays s) (map_of s).line bound d.0))),
            d.1,
          )

pub record Turned (s : List ℕ) : Type 0 where
  pub told : ℕ
  pub refused : read_plan s ≡ Err (refusal.Line (Doubled told))
  pub twice : TwiceBefore s

answer_double : (l : Line) (p : Plan) (d : AtDouble l) → answer l p ≡ Err (refusal.Line (Doubled d.told))
unfolding answer
answer_double l p d = rw d.fault

pub read_narrowed : (s : List ℕ) → (read_plan s ≡ read_before s) ⊎ Turned s
unfolding read_plan read_before
read_narrowed s = by (ltb 60000 (length s)) refl (draft_narrowed s)
  where
    by : (t : Bool) → ltb 60000 (length s) ≡ t → (draft_of s ≡ draft_from s (map_before s)) ⊎ (AtDouble (draft_of s).line × TwiceBefore s)
        → (read_plan s ≡ read_before s) ⊎ Turned s
    by true e d = inl (rw e)
    by false e (inl d) = inl (ap (answer_to s) d)
    by false e (inr d) = inr (record { told = d.0.told; refused = rw e (answer_double (draft_of s).line (draft_of s).plan d.0); twice = d.1 })

-- what is refused is no plan
turned_no_plan : {s : List ℕ} → Turned s → (p : Plan) → read_plan s ≡ Ok p → ⊥
turned_no_plan t p e = let z : ◌≡◌ {A = ℕ} 0 1 = cc (sym e ∙ t.refused) in omega arith

pub passed_as_before : (s : List ℕ) (p : Plan) → read_plan s ≡ Ok p → read_plan s ≡ read_before s
passed_as_before s p passed = by (read_narrowed s)
  where
    by : (read_plan s ≡ read_before s) ⊎ Turned s → read_plan s ≡ read_before s
    by (inl e) = e
    by (inr t) = absurd (turned_no_plan t p passed)

module _ (s : List ℕ) (p : Plan) (before : read_before s ≡ Ok p) where
  -- the plan of a file that passed before has the roads that the map had
  old_plan : (draft_from s (map_before s)).plan ≡ p
  unfolding read_before
  old_plan = (answer_passed s (draft_from s (map_before s)) p before).same

  pub single_as_before : Single p.roads p.road_count → read_plan s ≡ read_before s
  single_as_before single = by (read_narrowed s)
    where
      by : (read_plan s ≡ read_before s) ⊎ Turned s → read_plan s ≡ read_before s
      by (inl e) = e
      by (inr t) = absurd (single_twice (subst (λ (p : Plan). Single p.roads p.road_count) (sym old_plan) single) t.twice)

  pub twice_turned : Twice p.roads p.road_count → Turned s
  twice_turned twice = by (read_narrowed s)
    where
      by : (read_plan s ≡ read_before s) ⊎ Turned s → Turned s
      by (inl e) = absurd (single_twice (read_single s p (e ∙ before)) twice)
      by (inr t) = t
