-- A plan that was read is well formed (`read_well`; `read_ok` of an answer). The answer is a plan only where the text is short
-- enough and no line has a fault; then every block was read without a fault.
use mathlib.Core.Path.{◌≡◌, refl, sym, ap, ◌∙◌, subst}
use mathlib.Core.Bool.{Bool, true, false, cond}
use mathlib.Core.List.{List}
use Prim.Native.Nat.{ℕ, ◌^◌, ◌≤◌}
use native.Mathlib.Omega.{arith}
use native.Mathlib.Nat.{one-le-pow}
use lib.ListN.{length}
use lib.Dec.{ltb}
use Rattle.std.specs.Prelude.{Result, Ok, Err}
use Rattle.plan.specs.WellFormed.{WellFormed}
use Rattle.plan.specs.declared.Plan.{Plan}
use Rattle.plan.specs.declared.Refusal.TheVariants.{PlanTooLong}
use Rattle.plan.specs.declared.Refusal.{Refusal}
use Rattle.reader.specs.Keys.{tour_key, marks_key, places_key, start_key, roads_key, rules_key}
use Rattle.text.specs.Line.{line_of_one, first_of, top, good, Line}
use Rattle.reader.specs.Blocks.{LabelBlock, AutomatonBlock, SoftBlocks, label_block, road_block, hard_block, soft_blocks}
use Rattle.reader.specs.Map.{map_of}
use Rattle.reader.specs.Reading.{Draft, draft_of, answer, answer_to, read_plan}
use Rattle.reader.proofs.Sticky.{labels_keep, roads_keep, hard_keeps, softs_keep}
use Rattle.reader.proofs.Columns.{below, column_below, labels_filled, roads_filled}
use Rattle.reader.proofs.Faultless.{Faulty, faulty, was_good, finish_good, OneGood, one_good, hard_read, softs_read}

-- the lines of the map
module _ (s : List ℕ) (e : good (map_of s).line ≡ true) where
  abbrev marks_line : Line
  marks_line = line_of_one s (line_of_one s top tour_key 1 2) marks_key 0 9

  abbrev pub places_line : Line
  places_line = line_of_one s marks_line places_key 1 129

  abbrev labels_block : LabelBlock
  labels_block = label_block s places_line (first_of places_line) (2 ^ first_of marks_line)

  abbrev start_line : Line
  start_line = line_of_one s labels_block.line start_key 0 (first_of places_line)

  abbrev pub roads_line : Line
  roads_line = line_of_one s start_line roads_key 0 1025

  pub roads_good : OneGood 0 1025 start_line roads_line
  unfolding map_of
  roads_good =
      one_good s start_line roads_key 0 1025
      (was_good roads_line (road_block s roads_line (first_of roads_line) (first_of places_line)).line
      (roads_keep s Faulty (faulty s) roads_line (first_of roads_line) (first_of places_line)) e)

  start_good : OneGood 0 (first_of places_line) labels_block.line start_line
  start_good = one_good s labels_block.line start_key 0 (first_of places_line) roads_good.was

  places_good : OneGood 1 129 marks_line places_line
  places_good =
      one_good s marks_line places_key 1 129
      (was_good places_line labels_block.line (labels_keep s Faulty (faulty s) places_line (first_of places_line) (2 ^ first_of marks_line)) start_good.was)

  marks_good : OneGood 0 9 (line_of_one s top tour_key 1 2) marks_line
  marks_good = one_good s (line_of_one s top tour_key 1 2) marks_key 0 9 places_good.was

-- the whole file
module _ (s : List ℕ) (e : good (draft_of s).line ≡ true) where
  abbrev bound : ℕ
  bound = 2 ^ (map_of s).map.marks

  abbrev hard-block : AutomatonBlock
  hard-block = hard_block s (map_of s).line bound

  abbrev rules_line : Line
  rules_line = line_of_one s hard-block.line rules_key 0 9

  abbrev soft_part : SoftBlocks
  soft_part = soft_blocks s rules_line (first_of rules_line) bound

  bound_some : 1 ≤ bound
  bound_some = one-le-pow (map_of s).map.marks 2 (omega arith)

  softs_good : good soft_part.line ≡ true
  unfolding draft_of
  softs_good = finish_good s soft_part.line e

  rules_good : OneGood 0 9 hard-block.line rules_line
  rules_good =
      one_good s hard-block.line rules_key 0 9
      (was_good rules_line soft_part.line (softs_keep s Faulty (faulty s) rules_line (first_of rules_line) bound) softs_good)

  pub map_good : good (map_of s).line ≡ true
  map_good = was_good (map_of s).line hard-block.line (hard_keeps s Faulty (faulty s) (map_of s).line bound) rules_good.was

  draft_well : WellFormed (draft_of s).plan
  unfolding draft_of map_of
  draft_well =
      let g = map_good in
      let p = places_good s g in
      let n = first_of (places_line s g) in
      let labels = labels_filled s (places_line s g) n (2 ^ first_of (marks_line s g)) in
      let roads = roads_filled s (roads_line s g) (first_of (roads_line s g)) n in
      let softs = softs_read s bound bound_some rules_line (first_of rules_line) in
      let few : first_of rules_line ≤ 8 = omega (arith, rules_good.below) in
      record {
        marks = omega (arith, (marks_good s g).below);
        some = p.least;
        few = omega (arith, p.below);
        start = (start_good s g).below;
        roads = omega (arith, (roads_good s g).below);
        rules = few;
        labels = column_below _ n _ bound_some labels;
        from = below n p.least _ roads.from;
        to = below n p.least _ roads.to;
        hard = hard_read s (map_of s).line bound bound_some rules_good.was;
        softs = λ i h. (softs.read softs_good i h (omega arith)).well;
        heavy = λ i h. (softs.read softs_good i h (omega arith)).heavy;
        rest_labels = labels.rest;
        rest_roads = roads.rest;
        rest_softs = softs.rest;
        rest_weights = softs.rest_weights;
      }

-- a plan is the answer only where nothing turns it away
pub record Passed (d : Draft) (p : Plan) : Type 0 where
  pub no_fault : good d.line ≡ true
  pub same : d.plan ≡ p

-- the plan of an answer, q of a refusal
abbrev plan_in : Plan → Result Plan Refusal → Plan
plan_in q (Ok p) = p
plan_in q (Err x) = q

pub answer_plan : (l : Line) (q p : Plan) → answer l q ≡ Ok p → Passed (record { line = l; plan = q }) p
unfolding answer
answer_plan (Err f) q p e = let z : ◌≡◌ {A = ℕ} 0 1 = cc in absurd (omega arith)
answer_plan (Ok (xs, c)) q p e = record { no_fault = refl; same = ap (plan_in q) e }

-- whatever the lines come to
pub answer_passed : (s : List ℕ) (d : Draft) (p : Plan) → answer_to s d ≡ Ok p → Passed d p
answer_passed s d p e = by_test (ltb 60000 (length s)) e
  where
    by_test : (t : Bool) → cond t (Err PlanTooLong) (answer d.line d.plan) ≡ Ok p → Passed d p
    by_test true e = let z : ◌≡◌ {A = ℕ} 0 1 = cc in absurd (omega arith)
    by_test false e = answer_plan d.line d.plan p e

module _ (s : List ℕ) (p : Plan) (e : read_plan s ≡ Ok p) where
  pub passed : Passed (draft_of s) p
  unfolding read_plan
  passed = answer_passed s (draft_of s) p e

  pub read_well : WellFormed p
  read_well = subst WellFormed passed.same (draft_well s passed.no_fault)

-- the same of what the reader answered
pub read_ok : (s : List ℕ) (r : Result Plan Refusal) → r ≡ read_plan s → (p : Plan) → r ≡ Ok p → WellFormed p
read_ok s r same p e = read_well s p (sym same ∙ e)
