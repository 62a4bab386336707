-- The whole plan file (01, "The plan file" and "Why a plan is turned away").
--   Draft          == the last line of a plan file, or the first fault, and the plan that its lines make
--   draft_from s m == what all lines of s come to, those through the last road being the map m
--   draft_of s     == so, with the map that those lines are
--   lines_read s   == what the lines of s make, a plan or the first fault
--   answer l p     == the answer to lines that end with l and make the plan p
--   answer_to s d  == the answer to the plan file s, whose lines come to d: its length is judged before its lines
--   read_plan s    == the answer to the plan file s: the plan, or why it is turned away; the plan's size is left open
use Rattle.std.specs.Prelude.{cond, List, ℕ, ◌^◌, length, ltb, Result, Ok, Err}
use Rattle.plan.specs.declared.Plan.{Plan}
use Rattle.plan.specs.declared.Refusal.{Refusal}
use Rattle.plan.specs.declared.Refusal.TheVariants as refusal
use Rattle.reader.specs.Keys.{rules_key}
use Rattle.text.specs.Line.{Line, line_of_one, first_of, finish, made}
use Rattle.text.specs.declared.fault.Fault.{Fault}
use Rattle.reader.specs.Blocks.{hard_block, soft_blocks}
use Rattle.reader.specs.Map.{MapBlock, map_of}

pub record Draft : Type 0 where
  pub line : Line
  pub plan : Plan

abbrev pub draft_from : List ℕ → MapBlock → Draft
draft_from s m =
    let bound = 2 ^ m.map.marks in
    let h = hard_block s m.line bound in
    let count = line_of_one s h.line rules_key 0 9 in
    let x = soft_blocks s count (first_of count) bound in
    record {
      line = finish s x.line;
      plan = record {
        marks = m.map.marks;
        places = m.map.places;
        start = m.map.start;
        road_count = m.map.road_count;
        rules = first_of count;
        labels = m.map.labels;
        roads = m.map.roads;
        hard = h.automaton;
        soft = x.soft;
        weights = x.weights;
      };
    }

unfoldable pub draft_of : List ℕ → Draft
draft_of s = draft_from s (map_of s)

abbrev pub lines_read : List ℕ → Result Plan Fault
lines_read s = made (draft_of s).line (draft_of s).plan

unfoldable pub answer : Line → Plan → Result Plan Refusal
answer (Err f) p = Err (refusal.Line f)
answer (Ok (xs, c)) p = Ok p

abbrev pub answer_to : List ℕ → Draft → Result Plan Refusal
answer_to s d = cond (ltb 60000 (length s)) (Err refusal.PlanTooLong) (answer d.line d.plan)

unfoldable pub read_plan : List ℕ → Result Plan Refusal
read_plan s = answer_to s (draft_of s)
