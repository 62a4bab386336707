-- What the planner promises of its answer: 01, "Why a plan is turned away", with demands 1 to 3.
--   Verdict              == a refusal that needs no planning, or the plan to be planned
--   verdict x r l        == of what a plan file reads as, and buffers of r and l bytes: its refusal 1 to 3, then 4 by the plan's size,
--                           then 5; else the plan
--   refusal_answer x      == the answer to a refusal: its number and line, and 0 in all else
--   tour_answer p k s l   == the answer to a tour of p that keeps k, with run-in length s and loop length l
--   NoTour p             == the hard rule accepts no tour of p, of any lengths
--   TourOf p runin loop runin' loop' a
--                        == a tour of p is written over the front of both buffers, whose other bytes stay; the hard rule
--                           accepts it, a tells exactly what it keeps and costs, and no tour of p is better
--   Planned p runin loop runin' loop' a == there is no tour, and no byte has changed; or there is one
--   Refused x runin loop runin' loop' a == refusal x is answered, and no byte has changed
--   Told v runin loop runin' loop' a    == one of the two, as the verdict says
--   ToldOf x runin loop runin' loop' a  == so by the verdict on what a plan file reads as, and these buffers
--   AnswerTo file runin loop runin' loop' a
--                        == a is the answer to a plan file: what is told of what it reads as
use Rattle.std.specs.Prelude.{◌≡◌, cond, Result, Ok, Err, List, ◌++◌, ℕ, ◌≤◌, length, drop}
use Rattle.std.specs.Int.Count.{ones}
use Rattle.plan.specs.Refusal.{number, line_of}
use Rattle.plan.specs.Size.{size, too_large, loop_room, roomy}
use Rattle.plan.specs.Tour.{IsLasso, Hard, Soft}
use Rattle.plan.specs.Cost.{KeptIs, cost, Best, Counted}
use Rattle.plan.specs.declared.Plan.{Plan}
use Rattle.plan.specs.declared.Refusal.{Refusal}
use Rattle.plan.specs.declared.Refusal.TheVariants as refusal
use Rattle.reader.specs.Reading.{read_plan}
use Rattle.answer.specs.declared.Answer.{Answer}

pub data Verdict : Type 0 where
  refuse : Refusal → Verdict
  go : Plan → Verdict

unfoldable pub verdict : Result Plan Refusal → ℕ → ℕ → Verdict
verdict (Err x) r l = refuse x
verdict (Ok p) r l = cond (too_large p) (refuse refusal.ProductTooLarge) (cond (roomy p r l) (go p) (refuse refusal.BufferTooShort))

abbrev pub refusal_answer : Refusal → Answer
refusal_answer x = record { number = number x; line = line_of x; cost = 0; kept = 0; count = 0; stem = 0; cycle = 0 }

abbrev pub tour_answer : Plan → ℕ → ℕ → ℕ → Answer
tour_answer p k s l = record { number = 0; line = 0; cost = cost p k; kept = k; count = ones k; stem = s; cycle = l }

abbrev pub NoTour : Plan → Type 0
NoTour p = (stem cycle : List ℕ) → IsLasso p stem cycle → Hard p stem cycle → ⊥

pub record TourOf (p : Plan) (runin loop runin' loop' : List ℕ) (a : Answer) : Type 0 where
  pub stem : List ℕ
  pub cycle : List ℕ
  pub kept : ℕ
  pub lasso : IsLasso p stem cycle
  pub hard : Hard p stem cycle
  pub exact : KeptIs p stem cycle kept
  pub counted : Counted (Soft p stem cycle) p.rules (ones kept)
  pub best : Best p kept
  pub stem_short : length stem ≤ size p
  pub cycle_short : length cycle ≤ loop_room p
  pub answer : a ≡ tour_answer p kept (length stem) (length cycle)
  pub stem_text : runin' ≡ stem ++ drop (length stem) runin
  pub cycle_text : loop' ≡ cycle ++ drop (length cycle) loop

pub data Planned (p : Plan) (runin loop runin' loop' : List ℕ) (a : Answer) : Type 0 where
  none : NoTour p → a ≡ refusal_answer refusal.NoTour → runin' ≡ runin → loop' ≡ loop → Planned p runin loop runin' loop' a
  tour : TourOf p runin loop runin' loop' a → Planned p runin loop runin' loop' a

pub record Refused (x : Refusal) (runin loop runin' loop' : List ℕ) (a : Answer) : Type 0 where
  pub answer : a ≡ refusal_answer x
  pub same_runin : runin' ≡ runin
  pub same_loop : loop' ≡ loop

unfoldable pub Told : Verdict → List ℕ → List ℕ → List ℕ → List ℕ → Answer → Type 0
Told (refuse x) runin loop runin' loop' a = Refused x runin loop runin' loop' a
Told (go p) runin loop runin' loop' a = Planned p runin loop runin' loop' a

abbrev pub ToldOf : Result Plan Refusal → List ℕ → List ℕ → List ℕ → List ℕ → Answer → Type 0
ToldOf x runin loop runin' loop' a = Told (verdict x (length runin) (length loop)) runin loop runin' loop' a

abbrev pub AnswerTo : List ℕ → List ℕ → List ℕ → List ℕ → List ℕ → Answer → Type 0
AnswerTo file runin loop runin' loop' a = ToldOf (read_plan file) runin loop runin' loop' a
