-- Figures: claims about plan files, each with what confirms it, and the test that it does.
--   Route                     == nodes of the product graph: a walk `stem` to `home`, and one `cycle` round to it
--   Reason                    == why an answer is so
--     best parts route        == the route keeps the set, and none of the parts offers a better one
--     none parts              == none of the parts offers a tour
--     short                   == a buffer is too short
--   Figure                    == a claim, with what confirms it
--     answers text n room x   == N of the plan file is n, and it is answered by x
--     turned text n line      == it is turned away with refusal n and that line
--     repeats text v          == a tour of it is place v again and again
--     dear text rule least k  == keeping that rule costs at least `least`; k is the best set that has the rule
--     tied text rule k k'     == a rule of weight 0 decides between the sets k and k'
--     served stem cycle t part == the upcoming places at step t
--   plan_in r                 == the plan that was read; no plan where it was turned away
--   plan_of text               == the plan that a plan file reads as
--   Holds f                   == the claim
--   passes f                  == the test
use Rattle.std.specs.Prelude.{◌≡◌, Result, Ok, Err, Bool, true, false, not, ◌&&◌, List, [], ◌∷◌, ℕ, suc, ◌^◌, length, get_or, eqb, ltb, leb}
use Prim.Native.String.{String}
use Rattle.std.specs.Int.Count.{ones}
use Rattle.base.specs.Below.{any_below, all_below}
use Rattle.base.specs.Bits.{bit}
use Rattle.automata.specs.Automaton.{final}
use Rattle.plan.specs.WellFormed.{soft, weight, no_plan}
use Rattle.plan.specs.Size.{size, roomy}
use Rattle.plan.specs.Tour.{parks}
use Rattle.plan.specs.Cost.{keeps, cost}
use Rattle.plan.specs.Key.{key}
use Rattle.plan.specs.Refusal as refused
use Rattle.plan.specs.declared.Plan.{Plan}
use Rattle.plan.specs.declared.Refusal.{Refusal}
use Rattle.reader.specs.Reading.{read_plan}
use Rattle.product.specs.Product.{start_node, hard_of, soft_of}
use Rattle.serve.specs.Upcoming.{upcoming_places}
use Rattle.figures.specs.Bytes.{bytes}
use Rattle.figures.specs.Claim.{Room, at_least, exactly, Numbers, tour, refusal, Answers, Turned, Repeated, Dear, Tied}
use Rattle.figures.specs.Certificate.{implies, certified, walks_by}

pub record Route : Type 0 where
  pub stem : List ℕ
  pub home : ℕ
  pub cycle : List ℕ

pub data Reason : Type 0 where
  best : List (List ℕ) → Route → Reason
  none : List (List ℕ) → Reason
  short : Reason

pub data Figure : Type 0 where
  answers : (text : String) (n : ℕ) (room : Room) (x : Numbers) → Reason → Figure
  turned : (text : String) (n line : ℕ) → Figure
  repeats : (text : String) (v : ℕ) → Figure
  dear : (text : String) (rule least : ℕ) (kept : ℕ) → List (List ℕ) → Route → Figure
  tied : (text : String) (rule k k' : ℕ) → Route → Figure
  served : (stem cycle : List ℕ) (t : ℕ) (part : List ℕ) → Figure

abbrev pub plan_in : Result Plan Refusal → Plan
plan_in (Ok p) = p
plan_in (Err x) = no_plan

abbrev pub plan_of : String → Plan
plan_of text = plan_in (read_plan (bytes text))

unfoldable pub Holds : Figure → Type 0
Holds (answers text n room x by) = (size (plan_of text) ≡ n) × Answers (bytes text) room x
Holds (turned text n line) = Turned (bytes text) n line
Holds (repeats text v) = Repeated (bytes text) v
Holds (dear text rule least kept by route) = Dear (plan_of text) rule least
Holds (tied text rule k k' route) = Tied (plan_of text) rule k k'
Holds (served stem cycle t part) = upcoming_places stem cycle t ≡ part

-- ---- the tests

abbrev pub is_plan : Result Plan Refusal → Bool
is_plan (Ok p) = true
is_plan (Err x) = false

abbrev pub turned_as : Result Plan Refusal → ℕ → ℕ → Bool
turned_as (Ok p) n line = false
turned_as (Err x) n line = eqb (refused.number x) n && eqb (refused.line_of x) line

abbrev pub enough : Room → Plan → Bool
enough (at_least runin loop) p = roomy p runin loop
enough (exactly runin loop) p = roomy p runin loop

abbrev pub lacking : Room → Plan → Bool
lacking (at_least runin loop) p = false
lacking (exactly runin loop) p = not (roomy p runin loop)

unfoldable pub all_of : List Bool → Bool
all_of [] = true
all_of (b ∷ bs) = b && all_of bs

abbrev pub alike : Numbers → Numbers → List Bool
alike x y = eqb x.number y.number ∷ eqb x.cost y.cost ∷ eqb x.kept y.kept ∷ eqb x.count y.count ∷ []

-- some node of a route's cycle passes a test
abbrev pub meets : Route → (ℕ → Bool) → Bool
meets r q = any_below (suc (length r.cycle)) (λ t. q (get_or r.cycle t r.home))

-- a route is a tour that the hard rule and the soft rules of k accept
abbrev pub drive_tests : Plan → ℕ → Route → List Bool
drive_tests p k r =
    walks_by p (start_node p) r.stem r.home ∷ walks_by p r.home r.cycle r.home ∷ ltb 0 (length r.cycle)
    ∷ meets r (λ v. final p.hard (hard_of p v))
    ∷ all_below p.rules (λ i. implies (keeps k i) (meets r (λ v. final (soft p i) (soft_of p i v)))) ∷ []

abbrev pub reason_tests : Plan → Room → Numbers → Reason → List Bool
reason_tests p room x (best cs r) =
    all_of (alike (tour (cost p x.kept) x.kept (ones x.kept)) x) ∷ enough room p ∷ ltb x.kept (2 ^ p.rules)
    ∷ certified p (λ m. leb (key p x.kept) (key p m)) cs ∷ all_of (drive_tests p x.kept r) ∷ []
reason_tests p room x (none cs) = all_of (alike (refusal 6) x) ∷ enough room p ∷ certified p (λ m. false) cs ∷ []
reason_tests p room x short = all_of (alike (refusal 5) x) ∷ lacking room p ∷ []

-- soft rule i + 1 is the rule, or weighs less
abbrev pub lighter : Plan → ℕ → ℕ → Bool
lighter p rule i = implies (not (eqb i rule)) (ltb (weight p i) (weight p rule))

abbrev pub dear_tests : Plan → ℕ → ℕ → ℕ → List (List ℕ) → Route → List Bool
dear_tests p rule least k cs r =
    ltb rule p.rules ∷ all_below p.rules (lighter p rule) ∷ eqb (cost p k) least ∷ ltb k (2 ^ p.rules) ∷ keeps k rule
    ∷ certified p (λ m. implies (keeps m rule) (leb (key p k) (key p m))) cs ∷ all_of (drive_tests p k r) ∷ []

abbrev pub tied_tests : Plan → ℕ → ℕ → ℕ → Route → List Bool
tied_tests p rule k k' r =
    eqb (cost p k) (cost p k') ∷ all_of (drive_tests p k' r) ∷ ltb rule p.rules ∷ all_below rule (λ i. eqb (bit k i) (bit k' i)) ∷ keeps k rule
    ∷ eqb (bit k' rule) 0 ∷ eqb (weight p rule) 0 ∷ []

abbrev pub same : List ℕ → List ℕ → Bool
same [] [] = true
same [] (y ∷ ys) = false
same (x ∷ xs) [] = false
same (x ∷ xs) (y ∷ ys) = eqb x y && same xs ys

abbrev pub is_read : String → Bool
is_read text = is_plan (read_plan (bytes text))

unfoldable pub passes : Figure → Bool
passes (answers text n room x by) = all_of (is_read text ∷ eqb (size (plan_of text)) n ∷ leb n 2048 ∷ all_of (reason_tests (plan_of text) room x by) ∷ [])
passes (turned text n line) = turned_as (read_plan (bytes text)) n line
passes (repeats text v) = all_of (is_read text ∷ eqb (plan_of text).start v ∷ parks (plan_of text) v ∷ [])
passes (dear text rule least k cs r) = all_of (is_read text ∷ all_of (dear_tests (plan_of text) rule least k cs r) ∷ [])
passes (tied text rule k k' r) = all_of (is_read text ∷ all_of (tied_tests (plan_of text) rule k k' r) ∷ [])
passes (served stem cycle t part) = same (upcoming_places stem cycle t) part
