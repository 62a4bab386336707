-- Which plan files keep their answers. The planner and the checker tell of a file what they tell of the plan that it reads as (`answered_by`,
-- `checked_by`); so a file that reads as before keeps its answers.
--   02, note 5: weights were at least 1, and a file without a zero weight keeps them
--     answered_as_before, checked_as_before == what the planner answers, and the checker
--   02, note 6: a road could stand on two lines, and a file that passed and has every road once keeps them
--     single_answered, single_checked       == what the planner answers, and the checker
--     passed_answered, passed_checked       == the same of every file that passes now
--   02, note 7: a place without a road out was on no tour, and a file whose places all have one keeps them
--     left_answered, left_checked           == what the planner answers, and the checker
use mathlib.Core.Path.{◌≡◌, sym, subst}
use mathlib.Core.List.{List}
use mathlib.Core.Logic.{◌↔◌}
use Prim.Native.Nat.{ℕ}
use Rattle.std.specs.Prelude.{Result, Ok}
use Rattle.plan.specs.declared.Plan.{Plan}
use Rattle.plan.specs.declared.Refusal.{Refusal}
use Rattle.reader.specs.Reading.{read_plan}
use Rattle.reader.proofs.Singles.{Single}
use Rattle.reader.proofs.Weights as weights
use Rattle.reader.proofs.Doubles as doubles
use Rattle.answer.specs.declared.Answer.{Answer}
use Rattle.plan.proofs.Parking.{Left}
use Rattle.promise.specs.Promise.{AnswerTo, ToldOf}
use Rattle.promise.proofs.Parking.{ToldBefore, told_as_before}
use Rattle.checker.specs.Check.{Check, CheckOf, RuledOf}
use Rattle.checker.proofs.Parking.{RuledBefore, ruled_as_before}

-- what is answered to the file is what is answered to the reading r
abbrev pub Answered : List ℕ → Result Plan Refusal → Type 0
Answered file r = (runin loop runin' loop' : List ℕ) (a : Answer)
    → AnswerTo file runin loop runin' loop' a ↔ ToldOf r runin loop runin' loop' a

abbrev pub Checked : List ℕ → Result Plan Refusal → Type 0
Checked file r = (stem cycle : List ℕ) (c : Check) → CheckOf file stem cycle c ↔ RuledOf r stem cycle c

module _ (file : List ℕ) where
  pub answered_by : (r : Result Plan Refusal) → read_plan file ≡ r → Answered file r
  answered_by r same runin loop runin' loop' a = (subst T same, subst T (sym same))
    where
      T : Result Plan Refusal → Type 0
      T x = ToldOf x runin loop runin' loop' a

  pub checked_by : (r : Result Plan Refusal) → read_plan file ≡ r → Checked file r
  checked_by r same stem cycle c = (subst T same, subst T (sym same))
    where
      T : Result Plan Refusal → Type 0
      T x = RuledOf x stem cycle c

  module _ (no_zero : weights.NoZero file) where
    pub answered_as_before : Answered file (weights.read_before file)
    answered_as_before = answered_by _ (weights.read_as_before file no_zero)

    pub checked_as_before : Checked file (weights.read_before file)
    checked_as_before = checked_by _ (weights.read_as_before file no_zero)

  abbrev before : Result Plan Refusal
  before = doubles.read_before file

  module _ (p : Plan) (passed : before ≡ Ok p) (single : Single p.roads p.road_count) where
    pub single_answered : Answered file before
    single_answered = answered_by _ (doubles.single_as_before file p passed single)

    pub single_checked : Checked file before
    single_checked = checked_by _ (doubles.single_as_before file p passed single)

  -- of such a file the definitions of before and of now say the same
  module _ (left : (p : Plan) → read_plan file ≡ Ok p → Left p) where
    pub left_answered : (runin loop runin' loop' : List ℕ) (a : Answer)
        → AnswerTo file runin loop runin' loop' a ↔ ToldBefore (read_plan file) runin loop runin' loop' a
    left_answered = told_as_before (read_plan file) left

    pub left_checked : (stem cycle : List ℕ) (c : Check) → CheckOf file stem cycle c ↔ RuledBefore (read_plan file) stem cycle c
    left_checked = ruled_as_before (read_plan file) left

  module _ (p : Plan) (passes : read_plan file ≡ Ok p) where
    pub passed_answered : Answered file before
    passed_answered = answered_by _ (doubles.passed_as_before file p passes)

    pub passed_checked : Checked file before
    passed_checked = checked_by _ (doubles.passed_as_before file p passes)
