-- What the checker answers to a plan file and a proposed tour (02, note 4).
--   Check                == what the checker answers: what the tour is worth, or a refusal
--   Ruling               == a refusal, or the plan whose tour it is
--   ruling r stem cycle  == of what a plan file reads as, and the proposed tour: its refusal 1 to 3, then 4 by the plan's size, then 9 where the
--                           tour breaks; else the plan
--   Worthy p stem cycle w == w tells exactly whether the hard rule accepts the tour, which soft rules do, and what it costs
--   Ruled r stem cycle c  == the answer c is that of the ruling
--   RuledOf x stem cycle c == so of what a plan file reads as
--   CheckOf file stem cycle c == c is the answer to a plan file and a tour
--   no_worth, worth_of c    == what the tour is worth; on a refusal all of it is 0
use Rattle.std.specs.Prelude.{◌≡◌, true, false, cond, Result, Ok, Err, List, ℕ}
use Rattle.base.specs.Least.{Found, nowhere, at}
use Rattle.plan.specs.Size.{too_large}
use Rattle.plan.specs.Tour.{Hard}
use Rattle.plan.specs.Cost.{KeptIs, cost}
use Rattle.plan.specs.declared.Plan.{Plan}
use Rattle.plan.specs.declared.Refusal.{Refusal}
use Rattle.plan.specs.declared.Refusal.TheVariants.{ProductTooLarge, Broken}
use Rattle.reader.specs.Reading.{read_plan}
use Rattle.checker.specs.Break.{first_break}
use Rattle.checker.specs.Outcome.{held}
use Rattle.checker.specs.declared.Worth.{Worth}

abbrev pub Check : Type 0
Check = Result Worth Refusal

pub data Ruling : Type 0 where
  refuse : Refusal → Ruling
  judge : Plan → Ruling

abbrev pub by_break : Plan → Found → Ruling
by_break p nowhere = judge p
by_break p (at i) = refuse (Broken (held i))

unfoldable pub ruling : Result Plan Refusal → List ℕ → List ℕ → Ruling
ruling (Err x) stem cycle = refuse x
ruling (Ok p) stem cycle = cond (too_large p) (refuse ProductTooLarge) (by_break p (first_break p stem cycle))

pub record Worthy (p : Plan) (stem cycle : List ℕ) (w : Worth) : Type 0 where
  pub accepted : w.accepts ≡ true → Hard p stem cycle
  pub refused : w.accepts ≡ false → Hard p stem cycle → ⊥
  pub kept : KeptIs p stem cycle w.kept
  pub cost : w.cost ≡ cost p w.kept

pub record Valued (p : Plan) (stem cycle : List ℕ) (c : Check) : Type 0 where
  pub worth : Worth
  pub told : c ≡ Ok worth
  pub worthy : Worthy p stem cycle worth

unfoldable pub Ruled : Ruling → List ℕ → List ℕ → Check → Type 0
Ruled (refuse x) stem cycle c = c ≡ Err x
Ruled (judge p) stem cycle c = Valued p stem cycle c

abbrev pub RuledOf : Result Plan Refusal → List ℕ → List ℕ → Check → Type 0
RuledOf x stem cycle c = Ruled (ruling x stem cycle) stem cycle c

abbrev pub CheckOf : List ℕ → List ℕ → List ℕ → Check → Type 0
CheckOf file stem cycle c = RuledOf (read_plan file) stem cycle c

abbrev pub no_worth : Worth
no_worth = record { accepts = false; kept = 0; cost = 0 }

abbrev pub worth_of : Check → Worth
worth_of (Err x) = no_worth
worth_of (Ok w) = w
