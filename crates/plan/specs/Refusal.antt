-- Why a plan is turned away (01, the table of that name), or the text of an answer (02, note 2: Contradiction), or a tour
-- (note 4: Broken, with the index at which it breaks).
--   number r  == the number of the cause
--   line_of r  == the line that is returned, from 1; 0 where the table returns none
--   index_of r == the index that is returned; 0 where there is none
use Rattle.std.specs.Prelude.{ℕ}
use Rattle.text.specs.Fault as fault
use Rattle.plan.specs.declared.Refusal.{Refusal}
use Rattle.plan.specs.declared.Refusal.TheVariants.{PlanTooLong, Line, ProductTooLarge, BufferTooShort, NoTour, BlockTooShort, Contradiction, Broken}

abbrev pub number : Refusal → ℕ
number PlanTooLong = 1
number (Line f) = fault.number f
number ProductTooLarge = 4
number BufferTooShort = 5
number NoTour = 6
number BlockTooShort = 7
number Contradiction = 8
number (Broken i) = 9

abbrev pub line_of : Refusal → ℕ
line_of PlanTooLong = 0
line_of (Line f) = fault.line_of f
line_of ProductTooLarge = 0
line_of BufferTooShort = 0
line_of NoTour = 0
line_of BlockTooShort = 0
line_of Contradiction = 0
line_of (Broken i) = 0

abbrev pub index_of : Refusal → ℕ
index_of PlanTooLong = 0
index_of (Line f) = 0
index_of ProductTooLarge = 0
index_of BufferTooShort = 0
index_of NoTour = 0
index_of BlockTooShort = 0
index_of Contradiction = 0
index_of (Broken i) = i
