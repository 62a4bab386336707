-- What is wrong with a line (01, the causes 2 and 3 of "Why a plan is turned away"; 02, note 6: 10, a road that an earlier line has).
--   number f == the number of the cause
--   line_of f == the line that has it, from 1
use Rattle.std.specs.Prelude.{ℕ}
use Rattle.text.specs.declared.fault.Fault.{Fault}
use Rattle.text.specs.declared.fault.Fault.TheVariants.{Form, Range, Doubled}

abbrev pub number : Fault → ℕ
number (Form line) = 2
number (Range line) = 3
number (Doubled line) = 10

abbrev pub line_of : Fault → ℕ
line_of (Form line) = line
line_of (Range line) = line
line_of (Doubled line) = line
