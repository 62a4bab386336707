-- Which answers there are (02, note 2): what may stand together in the text of one.
--   Sound a stem cycle == the answer a with the run-in `stem` and the loop `cycle`: its numbers are in their ranges and do not contradict
--                         each other, and its lengths are those of the lists
use Rattle.std.specs.Prelude.{◌≡◌, true, List, ℕ, ◌<◌, length}
use Rattle.text.specs.List.{under}
use Rattle.plan.specs.Answers.{kind_of, consistent}
use Rattle.answer.specs.declared.Answer.{Answer}

pub record Sound (a : Answer) (stem cycle : List ℕ) : Type 0 where
  pub stem_length : length stem ≡ a.stem
  pub cycle_length : length cycle ≡ a.cycle
  pub line : a.line < 65536
  pub cost : a.cost < 32000001
  pub kept : a.kept < 256
  pub stem_places : under 128 stem ≡ true
  pub cycle_places : under 128 cycle ≡ true
  pub agrees : consistent (kind_of a.number) a.line a.cost a.kept a.stem a.cycle ≡ true
