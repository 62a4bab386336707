-- `read_plan` meets its contract: each return is one case of its definition.
use Rattle.reader.proofs.Answers.{too_long, short_enough}
use Rattle.reader.proofs.read_plan.Goals as goal

pub returns-then-s-gt60000 : goal.returns-then-s-gt60000
returns-then-s-gt60000 c = too_long _ c.if-s-gt60000.true

pub returns : goal.returns
returns c = short_enough _ c.if-s-gt60000.false _ c.read_lines.ensures _ c.map_err.ensures.cases
