-- `size_in` is safe: a plan that was read has at most eight soft rules.
use Rattle.reader.proofs.WellRead.{read_ok}
use Rattle.readings.proofs.size_in.Goals as goal

pub size_of-requires : goal.size_of-requires
size_of-requires c = (read_ok _ _ c.read_plan.ensures c.in_ok-read_plan.field-0 c.in_ok-read_plan.was).rules
