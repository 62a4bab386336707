-- `steps_from` meets its contract: the step of the set of one state.
use Rattle.acceptance.proofs.Filling.{steps_own}
use Rattle.acceptance.proofs.table.steps_from.Goals as goal

pub returns : goal.returns
returns c =
    let a = c.args in
    steps_own c.requires.0 a.label a.q c.requires.1 c.one.ensures.0 c.step_set.ensures.0
