-- `accepts` meets its contract: what is decided over the table, blank at first, is acceptance.
use Rattle.acceptance.proofs.Filling.{filled_none}
use Rattle.acceptance.proofs.Judging.{judged}
use Rattle.acceptance.proofs.accepts.Goals as goal

pub fill-requires : goal.fill-requires
fill-requires c = (c.requires.0, c.requires.1, filled_none c.args.a.states 4096)

pub returns-then-rule-le8 : goal.returns-then-rule-le8
returns-then-rule-le8 c =
    let a = c.args in
    judged a.a a.labels.now a.stem.now a.cycle.now _ a.places _ c.requires.0 c.fill.ensures c.requires.2 c.requires.3 (rw c.from.ensures at c.decide.ensures)

pub returns-else-rule-le8 : goal.returns-else-rule-le8
returns-else-rule-le8 c =
    let a = c.args in
    judged a.a a.labels.now a.stem.now a.cycle.now _ a.places _ c.requires.0 c.fill.ensures c.requires.2 c.requires.3
    (rw c.from.ensures at c.decide-else-rule-le8.ensures)
