-- `check_plan` meets its contract: too large a product, a tour that breaks, and one that does not.
use Rattle.checker.specs.Break.{first_break}
use Rattle.checker.proofs.Worths.{whole_places}
use Rattle.checker.proofs.Rulings.{told_whole, ruled_large, ruled_broken, ruled_whole}
use Rattle.checker.proofs.check_plan.Goals as goal

pub returns-then-is_none : goal.returns-then-is_none
returns-then-is_none c = let a = c.args in ruled_large a.p _ c.size_of.ensures a.stem.now a.cycle.now c.if-is_none.ensures

pub invariant_of-tour-clause-known : goal.invariant_of-tour-clause-known
invariant_of-tour-clause-known c =
    let a = c.args in
    whole_places a.p c.requires a.stem.now a.cycle.now (told_whole (first_break a.p a.stem.now a.cycle.now) c.in-None.ensures)

pub returns-in-Some : goal.returns-in-Some
returns-in-Some c =
    let a = c.args in ruled_broken a.p _ c.size_of.ensures a.stem.now a.cycle.now c.in-Some.i c.if-is_none.ensures c.in-Some.ensures

pub returns-in-None : goal.returns-in-None
returns-in-None c =
    let a = c.args in
    ruled_whole a.p _ c.size_of.ensures a.stem.now a.cycle.now c.worth.result c.if-is_none.ensures c.in-None.ensures c.worth.ensures
