-- `fill_place` meets its contract: one state more doubles the sets of the place.
use Rattle.acceptance.proofs.Tabling.{tabled_extend, step_members}
use Rattle.acceptance.proofs.narrow.fill_place.Goals as goal

pub loop-q-preserved : goal.loop-q-preserved
loop-q-preserved c =
    let l = c.loop-q in
    let a = c.args in
    tabled_extend l.invariant c.loop-q-test.true c.requires.0 c.extend.ensures (step_members a.rule.steps.now a.v l.q)
