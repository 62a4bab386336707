-- `plan_answer` meets its contract: its four returns are a product that is too large, a run-in that is too short, a loop that is,
-- and both long enough.
use Rattle.promise.proofs.Verdicts.{too-large, short_runin, short_loop, roomy_planned}
use Rattle.planner.proofs.plan_answer.Goals as goal

pub returns-in_default : goal.returns-in_default
returns-in_default c =
    let a = c.args in too-large a.p a.runin.now a.cycle.now _ c.in_default.ensures c.refusal_answer.ensures

pub returns-then-runin-n : goal.returns-then-runin-n
returns-then-runin-n c =
    let a = c.args in
    short_runin a.p a.runin.now a.cycle.now _ c.in-Some.n c.in-Some.ensures c.if-runin-n.true c.refusal_answer-then-runin-n.ensures

pub returns-then-cycle-rules : goal.returns-then-cycle-rules
returns-then-cycle-rules c =
    let a = c.args in
    short_loop a.p a.runin.now a.cycle.now _ c.in-Some.n c.in-Some.ensures c.if-cycle-rules.true c.refusal_answer-then-cycle-rules.ensures

pub returns : goal.returns
returns c =
    roomy_planned c.args.p _ _ _ c.in-Some.n c.in-Some.ensures _ _ c.if-runin-n.false c.if-cycle-rules.false c.solve.ensures
