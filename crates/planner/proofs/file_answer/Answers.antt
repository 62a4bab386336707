-- `file_answer` meets its contract: a plan that was read is well formed, and a refusal is told as it is.
use native.Mathlib.Omega.{arith}
use Rattle.reader.proofs.Answers.{refused_early}
use Rattle.reader.proofs.WellRead.{read_ok}
use Rattle.promise.proofs.Verdicts.{read_told, refused_told}
use Rattle.planner.proofs.file_answer.Goals as goal

pub plan_answer-requires : goal.plan_answer-requires
plan_answer-requires c = read_ok c.args.plan.now _ c.read_plan.ensures c.in-Ok.p c.in-Ok.is

pub refusal_answer-requires : goal.refusal_answer-requires
refusal_answer-requires c = omega (arith, refused_early c.args.plan.now _ c.read_plan.ensures c.in-Err.x c.in-Err.is)

pub returns-in-Ok : goal.returns-in-Ok
returns-in-Ok c =
    let a = c.args in read_told a.plan.now _ c.read_plan.ensures a.runin.now a.cycle.now _ _ _ c.in-Ok.p c.in-Ok.is c.plan_answer.ensures

pub returns-in-Err : goal.returns-in-Err
returns-in-Err c =
    let a = c.args in refused_told a.plan.now _ c.read_plan.ensures a.runin.now a.cycle.now _ c.in-Err.x c.in-Err.is c.refusal_answer.ensures
