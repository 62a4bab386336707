-- `check_tour` meets its contract: a plan that was read is well formed, and a refusal is told as it is.
use Rattle.std.proofs.lemmas.Result.{err_from_is_err_and}
use Rattle.reader.proofs.WellRead.{read_ok}
use Rattle.checker.proofs.Rulings.{refused_ruled}
use Rattle.checker.proofs.check_tour.Goals as goal

pub check_plan-requires : goal.check_plan-requires
check_plan-requires c = read_ok c.args.plan.now _ c.read_plan.ensures c.in_ok-read_plan.field-0 c.in_ok-read_plan.was

pub returns-in_err-read_plan : goal.returns-in_err-read_plan
returns-in_err-read_plan c =
    let a = c.args in
    let x = err_from_is_err_and c.from_residual.result c.from_residual.ensures.1 in
    rw (x.1, x.2) (refused_ruled a.plan.now _ c.read_plan.ensures a.runin.now a.cycle.now _ c.in_err-read_plan.was)
