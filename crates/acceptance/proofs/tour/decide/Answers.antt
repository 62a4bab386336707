-- `decide` meets its contract: run-in, turn and closure together.
use native.Mathlib.Omega.{arith}
use Rattle.acceptance.proofs.Deciding.{decides}
use Rattle.acceptance.proofs.tour.decide.Goals as goal

pub returns : goal.returns
returns c =
    let r = c.args.rule in
    decides r.steps.now r.states r.first r.accept c.args.stem.now c.args.cycle.now _ (omega (arith, r.few)) r.begins (record { narrow = r.narrow }) c.turn.ensures
    c.follow-set.result c.follow-set.ensures.0 c.close_up.result c.close_up.ensures
