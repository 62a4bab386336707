-- `through` meets its contract: the sets behind the first n stay.
use native.Mathlib.Omega.{arith}
use Rattle.acceptance.proofs.Links.{passed_front}
use Rattle.acceptance.proofs.tour.through.Goals as goal

pub returns : goal.returns
returns c = let l = c.loop-set in passed_front (omega arith) l.auto.set-items c.loop-set-test.false l.invariant
