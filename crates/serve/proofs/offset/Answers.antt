-- `offset` meets its contract: each of its three returns is one case of the definition, by the tests on the way to it.
use native.Mathlib.Omega.{arith}
use Rattle.serve.proofs.Laws.{offset_stem, offset_none, offset_cycle}
use Rattle.serve.proofs.offset.Goals as goal

pub returns-then-t-stem : goal.returns-then-t-stem
returns-then-t-stem c = offset_stem _ _ _ (omega arith)

pub returns-then-cycle-eq0 : goal.returns-then-cycle-eq0
returns-then-cycle-eq0 c = offset_none _ _ _ (omega arith) (omega arith)

pub returns : goal.returns
returns c = offset_cycle _ _ _ (omega arith) (omega arith)
