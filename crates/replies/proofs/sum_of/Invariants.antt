-- `sum_of` is safe: the sum stays below its modulus.
use Rattle.std.proofs.Common.{◌<◌}
use Rattle.replies.proofs.sum_of.Given as goal

abbrev pub invariant-loop-b : goal.invariant-loop-b
invariant-loop-b l = l.sum < 65521
