-- `kept_bit` meets its contract: a shift and a mask read one bit.
use mathlib.Core.Path.{sym, ◌∙◌}
use native.Mathlib.Omega.{arith}
use lib.Bits.{and_mask}
use Rattle.base.proofs.Bits.{bit_shift, bit_lt}
use Rattle.plan.proofs.kept_bit.Goals as goal

pub returns : goal.returns
returns c = let e = and_mask _ 1 ∙ sym (bit_shift c.args.kept c.args.i) in (e, omega (arith, e, bit_lt c.args.kept c.args.i))
