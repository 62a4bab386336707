-- The word of the two places gets the bit of the second.
use Prim.Native.Nat.{◌%◌}
use native.Mathlib.Omega.{arith}
use Rattle.nodes.proofs.Masks.{shift_one}
use Rattle.roadmap.proofs.Gains.{gains_single}
use Rattle.roadmap.proofs.words.add_road.Goals as goal

pub returns : goal.returns
returns c =
    let a = c.args in
    let p = c.requires in
    rw (shift_one (a.b % 64) (omega arith)) (gains_single a.words.now a.a a.b p.0 p.1 p.2)
