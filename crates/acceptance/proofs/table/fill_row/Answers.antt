-- `fill_row` meets its contract: one entry more.
use mathlib.Core.Path.{refl}
use Prim.Native.Nat.{◌+◌, ◌*◌, ◌<◌}
use lib.ListN.{length}
use native.Mathlib.Omega.{arith}
use Rattle.acceptance.proofs.Filling.{steps_narrow, filled_put}
use Rattle.acceptance.proofs.table.fill_row.Goals as goal

pub loop-q-preserved : goal.loop-q-preserved
loop-q-preserved c =
    let a = c.args in
    let l = c.loop-q in
    let entry = c.steps_from in
    let room : a.v * 32 + l.q < length l.steps = omega arith in
    let small = steps_narrow c.requires.0 _ l.q refl entry.ensures in
    filled_put entry.result l.invariant c.loop-q-test.true (omega (arith, c.requires.0.few)) room entry.ensures small
