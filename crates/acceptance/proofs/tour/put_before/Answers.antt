-- `put_before` meets its contract: the word of one state more.
use mathlib.Core.Path.{refl, ap}
use Prim.Native.Nat.{◌*◌}
use native.Mathlib.Omega.{arith}
use lib.ListN.{drop}
use Rattle.acceptance.proofs.Words.{word_before, turned_put}
use Rattle.acceptance.proofs.tour.put_before.Goals as goal

pub loop-q-preserved : goal.loop-q-preserved
loop-q-preserved c =
    let a = c.args in
    let r = a.rule in
    let l = c.loop-q in
    let x = word_before r.steps.now r.states r.accept a.cycle.now a.old.now a.i l.q _ _ c.gather-next.result c.marked.result
    (omega (arith, r.few)) c.requires.1 c.requires.2 (ap (λ v. v * 32) c.from-at.ensures) refl (r.narrow _) c.gather-next.ensures c.has.ensures c.marked.ensures in
    turned_put r.steps.now r.states r.accept (drop a.i a.cycle.now) l.rows l.q c.marked.result l.invariant (omega (arith, r.few)) x
