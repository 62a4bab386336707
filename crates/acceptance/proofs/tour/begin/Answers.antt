-- `begin` meets its contract: the word of one state more.
use mathlib.Core.List.{[]}
use native.Mathlib.Omega.{arith}
use Rattle.base.specs.Bits.{has_bit}
use Rattle.acceptance.specs.Table.{step_in}
use Rattle.acceptance.proofs.Words.{word_none, turned_put}
use Rattle.acceptance.proofs.tour.begin.Goals as goal

pub loop-q-preserved : goal.loop-q-preserved
loop-q-preserved c =
    let r = c.args.rule in
    let l = c.loop-q in
    let x = word_none (step_in r.steps.now) r.states (has_bit r.accept) l.q _ _ (omega (arith, r.few)) c.one.ensures.0 (rw c.has.ensures at c.marked.ensures) in
    turned_put r.steps.now r.states r.accept [] l.rows l.q _ l.invariant (omega (arith, r.few)) x
