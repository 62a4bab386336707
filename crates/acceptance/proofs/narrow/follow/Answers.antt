-- `follow` meets its contract: what is left of the list leads on from the states reached.
use mathlib.Core.Path.{ap, ◌∙◌}
use Prim.Native.Nat.{◌<◌}
use native.Mathlib.Omega.{arith}
use lib.ListN.{get_or}
use Rattle.acceptance.proofs.Courses.{byte, looked, row_part, ending_start, ending_step, ending_end}
use Rattle.acceptance.proofs.narrow.follow.Goals as goal

pub loop-v-init : goal.loop-v-init
loop-v-init c =
    let r = c.args.rule in
    ending_start r.steps.now r.states c.requires.0 (record { narrow = r.narrow }) c.args.list.now r.first c.one-reached.result r.begins c.one-reached.ensures.0

pub bounds-row-from : goal.bounds-row-from
bounds-row-from c =
    let r = c.args.rule in
    let small : c.loop-v.reached < 256 = byte r.steps.now r.states c.requires.0 (record { narrow = r.narrow }) c.loop-v.reached c.loop-v.invariant.small in
    omega (arith, c.from.ensures, c.row.ensures.1)

pub loop-v-preserved : goal.loop-v-preserved
loop-v-preserved c =
    let r = c.args.rule in
    let l = c.loop-v in
    let v = get_or c.args.list.now l.v-index 0 in
    let small : l.reached < 256 = byte r.steps.now r.states c.requires.0 (record { narrow = r.narrow }) l.reached l.invariant.small in
    ending_step r.steps.now r.states c.requires.0 (record { narrow = r.narrow }) c.args.list.now r.first l.v-index l.reached _ (omega arith) l.invariant
    (looked r.steps.now r.states c.requires.0 (record { narrow = r.narrow }) r.places v l.reached _ c.args.sets.now (c.requires.2 l.v-index) c.requires.1 l.invariant.small
    (ap (λ x. get_or c.row.result.now x 0) c.from.ensures ∙ row_part c.args.sets.now c.row.result.now v c.row.ensures.0 l.reached small))

pub returns : goal.returns
returns c =
    let r = c.args.rule in
    let l = c.loop-v in
    ending_end r.steps.now r.states c.requires.0 (record { narrow = r.narrow }) c.args.list.now r.first l.v-index l.reached (omega arith) l.invariant
