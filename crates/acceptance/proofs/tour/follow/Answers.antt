-- `follow` meets its contract: what is left of the list leads on from the states reached.
use mathlib.Core.Path.{refl, ap}
use Prim.Native.Nat.{◌*◌}
use native.Mathlib.Omega.{arith}
use Rattle.acceptance.proofs.Following.{following_step, following_end}
use Rattle.acceptance.proofs.Deciding.{entered_few}
use Rattle.acceptance.proofs.Gathers.{narrower}
use Rattle.acceptance.proofs.tour.follow.Goals as goal

pub loop-v-preserved : goal.loop-v-preserved
loop-v-preserved c =
    let r = c.args.rule in
    let l = c.loop-v in
    following_step r.steps.now c.args.list.now _ l.v-index l.reached _ _ (omega arith) (narrower r.states 32 r.steps.now (omega (arith, r.few)) (record { narrow = r.narrow }))
    l.invariant (ap (λ v. v * 32) c.from.ensures) c.gather-reached.ensures

pub returns : goal.returns
returns c =
    let r = c.args.rule in
    let l = c.loop-v in (
      entered_few r.steps.now r.states r.first _ l.reached c.args.list.now (omega (arith, r.few)) r.begins (record { narrow = r.narrow }) refl
          (following_end r.steps.now c.args.list.now _ l.v-index l.reached (omega arith) l.invariant),
      l.invariant.small,
    )
