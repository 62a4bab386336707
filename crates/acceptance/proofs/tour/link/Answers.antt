-- `link` meets its contract: the sets by way of one state more.
use mathlib.Core.Path.{refl}
use Rattle.acceptance.specs.Table.{related}
use Rattle.acceptance.proofs.Links.{linked_pass}
use Rattle.acceptance.proofs.tour.link.Goals as goal

pub loop-k-preserved : goal.loop-k-preserved
loop-k-preserved c =
    let a = c.args in
    let l = c.loop-k in
    linked_pass (related a.rows.now) a.n l.k _ l.links _ c.requires c.loop-k-test.true refl l.invariant c.through.ensures
