-- Before turn i of the first loop the first i roads are called with, and the places that they leave are noted; before turn a of the second the
-- first a places are seen to.
use mathlib.Core.Path.{◌≡◌, sym, ap, ◌∙◌}
use native.Mathlib.Omega.{arith}
use lib.ListN.{length-take}
use Rattle.std.proofs.Common.{rules}
use Rattle.plan.specs.declared.Road.{Road}
use Rattle.roadmap.specs.Joined.{road_pairs, joined_pairs}
use Rattle.roadmap.proofs.Exits.{exits_none, exits_next, lent_road, lent_exit}
use Rattle.roadmap.proofs.Pairs.{road_more, parked_more, parked_passed}
use Rattle.roadmap.proofs.each_joined.Goals as goal
use Rattle.roadmap.proofs.each_joined.Goals.{then-not-has_exit, else-not-has_exit}

pub loop-road-init : goal.loop-road-init
unfolding road_pairs
loop-road-init g c = (exits_none c.args.p.now, search rules)

pub loop-road-preserved : goal.loop-road-preserved
loop-road-preserved g c =
    let w = c.requires.well_formed in
    let p = c.args.p.now in
    let l = c.loop-road in
    let e = lent_road p l.road-index c.loop-road-test.true in
    let from = c.from-a.ensures ∙ ap (λ (r : Road). r.from) e in
    let to = c.from.ensures ∙ ap (λ (r : Road). r.to) e in
    (exits_next p l.invariant.0 from (omega (arith, from, w.from l.road-index, w.few)), road_more _ _ _ p l.road-index l.invariant.1 _ _ _ from to c.join.ensures)

pub loop-a-init : goal.loop-a-init
unfolding joined_pairs
loop-a-init g c =
    let p = c.args.p.now in
    let all : c.loop-road.road-index ≡ p.road_count = omega (arith, length-take p.road_count p.roads, c.requires.well_formed.roads) in
    rw all at c.loop-road.invariant.1

pub loop-a-preserved : goal.loop-a-preserved
loop-a-preserved g c =
    let w = c.requires.well_formed in
    let p = c.args.p.now in
    let l = c.loop-a in
    let all : c.loop-road.road-index ≡ p.road_count = omega (arith, length-take p.road_count p.roads, w.roads) in
    let e = lent_exit p w c.loop-road.invariant.0 all l.a c.loop-a-test.true in
    elim c.if-not-has_exit.branch [
      | then-not-has_exit v ↦ rw v.join-is (parked_more _ _ _ p l.a l.invariant _ (sym e ∙ v.if-not-has_exit.true) v.join-then-not-has_exit.ensures)
      | else-not-has_exit v ↦ rw v.join-is (parked_passed _ _ _ p l.a l.invariant (sym e ∙ v.if-not-has_exit.false))
    ]
