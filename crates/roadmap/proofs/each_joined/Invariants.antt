use Rattle.std.specs.List.{FoldsTo}
use Rattle.roadmap.specs.Joined.{AtPair, road_pairs, joined_pairs}
use Rattle.roadmap.proofs.Exits.{Exits}
use Rattle.roadmap.proofs.each_joined.Given as goal

abbrev pub invariant-loop-road : goal.invariant-loop-road
invariant-loop-road g l = Exits l.fn.p l.road-index l.exits × FoldsTo (AtPair (goal.F-step g)) l.initial.join (road_pairs l.fn.p l.road-index) l.join

abbrev pub invariant-loop-a : goal.invariant-loop-a
invariant-loop-a g l = FoldsTo (AtPair (goal.F-step g)) l.fn.join (joined_pairs l.fn.p l.a) l.join
