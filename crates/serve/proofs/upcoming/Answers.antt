-- `upcoming` meets its contract: the offset lies within the list that its test picks, and from there to the list's end stands
-- what comes.
use Rattle.serve.proofs.Laws.{in_stem, in_cycle, serves_stem, serves_cycle}
use Rattle.serve.proofs.upcoming.Goals as goal

pub slice_bounds-result-count : goal.slice_bounds-result-count
slice_bounds-result-count c = in_stem c.offset-at.ensures c.if-t-places.true

pub slice_bounds-result-start : goal.slice_bounds-result-start
slice_bounds-result-start c = in_stem c.offset-at.ensures c.if-t-places.true

pub returns-then-t-places : goal.returns-then-t-places
returns-then-t-places c = serves_stem _ _ _ _ c.offset-at.ensures c.if-t-places.true

pub slice_bounds-result-count-2 : goal.slice_bounds-result-count-2
slice_bounds-result-count-2 c = in_cycle c.offset-at.ensures c.if-t-places.false

pub slice_bounds-result-start-2 : goal.slice_bounds-result-start-2
slice_bounds-result-start-2 c = in_cycle c.offset-at.ensures c.if-t-places.false

pub returns : goal.returns
returns c = serves_cycle _ _ _ _ c.offset-at.ensures c.if-t-places.false
