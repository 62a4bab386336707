-- `break_in` meets its contract. The run-in and then the loop are driven as far as the table allows, which is as far as the plan does; each
-- place at which the function answers has its law. A list that was driven whole has places below 128, so that the roads into the loop and at
-- its end stand in the table.
use native.Mathlib.Omega.{arith}
use Rattle.checker.proofs.Scans.{stops_stem, stops_empty, stops_loop, loop_below, stops_open, stops_nowhere}
use Rattle.checker.proofs.scan.break_in.Goals as goal

pub returns-then-i-r : goal.returns-then-i-r
returns-then-i-r c =
    stops_stem c.requires.0 c.requires.1 _ _ c.driven-i.ensures (omega arith) _ (omega arith)

pub returns-then-l-eq0 : goal.returns-then-l-eq0
returns-then-l-eq0 c =
    stops_empty c.requires.0 c.requires.1 _ _ c.driven-i.ensures (omega arith) (omega arith) _ (omega arith)

pub returns-then-j-l : goal.returns-then-j-l
returns-then-j-l c =
    stops_loop c.requires.0 c.requires.1 _ _ c.driven-i.ensures (omega arith) c.before_loop.ensures c.driven-j.ensures (omega arith) _ (omega arith)

pub is_open-requires : goal.is_open-requires
is_open-requires c = (
  c.requires.1.long,
  omega arith,
  loop_below c.requires.0 c.requires.1 _ _ c.driven-i.ensures (omega arith) c.before_loop.ensures c.driven-j.ensures (omega arith) (omega arith),
)

pub returns-then-is_open : goal.returns-then-is_open
returns-then-is_open c =
    stops_open c.requires.0 c.requires.1 _ _ c.driven-i.ensures (omega arith) c.before_loop.ensures c.driven-j.ensures (omega arith) (omega arith)
    c.is_open.ensures c.if-is_open.true _ (omega arith)

pub returns : goal.returns
returns c =
    stops_nowhere c.requires.0 c.requires.1 _ _ c.driven-i.ensures (omega arith) c.before_loop.ensures c.driven-j.ensures (omega arith) (omega arith)
    c.is_open.ensures c.if-is_open.false
