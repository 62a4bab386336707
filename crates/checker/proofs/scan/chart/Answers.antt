-- `chart` meets its contract: all roads are put in, and then the start in the row before the tour.
use native.Mathlib.Omega.{arith}
use Rattle.checker.proofs.Roads.{filled_table}
use Rattle.checker.proofs.scan.chart.Goals as goal

pub chart-requires : goal.chart-requires
chart-requires c = (c.requires.0, omega (arith, c.requires.2))

pub returns : goal.returns
returns c =
    filled_table c.args.p c.args.roads.now _ c.requires.0 c.requires.1 c.requires.2 c.chart.ensures
