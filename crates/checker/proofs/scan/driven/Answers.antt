-- `driven` meets its contract: before turn i the drive has gone as far as index i.
use native.Mathlib.Omega.{arith}
use mathlib.Core.Path.{◌≡◌}
use lib.ListN.{length}
use Rattle.checker.specs.Drive.{on_table}
use Rattle.checker.proofs.Drives.{driving_start, driving_step, driving_stop, driving_end}
use Rattle.checker.proofs.Scans.{table_past, table_shut, table_leads}
use Rattle.checker.proofs.scan.driven.Goals as goal

pub loop-i-init : goal.loop-i-init
loop-i-init c =
    let a = c.args in record { far = driving_start (on_table a.roads.now a.places) a.from a.list.now; row = c.requires.2 }

pub returns-then-places-v : goal.returns-then-places-v
returns-then-places-v c =
    let a = c.args in
    let l = c.loop-i in
    driving_stop l.invariant.far (omega arith) (table_past a.roads.now a.places l.u _ (omega (arith, c.from-v.ensures)))

pub returns-then-roads-u-ne1 : goal.returns-then-roads-u-ne1
returns-then-roads-u-ne1 c =
    let a = c.args in
    let l = c.loop-i in
    driving_stop l.invariant.far (omega arith)
    (rw c.from-v.ensures at (table_shut a.roads.now a.places l.u c.from-v.result (omega arith) c.if-roads-u-ne1.true))

pub loop-i-preserved : goal.loop-i-preserved
loop-i-preserved c =
    let a = c.args in
    let l = c.loop-i in
    let leads = table_leads a.roads.now a.places l.u c.from-v.result (omega arith) c.if-roads-u-ne1.false in
    record { far = rw c.from-v.ensures (driving_step l.invariant.far (omega arith) (rw c.from-v.ensures at leads)); row = omega (arith, c.requires.1) }

pub returns : goal.returns
returns c =
    let l = c.loop-i in
    let e : l.i ≡ length c.args.list.now = omega arith in
    rw e at (driving_end l.invariant.far (omega arith))
