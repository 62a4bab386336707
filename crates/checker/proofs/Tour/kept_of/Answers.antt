-- `kept_of` meets its contract: soft rule i + 1 accepts, or not.
use Rattle.checker.proofs.Worths.{usable_soft, bit_kept, bit_left}
use Rattle.checker.proofs.Tour.kept_of.Goals as goal

pub accepted_by-requires : goal.accepted_by-requires
accepted_by-requires c = let t = c.args.self.now in usable_soft t.plan t.well c.args.i c.requires

pub returns-then-accepted_by : goal.returns-then-accepted_by
returns-then-accepted_by c =
    let t = c.args.self.now in
    bit_kept t.plan t.well t.stem.now t.cycle.now c.args.i c.args.weight c.requires c.accepted_by.result c.accepted_by.ensures c.if-accepted_by.true

pub returns-else-accepted_by : goal.returns-else-accepted_by
returns-else-accepted_by c =
    let t = c.args.self.now in
    bit_left t.plan t.well t.stem.now t.cycle.now c.args.i c.args.weight c.requires c.accepted_by.result c.accepted_by.ensures c.if-accepted_by.false
