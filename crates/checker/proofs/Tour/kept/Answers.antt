-- `kept` meets its contract: before turn i the kept byte is exact for the first i soft rules.
use native.Mathlib.Omega.{arith}
use borrow.Author.Rules.{rules}
use Prim.Native.Nat.{◌≤◌, ◌<◌}
use Rattle.checker.proofs.Worths.{keeping_start, keeping_next, keeping_end, keeping_low, bit_low}
use Rattle.checker.proofs.Tour.kept.Goals as goal

-- before a turn both numbers are small
low : (c : goal.After-kept_of-kept) → (c.loop-i.weight ≤ 256) × (c.loop-i.kept < 256)
low c =
    let t = c.args.self.now in
    let l = c.loop-i in
    keeping_low t.plan t.stem.now t.cycle.now l.i l.weight l.kept (omega (arith, t.well.rules)) l.invariant

pub loop-i-init : goal.loop-i-init
loop-i-init c = let t = c.args.self.now in keeping_start t.plan t.stem.now t.cycle.now

pub overflow_add-kept : goal.overflow_add-kept
overflow_add-kept c = let t = c.args.self.now in search (rules, low c, bit_low t.plan t.stem.now t.cycle.now c.kept_of-kept.ensures)

pub overflow_mul-weight : goal.overflow_mul-weight
overflow_mul-weight c = search (rules, low c)

pub loop-i-preserved : goal.loop-i-preserved
loop-i-preserved c =
    let t = c.args.self.now in
    let l = c.loop-i in
    keeping_next t.plan t.stem.now t.cycle.now l.i l.weight l.kept l.invariant (omega arith) c.kept_of-kept.result c.kept_of-kept.ensures

pub returns : goal.returns
returns c =
    let t = c.args.self.now in
    let l = c.loop-i in
    keeping_end t.plan t.stem.now t.cycle.now l.i l.weight l.kept (omega (arith, l.invariant.listed)) l.invariant
