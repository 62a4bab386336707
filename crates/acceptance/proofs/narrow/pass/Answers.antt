-- `pass` meets its contract: the courses of four states, place by place.
use native.Mathlib.Omega.{arith}
use Rattle.acceptance.proofs.Courses.{goings_start, goings_step, goings_end}
use Rattle.acceptance.proofs.narrow.pass.Goals as goal

pub loop-v-init : goal.loop-v-init
loop-v-init c =
    goings_start c.requires.0 (record { narrow = c.args.rule.narrow }) c.args.cycle.now c.args.q c.begun.ensures c.begun-2.ensures c.begun-3.ensures c.begun-4.ensures

pub loop-v-preserved : goal.loop-v-preserved
loop-v-preserved c =
    goings_step c.requires.0 (record { narrow = c.args.rule.narrow }) c.args.cycle.now c.args.q c.loop-v-test.true (c.requires.3 c.loop-v.v-index) c.requires.2 c.row-row.ensures.0
    c.loop-v.invariant c.advance.ensures c.advance-in-loop-v.ensures c.advance-in-loop-v-2.ensures c.advance-in-loop-v-3.ensures

pub returns : goal.returns
returns c =
    goings_end c.requires.0 (record { narrow = c.args.rule.narrow }) c.args.cycle.now c.args.q (omega arith) c.loop-v.invariant c.word.ensures c.word-2.ensures c.word-3.ensures c.word-4.ensures
