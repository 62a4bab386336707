-- `line_at` meets its contract. The loop keeps that `line` and the line ends still to be passed make up the line's number; `line` is at
-- most one above the entries that were passed, so it does not wrap.
use mathlib.Core.Path.{sym}
use Prim.Native.Nat.{min}
use native.Mathlib.Omega.{arith}
use Rattle.text.proofs.Newlines.{line_start, newlines_end, newlines_else, newlines_all}
use Rattle.text.proofs.read.line_at.Goals as goal
use Rattle.text.proofs.read.line_at.Goals.{then-b-eq10, else-b-eq10}

pub loop-b-init : goal.loop-b-init
loop-b-init c = (sym (line_start c.args.s.now c.args.at), omega arith)

pub loop-b-preserved : goal.loop-b-preserved
loop-b-preserved c =
    let a = c.args in
    let l = c.loop-b in
    let m = c.min.ensures in
    let inside = c.loop-b-test.true in
    elim c.if-b-eq10.branch [
      | then-b-eq10 w ↦
          let end = newlines_end a.s.now a.at _ m l.b-index inside w.if-b-eq10.true in
          (omega (arith, l.invariant.0, end, w.line-is), omega (arith, l.invariant.1, w.line-is))
      | else-b-eq10 w ↦
          let on = newlines_else a.s.now a.at _ m l.b-index inside w.if-b-eq10.false in
          (omega (arith, l.invariant.0, on, w.line-is), omega (arith, l.invariant.1, w.line-is))
    ]

pub returns : goal.returns
returns c = let left = newlines_all c.args.s.now c.args.at _ c.min.ensures c.loop-b.b-index c.loop-b-test.false in omega (arith, c.loop-b.invariant.0, left)
