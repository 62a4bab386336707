-- `label_block` meets its contract: the loop keeps which labels are read, and where the last line ends.
use mathlib.Core.Path.{◌≡◌}
use mathlib.Core.List.{List, ◌++◌}
use Prim.Native.Nat.{ℕ}
use native.Mathlib.Omega.{arith}
use borrow.Author.Rules.{rules}
use lib.ListN.{take, drop, replicate, take-append-drop}
use Rattle.std.proofs.lemmas.List.{set-append_left}
use Rattle.std.proofs.lemmas.Result.{err_from_is_err_and}
use Rattle.text.proofs.Lines.{one_ok, one_err}
use Rattle.reader.proofs.Steps.{labels_begun, label_read, label_fault, labels_done}
use Rattle.reader.proofs.block.label_block.Goals as goal

pub loop-label-init : goal.loop-label-init
loop-label-init c =
    let a = c.args in
    let zeros : List ℕ = replicate 128 0 in
    let whole : take a.n zeros ++ drop a.n zeros ≡ zeros = take-append-drop a.n zeros in
    record { size = search rules; last = search rules; read = λ xs. rw whole (labels_begun a.s.now a.n a.bound xs a.from) }

pub returns-in_err-x : goal.returns-in_err-x
returns-in_err-x c xs =
    let l = c.loop-label in
    let p = err_from_is_err_and c.from_residual.result c.from_residual.ensures.1 in
    rw (p.1, p.2)
    (label_fault _ _ _ _ _ _ _ _ (l.invariant.read xs) (omega (arith, c.loop-label-test.true, l.invariant.last)) _
    (one_err _ _ _ _ _ _ c.line_of_one.ensures _ c.in_err-x.was))

pub loop-label-preserved : goal.loop-label-preserved
loop-label-preserved c =
    let l = c.loop-label in
    let zeros : List ℕ = replicate 128 0 in
    record {
      size = search (rules, l.invariant.size);
      last = l.invariant.last;
      read = λ xs.
          rw (← set-append_left l.label-items (drop c.args.n zeros) l.label-index c.in_ok-x.x (omega (arith, c.loop-label-test.true, l.invariant.size, l.invariant.last)))
          (label_read _ _ _ _ _ _ _ _ (l.invariant.read xs) (omega (arith, c.loop-label-test.true, l.invariant.last)) _ _
          (one_ok _ _ _ _ _ _ c.line_of_one.ensures _ _ c.in_ok-x.was));
    }

pub returns : goal.returns
returns c xs =
    let l = c.loop-label in
    labels_done _ _ _ _ _ _ _ _ (l.invariant.read xs) (omega (arith, c.loop-label-test.false, l.invariant.last))
