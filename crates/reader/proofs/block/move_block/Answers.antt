-- `move_block` meets its contract: the loop keeps which moves are read, and where the last line ends.
use mathlib.Core.Path.{◌≡◌, refl, sym, ◌∙◌}
use mathlib.Core.List.{List, ◌++◌}
use native.Mathlib.Omega.{arith}
use borrow.Author.Rules.{rules}
use lib.ListN.{take, drop, replicate, take-append-drop}
use Rattle.std.proofs.lemmas.List.{set-append_left}
use Rattle.std.proofs.lemmas.Result.{err_from_is_err_and}
use Rattle.automata.specs.declared.Move.{Move}
use Rattle.automata.specs.Automaton.{no_move}
use Rattle.reader.specs.Blocks.{move_of}
use Rattle.reader.proofs.Steps.{moves_begun, move_read, move_fault, moves_done}
use Rattle.reader.proofs.block.move_block.Goals as goal

pub loop-m-init : goal.loop-m-init
loop-m-init c =
    let a = c.args in
    let zeros : List Move = replicate 64 no_move in
    let whole : take a.n zeros ++ drop a.n zeros ≡ zeros = take-append-drop a.n zeros in
    record {
      size = search rules;
      last = search rules;
      read = λ xs. rw c.no_move-moves.ensures (rw whole (moves_begun a.s.now a.n a.states a.labels xs a.from no_move refl));
    }

pub returns-in_err-xs : goal.returns-in_err-xs
returns-in_err-xs c xs =
    let l = c.loop-m in
    let p = err_from_is_err_and c.from_residual.result c.from_residual.ensures.1 in
    rw (p.1, p.2)
    (move_fault _ _ _ _ _ _ _ _ _ (l.invariant.read xs) (omega (arith, c.loop-m-test.true, l.invariant.last)) _
    (sym c.move_line.ensures.same ∙ c.in_err-xs.was))

pub loop-m-preserved : goal.loop-m-preserved
loop-m-preserved c =
    let l = c.loop-m in
    let zeros : List Move = replicate 64 no_move in
    record {
      size = search (rules, l.invariant.size);
      last = l.invariant.last;
      read = λ xs.
          rw (← set-append_left l.m-items (drop c.args.n zeros) l.m-index (move_of c.in_ok-xs.xs) (omega (arith, c.loop-m-test.true, l.invariant.size, l.invariant.last)))
          (move_read _ _ _ _ _ _ _ _ _ (l.invariant.read xs) (omega (arith, c.loop-m-test.true, l.invariant.last)) _ _
          (sym c.move_line.ensures.same ∙ c.in_ok-xs.was));
    }

pub returns : goal.returns
returns c xs =
    let l = c.loop-m in
    rw c.no_move-moves.ensures (moves_done _ _ _ _ _ _ _ _ _ (l.invariant.read xs) (omega (arith, c.loop-m-test.false, l.invariant.last)))
