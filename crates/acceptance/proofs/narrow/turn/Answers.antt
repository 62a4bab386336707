-- `turn` meets its contract: the words of four states more.
use native.Mathlib.Omega.{arith}
use borrow.Author.Rules.{rules}
use Rattle.std.proofs.lemmas.List.{places}
use Rattle.acceptance.proofs.Courses.{turned_four}
use Rattle.acceptance.proofs.narrow.turn.Goals as goal

pub loop-q-preserved : goal.loop-q-preserved
loop-q-preserved c =
    turned_four c.loop-q.q _ c.loop-q.invariant c.pass.ensures (λ p l. search (rules, places)) (λ j l. search (rules, places)) (omega arith) (omega arith)

pub returns-2 : goal.returns-2
returns-2 c =
    turned_four c.loop-q.q _ c.loop-q.invariant c.pass.ensures (λ p l. search (rules, places)) (λ j l. search (rules, places)) (omega arith) (omega arith)
