-- `line_with` meets its contract. The loop keeps that the search from its byte on decides; each return is one case of the search.
use mathlib.Core.Path.{sym, ◌∙◌}
use Rattle.drawn.proofs.Seeking.{with_here, with_on, with_past}
use Rattle.drawn.proofs.line_with.Goals as goal

pub returns-then-begins : goal.returns-then-begins
returns-then-begins c = sym (c.loop-i.invariant ∙ with_here _ _ _ _ c.loop-i-test.true (sym c.begins.ensures ∙ c.if-begins.true))

pub loop-i-preserved : goal.loop-i-preserved
loop-i-preserved c = c.loop-i.invariant ∙ with_on _ _ _ _ c.loop-i-test.true (sym c.begins.ensures ∙ c.if-begins.false)

pub returns : goal.returns
returns c = sym (c.loop-i.invariant ∙ with_past _ _ _ _ c.loop-i-test.false)
