-- `close_up` meets its contract.
use mathlib.Core.Path.{refl, ◌∙◌}
use native.Mathlib.Omega.{arith}
use borrow.Author.Rules.{rules}
use Rattle.std.proofs.Common.{tests}
use Rattle.std.proofs.lemmas.Iterator.{YieldsList-from_range}
use Rattle.std.proofs.lemmas.Iterator.Search.{any_from_yields_List}
use Rattle.acceptance.specs.Table.{returning}
use Rattle.acceptance.proofs.Links.{any_range}
use Rattle.acceptance.proofs.tour.close_up.Goals as goal

pub returns : goal.returns
returns c = record {
  links = c.link.new.links;
  reached = c.gather-reached.result;
  linked = c.link.ensures;
  joined = c.gather-reached.ensures;
  found =
      any_from_yields_List (returning c.args.rows.now c.link.new.links c.gather-reached.result) _ _ c.any.result c.any.ensures.ran
      (YieldsList-from_range 0 c.args.n c.args.n refl (omega arith)) (λ x b q k. search (rules, tests))
      ∙ any_range (returning c.args.rows.now c.link.new.links c.gather-reached.result) c.args.n;
}
