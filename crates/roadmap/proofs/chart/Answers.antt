-- The closure puts in the entry of the pair that it is called with, so that all entries of the plan are put in.
use mathlib.Core.Path.{◌∙◌}
use Rattle.std.proofs.Common.{rules}
use Rattle.roadmap.proofs.Charts.{puts_through, charted_pairs}
use Rattle.roadmap.proofs.chart.Goals as goal

pub returns : goal.returns
returns c =
    puts_through _ _ _ _ c.each_joined.ensures (λ f. f.0.ghost_name) (λ f. f.1.now) (λ f. f.0.now) (λ f x g r. search rules) (λ same. search rules)
    ∙ charted_pairs c.args.p c.args.at c.args.table.now
