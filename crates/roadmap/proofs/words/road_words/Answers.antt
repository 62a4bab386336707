-- The closure adds the pair that it is called with to one table, and turned round to the other.
use native.Mathlib.Omega.{arith}
use Rattle.std.proofs.Common.{rules}
use Rattle.roadmap.proofs.Gains.{told_through, told_joins}
use Rattle.roadmap.proofs.Paths.{blank_long, paths_made}
use Rattle.roadmap.proofs.words.road_words.Goals as goal

pub returns : goal.returns
returns c =
    let p = c.args.p in
    let w = c.requires.0 in
    paths_made p w (omega (arith, blank_long c.requires.1)) (omega (arith, blank_long c.requires.2))
    (told_joins p w
    (told_through _ _ _ _ c.each_joined.ensures (λ f. f.0.ghost_name) (λ f. f.1.ghost_name) (λ f. f.0.now) (λ f. f.1.now) (λ f z g r. search rules)
    c.requires.1 c.requires.2 (λ same. search rules) (λ same. search rules)))
