-- `held_size` meets its contract. The loop keeps that n is the product of the factors passed, held at 2,049.
use mathlib.Core.Path.{◌≡◌, refl, ap, ◌∙◌}
use Prim.Native.Nat.{ℕ, ◌+◌, ◌*◌, ◌<◌, min}
use native.Mathlib.Omega.{arith}
use Rattle.std.proofs.Common.{get_or-take, length-take}
use Rattle.base.specs.Below.{product_below}
use Rattle.automata.specs.WellFormed.{no_automaton}
use Rattle.plan.specs.WellFormed.{soft}
use Rattle.plan.proofs.Products.{product_none, product_more, size_whole, states_default}
use Rattle.plan.proofs.size.held_size.Goals as goal

pub loop-a-init : goal.loop-a-init
loop-a-init c = record { within = omega arith; small = c.grown-n.ensures.1; held = product_none 2049 _ _ c.grown-n.ensures.1 }

pub loop-a-preserved : goal.loop-a-preserved
loop-a-preserved c =
    let l = c.loop-a in
    let p = c.args.plan in
    let h : l.a-index < p.rules = omega (arith, length-take p.rules p.soft, c.loop-a-test.true) in
    record {
      within = omega arith;
      small = c.grown-n-in-loop-a.ensures.1;
      held = product_more 2049 _ _ _ _ _ _ l.invariant.held
          (ap (λ (q : ℕ). q + 1) (c.from-in-loop-a.ensures ∙ rw get_or-take (states_default p.soft l.a-index _ no_automaton refl))) c.grown-n-in-loop-a.ensures.0;
    }

pub returns : goal.returns
returns c =
    let l = c.loop-a in
    let p = c.args.plan in
    let e : l.a-index ≡ p.rules = omega (arith, l.invariant.within, length-take p.rules p.soft, c.loop-a-test.false) in
    size_whole 2049 p c.grown.result c.grown-n.result l.n
    (c.grown.ensures.0 ∙ ap (λ (x : ℕ). min (1 * x) 2049) c.from.ensures)
    (c.grown-n.ensures.0 ∙ ap (λ (x : ℕ). min (c.grown.result * x) 2049) c.from-2.ensures)
    (l.invariant.held ∙ ap (λ (k : ℕ). min (c.grown-n.result * product_below k (λ i. (soft p i).states + 1)) 2049) e)
