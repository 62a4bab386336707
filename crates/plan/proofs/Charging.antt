-- The loops that sum the cost and the tie of a kept byte: what rule n adds, and that the sums are small.
--   cost_next, tie_next == with rule n
--   tie_small           == the tie of at most eight rules is below 256
--   cost_small          == the cost of a read plan has room in its four bytes
use mathlib.Core.Path.{◌≡◌}
use mathlib.Core.Bool.{Bool, true, false, cond}
use mathlib.Core.List.{List}
use Prim.Native.Nat.{ℕ, ◌+◌, ◌*◌, ◌≤◌, ◌<◌}
use native.Mathlib.Nat.{le_trans}
use native.Mathlib.Numerals.{add-one}
use native.Mathlib.Omega.{arith}
use lib.ListN.{get_or}
use lib.Pow.{pow_mono}
use Rattle.base.specs.Below.{sum_below}
use Rattle.base.proofs.Sums.{sum_most}
use Rattle.plan.specs.Cost.{keeps, cost_of}
use Rattle.plan.specs.Key.{tie}
use Rattle.plan.specs.WellFormed.{WellFormed}
use Rattle.plan.specs.declared.Plan.{Plan}
use Rattle.plan.proofs.Ties.{tie_lt}

pub cost_next : (weights : List ℕ) (n k : ℕ) → cost_of weights (n + 1) k ≡ cost_of weights n k + cond (keeps k n) 0 (get_or weights n 0)
unfolding cost_of sum_below
cost_next weights n k = rw add-one

pub tie_next : (n k : ℕ) → tie (n + 1) k ≡ tie n k * 2 + cond (keeps k n) 0 1
unfolding tie
tie_next n k = rw add-one

pub tie_small : (n k : ℕ) → n ≤ 8 → tie n k < 256
tie_small n k h = omega (arith, tie_lt n k, pow_mono h)

charge_le : (b : Bool) (w : ℕ) → cond b 0 w ≤ w
charge_le true w = omega arith
charge_le false w = omega arith

pub cost_small : (p : Plan) → WellFormed p → (k : ℕ) → cost_of p.weights p.rules k ≤ 32000000
unfolding cost_of
cost_small p ok k =
    let most = sum_most p.rules 4000000 (λ i. cond (keeps k i) 0 (get_or p.weights i 0)) (λ i h. le_trans (charge_le (keeps k i) (get_or p.weights i 0)) (ok.heavy i h)) in
    omega (arith, ok.rules)
