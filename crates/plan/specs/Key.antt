-- One number that is cost and tie rule at once. No promise speaks of it: the laws of the proofs tie it to `Better`.
--   tie n k            == the first n rules as digits in base 2, the first rule highest, 1 for a rule that is not in k
--   key_of weights n k  == smaller is better
--   key p k            == that of the rules of p
use Rattle.std.specs.Prelude.{cond, List, ℕ, zero, suc, ◌+◌, ◌*◌}
use Rattle.plan.specs.Cost.{keeps, cost_of}
use Rattle.plan.specs.declared.Plan.{Plan}

unfoldable pub tie : ℕ → ℕ → ℕ
tie zero k = 0
tie (suc n) k = tie n k * 2 + cond (keeps k n) 0 1

unfoldable pub key_of : List ℕ → ℕ → ℕ → ℕ
key_of weights n k = cost_of weights n k * 256 + tie n k

abbrev pub key : Plan → ℕ → ℕ
key p k = key_of p.weights p.rules k
