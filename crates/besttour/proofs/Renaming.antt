-- Names for the size and the start node of a plan.
--   renamed, named == what is known of the plan's own size and start node, of the numbers that the code has for them, and back
use mathlib.Core.Path.{◌≡◌, sym, subst}
use Prim.Native.Nat.{ℕ}
use Rattle.plan.specs.Size.{size}
use Rattle.plan.specs.declared.Plan.{Plan}
use Rattle.product.specs.Product.{start_node}

pub renamed : (p : Plan) (n start : ℕ) → n ≡ size p → start ≡ start_node p → (R : ℕ → ℕ → Type 0) → R (size p) (start_node p) → R n start
renamed p n start count begins R r = subst (λ x. R x start) (sym count) (subst (λ s. R (size p) s) (sym begins) r)

pub named : (p : Plan) (n start : ℕ) → n ≡ size p → start ≡ start_node p → (R : ℕ → ℕ → Type 0) → R n start → R (size p) (start_node p)
named p n start count begins R r = subst (λ x. R x (start_node p)) count (subst (λ s. R n s) begins r)
