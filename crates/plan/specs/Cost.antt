-- What a tour keeps and what it costs (01, "Tours and what they keep"). A kept byte is a number: bit i is soft rule i + 1.
--   keeps k i             == the kept byte k has soft rule i + 1
--   KeptIs p stem cycle k == k has exactly the soft rules that accept the tour
--   cost_of weights n k    == the sum of the weights of the first n rules that are not in k
--   cost p k              == that of the rules of p
--   First n k k'          == the first of n rules on which k and k' differ is in k
--   Better p k k'         == k costs less than k', or the same and keeps the first rule on which they differ
--   Counted P n c         == c of the numbers below n have the property P
--   Best p k              == no tour that the hard rule accepts, of any lengths, keeps a set better than k (demand 3)
use Rattle.std.specs.Prelude.{◌≡◌, Bool, true, false, cond, List, ◌⊎◌, ℕ, suc, ◌^◌, ◌<◌, get_or}
use Rattle.base.specs.Below.{sum_below}
use Rattle.base.specs.Bits.{has_bit}
use Rattle.plan.specs.Tour.{IsLasso, Hard, Soft}
use Rattle.plan.specs.declared.Plan.{Plan}

abbrev pub keeps : ℕ → ℕ → Bool
keeps k i = has_bit k i

pub record KeptIs (p : Plan) (stem cycle : List ℕ) (k : ℕ) : Type 0 where
  pub small : k < 2 ^ p.rules
  pub accepted : (i : ℕ) → i < p.rules → keeps k i ≡ true → Soft p stem cycle i
  pub refused : (i : ℕ) → i < p.rules → keeps k i ≡ false → Soft p stem cycle i → ⊥

unfoldable pub cost_of : List ℕ → ℕ → ℕ → ℕ
cost_of weights n k = sum_below n (λ i. cond (keeps k i) 0 (get_or weights i 0))

abbrev pub cost : Plan → ℕ → ℕ
cost p k = cost_of p.weights p.rules k

pub record First (n k k' : ℕ) : Type 0 where
  pub rule : ℕ
  pub listed : rule < n
  pub before : (i : ℕ) → i < rule → keeps k i ≡ keeps k' i
  pub kept : keeps k rule ≡ true
  pub dropped : keeps k' rule ≡ false

abbrev pub Better : Plan → ℕ → ℕ → Type 0
Better p k k' = (cost p k < cost p k') ⊎ ((cost p k ≡ cost p k') × First p.rules k k')

-- k' is any set of rules that accept the tour. The tour's own kept byte is one of them, which gives demand 3 to the letter
-- (`best_kept`, of the proofs); stated for every such set, it is also what makes the kept byte exact.
abbrev pub Best : Plan → ℕ → Type 0
Best p k =
    (stem cycle : List ℕ) → IsLasso p stem cycle → Hard p stem cycle → (k' : ℕ) → k' < 2 ^ p.rules
    → ((i : ℕ) → i < p.rules → keeps k' i ≡ true → Soft p stem cycle i) → (k ≡ k') ⊎ Better p k k'

pub data Counted (P : ℕ → Type 0) : ℕ → ℕ → Type 0 where
  none : Counted P 0 0
  one : {n c : ℕ} → P n → Counted P n c → Counted P (suc n) (suc c)
  skip : {n c : ℕ} → (P n → ⊥) → Counted P n c → Counted P (suc n) c
