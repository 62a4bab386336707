-- P5 of docs/DESIGN.md, the laws of the key; those of its order are for a plan with at most eight rules.
--   key_mono, key_strict == strictly antitone in the kept set, by the tie part alone: no weight need be positive
--   key_better           == no greater key: the same set, or a better one
--   better_key           == and back
--   key_injective        == sets of equal keys are equal
use mathlib.Core.Path.{◌≡◌}
use mathlib.Core.Bool.{true, false}
use mathlib.Core.List.{List}
use mathlib.Core.Logic.{◌⊎◌, inl, inr, ◌↔◌}
use Prim.Native.Nat.{ℕ, ◌^◌, ◌≤◌, ◌<◌}
use native.Mathlib.Decide.{dec_lt}
use native.Mathlib.Omega.{arith}
use lib.ListN.{get_or}
use lib.Pow.{pow_mono}
use Rattle.plan.specs.Cost.{keeps, cost, cost_of, Better}
use Rattle.plan.specs.Key.{tie, key, key_of}
use Rattle.plan.specs.declared.Plan.{Plan}
use Rattle.base.proofs.Sums.{sum_le}
use Rattle.plan.proofs.Sums.{kept_ext}
use Rattle.plan.proofs.Ties.{tie_lt, agree_tie, first_tie, tie_first, Within, cond_mono, tie_mono, tie_strict}

module _ (weights : List ℕ) (n : ℕ) where
  cost_mono : (k k' : ℕ) → Within n k k' → cost_of weights n k' ≤ cost_of weights n k
  unfolding cost_of
  cost_mono k k' h = sum_le n _ _ (λ i l. cond_mono (keeps k i) (keeps k' i) (get_or weights i 0) (h i l))

  pub key_mono : (k k' : ℕ) → Within n k k' → key_of weights n k' ≤ key_of weights n k
  unfolding key_of
  key_mono k k' h = omega (arith, cost_mono k k' h, tie_mono n k k' h)

  pub key_strict : (k k' : ℕ) → Within n k k' → (i : ℕ) → i < n → keeps k i ≡ false → keeps k' i ≡ true → key_of weights n k' < key_of weights n k
  unfolding key_of
  key_strict k k' h i l out into = omega (arith, cost_mono k k' h, tie_strict n k k' h i l out into)

module _ (p : Plan) (few : p.rules ≤ 8) where
  tie_small : (k : ℕ) → tie p.rules k < 256
  tie_small k = omega (arith, tie_lt p.rules k, pow_mono few)

  pub key_injective : (k k' : ℕ) → k < 2 ^ p.rules → k' < 2 ^ p.rules → key p k ≡ key p k' → k ≡ k'
  unfolding key_of
  key_injective k k' small small' e =
      kept_ext p.rules k k' small small' (agree_tie p.rules k k' (omega (arith, tie_small k, tie_small k')))

  pub key_better : (k k' : ℕ) → k < 2 ^ p.rules → k' < 2 ^ p.rules → key p k ≤ key p k' → (k ≡ k') ⊎ Better p k k'
  unfolding key_of
  key_better k k' small small' h = by (dec_lt (cost p k) (cost p k')) (dec_lt (tie p.rules k) (tie p.rules k'))
    where
      by : Dec (cost p k < cost p k') → Dec (tie p.rules k < tie p.rules k') → (k ≡ k') ⊎ Better p k k'
      by (yes l) d = inr (inl l)
      by (no l) (yes t) = inr (inr (omega (arith, tie_small k, tie_small k'), tie_first p.rules k k' t))
      by (no l) (no t) = inl (key_injective k k' small small' (omega (arith, tie_small k, tie_small k')))

  pub better_key : (k k' : ℕ) → (k ≡ k') ⊎ Better p k k' → key p k ≤ key p k'
  unfolding key_of
  better_key k k' (inl e) = rw e (omega arith)
  better_key k k' (inr (inl l)) = omega (arith, tie_small k)
  better_key k k' (inr (inr (e, f))) = omega (arith, first_tie p.rules k k' f)

  pub key_order : (k k' : ℕ) → k < 2 ^ p.rules → k' < 2 ^ p.rules → (key p k ≤ key p k') ↔ ((k ≡ k') ⊎ Better p k k')
  key_order k k' small small' = (key_better k k' small small', better_key k k')
