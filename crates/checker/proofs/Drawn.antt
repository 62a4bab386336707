-- The places of a run-in and a loop as one list.
--   drawn_length           == how many they are
--   drawn_stem, drawn_loop == what stands before the end of the run-in, and from there on
--   lasso_drawn            == step t of the tour, below the total length, is place t
--   lasso_again            == at the total length the tour is at the loop's first place again
use mathlib.Core.Path.{◌≡◌, sym, ap, ◌∙◌}
use mathlib.Core.List.{List}
use Prim.Native.Nat.{ℕ, ◌+◌, ◌-◌, ◌%◌, ◌<◌}
use native.Mathlib.Nat.{mod-eq_of_lt, mod_self}
use native.Mathlib.Decide.{dec_lt}
use native.Mathlib.Omega.{arith}
use lib.ListN.{length, get_or, length-append, get_or-append}
use lib.Seq.{get_or-append-add}
use Rattle.automata.specs.Acceptance.{lasso_at}
use Rattle.automata.proofs.Lassos.{lasso_stem, lasso_cycle}
use Rattle.checker.specs.Break.{drawn}

module _ (stem cycle : List ℕ) where
  pub drawn_length : length (drawn stem cycle) ≡ length stem + length cycle
  drawn_length = length-append stem cycle

  pub drawn_stem : (t : ℕ) → t < length stem → get_or (drawn stem cycle) t 0 ≡ get_or stem t 0
  drawn_stem t h = get_or-append stem cycle 0 t h

  pub drawn_loop : (t j : ℕ) → t ≡ length stem + j → get_or (drawn stem cycle) t 0 ≡ get_or cycle j 0
  drawn_loop t j e = ap (λ i. get_or (drawn stem cycle) i 0) e ∙ get_or-append-add stem cycle j 0

  pub lasso_drawn : (t : ℕ) → t < length (drawn stem cycle) → lasso_at stem cycle t ≡ get_or (drawn stem cycle) t 0
  lasso_drawn t h = by (dec_lt t (length stem))
    where
      by : Dec (t < length stem) → lasso_at stem cycle t ≡ get_or (drawn stem cycle) t 0
      by (yes l) = lasso_stem stem cycle t l ∙ sym (drawn_stem t l)
      by (no l) =
          lasso_cycle stem cycle t (omega arith)
          ∙ ap (λ i. get_or cycle i 0) (mod-eq_of_lt (omega (arith, drawn_length)))
          ∙ sym (drawn_loop t (t - length stem) (omega arith))

  pub lasso_again : lasso_at stem cycle (length (drawn stem cycle)) ≡ get_or cycle 0 0
  lasso_again =
      let e : length (drawn stem cycle) - length stem ≡ length cycle = omega (arith, drawn_length) in
      lasso_cycle stem cycle (length (drawn stem cycle)) (omega (arith, drawn_length))
      ∙ ap (λ i. get_or cycle (i % length cycle) 0) e
      ∙ ap (λ i. get_or cycle i 0) (mod_self (length cycle))
