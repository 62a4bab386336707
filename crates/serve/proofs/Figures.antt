-- Case 9 of 01, "Figures to check against", by computation; and beside it what an empty cycle leaves to come after the
-- same stem and after none, by the law of that case.
--   figure-9-step-t         == the places that case 9 names at step t
--   past_stem_without_cycle == nothing comes after the stem of case 9 where the cycle is empty
--   without_stem_or_cycle   == nothing comes where both are empty
use mathlib.Core.Path.{◌≡◌, refl}
use mathlib.Core.List.{List, [], ◌∷◌}
use Prim.Native.Nat.{ℕ, ◌≤◌}
use native.Mathlib.Omega.{arith}
use Rattle.serve.proofs.Laws.{upcoming_none}
use Rattle.serve.specs.Upcoming.{upcoming_places}

abbrev stem : List ℕ
stem = 5 ∷ 6 ∷ []

abbrev cycle : List ℕ
cycle = 7 ∷ 8 ∷ 9 ∷ []

pub figure_9_step_1 : upcoming_places stem cycle 1 ≡ 6 ∷ []
unfolding upcoming_places
figure_9_step_1 = refl

pub figure_9_step_2 : upcoming_places stem cycle 2 ≡ 7 ∷ 8 ∷ 9 ∷ []
unfolding upcoming_places
figure_9_step_2 = refl

pub figure_9_step_6 : upcoming_places stem cycle 6 ≡ 8 ∷ 9 ∷ []
unfolding upcoming_places
figure_9_step_6 = refl

pub past_stem_without_cycle : (t : ℕ) → 2 ≤ t → upcoming_places stem [] t ≡ []
past_stem_without_cycle t past = upcoming_none stem [] t past refl

pub without_stem_or_cycle : (t : ℕ) → upcoming_places [] [] t ≡ []
without_stem_or_cycle t = upcoming_none [] [] t (omega arith) refl
