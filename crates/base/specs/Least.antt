-- The least number with a property.
--   least_below n p == the least number below n that has the property p, if there is one
use Rattle.std.specs.Prelude.{Bool, cond, ℕ, zero, suc}

pub data Found : Type 0 where
  nowhere : Found
  at : ℕ → Found

abbrev pub or_else : Found → Found → Found
or_else nowhere x = x
or_else (at i) x = at i

unfoldable pub least_below : ℕ → (ℕ → Bool) → Found
least_below zero p = nowhere
least_below (suc n) p = or_else (least_below n p) (cond (p n) (at n) nowhere)
