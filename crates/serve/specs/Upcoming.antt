-- The upcoming places (01, "For the host and for the rig"). A stem is 01's run-in, and a cycle its loop.
--   upcoming_places stem cycle t == the places from step t to the end of the part that step t stands in, the stem or a
--                                  turn of the cycle
--   offset_of s l t              == where in that part they begin, for a stem of s places and a cycle of l
--   Offset s l t r              == r is that index; it lies within the part, and from it on stand the upcoming places
use Rattle.std.specs.Prelude.{◌≡◌, cond, List, [], ℕ, ◌-◌, ◌%◌, ◌≤◌, length, drop, ltb, eqb}

-- an empty cycle has no places to come, and no remainder is taken by its length
unfoldable pub upcoming_places : List ℕ → List ℕ → ℕ → List ℕ
upcoming_places stem cycle t =
    cond (ltb t (length stem)) (drop t stem)
    (cond (eqb (length cycle) 0) [] (drop ((t - length stem) % length cycle) cycle))

unfoldable pub offset_of : ℕ → ℕ → ℕ → ℕ
offset_of s l t = cond (ltb t s) t (cond (eqb l 0) 0 ((t - s) % l))

pub record Offset (s l t r : ℕ) : Type 0 where
  pub value : r ≡ offset_of s l t
  pub inside : r ≤ cond (ltb t s) s l
  pub serves : (stem cycle : List ℕ) → length stem ≡ s → length cycle ≡ l → upcoming_places stem cycle t ≡ drop r (cond (ltb t s) stem cycle)
