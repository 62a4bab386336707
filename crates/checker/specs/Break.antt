-- Where a proposed tour breaks (02, note 4; by note 7 a car that parks has a road to where it stands). Its places are counted from 0, those of the
-- run-in first; `drawn` is the two lists as one.
--   drawn stem cycle         == the places of run-in and loop
--   unknown p s i            == place i is none of the plan's
--   misplaced p s i          == place 0 is not the start
--   roadless p s i           == the place before is not joined to place i
--   unclosed p stem cycle i  == i is the total length, and the loop's last place is not joined to its first
--   loopless stem cycle i    == i is the run-in's length, and the loop is empty
--   breaks p stem cycle i    == one of these five
--   first_break p stem cycle  == the least index that breaks the tour, if any does
use Rattle.std.specs.Prelude.{Bool, not, ◌&&◌, ◌||◌, List, ◌++◌, ℕ, suc, ◌-◌, length, get_or, eqb, leb, ltb}
use Rattle.base.specs.Least.{Found, least_below}
use Rattle.plan.specs.Tour.{joins}
use Rattle.plan.specs.declared.Plan.{Plan}

abbrev pub drawn : List ℕ → List ℕ → List ℕ
drawn stem cycle = stem ++ cycle

abbrev pub unknown : Plan → List ℕ → ℕ → Bool
unknown p s i = ltb i (length s) && leb p.places (get_or s i 0)

abbrev pub misplaced : Plan → List ℕ → ℕ → Bool
misplaced p s i = (eqb i 0 && ltb i (length s)) && not (eqb (get_or s 0 0) p.start)

abbrev pub roadless : Plan → List ℕ → ℕ → Bool
roadless p s i = (ltb 0 i && ltb i (length s)) && not (joins p (get_or s (i - 1) 0) (get_or s i 0))

abbrev pub unclosed : Plan → List ℕ → List ℕ → ℕ → Bool
unclosed p stem cycle i =
    (eqb i (length (drawn stem cycle)) && ltb 0 (length cycle)) && not (joins p (get_or cycle (length cycle - 1) 0) (get_or cycle 0 0))

abbrev pub loopless : List ℕ → List ℕ → ℕ → Bool
loopless stem cycle i = eqb i (length stem) && eqb (length cycle) 0

unfoldable pub breaks : Plan → List ℕ → List ℕ → ℕ → Bool
breaks p stem cycle i =
    let s = drawn stem cycle in
    unknown p s i || (misplaced p s i || (roadless p s i || (unclosed p stem cycle i || loopless stem cycle i)))

abbrev pub first_break : Plan → List ℕ → List ℕ → Found
first_break p stem cycle = least_below (suc (length (drawn stem cycle))) (breaks p stem cycle)
