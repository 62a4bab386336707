-- Lines of a plan file that hold more than one number (01, "The plan file"; 02, notes 1 and 6), as chains of the steps of `text`: what is
-- said of any line stands in `text/specs/Line`.
--   once s at again l                == the line l at index `at` of s; where it has no fault of form or range and `again` holds, it is doubled
--   road_from s at key bound again   == the line at index `at`, `key=a,b`, both below bound (road_fits), and not two numbers of which `again`
--                                       holds
--   move_from s at key q labels      == the line at index `at`, `key=q,need,bar,r`, any 0, or `key=q,need,bar,any,r`, of an automaton of q
--                                       states (move_fits): the byte that ends the fourth number decides
--   road_line s prior key bound again, move_line s prior key q labels
--                                    == so for the line behind `prior`
--   all_of n xs                      == the numbers xs, each held at 4,000,000,000 as the code knows them, with the index behind n, the last of
--                                       them; None if it is none
--   two_numbers s at key, five_numbers s at key
--                                    == so for the numbers of a road line and of a move line
--   noting_line pairs l               == the pairs once that of the line l is noted, if it has no fault
--   RoadRead given bound pairs r pairs' == r is the line `given`, its numbers are at most bound - 1, and what was noted, pairs, is pairs' with it
--   MoveRead given q labels r        == r is the line `given`, and its numbers are below their bounds
use Rattle.std.specs.Prelude.{◌≡◌, Bool, cond, ◌&&◌, List, ℕ, ◌-◌, ◌≤◌, min, ltb, Option, Some, None, Ok, Err}
use Rattle.text.specs.Scan.{Number, key_at, first_number, next_number, else_number, either, value_of, line_at}
use Rattle.text.specs.Line.{Line, behind, pair, closed, numbers_of}
use Rattle.text.specs.declared.line.Numbers.{Numbers}
use Rattle.text.specs.declared.fault.Fault.TheVariants.{Doubled}
use Rattle.reader.specs.Pairs.{noting}

abbrev pub road_fits : Numbers → ℕ → Bool
road_fits xs bound = ltb xs.first bound && ltb xs.second bound

abbrev pub once : List ℕ → ℕ → Bool → Line → Line
once s at again l = behind l (λ next. cond again (Err (Doubled (line_at s at))) l)

abbrev pub road_from : List ℕ → ℕ → List ℕ → ℕ → (Numbers → Bool) → Line
road_from s at key bound again =
    let a = first_number s (key_at s at key) 44 in
    let b = next_number s a 10 in
    let xs = pair (value_of a) (value_of b) in
    once s at (again xs) (closed s at b (road_fits xs bound) xs)

unfoldable pub road_line : List ℕ → Line → List ℕ → ℕ → (Numbers → Bool) → Line
road_line s prior key bound again = behind prior (λ at. road_from s at key bound again)

abbrev pub move_fits : Numbers → ℕ → ℕ → Bool
move_fits xs q labels =
    ltb xs.first q && ltb xs.second labels && ltb xs.third labels && ltb xs.fourth labels && ltb xs.fifth q

abbrev pub move_from : List ℕ → ℕ → List ℕ → ℕ → ℕ → Line
move_from s at key q labels =
    let a = first_number s (key_at s at key) 44 in
    let b = next_number s a 44 in
    let c = next_number s b 44 in
    let d = next_number s c 10 in
    let any = else_number s d c 44 in
    let last = either d (next_number s any 10) in
    let xs : Numbers = record { first = value_of a; second = value_of b; third = value_of c; fourth = value_of any; fifth = value_of last } in
    closed s at last (move_fits xs q labels) xs

unfoldable pub move_line : List ℕ → Line → List ℕ → ℕ → ℕ → Line
move_line s prior key q labels = behind prior (λ at. move_from s at key q labels)

abbrev held : ℕ → ℕ
held v = min v 4000000000

abbrev pub all_of : Number → Numbers → Option (Numbers × ℕ)
all_of None xs = None
all_of (Some (v, i)) xs =
    Some (record { first = held xs.first; second = held xs.second; third = held xs.third; fourth = held xs.fourth; fifth = held xs.fifth }, i)

abbrev pub two_numbers : List ℕ → ℕ → List ℕ → Option (Numbers × ℕ)
two_numbers s at key =
    let a = first_number s (key_at s at key) 44 in
    let b = next_number s a 10 in
    all_of b (pair (value_of a) (value_of b))

abbrev pub five_numbers : List ℕ → ℕ → List ℕ → Option (Numbers × ℕ)
five_numbers s at key =
    let a = first_number s (key_at s at key) 44 in
    let b = next_number s a 44 in
    let c = next_number s b 44 in
    let d = next_number s c 10 in
    let any = else_number s d c 44 in
    let last = either d (next_number s any 10) in
    all_of last (record { first = value_of a; second = value_of b; third = value_of c; fourth = value_of any; fifth = value_of last })

abbrev pub noting_line : List ℕ → Line → List ℕ
noting_line pairs (Ok (xs, c)) = noting pairs xs.first xs.second
noting_line pairs (Err f) = pairs

pub record RoadRead (given : Line) (bound : ℕ) (pairs : List ℕ) (r : Line) (pairs' : List ℕ) : Type 0 where
  pub same : r ≡ given
  pub first_low : (numbers_of r).first ≤ bound - 1
  pub second_low : (numbers_of r).second ≤ bound - 1
  pub noted : pairs' ≡ noting_line pairs r

pub record MoveRead (given : Line) (q labels : ℕ) (r : Line) : Type 0 where
  pub same : r ≡ given
  pub first_low : (numbers_of r).first ≤ q - 1
  pub second_low : (numbers_of r).second ≤ labels - 1
  pub third_low : (numbers_of r).third ≤ labels - 1
  pub fourth_low : (numbers_of r).fourth ≤ labels - 1
  pub fifth_low : (numbers_of r).fifth ≤ q - 1
