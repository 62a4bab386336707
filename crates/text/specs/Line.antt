-- One line of a text, read (of a plan file: 01, "The plan file", and the causes 2 and 3 of "Why a plan is turned away"). A line is
-- read behind the line before it. Once a line has a fault, every later one is that fault again: the first faulty line decides. The
-- line itself is a chain of steps: its key, then number after number, each behind the one before (`next_number`); once one has a bad
-- form, so have those behind it. The line is judged by its last number: its form, and then whether its numbers are in their ranges.
--   Line                             == the numbers of a line with the next cursor, or its fault
--   end_of l                          == the cursor behind the line l, or its fault
--   after prior read                 == what is read from the cursor `prior` on, by its index; the fault that stands in its place where there is one
--   behind prior read                == so for the line behind the line `prior`
--   pair x y                         == the numbers x and y
--   bad_form s at                     == the form fault of the line at index `at`
--   judged s at next fit xs          == the line at index `at`, of good form: xs, what was read of it, with the next cursor, or its range fault
--   closed s at last fit xs          == the line at index `at` with the last number `last`: its form is judged before its ranges
--   within x low bound               == x is at least low and below bound
--   one_from s at key low bound        == the line at index `at`, `key=a` with a from low to below bound
--   line_of_one s prior key low bound  == so for the line behind `prior`
--   good l                           == the line l has no fault
--   numbers_of l                      == the numbers of a line, 0 of a fault
--   first_of l                        == the first of them
--   start, top                       == before the first line, as a cursor and as a line
--   finish s last                    == the last line again, or a form fault of the next one where bytes follow it
--   ended s at                       == the text s ends before index `at`; a form fault of the line there where bytes follow
--   told l x                         == what the lines that end with l were read as, x, with the next cursor; or the fault of l
--   made l x                         == so, without the cursor
--   OneRead given bound r            == r is the number of the line `given`, below bound, with the next cursor; or the fault of that line
use Rattle.std.specs.Prelude.{◌≡◌, Bool, true, false, cond, List, ℕ, ◌<◌, length, ltb, Some, None, Result, Ok, Err, ⊤}
use Rattle.text.specs.Scan.{Number, key_at, first_number, value_of, line_at}
use Rattle.text.specs.declared.fault.Fault.{Fault}
use Rattle.text.specs.declared.fault.Fault.TheVariants.{Form, Range}
use Rattle.text.specs.declared.line.Numbers.{Numbers}
use Rattle.text.specs.declared.line.Cursor.{Cursor}

abbrev pub Line : Type 0
Line = Result (Numbers × Cursor) Fault

abbrev pub end_of : Line → Result Cursor Fault
end_of (Err f) = Err f
end_of (Ok (xs, c)) = Ok c

abbrev pub after : {T : Type 0} → Result Cursor Fault → (ℕ → Result T Fault) → Result T Fault
after (Err f) read = Err f
after (Ok c) read = read c.at

abbrev pub behind : Line → (ℕ → Line) → Line
behind prior read = after (end_of prior) read

abbrev pub pair : ℕ → ℕ → Numbers
pair x y = record { first = x; second = y; third = 0; fourth = 0; fifth = 0 }

abbrev pub bad_form : List ℕ → ℕ → Fault
bad_form s at = Form (line_at s at)

abbrev pub judged : {T : Type 0} → List ℕ → ℕ → ℕ → Bool → T → Result (T × Cursor) Fault
judged s at next fit xs = cond fit (Ok (xs, record { at = next })) (Err (Range (line_at s at)))

abbrev pub closed : List ℕ → ℕ → Number → Bool → Numbers → Line
closed s at None fit xs = Err (bad_form s at)
closed s at (Some (v, i)) fit xs = judged s at i fit xs

unfoldable pub within : ℕ → ℕ → ℕ → Bool
within x low bound = cond (ltb x low) false (ltb x bound)

abbrev pub one_from : List ℕ → ℕ → List ℕ → ℕ → ℕ → Line
one_from s at key low bound =
    let a = first_number s (key_at s at key) 10 in
    closed s at a (within (value_of a) low bound) (pair (value_of a) 0)

unfoldable pub line_of_one : List ℕ → Line → List ℕ → ℕ → ℕ → Line
line_of_one s prior key low bound = behind prior (λ at. one_from s at key low bound)

abbrev pub good : Line → Bool
good (Ok (xs, c)) = true
good (Err f) = false

abbrev pub numbers_of : Line → Numbers
numbers_of (Ok (xs, c)) = xs
numbers_of (Err f) = pair 0 0

abbrev pub first_of : Line → ℕ
first_of l = (numbers_of l).first

abbrev pub start : Cursor
start = record { at = 0 }

abbrev pub top : Line
top = Ok (pair 0 0, start)

unfoldable pub finish : List ℕ → Line → Line
finish s (Err f) = Err f
finish s (Ok (xs, c)) = cond (ltb c.at (length s)) (Err (bad_form s c.at)) (Ok (xs, c))

abbrev pub ended : List ℕ → ℕ → Result ⊤ Fault
ended s at = cond (ltb at (length s)) (Err (bad_form s at)) (Ok tt)

abbrev pub told : {T : Type 0} → Line → T → Result (T × Cursor) Fault
told (Err f) x = Err f
told (Ok (xs, c)) x = Ok (x, c)

abbrev pub made : {T : Type 0} → Line → T → Result T Fault
made (Err f) x = Err f
made (Ok (xs, c)) x = Ok x

pub record OneRead (given : Line) (bound : ℕ) (r : Result (ℕ × Cursor) Fault) : Type 0 where
  pub same : r ≡ told given (first_of given)
  pub low : (x : ℕ) (c : Cursor) → r ≡ Ok (x, c) → x < bound
