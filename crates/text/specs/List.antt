-- A line that holds a list of numbers, joined by commas (01, "For the host and for the rig": run-in and loop of an answer's text).
--   Items                      == numbers, with the index just past their line; or no list of good form
--   ahead v l                  == the list l with v in front
--   last n                     == the list of the one number n, where it is one
--   entry n next end           == with a number n in front: n and then what stands behind it; else `end`
--   entries k s at             == the numbers from index `at` of s on: at most k that are each ended by a comma, and the last, ended by byte 10
--   items_at s at               == the list at index `at` of s: empty where the line ends at once. A text has no more commas than bytes
--   numbers_in l                == the numbers of a list, none of a bad one
--   under bound ns             == all of them are below bound
--   ListLine                   == a line, and where its list stands and how many numbers it has
--   no_list, unlisted l         == an empty list; the line l with it
--   list_from s at key bound    == the line at index `at`, `key=a,b,..`, every number below bound. Its form is judged before its ranges
--   list_line s prior key bound == so for the line behind `prior`
--   places_of s l               == the numbers of a list that was read
use Rattle.std.specs.Prelude.{Bool, true, cond, ◌&&◌, List, [], ◌∷◌, ℕ, zero, suc, ◌+◌, length, get_or, ltb, eqb, Option, Some, None, Ok, Err}
use Rattle.text.specs.Scan.{Number, number_at, key_at}
use Rattle.text.specs.Line.{Line, pair, bad_form, judged}
use Rattle.text.specs.declared.list.Span.{Span}

pub data Items : Type 0 where
  items : List ℕ → ℕ → Items
  bad : Items

abbrev pub ahead : ℕ → Items → Items
ahead v (items vs i) = items (v ∷ vs) i
ahead v bad = bad

abbrev pub last : Number → Items
last (Some (v, i)) = items (v ∷ []) i
last None = bad

abbrev pub entry : Number → (ℕ → Items) → Items → Items
entry (Some (v, i)) next end = ahead v (next i)
entry None next end = end

unfoldable pub entries : ℕ → List ℕ → ℕ → Items
entries zero s at = last (number_at s at 10)
entries (suc k) s at = entry (number_at s at 44) (entries k s) (last (number_at s at 10))

unfoldable pub items_at : List ℕ → ℕ → Items
items_at s at = cond (eqb (get_or s at 0) 10) (items [] (at + 1)) (entries (length s) s at)

abbrev pub numbers_in : Items → List ℕ
numbers_in (items vs i) = vs
numbers_in bad = []

unfoldable pub under : ℕ → List ℕ → Bool
under bound [] = true
under bound (v ∷ vs) = ltb v bound && under bound vs

pub record ListLine : Type 0 where
  pub line : Line
  pub list : Span

abbrev pub no_list : Span
no_list = record { at = 0; count = 0 }

abbrev pub unlisted : Line → ListLine
unlisted l = record { line = l; list = no_list }

abbrev pub judged_list : List ℕ → ℕ → ℕ → Items → ℕ → ListLine
judged_list s from at (items vs next) bound =
    record { line = judged s from next (under bound vs) (pair 0 0); list = record { at = at; count = length vs } }
judged_list s from at bad bound = unlisted (Err (bad_form s from))

abbrev pub list_behind : List ℕ → ℕ → Option ℕ → ℕ → ListLine
list_behind s from (Some at) bound = judged_list s from at (items_at s at) bound
list_behind s from None bound = unlisted (Err (bad_form s from))

abbrev pub list_from : List ℕ → ℕ → List ℕ → ℕ → ListLine
list_from s from key bound = list_behind s from (key_at s from key) bound

unfoldable pub list_line : List ℕ → Line → List ℕ → ℕ → ListLine
list_line s (Err f) key bound = unlisted (Err f)
list_line s (Ok (xs, c)) key bound = list_from s c.at key bound

abbrev pub places_of : List ℕ → Span → List ℕ
places_of s l = numbers_in (items_at s l.at)
