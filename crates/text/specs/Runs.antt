-- What the code knows of a list while it reads and writes it (no part of the format).
--   in_front vs l     == the list l with the numbers vs in front
--   Ran s at bound r == r is what was passed of the list at index `at`: numbers that are each ended by a comma
--   listing bound l  == of a list of good form: how many numbers it has, whether all are below bound, and the index behind it
--   Stands s l       == the list l was read in s, and its numbers are bytes
use Rattle.std.specs.Prelude.{◌≡◌, true, List, ◌++◌, ℕ, ◌≤◌, length, Option, Some, None}
use Rattle.text.specs.Scan.{number_at}
use Rattle.text.specs.List.{Items, items, bad, last, entries, under, places_of}
use Rattle.text.specs.declared.list.Run.{Run}
use Rattle.text.specs.declared.list.Span.{Span}

abbrev pub in_front : List ℕ → Items → Items
in_front vs (items ws i) = items (vs ++ ws) i
in_front vs bad = bad

pub record Ran (s : List ℕ) (at bound : ℕ) (r : Run) : Type 0 where
  pub numbers : List ℕ
  pub many : length numbers ≡ r.count
  pub few : r.count ≤ length s
  pub fit : r.fit ≡ under bound numbers
  pub same : entries (length s) s at ≡ in_front numbers (last (number_at s r.next 10))

abbrev pub listing : ℕ → Items → Option Run
listing bound (items vs i) = Some (record { count = length vs; fit = under bound vs; next = i })
listing bound bad = None

pub record Stands (s : List ℕ) (l : Span) : Type 0 where
  pub whole : length (places_of s l) ≡ l.count
  pub bytes : under 256 (places_of s l) ≡ true
