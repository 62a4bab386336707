-- The tour that a text has, as people write it down: the first line that begins with `runin=`, and the line `loop=` behind it. Lines before
-- are passed over, and what follows is not looked at.
--   line_with key fresh i d  == the index of the first line that begins with key, where d stands at index i of a text and begins a line if
--                              `fresh`, if there is one
--   runin_at s               == the index of the first line of s that begins with `runin=`, if there is one
--   draft_at s at            == what the line `runin=` at index `at` and the line `loop=` behind it come to; a place is a byte
--   draft_of s               == so for the first such line of s
--   drafted d                == where the places of its lists stand, or the fault of a line
--   lengths_of d             == how many places its lists have
--   roomy x r l             == buffers of r and l bytes have room for so many
--   fitting x r l           == the tour of two lines without a fault
--   drawn_of at last x r l   == the tour of lines that end with `last`, if the first of them is found
--   read_tour s r l          == the tour of the text s, with buffers of r and l bytes
--   runin_of s, loop_of s     == the places of its run-in and its loop
--   written drawn ps b      == the buffer b after this tour: the places ps over its front, or untouched where there is none
use Rattle.std.specs.Prelude.{Bool, true, cond, ◌&&◌, List, [], ◌∷◌, ◌++◌, ℕ, ◌+◌, length, drop, leb, eqb, unwrap_or, Option, Some, None, Result, Ok, Err}
use Rattle.text.specs.Scan.{starts_with}
use Rattle.text.specs.Line.{Line, pair, made}
use Rattle.text.specs.List.{list_line, places_of}
use Rattle.text.specs.declared.fault.Fault.{Fault}
use Rattle.text.specs.declared.list.Span.{Span}
use Rattle.answer.specs.Text.{runin_key, loop_key}
use Rattle.drawn.specs.declared.Lengths.{Lengths}
use Rattle.drawn.specs.declared.Draft.{Draft}
use Rattle.drawn.specs.declared.Lack.{Lack}
use Rattle.drawn.specs.declared.Lack.TheVariants.{Missing, Faulty, Long}

unfoldable pub line_with : List ℕ → Bool → ℕ → List ℕ → Option ℕ
line_with key fresh i [] = None
line_with key fresh i (b ∷ d) = cond (fresh && starts_with key (b ∷ d)) (Some i) (line_with key (eqb b 10) (i + 1) d)

abbrev pub runin_at : List ℕ → Option ℕ
runin_at s = line_with runin_key true 0 s

pub record Lines : Type 0 where
  pub line : Line
  pub stem : Span
  pub cycle : Span

unfoldable pub draft_at : List ℕ → ℕ → Lines
draft_at s at =
    let stem = list_line s (Ok (pair 0 0, record { at = at })) runin_key 256 in
    let cycle = list_line s stem.line loop_key 256 in
    record { line = cycle.line; stem = stem.list; cycle = cycle.list }

abbrev pub drafted : Lines → Result Draft Fault
drafted d = made d.line (record { stem = d.stem; cycle = d.cycle })

-- where no line begins with `runin=`, nothing stands behind the text's end
abbrev pub draft_of : List ℕ → Lines
draft_of s = draft_at s (unwrap_or (runin_at s) (length s))

abbrev pub lengths_of : Lines → Lengths
lengths_of d = record { stem = d.stem.count; cycle = d.cycle.count }

abbrev pub roomy : Lengths → ℕ → ℕ → Bool
roomy x r l = leb x.stem r && leb x.cycle l

unfoldable pub fitting : Lengths → ℕ → ℕ → Result Lengths Lack
fitting x r l = cond (roomy x r l) (Ok x) (Err Long)

abbrev pub judge : Line → Lengths → ℕ → ℕ → Result Lengths Lack
judge (Err f) x r l = Err (Faulty f)
judge (Ok (xs, c)) x r l = fitting x r l

abbrev pub drawn_of : Option ℕ → Line → Lengths → ℕ → ℕ → Result Lengths Lack
drawn_of None last x r l = Err Missing
drawn_of (Some at) last x r l = judge last x r l

unfoldable pub read_tour : List ℕ → ℕ → ℕ → Result Lengths Lack
read_tour s r l = drawn_of (runin_at s) (draft_of s).line (lengths_of (draft_of s)) r l

abbrev pub runin_of : List ℕ → List ℕ
runin_of s = places_of s (draft_of s).stem

abbrev pub loop_of : List ℕ → List ℕ
loop_of s = places_of s (draft_of s).cycle

abbrev pub written : Result Lengths Lack → List ℕ → List ℕ → List ℕ
written (Ok x) places buffer = places ++ drop (length places) buffer
written (Err x) places buffer = buffer
