-- What the two lines of a tour come to, and the tour of a text.
--   draft_faulty, draft_half, draft_whole
--                           == the draft, where the first line has a fault, the second one has, and neither
--   Accepted last x r l y   == the lines that end with `last` have no fault, y is x, and buffers of r and l bytes have room for it
--   drawn_tour              == so it is where there is a tour
--   stem_there, cycle_there == the lists of lines without a fault stand in the text
--   drawn_missing, drawn_faulty, drawn_fitted
--                           == the tour of a text: with no line `runin=`, with a fault, and by the room for it
--   stem_stands, cycle_stands, runin_written, loop_written
--                           == what a tour says of the lists, and of the buffers
use mathlib.Core.Path.{◌≡◌, refl, sym, ◌∙◌}
use mathlib.Core.Bool.{Bool, true, false, cond}
use mathlib.Core.List.{List, ◌++◌}
use Prim.Native.Nat.{ℕ, ◌≤◌}
use native.Mathlib.Omega.{arith}
use borrow.Author.Tests.{leb-true}
use lib.Dec.{leb, ltb}
use lib.ListN.{length, drop}
use Rattle.std.specs.Prelude.{Option, Some, None, Result, Ok, Err}
use Rattle.base.proofs.Tests.{and_left, and_right}
use Rattle.text.specs.Line.{Line, pair, good, told}
use Rattle.text.specs.List.{ListLine, list_from, list_line, places_of}
use Rattle.text.specs.Runs.{Stands}
use Rattle.text.specs.declared.fault.Fault.{Fault}
use Rattle.text.specs.declared.list.Span.{Span}
use Rattle.text.specs.declared.line.Cursor.{Cursor}
use Rattle.text.proofs.StoodLines.{follows_good, list_follows}
use Rattle.text.proofs.Told.{Told, told_fault, told_read, Made, made_fault, made_read}
use Rattle.answer.specs.Text.{runin_key, loop_key}
use Rattle.drawn.specs.Drawing.{Lines, runin_at, draft_at, drafted, draft_of, lengths_of, roomy, fitting, judge, drawn_of, read_tour, runin_of, loop_of, written}
use Rattle.drawn.specs.declared.Lengths.{Lengths}
use Rattle.drawn.specs.declared.Draft.{Draft}
use Rattle.drawn.specs.declared.Lack.{Lack}
use Rattle.drawn.specs.declared.Lack.TheVariants.{Missing, Faulty, Long}

module _ (s : List ℕ) (at : ℕ) where
  abbrev first : ListLine
  first = list_from s at runin_key 256

  abbrev second : ℕ → ListLine
  second next = list_from s next loop_key 256

  -- the line `runin=` has a fault
  pub draft_faulty : (f : Fault) → Err f ≡ told first.line first.list → Err f ≡ drafted (draft_at s at)
  unfolding draft_at list_line
  draft_faulty f e = rw (told_fault first.line first.list f e)

  module _ (stem : Span) (c : Cursor) (e : Ok (stem, c) ≡ told first.line first.list) where
    one : Told first.line first.list stem c
    one = told_read first.line first.list stem c e

    -- the line `loop=` has one
    pub draft_half : (f : Fault) → Err f ≡ told (second c.at).line (second c.at).list → Err f ≡ drafted (draft_at s at)
    unfolding draft_at list_line
    draft_half f g = rw (one.line, told_fault (second c.at).line (second c.at).list f g)

    -- neither has
    pub draft_whole : (cycle : Span) (d : Cursor) → Ok (cycle, d) ≡ told (second c.at).line (second c.at).list
        → Ok (record { stem = stem; cycle = cycle }) ≡ drafted (draft_at s at)
    unfolding draft_at list_line
    draft_whole cycle d g =
        let two = told_read (second c.at).line (second c.at).list cycle d g in
        rw (one.line, two.line, one.same, two.same)

record Accepted (last : Line) (x : Lengths) (r l : ℕ) (y : Lengths) : Type 0 where
  pub faultless : good last ≡ true
  pub same : y ≡ x
  pub stem : x.stem ≤ r
  pub cycle : x.cycle ≤ l

judge_tour : (last : Line) (x : Lengths) (r l : ℕ) (y : Lengths) → judge last x r l ≡ Ok y → Accepted last x r l y
unfolding fitting
judge_tour (Err f) x r l y e = let z : ◌≡◌ {A = ℕ} 0 1 = cc in absurd (omega arith)
judge_tour (Ok (xs, c)) x r l y e = by (roomy x r l) refl e
  where
    by : (t : Bool) → roomy x r l ≡ t → cond t (Ok x) (Err Long) ≡ Ok y → Accepted (Ok (xs, c)) x r l y
    by true p h = record {
      faultless = refl;
      same = cc h;
      stem = leb-true x.stem r (and_left (leb x.stem r) (leb x.cycle l) p);
      cycle = leb-true x.cycle l (and_right (leb x.stem r) (leb x.cycle l) p);
    }
    by false p h = let z : ◌≡◌ {A = ℕ} 0 1 = cc in absurd (omega arith)

drawn_tour : (found : Option ℕ) (last : Line) (x : Lengths) (r l : ℕ) (y : Lengths) → drawn_of found last x r l ≡ Ok y → Accepted last x r l y
drawn_tour (Some at) last x r l y e = judge_tour last x r l y e
drawn_tour None last x r l y e = let z : ◌≡◌ {A = ℕ} 0 1 = cc in absurd (omega arith)

pub tour_fits : (s : List ℕ) (r l : ℕ) (y : Lengths) (q : Result Lengths Lack) → q ≡ read_tour s r l → q ≡ Ok y → (y.stem ≤ r) × (y.cycle ≤ l)
unfolding read_tour
tour_fits s r l y q e f =
    let a = drawn_tour (runin_at s) (draft_of s).line (lengths_of (draft_of s)) r l y (sym e ∙ f) in
    rw a.same (a.stem, a.cycle)

module _ (s : List ℕ) (at : ℕ) where
  abbrev stem_line : ListLine
  stem_line = list_line s (Ok (pair 0 0, record { at = at })) runin_key 256

  module _ (g : good (draft_at s at).line ≡ true) where
    cycle_there : Stands s (draft_at s at).cycle
    unfolding draft_at
    cycle_there = let second = list_follows s loop_key 256 stem_line.line in record { whole = second.whole g; bytes = second.fits g }

    stem_there : Stands s (draft_at s at).stem
    unfolding draft_at
    stem_there =
        let one = list_follows s runin_key 256 (Ok (pair 0 0, record { at = at })) in
        let h = (follows_good (list_follows s loop_key 256 stem_line.line).follows g).0 in
        record { whole = one.whole h; bytes = one.fits h }

module _ (s : List ℕ) (r l : ℕ) where
  pub drawn_missing : runin_at s ≡ None → Err Missing ≡ read_tour s r l
  unfolding read_tour
  drawn_missing e = rw e

  module _ (at : ℕ) (begun : runin_at s ≡ Some at) where
    pub drawn_faulty : (f : Fault) → Err f ≡ drafted (draft_at s at) → Err (Faulty f) ≡ read_tour s r l
    unfolding read_tour
    drawn_faulty f e = rw (begun, made_fault (draft_at s at).line _ f e)

    module _ (d : Draft) (same : Ok d ≡ drafted (draft_at s at)) where
      abbrev lines : Lines
      lines = draft_at s at

      stood : Made lines.line (record { stem = lines.stem; cycle = lines.cycle }) d
      stood = made_read lines.line (record { stem = lines.stem; cycle = lines.cycle }) d same

      abbrev counts : Lengths
      counts = record { stem = d.stem.count; cycle = d.cycle.count }

      pub drawn_fitted : (q : Result Lengths Lack) → q ≡ fitting counts r l → q ≡ read_tour s r l
      unfolding read_tour
      drawn_fitted q e = e ∙ rw (begun, stood.line, stood.same)

      module _ (y : Lengths) (e : Ok y ≡ fitting counts r l) where
        held : Accepted lines.line (lengths_of lines) r l y
        unfolding read_tour
        held = drawn_tour (runin_at s) lines.line (lengths_of lines) r l y (sym (drawn_fitted (Ok y) e ∙ rw begun))

        faultless : good lines.line ≡ true
        faultless = held.faultless

        pub stem_stands : Stands s d.stem × (d.stem.count ≤ r)
        stem_stands = rw stood.same (stem_there s at faultless, held.stem)

        pub cycle_stands : Stands s d.cycle × (d.cycle.count ≤ l)
        cycle_stands = rw stood.same (cycle_there s at faultless, held.cycle)

        pub runin_written : (before after : List ℕ) → after ≡ places_of s d.stem ++ drop d.stem.count before → after ≡ written (Ok y) (runin_of s) before
        runin_written before after w = w ∙ rw (begun, stood.same, (stem_there s at faultless).whole)

        pub loop_written : (before after : List ℕ) → after ≡ places_of s d.cycle ++ drop d.cycle.count before → after ≡ written (Ok y) (loop_of s) before
        loop_written before after w = w ∙ rw (begun, stood.same, (cycle_there s at faultless).whole)

pub none_written : (x : Lack) (places before : List ℕ) → before ≡ written (Err x) places before
none_written x places before = refl
