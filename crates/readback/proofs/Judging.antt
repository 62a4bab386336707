-- What the lines of an answer's text come to, and the reply to them.
--   known_held               == whether a number is that of an answer is told by its held value
--   answer_bad, answer_good  == the line `answer=n`, by its number
--   fault_one .. fault_end, lines_made
--                            == what the lines come to: where one has a fault, and where none has
--   replied_fault, replied   == the reply to a text, with a fault, and by its record
--   stem_stands, cycle_stands, runin_written, loop_written == what it says of the lists, and of the buffers, where a record was read
use mathlib.Core.Path.{◌≡◌, refl, sym, ap, ◌∙◌}
use mathlib.Core.Bool.{Bool, true, false}
use mathlib.Core.List.{List, ◌++◌}
use Prim.Native.Nat.{ℕ, ◌≤◌, min}
use native.Mathlib.Omega.{arith}
use borrow.Author.Tests.{ltb-true, ltb-false}
use lib.Dec.{ltb}
use lib.ListN.{drop}
use Rattle.std.specs.Prelude.{⊤, None, Result, Ok, Err}
use Rattle.text.specs.Scan.{Number, key_at, first_number, value_of}
use Rattle.text.specs.Line.{Line, pair, bad_form, judged, one_from, line_of_one, first_of, start, finish, ended, told}
use Rattle.text.specs.List.{ListLine, list_from, list_line, places_of}
use Rattle.text.specs.Runs.{Stands}
use Rattle.text.specs.declared.fault.Fault.{Fault}
use Rattle.text.specs.declared.list.Span.{Span}
use Rattle.text.specs.declared.line.Cursor.{Cursor}
use Rattle.text.proofs.Held as held_number
use Rattle.text.proofs.Told.{Told, told_fault, told_read, Made, made_fault, made_read, ended_fault, ended_read, told_judged}
use Rattle.plan.proofs.Numbers.{never}
use Rattle.plan.specs.declared.Refusal.{Refusal}
use Rattle.plan.specs.declared.Refusal.TheVariants as refusal
use Rattle.answer.specs.Text.{answer_key, line_key, cost_key, kept_key, runin_key, loop_key}
use Rattle.readback.specs.Reading.{known, answer_from, answer_line, draft_of, drafted, judge, read_answer, runin_of, loop_of, written}
use Rattle.readback.specs.declared.Record.{Record}
use Rattle.readback.specs.declared.Draft.{Draft}
use Rattle.readback.proofs.PrintsBack.{Listed, read_stands}

known_held : (s : List ℕ) (at next v x : ℕ) → x ≡ min v 4000000000
    → judged s at next (known x) (pair x 0) ≡ judged s at next (known v) (pair v 0)
known_held s at next v x e = by (ltb v 11) refl
  where
    by : (t : Bool) → ltb v 11 ≡ t → judged s at next (known x) (pair x 0) ≡ judged s at next (known v) (pair v 0)
    by true h = let l = ltb-true v 11 h in let same : x ≡ v = omega arith in rw same
    by false h = let l = ltb-false v 11 h in rw (never x (omega arith), never v l)

module _ (s : List ℕ) (at : ℕ) where
  abbrev number : Number
  number = first_number s (key_at s at answer_key) 10

  abbrev given : Line
  given = answer_from s at

  pub answer_bad : number ≡ None → Err (bad_form s at) ≡ told given (first_of given)
  answer_bad e = rw e

  pub answer_good : (x n : ℕ) → held_number.Told number x n → judged s at n (known x) x ≡ told given (first_of given)
  answer_good x n t =
      told_judged s at n (known x) x ∙ ap (λ l. told l (first_of l)) (known_held s at n (value_of number) x t.held ∙ rw t.is)

-- the lines of a text, one behind the other: each is read from the cursor behind the one before
module _ (s : List ℕ) (begun : Cursor) (e₀ : begun ≡ start) where
  at_top : begun.at ≡ 0
  at_top = ap (λ c. c.at) e₀

  abbrev one : Line
  one = answer_from s begun.at

  abbrev first : Line
  first = answer_from s 0

  pub fault_one : (f : Fault) → Err f ≡ told one (first_of one) → Err f ≡ drafted (draft_of s)
  unfolding draft_of answer_line line_of_one list_line finish
  fault_one f e = rw (told_fault first (first_of first) f (rw at_top at e))

  module _ (x₁ : ℕ) (c₁ : Cursor) (e₁ : Ok (x₁, c₁) ≡ told one (first_of one)) where
    l₁ : Told first (first_of first) x₁ c₁
    l₁ = told_read first (first_of first) x₁ c₁ (rw at_top at e₁)

    abbrev two : Line
    two = one_from s c₁.at line_key 0 65536

    pub fault_two : (f : Fault) → Err f ≡ told two (first_of two) → Err f ≡ drafted (draft_of s)
    unfolding draft_of answer_line line_of_one list_line finish
    fault_two f e = rw (l₁.line, told_fault two (first_of two) f e)

    module _ (x₂ : ℕ) (c₂ : Cursor) (e₂ : Ok (x₂, c₂) ≡ told two (first_of two)) where
      l₂ : Told two (first_of two) x₂ c₂
      l₂ = told_read two (first_of two) x₂ c₂ e₂

      abbrev three : Line
      three = one_from s c₂.at cost_key 0 32000001

      pub fault_three : (f : Fault) → Err f ≡ told three (first_of three) → Err f ≡ drafted (draft_of s)
      unfolding draft_of answer_line line_of_one list_line finish
      fault_three f e = rw (l₁.line, l₂.line, told_fault three (first_of three) f e)

      module _ (x₃ : ℕ) (c₃ : Cursor) (e₃ : Ok (x₃, c₃) ≡ told three (first_of three)) where
        l₃ : Told three (first_of three) x₃ c₃
        l₃ = told_read three (first_of three) x₃ c₃ e₃

        abbrev four : Line
        four = one_from s c₃.at kept_key 0 256

        pub fault_four : (f : Fault) → Err f ≡ told four (first_of four) → Err f ≡ drafted (draft_of s)
        unfolding draft_of answer_line line_of_one list_line finish
        fault_four f e = rw (l₁.line, l₂.line, l₃.line, told_fault four (first_of four) f e)

        module _ (x₄ : ℕ) (c₄ : Cursor) (e₄ : Ok (x₄, c₄) ≡ told four (first_of four)) where
          l₄ : Told four (first_of four) x₄ c₄
          l₄ = told_read four (first_of four) x₄ c₄ e₄

          abbrev five : ListLine
          five = list_from s c₄.at runin_key 128

          pub fault_five : (f : Fault) → Err f ≡ told five.line five.list → Err f ≡ drafted (draft_of s)
          unfolding draft_of answer_line line_of_one list_line finish
          fault_five f e = rw (l₁.line, l₂.line, l₃.line, l₄.line, told_fault five.line five.list f e)

          module _ (x₅ : Span) (c₅ : Cursor) (e₅ : Ok (x₅, c₅) ≡ told five.line five.list) where
            l₅ : Told five.line five.list x₅ c₅
            l₅ = told_read five.line five.list x₅ c₅ e₅

            abbrev six : ListLine
            six = list_from s c₅.at loop_key 128

            pub fault_six : (f : Fault) → Err f ≡ told six.line six.list → Err f ≡ drafted (draft_of s)
            unfolding draft_of answer_line line_of_one list_line finish
            fault_six f e = rw (l₁.line, l₂.line, l₃.line, l₄.line, l₅.line, told_fault six.line six.list f e)

            module _ (x₆ : Span) (c₆ : Cursor) (e₆ : Ok (x₆, c₆) ≡ told six.line six.list) where
              l₆ : Told six.line six.list x₆ c₆
              l₆ = told_read six.line six.list x₆ c₆ e₆

              pub fault_end : (f : Fault) → Err f ≡ ended s c₆.at → Err f ≡ drafted (draft_of s)
              unfolding draft_of answer_line line_of_one list_line
              fault_end f e = rw (l₁.line, l₂.line, l₃.line, l₄.line, l₅.line, l₆.line, ended_fault s l₆.numbers c₆ f e)

              pub lines_made : (u : ⊤) → Ok u ≡ ended s c₆.at
                  → Ok (record {
                    says = record { number = x₁; line = x₂; cost = x₃; kept = x₄; stem = x₅.count; cycle = x₆.count };
                    stem = x₅;
                    cycle = x₆;
                  }) ≡ drafted (draft_of s)
              unfolding draft_of answer_line line_of_one list_line
              lines_made u e =
                  rw (
                    l₁.same,
                    l₂.same,
                    l₃.same,
                    l₄.same,
                    l₅.same,
                    l₆.same,
                    l₁.line,
                    l₂.line,
                    l₃.line,
                    l₄.line,
                    l₅.line,
                    l₆.line,
                    ended_read s l₆.numbers c₆ u e,
                  )

module _ (s : List ℕ) (r l : ℕ) where
  pub replied_fault : (f : Fault) → Err f ≡ drafted (draft_of s) → Err (refusal.Line f) ≡ read_answer s r l
  unfolding read_answer
  replied_fault f e = rw (made_fault (draft_of s).line _ f e)

  module _ (d : Draft) (same : Ok d ≡ drafted (draft_of s)) where
    stood : Made (draft_of s).line (record { says = (draft_of s).says; stem = (draft_of s).stem; cycle = (draft_of s).cycle }) d
    stood = made_read (draft_of s).line _ d same

    pub replied : (q : Result Record Refusal) → q ≡ judge d.says r l → q ≡ read_answer s r l
    unfolding read_answer
    replied q e = e ∙ rw (stood.line, stood.same)

    module _ (x : Record) (e : Ok x ≡ judge d.says r l) where
      held : Listed s r l
      held = read_stands s r l x (sym (replied (Ok x) e))

      pub stem_stands : Stands s d.stem × (d.stem.count ≤ r)
      stem_stands = rw stood.same (held.stem, held.stem_room)

      pub cycle_stands : Stands s d.cycle × (d.cycle.count ≤ l)
      cycle_stands = rw stood.same (held.cycle, held.cycle_room)

      pub runin_written : (before after : List ℕ) → after ≡ places_of s d.stem ++ drop d.stem.count before → after ≡ written (Ok x) (runin_of s) before
      runin_written before after w = w ∙ rw (stood.same, held.stem.whole)

      pub loop_written : (before after : List ℕ) → after ≡ places_of s d.cycle ++ drop d.cycle.count before → after ≡ written (Ok x) (loop_of s) before
      loop_written before after w = w ∙ rw (stood.same, held.cycle.whole)
