-- The text of an answer, read (02, note 2): the six lines that program plantour prints (01, "For the host and for the rig"). The first faulty
-- line decides, its form before its range; then the buffers' lengths; then whether the lines contradict each other.
--   known n                == n is the number of an answer that plantour gives
--   answer_from s at        == the line at index `at`, `answer=n`, n known
--   answer_line s prior     == so for the line behind `prior`
--   draft_of s              == what the six lines come to: the last of them or the first fault, the record that they make, and where the
--                             places stand
--   drafted d              == the record of the lines, and where their places stand; or the fault of a line
--   agrees x               == the numbers of a record do not contradict each other
--   roomy x r l            == buffers of r and l bytes have room for its lists
--   judge x r l            == the reply to a record, with buffers of r and l bytes: refusal 5, then 8
--   reply_of last x r l     == the reply to lines that end with `last` and make the record x
--   read_answer s r l       == the reply to the text s
--   runin_of s, loop_of s    == the places of its run-in and its loop
--   written reply ps b     == the buffer b after this reply: the places ps over its front, or untouched on a refusal
use Rattle.std.specs.Prelude.{Bool, true, false, cond, ◌&&◌, List, ◌++◌, ℕ, length, drop, leb, Result, Ok, Err}
use Rattle.text.specs.Scan.{key_at, first_number, value_of}
use Rattle.text.specs.Line.{Line, behind, pair, closed, line_of_one, first_of, top, finish, made}
use Rattle.text.specs.List.{list_line, places_of}
use Rattle.text.specs.declared.fault.Fault.{Fault}
use Rattle.text.specs.declared.list.Span.{Span}
use Rattle.plan.specs.Answers.{kind_of, consistent}
use Rattle.plan.specs.declared.kind.Kind.{Kind}
use Rattle.plan.specs.declared.kind.Kind.TheVariants as kind
use Rattle.plan.specs.declared.Refusal.{Refusal}
use Rattle.plan.specs.declared.Refusal.TheVariants as refusal
use Rattle.answer.specs.Text.{answer_key, line_key, cost_key, kept_key, runin_key, loop_key}
use Rattle.readback.specs.declared.Record.{Record}
use Rattle.readback.specs.declared.Draft.{Draft}

abbrev pub given : Kind → Bool
given kind.Tour = true
given kind.Plain = true
given kind.Lined = true
given kind.Never = false

abbrev pub known : ℕ → Bool
known n = given (kind_of n)

abbrev pub answer_from : List ℕ → ℕ → Line
answer_from s at =
    let n = first_number s (key_at s at answer_key) 10 in
    closed s at n (known (value_of n)) (pair (value_of n) 0)

unfoldable pub answer_line : List ℕ → Line → Line
answer_line s prior = behind prior (answer_from s)

pub record Lines : Type 0 where
  pub line : Line
  pub says : Record
  pub stem : Span
  pub cycle : Span

unfoldable pub draft_of : List ℕ → Lines
draft_of s =
    let number = answer_line s top in
    let line = line_of_one s number line_key 0 65536 in
    let cost = line_of_one s line cost_key 0 32000001 in
    let kept = line_of_one s cost kept_key 0 256 in
    let stem = list_line s kept runin_key 128 in
    let cycle = list_line s stem.line loop_key 128 in
    record {
      line = finish s cycle.line;
      says = record {
        number = first_of number;
        line = first_of line;
        cost = first_of cost;
        kept = first_of kept;
        stem = stem.list.count;
        cycle = cycle.list.count;
      };
      stem = stem.list;
      cycle = cycle.list;
    }

abbrev pub drafted : Lines → Result Draft Fault
drafted d = made d.line (record { says = d.says; stem = d.stem; cycle = d.cycle })

abbrev pub agrees : Record → Bool
agrees x = consistent (kind_of x.number) x.line x.cost x.kept x.stem x.cycle

abbrev pub roomy : Record → ℕ → ℕ → Bool
roomy x r l = leb x.stem r && leb x.cycle l

unfoldable pub judge : Record → ℕ → ℕ → Result Record Refusal
judge x r l = cond (roomy x r l) (cond (agrees x) (Ok x) (Err refusal.Contradiction)) (Err refusal.BufferTooShort)

abbrev pub reply_of : Line → Record → ℕ → ℕ → Result Record Refusal
reply_of (Err f) x r l = Err (refusal.Line f)
reply_of (Ok (xs, c)) x r l = judge x r l

unfoldable pub read_answer : List ℕ → ℕ → ℕ → Result Record Refusal
read_answer s r l = reply_of (draft_of s).line (draft_of s).says r l

abbrev pub runin_of : List ℕ → List ℕ
runin_of s = places_of s (draft_of s).stem

abbrev pub loop_of : List ℕ → List ℕ
loop_of s = places_of s (draft_of s).cycle

abbrev pub written : Result Record Refusal → List ℕ → List ℕ → List ℕ
written (Ok x) places buffer = places ++ drop (length places) buffer
written (Err r) places buffer = buffer
