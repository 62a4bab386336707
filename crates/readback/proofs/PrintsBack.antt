-- The text of an answer that is read without a refusal: what it says is an answer that there is, and printing that gives the same bytes.
-- The line that a refusal tells is at most 7: one of the six, or the one behind them.
--   answer_of x         == the answer that a record is of; its count is that of the kept rules
--   Accepted x r l y   == y is x, and buffers of r and l bytes have room for it, and its numbers agree
--   judge_read         == a record that is judged without a refusal is accepted
--   read_accepted      == and no line of its text has a fault
--   answer_follows     == a line `answer=n` follows the line before it
--   first s to sixth s == the lines of the text s
--   lines_stood        == without a fault the six lines are the text
--   lines_sound        == and what they say is sound, if its numbers agree
--   read_sound, read_fits, read_again == what is read is sound, the buffers have room for it, and it is printed as it was
--   Listed s r l       == the lists of the text s stand in it, and buffers of r and l bytes have room for them
--   read_stands        == so it is where a record was read
--   lines_low          == a fault of the text is in one of its first seven lines
--   judge_line         == a record whose lines have no fault is answered without a line
--   reply_line_low     == no reply tells a line above 7
use mathlib.Core.Path.{◌≡◌, refl, sym, ◌∙◌}
use mathlib.Core.Bool.{Bool, true, false, cond}
use mathlib.Core.List.{List, append-nil}
use Prim.Native.Nat.{ℕ, ◌≤◌}
use native.Mathlib.Omega.{arith}
use borrow.Author.Tests.{leb-true}
use lib.Count.{ones}
use lib.Dec.{leb}
use lib.ListN.{length, drop_of_length-le}
use Rattle.std.specs.Prelude.{Ok, Err}
use Rattle.base.proofs.Tests.{and_left, and_right}
use Rattle.text.specs.Scan.{newlines}
use Rattle.text.specs.Line.{first_of, line_of_one, top, good, Line}
use Rattle.text.specs.List.{list_line, ListLine}
use Rattle.text.specs.Runs.{Stands}
use Rattle.text.specs.Decimal.{decimal}
use Rattle.text.specs.KeyLine.{key_line}
use Rattle.text.proofs.Lines.{one_most}
use Rattle.text.proofs.Lists.{under_more}
use Rattle.text.proofs.StoodLines.{stood_join, next_at, Follows, follows_good, number_follows, one_follows, list_follows, finish_good}
use Rattle.text.proofs.StoodLines.{newlines_decimal, newlines_joined, newlines_line, fault_line, begun_top, begun_next, begun_finish}
use Rattle.plan.specs.declared.Refusal.TheVariants as refusal
use Rattle.answer.specs.Sound.{Sound}
use Rattle.answer.specs.Text.{answer_key, line_key, cost_key, kept_key, runin_key, loop_key, figures, text_of}
use Rattle.answer.specs.declared.Answer.{Answer}
use Rattle.readback.specs.Reading.{known, answer_line, draft_of, agrees, roomy, judge, reply_of, read_answer, runin_of, loop_of}
use Rattle.plan.specs.Returned.{line_of}
use Rattle.readback.specs.declared.Record.{Record}

abbrev pub answer_of : Record → Answer
answer_of x = record {
  number = x.number;
  line = x.line;
  cost = x.cost;
  kept = x.kept;
  count = ones x.kept;
  stem = x.stem;
  cycle = x.cycle;
}

record Accepted (x : Record) (r l : ℕ) (y : Record) : Type 0 where
  pub same : y ≡ x
  pub stem : x.stem ≤ r
  pub cycle : x.cycle ≤ l
  pub agree : agrees x ≡ true

judge_read : (x : Record) (r l : ℕ) (y : Record) → judge x r l ≡ Ok y → Accepted x r l y
unfolding judge
judge_read x r l y e = by (roomy x r l) (agrees x) refl refl e
  where
    by : (t u : Bool) → roomy x r l ≡ t → agrees x ≡ u
        → cond t (cond u (Ok x) (Err refusal.Contradiction)) (Err refusal.BufferTooShort) ≡ Ok y → Accepted x r l y
    by true true p q h = record {
      same = cc h;
      stem = leb-true x.stem r (and_left (leb x.stem r) (leb x.cycle l) p);
      cycle = leb-true x.cycle l (and_right (leb x.stem r) (leb x.cycle l) p);
      agree = q;
    }
    by true false p q h = let z : ◌≡◌ {A = ℕ} 0 1 = cc in absurd (omega arith)
    by false u p q h = let z : ◌≡◌ {A = ℕ} 0 1 = cc in absurd (omega arith)

read_accepted : (s : List ℕ) (r l : ℕ) (y : Record) → read_answer s r l ≡ Ok y
    → (good (draft_of s).line ≡ true) × Accepted (draft_of s).says r l y
unfolding read_answer
read_accepted s r l y e = by (draft_of s).line e
  where
    by : (last : Line) → reply_of last (draft_of s).says r l ≡ Ok y → (good last ≡ true) × Accepted (draft_of s).says r l y
    by (Err f) e = let z : ◌≡◌ {A = ℕ} 0 1 = cc in absurd (omega arith)
    by (Ok (xs, c)) e = (refl, judge_read (draft_of s).says r l y e)

answer_follows : (s : List ℕ) (l : Line) → Follows s l (key_line answer_key (decimal (first_of (answer_line s l)))) (answer_line s l)
unfolding answer_line
answer_follows s l = number_follows s answer_key l known

module _ (s : List ℕ) where
  abbrev first : Line
  first = answer_line s top

  abbrev second : Line
  second = line_of_one s first line_key 0 65536

  abbrev third : Line
  third = line_of_one s second cost_key 0 32000001

  abbrev fourth : Line
  fourth = line_of_one s third kept_key 0 256

  abbrev fifth : ListLine
  fifth = list_line s fourth runin_key 128

  abbrev sixth : ListLine
  sixth = list_line s fifth.line loop_key 128

module _ (s : List ℕ) (g : good (draft_of s).line ≡ true) where
  end : (good (sixth s).line ≡ true) × (length s ≤ next_at (sixth s).line)
  unfolding draft_of
  end = finish_good s (sixth s).line g

  lines_stood : text_of (answer_of (draft_of s).says) (runin_of s) (loop_of s) ≡ s
  unfolding draft_of figures text_of
  lines_stood =
      let six = follows_good (list_follows s loop_key 128 (fifth s).line).follows end.0 in
      let five = follows_good (list_follows s runin_key 128 (fourth s)).follows six.0 in
      let four = follows_good (one_follows s kept_key (third s) 0 256) five.0 in
      let three = follows_good (one_follows s cost_key (second s) 0 32000001) four.0 in
      let two = follows_good (one_follows s line_key (first s) 0 65536) three.0 in
      let one = follows_good (answer_follows s top) two.0 in
      let all = stood_join (stood_join one.1 (stood_join two.1 (stood_join three.1 four.1))) (stood_join five.1 six.1) in
      sym (all.bytes ∙ rw (drop_of_length-le s end.1, append-nil))

  lines_sound : agrees (draft_of s).says ≡ true → Sound (answer_of (draft_of s).says) (runin_of s) (loop_of s)
  unfolding draft_of
  lines_sound a =
      let six = list_follows s loop_key 128 (fifth s).line in
      let five = list_follows s runin_key 128 (fourth s) in
      let turn = end.0 in
      let stem = (follows_good six.follows turn).0 in
      record {
        stem_length = five.whole stem;
        cycle_length = six.whole turn;
        line = omega (arith, one_most s (first s) line_key 0 65536);
        cost = omega (arith, one_most s (second s) cost_key 0 32000001);
        kept = omega (arith, one_most s (third s) kept_key 0 256);
        stem_places = five.fits stem;
        cycle_places = six.fits turn;
        agrees = a;
      }

pub read_sound : (s : List ℕ) (r l : ℕ) (x : Record) → read_answer s r l ≡ Ok x → Sound (answer_of x) (runin_of s) (loop_of s)
read_sound s r l x e = let t = read_accepted s r l x e in rw t.1.same (lines_sound s t.0 t.1.agree)

pub read_fits : (s : List ℕ) (r l : ℕ) (x : Record) → read_answer s r l ≡ Ok x → (x.stem ≤ r) × (x.cycle ≤ l)
read_fits s r l x e = let t = read_accepted s r l x e in rw t.1.same (t.1.stem, t.1.cycle)

pub read_again : (s : List ℕ) (r l : ℕ) (x : Record) → read_answer s r l ≡ Ok x → text_of (answer_of x) (runin_of s) (loop_of s) ≡ s
read_again s r l x e = let t = read_accepted s r l x e in rw t.1.same (lines_stood s t.0)

pub record Listed (s : List ℕ) (r l : ℕ) : Type 0 where
  pub stem : Stands s (draft_of s).stem
  pub cycle : Stands s (draft_of s).cycle
  pub stem_room : (draft_of s).stem.count ≤ r
  pub cycle_room : (draft_of s).cycle.count ≤ l

pub read_stands : (s : List ℕ) (r l : ℕ) (x : Record) → read_answer s r l ≡ Ok x → Listed s r l
unfolding draft_of
read_stands s r l x e =
    let t = read_accepted s r l x e in
    let sound = lines_sound s t.0 t.1.agree in
    record {
      stem = record { whole = sound.stem_length; bytes = under_more 128 256 (omega arith) (runin_of s) sound.stem_places };
      cycle = record { whole = sound.cycle_length; bytes = under_more 128 256 (omega arith) (loop_of s) sound.cycle_places };
      stem_room = t.1.stem;
      cycle_room = t.1.cycle;
    }

lines_low : (s : List ℕ) → fault_line (draft_of s).line ≤ 7
unfolding draft_of newlines
lines_low s =
    let one = begun_next (begun_top s) (answer_follows s top) (newlines_line answer_key _ refl (newlines_decimal _)) in
    let two = begun_next one (one_follows s line_key (first s) 0 65536) (newlines_line line_key _ refl (newlines_decimal _)) in
    let three = begun_next two (one_follows s cost_key (second s) 0 32000001) (newlines_line cost_key _ refl (newlines_decimal _)) in
    let four = begun_next three (one_follows s kept_key (third s) 0 256) (newlines_line kept_key _ refl (newlines_decimal _)) in
    let five = begun_next four (list_follows s runin_key 128 (fourth s)).follows (newlines_line runin_key _ refl (newlines_joined _)) in
    let six = begun_next five (list_follows s loop_key 128 (fifth s).line).follows (newlines_line loop_key _ refl (newlines_joined _)) in
    begun_finish six

judge_line : (x : Record) (r l : ℕ) → line_of (judge x r l) ≡ 0
unfolding judge
judge_line x r l = by (roomy x r l) (agrees x)
  where
    by : (t u : Bool) → line_of (cond t (cond u (Ok x) (Err refusal.Contradiction)) (Err refusal.BufferTooShort)) ≡ 0
    by true true = refl
    by true false = refl
    by false u = refl

pub reply_line_low : (s : List ℕ) (r l : ℕ) → line_of (read_answer s r l) ≤ 7
unfolding read_answer
reply_line_low s r l = by (draft_of s).line (lines_low s)
  where
    by : (last : Line) → fault_line last ≤ 7 → line_of (reply_of last (draft_of s).says r l) ≤ 7
    by (Err f) h = h
    by (Ok (xs, c)) h = omega (arith, judge_line (draft_of s).says r l)
