-- What is printed is read back (02, note 2): the text of an answer that there is, with its run-in and its loop, is read as just these.
--   given_all, known_sound  == an answer that agrees with what stands beside it is one that plantour gives
--   answer_back             == the line `answer=n`
--   says a                  == the record of an answer
--   Drafted a stem cycle s  == the lines of s come to that record, with run-in and loop where they stand
--   drafted, printed        == so do those six lines: each is read behind the one before; and so does the text
--   sound_read, sound_runin, sound_loop
--                           == the text is read as that record, and its places are those that were written
use mathlib.Core.Path.{◌≡◌, refl}
use mathlib.Core.Bool.{true}
use mathlib.Core.List.{List, [], ◌++◌}
use Prim.Native.Nat.{ℕ, ◌+◌, ◌≤◌}
use native.Mathlib.Omega.{arith}
use borrow.Author.Tests.{le-leb}
use lib.ListN.{length, drop}
use Rattle.std.specs.Prelude.{Ok}
use Rattle.text.specs.Decimal.{decimal}
use Rattle.text.specs.KeyLine.{joined, key_line}
use Rattle.text.specs.Line.{pair}
use Rattle.text.specs.List.{places_of}
use Rattle.text.specs.declared.line.Numbers.{Numbers}
use Rattle.text.specs.declared.list.Span.{Span}
use Rattle.text.proofs.ReadLines.{line_rest, value_back, within_from_0, one_back, list_back, places_back, finish_back}
use Rattle.plan.specs.Answers.{kind_of, consistent}
use Rattle.plan.specs.declared.kind.Kind.{Kind}
use Rattle.plan.specs.declared.kind.Kind.TheVariants as kind
use Rattle.answer.specs.Text.{answer_key, line_key, cost_key, kept_key, runin_key, loop_key, text_of}
use Rattle.answer.specs.Sound.{Sound}
use Rattle.answer.specs.declared.Answer.{Answer}
use Rattle.answer.proofs.Texts.{lines_of, text_lines}
use Rattle.readback.specs.Reading.{Lines, given, known, answer_line, draft_of, judge, read_answer, runin_of, loop_of}
use Rattle.readback.specs.declared.Record.{Record}

given_all : (k : Kind) (line cost kept stem cycle : ℕ) → consistent k line cost kept stem cycle ≡ true → given k ≡ true
given_all kind.Tour line cost kept stem cycle e = refl
given_all kind.Plain line cost kept stem cycle e = refl
given_all kind.Lined line cost kept stem cycle e = refl
given_all kind.Never line cost kept stem cycle e = e

known_sound : (a : Answer) (stem cycle : List ℕ) → Sound a stem cycle → known a.number ≡ true
known_sound a stem cycle h = given_all (kind_of a.number) a.line a.cost a.kept a.stem a.cycle h.agrees

answer_back : (s : List ℕ) (at n : ℕ) (rest : List ℕ) → drop at s ≡ key_line answer_key (decimal n) ++ rest → known n ≡ true → (xs : Numbers)
    → answer_line s (Ok (xs, record { at = at }))
    ≡ Ok (pair n 0, record { at = at + length (key_line answer_key (decimal n)) })
unfolding answer_line
answer_back s at n rest k fit xs = rw (value_back s at answer_key n rest k, fit)

abbrev says : Answer → Record
says a = record { number = a.number; line = a.line; cost = a.cost; kept = a.kept; stem = a.stem; cycle = a.cycle }

record Drafted (a : Answer) (stem cycle s : List ℕ) : Type 0 where
  pub end : ℕ
  pub runin : Span
  pub loop : Span
  pub is : ◌≡◌ {A = Lines} (draft_of s) (record { line = Ok (pair 0 0, record { at = end }); says = says a; stem = runin; cycle = loop })
  pub stem_back : places_of s runin ≡ stem
  pub cycle_back : places_of s loop ≡ cycle

drafted : (a : Answer) (stem cycle : List ℕ) → Sound a stem cycle → (s : List ℕ) → s ≡ lines_of a stem cycle → Drafted a stem cycle s
unfolding draft_of
drafted a stem cycle h s e =
    let line_at_lem = 0 + length (key_line answer_key (decimal a.number)) in
    let cost_at = line_at_lem + length (key_line line_key (decimal a.line)) in
    let kept_at = cost_at + length (key_line cost_key (decimal a.cost)) in
    let stem_at = kept_at + length (key_line kept_key (decimal a.kept)) in
    let cycle_at = stem_at + length (key_line runin_key (joined stem)) in
    let line_there = line_rest s 0 answer_key _ _ e in
    let cost_there = line_rest s line_at_lem line_key _ _ line_there in
    let kept_there = line_rest s cost_at cost_key _ _ cost_there in
    let stem_there = line_rest s kept_at kept_key _ _ kept_there in
    let cycle_there = line_rest s stem_at runin_key _ _ stem_there in
    let none_there = line_rest s cycle_at loop_key _ [] cycle_there in
    record {
      end = cycle_at + length (key_line loop_key (joined cycle));
      runin = record { at = stem_at + length runin_key; count = a.stem };
      loop = record { at = cycle_at + length loop_key; count = a.cycle };
      is =
          rw (
            answer_back s 0 a.number _ e (known_sound a stem cycle h) _,
            one_back s line_at_lem line_key a.line _ line_there 0 65536 (within_from_0 _ _ h.line) _,
            one_back s cost_at cost_key a.cost _ cost_there 0 32000001 (within_from_0 _ _ h.cost) _,
            one_back s kept_at kept_key a.kept _ kept_there 0 256 (within_from_0 _ _ h.kept) _,
            list_back s stem_at runin_key stem _ stem_there 128 h.stem_places _,
            list_back s cycle_at loop_key cycle [] cycle_there 128 h.cycle_places _,
            finish_back s _ none_there _,
            h.stem_length,
            h.cycle_length,
          );
      stem_back = places_back s stem_at runin_key stem _ stem_there;
      cycle_back = places_back s cycle_at loop_key cycle [] cycle_there;
    }

printed : (a : Answer) (stem cycle : List ℕ) → Sound a stem cycle → Drafted a stem cycle (text_of a stem cycle)
printed a stem cycle h = drafted a stem cycle h (text_of a stem cycle) (text_lines a stem cycle)

pub sound_read : (a : Answer) (stem cycle : List ℕ) → Sound a stem cycle → (r l : ℕ) → length stem ≤ r → length cycle ≤ l
    → read_answer (text_of a stem cycle) r l
    ≡ Ok (record { number = a.number; line = a.line; cost = a.cost; kept = a.kept; stem = a.stem; cycle = a.cycle })
unfolding read_answer judge
sound_read a stem cycle h r l hr hl =
    let d = printed a stem cycle h in
    rw (d.is, le-leb a.stem r (omega (arith, h.stem_length)), le-leb a.cycle l (omega (arith, h.cycle_length)), h.agrees)

pub sound_runin : (a : Answer) (stem cycle : List ℕ) → Sound a stem cycle → runin_of (text_of a stem cycle) ≡ stem
sound_runin a stem cycle h = let d = printed a stem cycle h in rw d.is d.stem_back

pub sound_loop : (a : Answer) (stem cycle : List ℕ) → Sound a stem cycle → loop_of (text_of a stem cycle) ≡ cycle
sound_loop a stem cycle h = let d = printed a stem cycle h in rw d.is d.cycle_back
