-- `put_commaed` meets its contract. What is left to write at a turn are the numbers from the turn's on, each behind a comma: a turn
-- writes a comma and the first of them.
use mathlib.Core.List.{List, [], ◌∷◌, ◌++◌}
use Prim.Native.Nat.{ℕ, ◌+◌, ◌≤◌, ◌<◌}
use native.Mathlib.Omega.{arith}
use lib.ListN.{length, drop, get_or, drop_of_length-le}
use Rattle.text.specs.Decimal.{decimal}
use Rattle.text.specs.Over.{Wrote, Left}
use Rattle.text.specs.KeyLine.{commaed}
use Rattle.text.proofs.Overs.{left_room, left_next, left_end}
use Rattle.text.proofs.KeyLines.{commaed_next}
use Rattle.text.proofs.write.put_commaed.Goals as goal

module _ {b : List ℕ} {at : ℕ} {text out : List ℕ} {next : ℕ} (numbers : List ℕ) (i : ℕ) where
  module _ (h : i < length numbers) (l : Left b at text out next (commaed (drop i numbers))) where
    from_comma : Left b at text out next
        ((44 ∷ []) ++ (decimal (get_or numbers i 0) ++ commaed (drop (i + 1) numbers)))
    from_comma = rw (commaed_next numbers i h) at l

    comma_room : next < length out
    comma_room = omega (arith, left_room (44 ∷ []) _ from_comma)

    module _ {out₁ : List ℕ} {next₁ : ℕ} (comma : Wrote out next (44 ∷ []) out₁ next₁) where
      from_number : Left b at text out₁ next₁ (decimal (get_or numbers i 0) ++ commaed (drop (i + 1) numbers))
      from_number = left_next (44 ∷ []) _ from_comma comma

      number_room : next₁ + length (decimal (get_or numbers i 0)) ≤ length out₁
      number_room = left_room (decimal (get_or numbers i 0)) _ from_number

      turn : {out₂ : List ℕ} {next₂ : ℕ} → Wrote out₁ next₁ (decimal (get_or numbers i 0)) out₂ next₂
          → Left b at text out₂ next₂ (commaed (drop (i + 1) numbers))
      turn number = left_next (decimal (get_or numbers i 0)) _ from_number number

  end : length numbers ≤ i → Left b at text out next (commaed (drop i numbers)) → Wrote b at text out next
  unfolding commaed
  end h l = left_end (rw (drop_of_length-le numbers h) at l)

pub put_byte-next-requires : goal.put_byte-next-requires
put_byte-next-requires c = comma_room c.args.numbers.now c.loop-number.number-index c.loop-number-test.true c.loop-number.invariant

pub put_decimal-next-requires : goal.put_decimal-next-requires
put_decimal-next-requires c =
    rw c.from.ensures
    (number_room c.args.numbers.now c.loop-number.number-index c.loop-number-test.true c.loop-number.invariant c.put_byte-next.ensures)

pub loop-number-preserved : goal.loop-number-preserved
loop-number-preserved c =
    turn c.args.numbers.now c.loop-number.number-index c.loop-number-test.true c.loop-number.invariant c.put_byte-next.ensures
    (rw c.from.ensures at c.put_decimal-next.ensures)

pub returns : goal.returns
returns c = end c.args.numbers.now c.loop-number.number-index c.loop-number-test.false c.loop-number.invariant
