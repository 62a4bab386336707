-- `put_joined` meets its contract: no number is no text, and else the first number and then the others, each behind a comma, are the text.
use mathlib.Core.Path.{◌≡◌, sym}
use mathlib.Core.List.{List, [], ◌∷◌, ◌++◌}
use Prim.Native.Nat.{ℕ, ◌+◌, ◌≤◌}
use native.Mathlib.Nat.{add-zero}
use native.Mathlib.Omega.{arith}
use lib.ListN.{length}
use Rattle.text.specs.Decimal.{decimal}
use Rattle.text.specs.Over.{Wrote}
use Rattle.text.specs.KeyLine.{commaed, joined}
use Rattle.text.proofs.Overs.{over_none, wrote_both, left_start, left_room, left_next}
use Rattle.text.proofs.write.put_joined.Goals as goal

none : (b : List ℕ) (at : ℕ) (numbers : List ℕ) → length numbers ≡ 0 → Wrote b at (joined numbers) b at
unfolding joined
none b at [] e = record { place = sym (add-zero at); bytes = sym (over_none b at) }
none b at (p ∷ numbers) e = absurd (omega arith)

module _ (numbers : List ℕ) (x : ℕ) (others : List ℕ) (split : numbers ≡ x ∷ others) (b : List ℕ) (at : ℕ)
    (room : at + length (joined numbers) ≤ length b) where
  parts : joined numbers ≡ decimal x ++ commaed others
  unfolding joined
  parts = rw split

  room_both : at + length (decimal x ++ commaed others) ≤ length b
  room_both = rw parts at room

  first_room : at + length (decimal x) ≤ length b
  first_room = left_room (decimal x) (commaed others) (left_start b at (decimal x ++ commaed others) room_both)

  module _ {now : List ℕ} {next : ℕ} (d : Wrote b at (decimal x) now next) where
    others_room : next + length (commaed others) ≤ length now
    others_room =
        let l = left_next (decimal x) (commaed others) (left_start b at (decimal x ++ commaed others) room_both) d in
        omega (arith, l.place, l.size, l.room)

    both : {after : List ℕ} {end : ℕ} → Wrote now next (commaed others) after end → Wrote b at (joined numbers) after end
    both o = rw parts (wrote_both room_both d o)

pub returns-in_default : goal.returns-in_default
returns-in_default c = let a = c.args in none a.out.now a.at a.numbers.now c.in_default.ensures.cases

pub put_decimal-next-requires : goal.put_decimal-next-requires
put_decimal-next-requires c =
    let a = c.args in
    rw c.from.ensures (first_room a.numbers.now _ _ c.in-Some.ensures.cases.0 a.out.now a.at c.requires)

pub put_commaed-requires : goal.put_commaed-requires
put_commaed-requires c =
    let a = c.args in
    others_room a.numbers.now _ _ c.in-Some.ensures.cases.0 a.out.now a.at c.requires (rw c.from.ensures at c.put_decimal-next.ensures)

pub returns : goal.returns
returns c =
    let a = c.args in
    both a.numbers.now _ _ c.in-Some.ensures.cases.0 a.out.now a.at c.requires (rw c.from.ensures at c.put_decimal-next.ensures) c.put_commaed.ensures
