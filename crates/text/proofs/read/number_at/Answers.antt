-- `number_at` meets its contract. The loop keeps, of the digits passed, their count and their value held at 4,000,000,000; at the
-- first byte that is no digit, and at the end of the text, `number_at` is computed from both.
use mathlib.Core.Path.{◌≡◌, sym, ◌∙◌}
use mathlib.Core.Bool.{false}
use mathlib.Core.List.{List}
use Prim.Native.Nat.{ℕ, ◌+◌, ◌-◌, ◌<◌}
use native.Mathlib.Omega.{arith}
use lib.ListN.{length, drop, get_or}
use Rattle.text.specs.Scan.{is_digit, digit_count}
use Rattle.text.proofs.Scans.{ascii_digit, none_past, none_here, value_here, digit_count_more, held_value, ends_text, ends_otherwise, not_canonical, number_read}
use Rattle.text.proofs.read.number_at.Goals as goal
use Rattle.text.proofs.read.number_at.Goals.{else-b-end-via-then-b-end+else-canonical, else-b-end-via-else-b-end}

-- where the byte is no digit, the digits passed are all that stand there
passed : (s : List ℕ) (at i : ℕ) → digit_count (drop at s) ≡ (i - at) + digit_count (drop i s) → i < length s → is_digit (get_or s i 0) ≡ false
    → digit_count (drop at s) ≡ i - at
passed s at i count h other = omega (arith, count, none_here s i h other)

pub returns-then-canonical : goal.returns-then-canonical
returns-then-canonical c =
    let s = c.args.s.now in
    let i = c.loop-i.i in
    let h = c.loop-i-test.true in
    let other = sym (c.is_ascii_digit.ensures.value ∙ ascii_digit (get_or s i 0)) ∙ c.if-not-is_ascii_digit.true in
    let v = value_here s i h other c.loop-i.v in
    number_read s _ i _ c.loop-i.invariant.from (passed s c.args.at i c.loop-i.invariant.count h other) h c.if-b-end.true
    (sym c.canonical.ensures ∙ c.if-canonical.true) _
    (omega (arith, c.loop-i.invariant.held, c.loop-i.invariant.small))

pub returns-then-not-is_ascii_digit : goal.returns-then-not-is_ascii_digit
returns-then-not-is_ascii_digit c =
    let s = c.args.s.now in
    let i = c.loop-i.i in
    let h = c.loop-i-test.true in
    let other = sym (c.is_ascii_digit.ensures.value ∙ ascii_digit (get_or s i 0)) ∙ c.if-not-is_ascii_digit.true in
    let count = passed s c.args.at i c.loop-i.invariant.count h other in
    elim c.else-b-end.branch [
      | else-b-end-via-then-b-end+else-canonical w ↦
          not_canonical s _ i _ c.loop-i.invariant.from count h w.if-b-end.true (sym w.canonical.ensures ∙ w.if-canonical.false)
      | else-b-end-via-else-b-end w ↦ ends_otherwise s _ i _ c.loop-i.invariant.from count h w.if-b-end.false
    ]

pub loop-i-preserved : goal.loop-i-preserved
loop-i-preserved c =
    let l = c.loop-i in
    let s = c.args.s.now in
    let h = c.loop-i-test.true in
    let d = sym (c.is_ascii_digit.ensures.value ∙ ascii_digit (get_or s l.i 0)) ∙ c.if-not-is_ascii_digit.false in
    record {
      from = omega (arith, l.invariant.from);
      count = omega (arith, l.invariant.count, l.invariant.from, digit_count_more s l.i h d);
      held = l.invariant.held ∙ held_value s l.i h d 4000000000 l.v ∙ rw (← c.append_digit-v.ensures);
      small = omega (arith, c.append_digit-v.ensures);
    }

pub returns : goal.returns
returns c =
    let l = c.loop-i in
    let s = c.args.s.now in
    let n = none_past s l.i c.loop-i-test.false in
    ends_text s _ l.i _ l.invariant.from (omega (arith, l.invariant.count)) c.loop-i-test.false
