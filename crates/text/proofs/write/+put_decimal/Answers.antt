-- `put_decimal` meets its contract: the digits of the tenth and then the last digit are those of the number (`decimal_more`), one more than
-- those of the tenth.
use mathlib.Core.List.{List, [], ◌∷◌}
use mathlib.Core.Path.{◌≡◌}
use Prim.Native.Nat.{ℕ, ◌+◌, ◌/◌, ◌%◌, ◌≤◌}
use native.Mathlib.Omega.{arith}
use lib.ListN.{length}
use Rattle.text.specs.Decimal.{decimal}
use Rattle.text.specs.Over.{Wrote}
use Rattle.text.proofs.Decimals.{decimal_small, decimal_more, decimal_longer, decimal_some}
use Rattle.text.proofs.Overs.{wrote_both}
use Rattle.text.proofs.write.+put_decimal.Goals as goal

last : {b : List ℕ} {at : ℕ} (x : ℕ) {now : List ℕ} {next g : ℕ} {after : List ℕ} {end : ℕ} → 10 ≤ x
    → at + length (decimal x) ≤ length b → Wrote b at (decimal (x / 10)) now next → g ≡ 48 + x % 10
    → Wrote now next (g ∷ []) after end → Wrote b at (decimal x) after end
last {b} {at} x big room tenth e digit =
    rw (decimal_more x big)
    (wrote_both (rw (decimal_more x big) at room) tenth (rw e at digit))

pub put_byte-requires : goal.put_byte-requires
put_byte-requires t c = omega (arith, decimal_some c.args.x, c.requires)

pub returns-then-x-lt10 : goal.returns-then-x-lt10
returns-then-x-lt10 t c = rw (decimal_small c.args.x (omega arith), ← c.glyph.ensures) c.put_byte.ensures

pub put_decimal-next-requires : goal.put_decimal-next-requires
put_decimal-next-requires t c =
    let big : 10 ≤ c.args.x = omega arith in
    (omega (arith, c.decreases), omega (arith, decimal_longer c.args.x big, c.requires))

pub put_byte-requires-2 : goal.put_byte-requires-2
put_byte-requires-2 t c =
    let big : 10 ≤ c.args.x = omega arith in
    omega (arith, decimal_longer c.args.x big, c.requires, c.put_decimal-next.ensures.place)

pub returns : goal.returns
returns t c = last c.args.x (omega arith) c.requires c.put_decimal-next.ensures c.glyph-2.ensures c.put_byte-2.ensures
