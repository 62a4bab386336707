-- Which numbers are those of an answer or of a refusal.
--   never      == no answer of plantour's has a number above 10
--   number_low, number_some == no refusal has a number above 10, and none has 0
use mathlib.Core.Path.{◌≡◌}
use Prim.Native.Nat.{ℕ, ◌≤◌}
use native.Mathlib.Omega.{arith}
use borrow.Author.Tests.{le-ltb, ne_eqb}
use Rattle.text.specs.declared.fault.Fault.TheVariants.{Form, Range, Doubled}
use Rattle.plan.specs.Answers.{kind_of}
use Rattle.plan.specs.Refusal.{number}
use Rattle.plan.specs.declared.kind.Kind.TheVariants.{Never}
use Rattle.plan.specs.declared.Refusal.{Refusal}
use Rattle.plan.specs.declared.Refusal.TheVariants.{PlanTooLong, Line, ProductTooLarge, BufferTooShort, NoTour, BlockTooShort, Contradiction, Broken}

pub never : (n : ℕ) → 11 ≤ n → kind_of n ≡ Never
unfolding kind_of
never n h =
    rw (ne_eqb n 0 (λ e. omega arith), ne_eqb n 2 (λ e. omega arith), ne_eqb n 3 (λ e. omega arith), ne_eqb n 10 (λ e. omega arith), le-ltb n 7 (omega arith))

pub number_low : (x : Refusal) → number x ≤ 10
number_low PlanTooLong = omega arith
number_low (Line (Form line)) = omega arith
number_low (Line (Range line)) = omega arith
number_low (Line (Doubled line)) = omega arith
number_low ProductTooLarge = omega arith
number_low BufferTooShort = omega arith
number_low NoTour = omega arith
number_low BlockTooShort = omega arith
number_low Contradiction = omega arith
number_low (Broken i) = omega arith

pub number_some : (x : Refusal) → 1 ≤ number x
number_some PlanTooLong = omega arith
number_some (Line (Form line)) = omega arith
number_some (Line (Range line)) = omega arith
number_some (Line (Doubled line)) = omega arith
number_some ProductTooLarge = omega arith
number_some BufferTooShort = omega arith
number_some NoTour = omega arith
number_some BlockTooShort = omega arith
number_some Contradiction = omega arith
number_some (Broken i) = omega arith
