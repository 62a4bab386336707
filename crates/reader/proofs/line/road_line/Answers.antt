-- `road_line` meets its contract: behind a line without a fault it is the line by its numbers; a pair that is noted twice changes nothing.
use mathlib.Core.Path.{◌≡◌, refl, sym, ◌∙◌}
use mathlib.Core.Bool.{Bool, true}
use mathlib.Core.List.{List}
use Prim.Native.Nat.{ℕ, ◌≤◌, ◌<◌}
use native.Mathlib.Omega.{arith}
use borrow.Author.Rules.{rules}
use Rattle.std.specs.Prelude.{None, Result, Ok, Err}
use Rattle.text.specs.Line.{after, bad_form}
use Rattle.text.specs.declared.fault.Fault.{Fault}
use Rattle.text.specs.declared.line.Numbers.{Numbers}
use Rattle.text.specs.declared.line.Cursor.{Cursor}
use Rattle.reader.specs.Pairs.{noted_of}
use Rattle.reader.specs.Line.{road_fits, road_from, two_numbers, RoadRead}
use Rattle.reader.proofs.Noting.{noting_again}
use Rattle.reader.proofs.Lines.{road_none, road_some, road_doubled, road_passed, road_ranged, road_is, road_faulty, fits_both}
use Rattle.reader.proofs.line.road_line.Goals as goal

-- numbers that fit are those of places
placed : (xs : Numbers) (bound : ℕ) → bound ≤ 128 → road_fits xs bound ≡ true → (xs.first < 128) × (xs.second < 128)
placed xs bound few fits = let low = fits_both xs bound fits in (omega (arith, low.0, few), omega (arith, low.1, few))

-- a line whose numbers are none, behind one without a fault
unread : (s key : List ℕ) (bound : ℕ) (again : Numbers → Bool) (pairs : List ℕ) (prior : Result Cursor Fault) (f : Fault)
    → after prior (λ at. Ok (two_numbers s at key)) ≡ Ok None → after prior (λ at. Ok (bad_form s at)) ≡ Ok f
    → RoadRead (after prior (λ at. road_from s at key bound again)) bound pairs (Err f) pairs
unread s key bound again pairs (Ok c) f e h =
    let p : bad_form s c.at ≡ f = cc h in rw (← p) (road_faulty _ _ _ _ again _ _ _ _ refl (road_none _ _ _ _ again (cc e)) refl)
unread s key bound again pairs (Err g) f e h = let z : ◌≡◌ {A = ℕ} 0 1 = cc e in absurd (omega arith)

-- it names no step of the code, so that an edit of one is refused for what it means
pub returns-in_default : goal.returns-in_default
returns-in_default c =
    let a = c.args in unread a.s.now a.key.now a.bound (noted_of a.pairs.now) a.pairs.now a.prior c.bad_form.result (search rules) (search rules)

pub returns-then-not-road_fits : goal.returns-then-not-road_fits
returns-then-not-road_fits c =
    let a = c.args in
    rw c.in_ok-from.was
    (road_faulty _ _ _ _ (noted_of a.pairs.now) _ _ _ _ refl
    (road_ranged _ _ c.in-Some.at c.in-Some.xs a.bound (noted_of a.pairs.now) _ c.line_at.ensures (sym c.road_fits.ensures ∙ c.if-not-road_fits.true)
    ∙ road_some _ _ _ _ (noted_of a.pairs.now) _ _ (sym c.two_numbers.ensures ∙ c.in-Some.is) (omega (arith, c.requires.0)))
    refl)

pub returns-then-again : goal.returns-then-again
returns-then-again c =
    let a = c.args in
    let fits = sym c.road_fits.ensures ∙ c.if-not-road_fits.false in
    let low = placed c.in-Some.xs a.bound c.requires.0 fits in
    let again = sym c.noted-again.ensures ∙ c.if-again.true in
    rw c.in_ok-from.was
    (road_faulty _ _ _ _ (noted_of a.pairs.now) _ _ _ _ refl
    (road_doubled _ _ _ _ _ (noted_of a.pairs.now) _ c.line_at-then-again.ensures fits again
    ∙ road_some _ _ _ _ (noted_of a.pairs.now) _ _ (sym c.two_numbers.ensures ∙ c.in-Some.is) (omega (arith, c.requires.0)))
    (c.note.ensures ∙ noting_again _ _ _ c.requires.1 low.0 low.1 again))

pub returns-else-again : goal.returns-else-again
returns-else-again c =
    let a = c.args in
    let fits = sym c.road_fits.ensures ∙ c.if-not-road_fits.false in
    rw c.in_ok-from.was
    (road_is _ _ _ _ (noted_of a.pairs.now) _ _ _
    (road_passed _ _ _ _ _ (noted_of a.pairs.now) fits (sym c.noted-again.ensures ∙ c.if-again.false)
    ∙ road_some _ _ _ _ (noted_of a.pairs.now) _ _ (sym c.two_numbers.ensures ∙ c.in-Some.is) (omega (arith, c.requires.0)))
    c.note.ensures)
