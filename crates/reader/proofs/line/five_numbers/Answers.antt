-- `five_numbers` meets its contract: the numbers are read one behind the other; the byte that ends the fourth decides.
use mathlib.Core.Path.{◌∙◌}
use Rattle.text.proofs.Held.{held_told, held_bad}
use Rattle.reader.proofs.Lines.{five_none, five_one, five_two, five_three, five_four, five_any, five_all}
use Rattle.reader.proofs.line.five_numbers.Goals as goal

pub returns-in_err-first : goal.returns-in_err-first
returns-in_err-first c = c.from_residual.ensures ∙ five_none _ _ _ (held_bad _ _ c.number_behind.ensures c.in_err-first.was)

pub returns-in_err-second : goal.returns-in_err-second
returns-in_err-second c =
    let x = held_told _ _ c.number_behind.ensures _ _ c.in_ok-first.was in
    c.from_residual-in_err-second.ensures ∙ five_one _ _ _ _ _ x (held_bad _ _ c.number_at.ensures c.in_err-second.was)

pub returns-in_err-third : goal.returns-in_err-third
returns-in_err-third c =
    let x = held_told _ _ c.number_behind.ensures _ _ c.in_ok-first.was in
    let y = held_told _ _ c.number_at.ensures _ _ c.in_ok-second.was in
    c.from_residual-in_err-third.ensures ∙ five_two _ _ _ _ _ x _ _ y (held_bad _ _ c.number_at-2.ensures c.in_err-third.was)

pub returns-in-Some : goal.returns-in-Some
returns-in-Some c =
    let x = held_told _ _ c.number_behind.ensures _ _ c.in_ok-first.was in
    let y = held_told _ _ c.number_at.ensures _ _ c.in_ok-second.was in
    let z = held_told _ _ c.number_at-2.ensures _ _ c.in_ok-third.was in
    five_four _ _ _ _ _ x _ _ y _ _ z _ _ (held_told _ _ c.number_at-3.ensures _ _ c.in-Some.is)

pub returns-in_err-fourth : goal.returns-in_err-fourth
returns-in_err-fourth c =
    let x = held_told _ _ c.number_behind.ensures _ _ c.in_ok-first.was in
    let y = held_told _ _ c.number_at.ensures _ _ c.in_ok-second.was in
    let z = held_told _ _ c.number_at-2.ensures _ _ c.in_ok-third.was in
    let no = held_bad _ _ c.number_at-3.ensures c.in_default.is in
    c.from_residual-in_err-fourth.ensures ∙ five_three _ _ _ _ _ x _ _ y _ _ z no (held_bad _ _ c.number_at-4.ensures c.in_err-fourth.was)

pub returns-in_err-fifth : goal.returns-in_err-fifth
returns-in_err-fifth c =
    let x = held_told _ _ c.number_behind.ensures _ _ c.in_ok-first.was in
    let y = held_told _ _ c.number_at.ensures _ _ c.in_ok-second.was in
    let z = held_told _ _ c.number_at-2.ensures _ _ c.in_ok-third.was in
    let no = held_bad _ _ c.number_at-3.ensures c.in_default.is in
    let u = held_told _ _ c.number_at-4.ensures _ _ c.in_ok-fourth.was in
    c.from_residual-in_err-fifth.ensures ∙ five_any _ _ _ _ _ x _ _ y _ _ z no _ _ u (held_bad _ _ c.number_at-5.ensures c.in_err-fifth.was)

pub returns : goal.returns
returns c =
    let x = held_told _ _ c.number_behind.ensures _ _ c.in_ok-first.was in
    let y = held_told _ _ c.number_at.ensures _ _ c.in_ok-second.was in
    let z = held_told _ _ c.number_at-2.ensures _ _ c.in_ok-third.was in
    let no = held_bad _ _ c.number_at-3.ensures c.in_default.is in
    let u = held_told _ _ c.number_at-4.ensures _ _ c.in_ok-fourth.was in
    five_all _ _ _ _ _ x _ _ y _ _ z no _ _ u _ _ (held_told _ _ c.number_at-5.ensures _ _ c.in_ok-fifth.was)
