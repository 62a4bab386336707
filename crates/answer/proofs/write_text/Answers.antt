-- `write_text` meets its contract: the text has three parts, the figures and the two lists.
use mathlib.Core.List.{◌++◌}
use native.Mathlib.Omega.{arith}
use lib.ListN.{length, length-append}
use Rattle.text.specs.KeyLine.{joined, key_line}
use Rattle.answer.specs.Text.{runin_key, loop_key, figures, text_of}
use Rattle.text.proofs.Overs.{second_room, third_room, wrote_three, wrote_front}
use Rattle.answer.proofs.Texts.{text_room}
use Rattle.answer.proofs.write_text.Goals as goal

pub put_figures-at-requires : goal.put_figures-at-requires
unfolding text_of
put_figures-at-requires c =
    let a = c.args in
    let room = text_room a.a a.runin.now a.cycle.now (length a.out.now) (omega (arith, c.well_formed.0)) (omega (arith, c.well_formed.0))
    (omega (arith, c.well_formed.0)) (omega (arith, c.well_formed.0)) (λ i. omega (arith, c.type_inv.runin i)) (λ i. omega (arith, c.type_inv.cycle i)) c.requires in
    omega (arith, room, length-append (figures a.a) (key_line runin_key (joined a.runin.now) ++ key_line loop_key (joined a.cycle.now)))

pub put_list_line-at-requires : goal.put_list_line-at-requires
unfolding text_of
put_list_line-at-requires c =
    let a = c.args in
    let room = text_room a.a a.runin.now a.cycle.now (length a.out.now) (omega (arith, c.well_formed.0)) (omega (arith, c.well_formed.0))
    (omega (arith, c.well_formed.0)) (omega (arith, c.well_formed.0)) (λ i. omega (arith, c.type_inv.runin i)) (λ i. omega (arith, c.type_inv.cycle i)) c.requires in
    second_room (figures a.a) (key_line runin_key (joined a.runin.now)) (key_line loop_key (joined a.cycle.now)) room c.put_figures-at.ensures

pub put_list_line-requires : goal.put_list_line-requires
unfolding text_of
put_list_line-requires c =
    let a = c.args in
    let room = text_room a.a a.runin.now a.cycle.now (length a.out.now) (omega (arith, c.well_formed.0)) (omega (arith, c.well_formed.0))
    (omega (arith, c.well_formed.0)) (omega (arith, c.well_formed.0)) (λ i. omega (arith, c.type_inv.runin i)) (λ i. omega (arith, c.type_inv.cycle i)) c.requires in
    third_room (figures a.a) (key_line runin_key (joined a.runin.now)) (key_line loop_key (joined a.cycle.now)) room
    c.put_figures-at.ensures c.put_list_line-at.ensures

pub returns : goal.returns
unfolding text_of
returns c =
    let a = c.args in
    let room = text_room a.a a.runin.now a.cycle.now (length a.out.now) (omega (arith, c.well_formed.0)) (omega (arith, c.well_formed.0))
    (omega (arith, c.well_formed.0)) (omega (arith, c.well_formed.0)) (λ i. omega (arith, c.type_inv.runin i)) (λ i. omega (arith, c.type_inv.cycle i)) c.requires in
    let front = wrote_front
    (wrote_three (figures a.a) (key_line runin_key (joined a.runin.now)) (key_line loop_key (joined a.cycle.now)) room
    c.put_figures-at.ensures c.put_list_line-at.ensures c.put_list_line.ensures) in
    record { value = front.0; out_after = front.1 }
