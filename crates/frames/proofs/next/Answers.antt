-- What `next` took of the input is the head, which it read whole, and then what it put at the front of the buffer.
use Rattle.std.proofs.Common.{◌++◌, arith, rules, take, drop, ap, sym, ◌∙◌, subst, length-take-le, take_all}
use Rattle.std.specs.Io.KnownBytes.{Consumes}
use Rattle.std.proofs.KnownBytes.{Consumes-trans}
use lib.Seq.{take-append-le}
use Rattle.frames.proofs.next.Goals as goal

pub returns-clause-bytes : goal.returns-clause-bytes
returns-clause-bytes g c =
    let head = c.read_full-got.new.buffer in
    let part = c.read_full.new.buffer in
    let n = c.length_in-n.result in
    let k = c.read_full.result in
    let rest = drop n c.args.buffer.now in
    let whole = take_all c.read_full-got.result head (search rules) in
    let front = take-append-le k part rest c.read_full.ensures.front in
    let room = length-take-le n c.args.buffer.now (omega arith) in
    record {
      head = head;
      whole = search rules;
      long = omega (arith, c.read_full.ensures.front, c.read_full.auto.buffer, room, c.length_in-n.ensures);
      bytes = subst (Consumes _ _) (ap (λ l. l ++ take k part) whole ∙ ap (λ l. head ++ l) (sym front)) (Consumes-trans _ _ _ _ _ c.read_full-got.ensures.bytes c.read_full.ensures.bytes);
    }
