-- `put_byte` meets its contract: a store is one byte put over (`over_byte`).
use mathlib.Core.Path.{refl, sym}
use borrow.Author.Rules.{rules}
use Rattle.text.proofs.Overs.{over_byte}
use Rattle.text.proofs.write.put_byte.Goals as goal

pub returns : goal.returns
returns c =
    let a = c.args in
    record { place = refl; bytes = sym (over_byte a.out.now a.at a.byte (search rules)) }
