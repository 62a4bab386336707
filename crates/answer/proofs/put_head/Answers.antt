-- `put_head` meets its contract: each call writes the next field, and the six together are the first twelve bytes (`head_done`).
use Rattle.answer.proofs.Blocks.{head_done}
use Rattle.answer.proofs.put_head.Goals as goal

pub returns : goal.returns
returns c =
    let a = c.args in
    head_done a.number a.kept a.third a.line a.cost c.requires
    (rw c.from.ensures at c.put_little.ensures)
    c.put_little-2.ensures
    c.put_little-3.ensures
    c.put_little-4.ensures
    c.put_little-5.ensures
    c.put_little-6.ensures
