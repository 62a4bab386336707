-- `put_reply` meets its contract: the first twelve bytes of the block, the line, and both lengths behind it.
use Rattle.readback.proofs.Blocks.{block_done}
use Rattle.readback.proofs.put_reply.Goals as goal

pub returns : goal.returns
returns c =
    block_done c.args.reply _ _ c.record_of-x.result c.requires c.number_of.ensures c.line_of.ensures c.record_of-x.ensures
    (rw (c.from.ensures, c.from-2.ensures, c.from-3.ensures) at c.put_head.ensures)
    (rw c.from-4.ensures at c.put_little.ensures)
    c.put_little-2.ensures
    c.put_little-3.ensures
