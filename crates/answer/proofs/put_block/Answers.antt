-- `put_block` meets its contract: the first twelve bytes, and both lengths behind them (`block_done`).
use Rattle.answer.proofs.Blocks.{block_done}
use Rattle.answer.proofs.put_block.Goals as goal

pub returns : goal.returns
returns c =
    block_done c.args.a c.requires
    (rw (c.from.ensures, c.from-2.ensures, c.from-3.ensures) at c.put_head.ensures)
    (rw c.from-4.ensures at c.put_little.ensures)
    (rw c.from-5.ensures at c.put_little-2.ensures)
