-- `put_check` meets its contract: the first twelve bytes of the block, four zeros, and the index behind them.
use mathlib.Core.Path.{◌∙◌}
use Rattle.checker.proofs.Blocks.{flag_byte, block_done}
use Rattle.checker.proofs.put_check.Goals as goal

pub returns : goal.returns
returns c =
    block_done c.args.check _ _ c.worth_of-worth.result _ _ c.requires c.number_of.ensures c.line_of.ensures c.worth_of-worth.ensures
    (c.from.ensures ∙ flag_byte c.worth_of-worth.result.accepts) c.index_of.ensures
    c.put_head.ensures c.put_little.ensures c.put_little-2.ensures
