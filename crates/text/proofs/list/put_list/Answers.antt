-- `put_list` meets its contract: the loop keeps that the numbers written so far stand at the front, and where the next one is (`Put`).
use Rattle.text.proofs.Spelling.{put_start, put_next, put_there, put_end}
use Rattle.text.proofs.list.put_list.Goals as goal

pub loop-n-init : goal.loop-n-init
loop-n-init c = put_start _ _ _ c.requires.stands _ c.requires.count_in_bounds

pub returns-in_default : goal.returns-in_default
returns-in_default c =
    absurd (put_there _ _ _ _ _ _ _ c.loop-n.invariant c.loop-n-test.true _ c.ender.ensures _ c.number_at.ensures c.in_default.is)

pub loop-n-preserved : goal.loop-n-preserved
loop-n-preserved c =
    put_next _ _ _ _ _ _ _ c.loop-n.invariant c.loop-n-test.true _ c.ender.ensures _ c.number_at.ensures _ _ c.in-Some.is

pub returns : goal.returns
returns c = put_end _ _ _ _ _ _ _ c.loop-n.invariant c.loop-n-test.false
