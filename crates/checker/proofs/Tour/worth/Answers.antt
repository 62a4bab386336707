-- `worth` meets its contract: hard rule, kept byte and cost.
use Rattle.checker.proofs.Worths.{usable_hard}
use Rattle.checker.proofs.Tour.worth.Goals as goal

pub accepted_by-accepts-requires : goal.accepted_by-accepts-requires
accepted_by-accepts-requires c = let t = c.args.self.now in usable_hard t.plan t.well

pub returns : goal.returns
returns c =
    record {
      accepted = c.accepted_by-accepts.ensures.hard.holds;
      refused = c.accepted_by-accepts.ensures.hard.fails;
      kept = c.kept-kept.ensures;
      cost = c.cost_of-cost.ensures.0;
    }
