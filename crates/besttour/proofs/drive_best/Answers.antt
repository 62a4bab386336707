-- `drive_best` meets its contract. Without a component there is no tour (`none_told`); with one, the drive is asked for
-- what it needs (`drive_asks`), and what it writes is the tour that is planned (`tour_told`).
use native.Mathlib.Omega.{arith}
use Rattle.besttour.proofs.Steps.{none_told, mask_small, drive_asks, lengths_small, tour_told}
use Rattle.besttour.proofs.drive_best.Goals as goal

pub returns-in_default-clause-planned : goal.returns-in_default-clause-planned
returns-in_default-clause-planned c = none_told c.requires.target _ _ _ c.in_default.is c.refusal_answer.ensures

pub drive-lengths-requires : goal.drive-lengths-requires
drive-lengths-requires c = drive_asks c.requires.target c.in-Some.is c.requires.lists c.requires.room c.requires.rooms

pub tour_answer-requires : goal.tour_answer-requires
tour_answer-requires c =
    let T = c.requires.target in
    let l = lengths_small T c.in-Some.is c.drive-lengths.ensures.driven in
    (T.built.small.ok, omega (arith, c.kept_of.ensures, mask_small T c.in-Some.is), omega (arith, l.0, l.1), omega (arith, l.0, l.1))

pub returns-clause-planned : goal.returns-clause-planned
returns-clause-planned c = tour_told c.requires.target c.in-Some.is c.drive-lengths.ensures.driven _ (rw c.kept_of.ensures at c.tour_answer.ensures)
