-- The cases of 01's "Figures to check against" that are marked P, one of its "Wrong readings to shut out", and some of our own for 02's notes 5 to
-- 7, as entries of one list.
-- What stands behind a claim's numbers is why it holds: the nodes that the start reaches, part by part, and a route.
--   case_n, case10_short         == the cases; case 9 is three figures, one for each step; case 6 is that of 02, note 7
--   case6_parked                == and its tour is place 0 again and again
--   heaviest_lost, heaviest_dear == "taking rules one by one from the heaviest": the rule of weight 3 could be kept, at a cost of 4 or
--                                 more, but the answer keeps the two of weight 2 and costs 3
--   watch_decides, watch_tied    == case 4 keeps the first of two rules that exclude each other, at equal weights; a rule of weight 0 in front of
--                                 them, which watches for what the second wants, turns it. The other set is to be had at the same cost,
--                                 and this rule is the first on which the two differ
--   doubled                    == a doubled road is refusal 10 with the line of the later copy, behind form and range of that line; the first faulty
--                                 line decides. Both ways of one road are no fault: plan X has them
--   must_park                   == a tour that the hard rule accepts has to drive to a place without a road out, and park there
--   figures                    == the list
use Rattle.std.specs.Prelude.{List, [], ◌∷◌, ℕ}
use Rattle.figures.specs.Plans.{plan_x, plan2, plan3, plan4, plan5, plan6, plan7, plan8, watched, parked_on_ice, bridge}
use Rattle.figures.specs.Plans.{doubled_next, doubled_later, doubled_stay, doubled_far, doubled_first, doubled_behind}
use Rattle.figures.specs.Claim.{at_least, exactly, tour, refusal}
use Rattle.figures.specs.Figure.{Route, Reason, best, none, short, Figure, answers, turned, repeats, dear, tied, served}

abbrev pub route : List ℕ → ℕ → List ℕ → Route
route stem home cycle = record { stem = stem; home = home; cycle = cycle }

abbrev pub parts_x : List (List ℕ)
parts_x = (0 ∷ []) ∷ (1 ∷ 6 ∷ []) ∷ (12 ∷ []) ∷ (3 ∷ 4 ∷ 9 ∷ 15 ∷ []) ∷ []

abbrev pub best_x : Reason
best_x = best parts_x (route (0 ∷ []) 6 (6 ∷ 1 ∷ []))

abbrev pub case1 : Figure
case1 = answers plan_x 18 (at_least 18 72) (tour 0 3 2) best_x

abbrev pub case2 : Figure
case2 = answers plan2 18 (at_least 18 72) (tour 5 0 0) (best ((0 ∷ []) ∷ (12 ∷ []) ∷ (3 ∷ 15 ∷ []) ∷ []) (route (0 ∷ 12 ∷ []) 3 (3 ∷ 15 ∷ [])))

abbrev pub case3 : Figure
case3 =
    answers plan3 36 (at_least 36 144) (tour 2 1 1)
    (best ((0 ∷ []) ∷ (1 ∷ 12 ∷ []) ∷ (24 ∷ []) ∷ (4 ∷ 9 ∷ 15 ∷ 27 ∷ []) ∷ []) (route (0 ∷ 24 ∷ []) 9 (9 ∷ 15 ∷ 4 ∷ 27 ∷ [])))

abbrev pub case4 : Figure
case4 = answers plan4 18 (at_least 18 72) (tour 4 1 1) (best ((0 ∷ 6 ∷ []) ∷ (12 ∷ []) ∷ (1 ∷ 3 ∷ 7 ∷ 13 ∷ []) ∷ []) (route [] 0 (0 ∷ 6 ∷ [])))

abbrev pub case5 : Figure
case5 = answers plan5 18 (at_least 18 72) (refusal 6) (none parts_x)

abbrev pub case6 : Figure
case6 = answers plan6 18 (at_least 18 72) (tour 3 2 1) (best ((0 ∷ []) ∷ []) (route [] 0 (0 ∷ [])))

abbrev pub case6_parked : Figure
case6_parked = repeats plan6 0

abbrev pub case7 : Figure
case7 = answers plan7 18 (at_least 18 72) (tour 2 1 1) (best ((0 ∷ []) ∷ (3 ∷ 4 ∷ 9 ∷ 15 ∷ []) ∷ []) (route (0 ∷ []) 9 (9 ∷ 4 ∷ [])))

abbrev pub case8 : Figure
case8 = answers plan8 6 (at_least 6 18) (tour 0 1 1) (best ((0 ∷ []) ∷ (4 ∷ []) ∷ []) (route (0 ∷ []) 4 (4 ∷ [])))

abbrev pub case9 : ℕ → List ℕ → Figure
case9 t part = served (5 ∷ 6 ∷ []) (7 ∷ 8 ∷ 9 ∷ []) t part

abbrev pub case10 : Figure
case10 = answers plan_x 18 (exactly 18 72) (tour 0 3 2) best_x

abbrev pub case10_short : Figure
case10_short = answers plan_x 18 (exactly 18 71) (refusal 5) short

abbrev pub parts_bridge : List (List ℕ)
parts_bridge = (0 ∷ []) ∷ (27 ∷ []) ∷ (28 ∷ 54 ∷ []) ∷ (81 ∷ []) ∷ (117 ∷ 144 ∷ 174 ∷ []) ∷ []

abbrev pub heaviest_lost : Figure
heaviest_lost = answers bridge 189 (at_least 189 945) (tour 3 6 2) (best parts_bridge (route (0 ∷ 27 ∷ 81 ∷ []) 117 (117 ∷ 144 ∷ 174 ∷ [])))

abbrev pub heaviest_dear : Figure
heaviest_dear = dear bridge 0 4 1 parts_bridge (route (0 ∷ 27 ∷ []) 54 (54 ∷ 28 ∷ []))

abbrev pub watch_decides : Figure
watch_decides =
    answers watched 54 (at_least 54 270) (tour 4 5 2)
    (best ((0 ∷ 18 ∷ []) ∷ (36 ∷ []) ∷ (3 ∷ 10 ∷ 21 ∷ 39 ∷ []) ∷ []) (route (0 ∷ 36 ∷ []) 10 (10 ∷ 39 ∷ [])))

abbrev pub watch_tied : Figure
watch_tied = tied watched 0 5 2 (route [] 0 (0 ∷ 18 ∷ []))

abbrev pub must_park : Figure
must_park =
    answers parked_on_ice 36 (at_least 36 144) (tour 2 1 1)
    (best ((0 ∷ []) ∷ (12 ∷ []) ∷ (1 ∷ 13 ∷ []) ∷ (25 ∷ []) ∷ (28 ∷ []) ∷ (34 ∷ []) ∷ []) (route (0 ∷ 12 ∷ 25 ∷ []) 34 (34 ∷ [])))

abbrev pub doubled : List Figure
doubled =
    turned doubled_next 10 10 ∷ turned doubled_later 10 13 ∷ turned doubled_stay 10 10 ∷ turned doubled_far 3 9 ∷ turned doubled_first 10 10
    ∷ turned doubled_behind 2 10 ∷ []

abbrev pub figures : List Figure
figures =
    case1 ∷ case2 ∷ case3 ∷ case4 ∷ case5 ∷ case6 ∷ case6_parked ∷ case7 ∷ case8 ∷ case9 1 (6 ∷ []) ∷ case9 2 (7 ∷ 8 ∷ 9 ∷ []) ∷ case9 6 (8 ∷ 9 ∷ [])
    ∷ case10 ∷ case10_short ∷ heaviest_lost ∷ heaviest_dear ∷ watch_decides ∷ watch_tied ∷ must_park ∷ doubled
