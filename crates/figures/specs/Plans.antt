-- The plan files of the figures. Each is written as the blocks of lines that it is made of, since most are plan X of 01 with one
-- block changed.
--   map_x, roads_x, hard_x, soft_x == the blocks of plan X: from `tour` to `start`, the roads, the hard rule, the soft rules
--   soft4                      == the soft rules of case 4, without their count
--   again0, again1, never1     == the automata of 01's "again m" and "never m", from `first` on
--   plan_x                      == plan X
--   plan_n                      == the plan of case N
--   watched                    == plan 4 behind a rule that only watches whether mark 1 comes again and again
--   roads_of roads              == plan X with these lines in place of its roads
--   doubled_next, ..            == plans with a doubled road (02, note 6): the copy right behind it; with other roads between; of a road from a place
--                                 to itself; written twice out of range; with a fault of form behind it, and before it
--   parked_on_ice                == plan X with other roads, of which none leaves place 2 (02, note 7); its hard rule wants mark 1 for good, its soft
--                                 rules mark 0 at least once, and never mark 1
--   bridge                     == `plans/bridge.plan`: a plan where the heaviest rule can be kept, and is not worth it
use Prim.Native.String.{String, ◌++◌}

abbrev pub map_x : String
map_x = "tour=1\nmarks=2\nplaces=3\nlabel=0\nlabel=1\nlabel=2\nstart=0\n"

abbrev pub roads_x : String
roads_x = "roads=4\nroad=0,1\nroad=1,0\nroad=0,2\nroad=2,0\n"

abbrev pub hard_x : String
hard_x = "hard=1\nfirst=0\naccept=1\nmoves=1\nmove=0,0,0,0\n"

abbrev pub again0 : String
again0 = "first=0\naccept=2\nmoves=4\nmove=0,1,0,1\nmove=0,0,1,0\nmove=1,1,0,1\nmove=1,0,1,0\n"

abbrev pub again1 : String
again1 = "first=0\naccept=2\nmoves=4\nmove=0,2,0,1\nmove=0,0,2,0\nmove=1,2,0,1\nmove=1,0,2,0\n"

abbrev pub never1 : String
never1 = "first=0\naccept=1\nmoves=1\nmove=0,0,2,0\n"

abbrev pub soft_x : String
soft_x = "rules=2\nsoft=2\nweight=3\n" ++ again0 ++ "soft=1\nweight=2\n" ++ never1

abbrev pub plan_x : String
plan_x = map_x ++ roads_x ++ hard_x ++ soft_x

abbrev pub roads_of : String → String
roads_of roads = map_x ++ roads ++ hard_x ++ soft_x

abbrev pub plan2 : String
plan2 = roads_of "roads=2\nroad=0,2\nroad=2,0\n"

abbrev pub plan3 : String
plan3 = map_x ++ roads_x ++ "hard=2\n" ++ again1 ++ soft_x

abbrev pub soft4 : String
soft4 = "soft=1\nweight=4\n" ++ never1 ++ "soft=2\nweight=4\n" ++ again1

abbrev pub plan4 : String
plan4 = map_x ++ roads_x ++ hard_x ++ "rules=2\n" ++ soft4

abbrev pub watched : String
watched = map_x ++ roads_x ++ hard_x ++ "rules=3\nsoft=2\nweight=0\n" ++ again1 ++ soft4

abbrev pub plan5 : String
plan5 = map_x ++ roads_x ++ "hard=1\nfirst=0\naccept=0\nmoves=1\nmove=0,0,0,0\n" ++ soft_x

abbrev pub plan6 : String
plan6 = roads_of "roads=0\n"

abbrev pub plan7 : String
plan7 = map_x ++ roads_x ++ hard_x ++ "rules=2\nsoft=2\nweight=3\n" ++ again0 ++ "soft=1\nweight=2\nfirst=0\naccept=1\nmoves=0\n"

abbrev pub plan8 : String
plan8 =
    "tour=1\nmarks=1\nplaces=2\nlabel=1\nlabel=0\nstart=0\nroads=2\nroad=0,1\nroad=1,1\n" ++ hard_x
    ++ "rules=1\nsoft=2\nweight=1\nfirst=0\naccept=2\nmoves=2\nmove=0,1,0,1\nmove=1,0,0,1\n"

abbrev pub doubled_next : String
doubled_next = roads_of "roads=3\nroad=0,1\nroad=0,1\nroad=1,0\n"

abbrev pub doubled_later : String
doubled_later = roads_of "roads=5\nroad=0,1\nroad=1,0\nroad=0,2\nroad=2,0\nroad=0,1\n"

abbrev pub doubled_stay : String
doubled_stay = roads_of "roads=2\nroad=0,0\nroad=0,0\n"

abbrev pub doubled_far : String
doubled_far = roads_of "roads=2\nroad=0,3\nroad=0,3\n"

abbrev pub doubled_first : String
doubled_first = roads_of "roads=3\nroad=0,1\nroad=0,1\nroad=01,0\n"

abbrev pub doubled_behind : String
doubled_behind = roads_of "roads=3\nroad=0,1\nroad=01,0\nroad=0,1\n"

abbrev pub parked_on_ice : String
parked_on_ice =
    map_x ++ "roads=3\nroad=0,1\nroad=1,0\nroad=1,2\n"
    ++ "hard=2\nfirst=0\naccept=2\nmoves=3\nmove=0,0,0,0\nmove=0,2,0,1\nmove=1,2,0,1\n"
    ++ "rules=2\nsoft=2\nweight=3\nfirst=0\naccept=2\nmoves=3\nmove=0,1,0,1\nmove=0,0,1,0\nmove=1,0,0,1\n"
    ++ "soft=1\nweight=2\n" ++ never1

abbrev pub bridge : String
bridge =
    "tour=1\nmarks=4\nplaces=7\nlabel=0\nlabel=0\nlabel=4\nlabel=8\nlabel=0\nlabel=1\nlabel=0\nstart=0\n"
    ++ "roads=8\nroad=0,1\nroad=1,2\nroad=2,1\nroad=1,3\nroad=3,4\nroad=4,5\nroad=5,6\nroad=6,4\n" ++ hard_x ++ "rules=3\n"
    ++ "soft=2\nweight=3\nfirst=0\naccept=2\nmoves=4\nmove=0,4,0,1\nmove=0,0,4,0\nmove=1,4,0,1\nmove=1,0,4,0\n"
    ++ "soft=2\nweight=2\n" ++ again0
    ++ "soft=2\nweight=2\nfirst=0\naccept=2\nmoves=3\nmove=0,8,0,1\nmove=0,0,8,0\nmove=1,0,0,1\n"
