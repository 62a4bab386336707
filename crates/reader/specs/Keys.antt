-- The keys of the lines of a plan file (01, "The plan file").
--   tour_key, marks_key, .. == the ASCII bytes of `tour=`, `marks=` and so on
use Rattle.std.specs.Prelude.{List, [], ◌∷◌, ℕ}

abbrev pub tour_key : List ℕ
tour_key = 116 ∷ 111 ∷ 117 ∷ 114 ∷ 61 ∷ []

abbrev pub marks_key : List ℕ
marks_key = 109 ∷ 97 ∷ 114 ∷ 107 ∷ 115 ∷ 61 ∷ []

abbrev pub places_key : List ℕ
places_key = 112 ∷ 108 ∷ 97 ∷ 99 ∷ 101 ∷ 115 ∷ 61 ∷ []

abbrev pub label_key : List ℕ
label_key = 108 ∷ 97 ∷ 98 ∷ 101 ∷ 108 ∷ 61 ∷ []

abbrev pub start_key : List ℕ
start_key = 115 ∷ 116 ∷ 97 ∷ 114 ∷ 116 ∷ 61 ∷ []

abbrev pub roads_key : List ℕ
roads_key = 114 ∷ 111 ∷ 97 ∷ 100 ∷ 115 ∷ 61 ∷ []

abbrev pub road_key : List ℕ
road_key = 114 ∷ 111 ∷ 97 ∷ 100 ∷ 61 ∷ []

abbrev pub hard_key : List ℕ
hard_key = 104 ∷ 97 ∷ 114 ∷ 100 ∷ 61 ∷ []

abbrev pub first_key : List ℕ
first_key = 102 ∷ 105 ∷ 114 ∷ 115 ∷ 116 ∷ 61 ∷ []

abbrev pub accept_key : List ℕ
accept_key = 97 ∷ 99 ∷ 99 ∷ 101 ∷ 112 ∷ 116 ∷ 61 ∷ []

abbrev pub moves_key : List ℕ
moves_key = 109 ∷ 111 ∷ 118 ∷ 101 ∷ 115 ∷ 61 ∷ []

abbrev pub move_key : List ℕ
move_key = 109 ∷ 111 ∷ 118 ∷ 101 ∷ 61 ∷ []

abbrev pub rules_key : List ℕ
rules_key = 114 ∷ 117 ∷ 108 ∷ 101 ∷ 115 ∷ 61 ∷ []

abbrev pub soft_key : List ℕ
soft_key = 115 ∷ 111 ∷ 102 ∷ 116 ∷ 61 ∷ []

abbrev pub weight_key : List ℕ
weight_key = 119 ∷ 101 ∷ 105 ∷ 103 ∷ 104 ∷ 116 ∷ 61 ∷ []
