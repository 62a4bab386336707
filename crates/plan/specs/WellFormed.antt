-- What the plan file's ranges say of a plan (01, "The plan file").
--   soft p i     == the automaton of soft rule i + 1
--   weight p i   == its weight
--   no_road       == a road from place 0 to place 0: what stands where no road does
--   road p i     == road i
--   no_plan       == no places, no roads and no rules
--   WellFormed p == every number of p is in its range, the counts are within the arrays, and nothing stands beyond them
use Rattle.std.specs.Prelude.{◌≡◌, ℕ, ◌^◌, ◌≤◌, ◌<◌, get_or, replicate}
use Rattle.automata.specs.declared.Automaton.{Automaton}
use Rattle.automata.specs.WellFormed as automaton
use Rattle.automata.specs.WellFormed.{Below, ZeroFrom, no_automaton}
use Rattle.plan.specs.declared.Plan.{Plan}
use Rattle.plan.specs.declared.Road.{Road}

abbrev pub soft : Plan → ℕ → Automaton
soft p i = get_or p.soft i no_automaton

abbrev pub weight : Plan → ℕ → ℕ
weight p i = get_or p.weights i 0

abbrev pub no_road : Road
no_road = record { from = 0; to = 0 }

abbrev pub road : Plan → ℕ → Road
road p i = get_or p.roads i no_road

abbrev pub no_plan : Plan
no_plan = record {
  marks = 0;
  places = 0;
  start = 0;
  road_count = 0;
  rules = 0;
  labels = replicate 128 0;
  roads = replicate 1024 no_road;
  hard = no_automaton;
  soft = replicate 8 no_automaton;
  weights = replicate 8 0;
}

pub record WellFormed (p : Plan) : Type 0 where
  pub marks : p.marks ≤ 8
  pub some : 1 ≤ p.places
  pub few : p.places ≤ 128
  pub start : p.start < p.places
  pub roads : p.road_count ≤ 1024
  pub rules : p.rules ≤ 8
  pub labels : Below (2 ^ p.marks) p.labels
  pub from : (i : ℕ) → (road p i).from < p.places
  pub to : (i : ℕ) → (road p i).to < p.places
  pub hard : automaton.WellFormed 16 (2 ^ p.marks) p.hard
  pub softs : (i : ℕ) → i < p.rules → automaton.WellFormed 8 (2 ^ p.marks) (soft p i)
  pub heavy : (i : ℕ) → i < p.rules → weight p i ≤ 4000000
  pub rest_labels : ZeroFrom p.places p.labels
  pub rest_roads : (i : ℕ) → p.road_count ≤ i → road p i ≡ no_road
  pub rest_softs : (i : ℕ) → p.rules ≤ i → soft p i ≡ no_automaton
  pub rest_weights : ZeroFrom p.rules p.weights
