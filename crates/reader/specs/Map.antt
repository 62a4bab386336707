-- The lines of a plan file through the last road (01, "The plan file", the rows tour to road).
--   MapBlock  == the last of these lines, or the first fault, and the map that they make
--   map_of s  == what those lines come to
use Rattle.std.specs.Prelude.{List, ℕ, ◌^◌}
use Rattle.reader.specs.Keys.{tour_key, marks_key, places_key, start_key, roads_key}
use Rattle.text.specs.Line.{Line, line_of_one, first_of, top}
use Rattle.reader.specs.Blocks.{label_block, road_block}
use Rattle.reader.specs.declared.map.Map.{Map}

pub record MapBlock : Type 0 where
  pub line : Line
  pub map : Map

unfoldable pub map_of : List ℕ → MapBlock
map_of s =
    let tour = line_of_one s top tour_key 1 2 in
    let marks = line_of_one s tour marks_key 0 9 in
    let places = line_of_one s marks places_key 1 129 in
    let labels = label_block s places (first_of places) (2 ^ first_of marks) in
    let start = line_of_one s labels.line start_key 0 (first_of places) in
    let count = line_of_one s start roads_key 0 1025 in
    let roads = road_block s count (first_of count) (first_of places) in
    record {
      line = roads.line;
      map = record {
        marks = first_of marks;
        places = first_of places;
        start = first_of start;
        road_count = first_of count;
        labels = labels.labels;
        roads = roads.roads;
      };
    }
