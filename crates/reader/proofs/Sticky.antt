-- What every line keeps of the line before it, every block keeps, by induction on its count, and the map and the whole file, from each of their
-- lines on (`tour_line_keeps`, ..): that there is a fault, which fault it is (`faults`), and that a fault's line is at least 1 and at most one
-- above the text's length (`draft_placed`).
use mathlib.Core.Path.{◌≡◌}
use mathlib.Core.Bool.{Bool, true, false, cond}
use mathlib.Core.List.{List}
use Prim.Native.Nat.{ℕ, ◌+◌, ◌^◌, ◌≤◌}
use lib.ListN.{length}
use lib.Dec.{ltb}
use Rattle.std.specs.Prelude.{Ok, Err}
use Rattle.text.specs.Scan.{line_at}
use Rattle.text.specs.Fault as fault
use Rattle.text.specs.Line.{line_of_one, first_of, top, finish, Line}
use Rattle.reader.specs.Line.{road_line, move_line}
use Rattle.reader.specs.Keys.{tour_key, marks_key, places_key, start_key, roads_key, first_key, accept_key, moves_key, hard_key, rules_key, soft_key, weight_key}
use Rattle.reader.specs.Blocks.{LabelBlock, RoadBlock, MoveBlock, SoftBlocks, Filling, label_step, label_block, road_step, road_block, move_step, move_block, automaton_block, hard_block, weight_line, soft_block, soft_step, soft_blocks}
use Rattle.reader.specs.Map.{map_of}
use Rattle.reader.specs.Reading.{draft_of}
use Rattle.text.specs.declared.fault.Fault.{Fault}
use Rattle.text.specs.declared.fault.Fault.TheVariants.{Form}
use Rattle.text.specs.declared.line.Numbers.{Numbers}
use Rattle.text.proofs.Newlines.{line_least, line_most}
use Rattle.text.proofs.Lines.{before, here, Led, one_led}
use Rattle.reader.proofs.Lines.{road_led, move_led}
use Rattle.reader.proofs.Filling.{repeat_keeps}

-- P is kept by a line of every kind
pub record Sticky (s : List ℕ) (P : Line → Type 0) : Type 0 where
  pub one : (l : Line) (key : List ℕ) (low bound : ℕ) → P l → P (line_of_one s l key low bound)
  pub road : (l : Line) (key : List ℕ) (bound : ℕ) (again : Numbers → Bool) → P l → P (road_line s l key bound again)
  pub move : (l : Line) (key : List ℕ) (q labels : ℕ) → P l → P (move_line s l key q labels)

-- the lines of a plan file between its blocks, and the last lines of these
module _ (s : List ℕ) where
  abbrev pub tour_line : Line
  tour_line = line_of_one s top tour_key 1 2

  abbrev pub marks_line : Line
  marks_line = line_of_one s tour_line marks_key 0 9

  abbrev pub places_line : Line
  places_line = line_of_one s marks_line places_key 1 129

  abbrev pub labels_line : Line
  labels_line = (label_block s places_line (first_of places_line) (2 ^ first_of marks_line)).line

  abbrev pub start_line : Line
  start_line = line_of_one s labels_line start_key 0 (first_of places_line)

  abbrev pub roads_line : Line
  roads_line = line_of_one s start_line roads_key 0 1025

  abbrev pub bound : ℕ
  bound = 2 ^ (map_of s).map.marks

  abbrev pub hard_end : Line
  hard_end = (hard_block s (map_of s).line bound).line

  abbrev pub rules_line : Line
  rules_line = line_of_one s hard_end rules_key 0 9

  abbrev pub softs_end : Line
  softs_end = (soft_blocks s rules_line (first_of rules_line) bound).line

module _ (s : List ℕ) (P : Line → Type 0) (k : Sticky s P) where
  pub labels_keep : (l : Line) (n bound : ℕ) → P l → P (label_block s l n bound).line
  unfolding label_block
  labels_keep l n bound = repeat_keeps (λ (x : Filling LabelBlock). P x.block.line) (label_step s bound) (λ x. k.one x.block.line _ 0 bound) n _

  pub roads_keep : (l : Line) (n bound : ℕ) → P l → P (road_block s l n bound).line
  unfolding road_block
  roads_keep l n bound = repeat_keeps (λ (x : Filling RoadBlock). P x.block.line) (road_step s bound) (λ x. k.road x.block.line _ bound _) n _

  pub moves_keep : (l : Line) (n q labels : ℕ) → P l → P (move_block s l n q labels).line
  unfolding move_block
  moves_keep l n q labels = repeat_keeps (λ (x : Filling MoveBlock). P x.block.line) (move_step s q labels) (λ x. k.move x.block.line _ q labels) n _

  -- an automaton, from each of its lines on
  module _ (l : Line) (q labels : ℕ) where
    abbrev first_line : Line
    first_line = line_of_one s l first_key 0 q

    abbrev accept_line : Line
    accept_line = line_of_one s first_line accept_key 0 (2 ^ q)

    abbrev moves_line : Line
    moves_line = line_of_one s accept_line moves_key 0 65

    pub moves_line_keeps : P moves_line → P (automaton_block s l q labels).line
    unfolding automaton_block
    moves_line_keeps p = moves_keep moves_line (first_of moves_line) q labels p

    pub accept_line_keeps : P accept_line → P (automaton_block s l q labels).line
    accept_line_keeps p = moves_line_keeps (k.one accept_line moves_key 0 65 p)

    pub first_line_keeps : P first_line → P (automaton_block s l q labels).line
    first_line_keeps p = accept_line_keeps (k.one first_line accept_key 0 (2 ^ q) p)

    pub automaton_keeps : P l → P (automaton_block s l q labels).line
    automaton_keeps p = first_line_keeps (k.one l first_key 0 q p)

  pub hard_line_keeps : (l : Line) (labels : ℕ) → P (line_of_one s l hard_key 1 17) → P (hard_block s l labels).line
  unfolding hard_block
  hard_line_keeps l labels p = automaton_keeps (line_of_one s l hard_key 1 17) _ labels p

  pub hard_keeps : (l : Line) (labels : ℕ) → P l → P (hard_block s l labels).line
  hard_keeps l labels p = hard_line_keeps l labels (k.one l hard_key 1 17 p)

  pub weight_line_keeps : (l : Line) (labels : ℕ) → P (weight_line s (line_of_one s l soft_key 1 9)) → P (soft_block s l labels).line
  unfolding soft_block
  weight_line_keeps l labels p = automaton_keeps (weight_line s (line_of_one s l soft_key 1 9)) _ labels p

  pub soft_line_keeps : (l : Line) (labels : ℕ) → P (line_of_one s l soft_key 1 9) → P (soft_block s l labels).line
  soft_line_keeps l labels p = weight_line_keeps l labels (k.one (line_of_one s l soft_key 1 9) weight_key _ _ p)

  pub soft_keeps : (l : Line) (labels : ℕ) → P l → P (soft_block s l labels).line
  soft_keeps l labels p = soft_line_keeps l labels (k.one l soft_key 1 9 p)

  pub softs_keep : (l : Line) (n labels : ℕ) → P l → P (soft_blocks s l n labels).line
  unfolding soft_blocks
  softs_keep l n labels = repeat_keeps (λ (x : Filling SoftBlocks). P x.block.line) (soft_step s labels) (λ x. soft_keeps x.block.line labels) n _

  -- the map, from each of its lines on
  pub roads_line_keeps : P (roads_line s) → P (map_of s).line
  unfolding map_of
  roads_line_keeps p = roads_keep (roads_line s) (first_of (roads_line s)) (first_of (places_line s)) p

  pub start_line_keeps : P (start_line s) → P (map_of s).line
  start_line_keeps p = roads_line_keeps (k.one (start_line s) roads_key 0 1025 p)

  pub labels_line_keeps : P (labels_line s) → P (map_of s).line
  labels_line_keeps p = start_line_keeps (k.one (labels_line s) start_key 0 (first_of (places_line s)) p)

  pub places_line_keeps : P (places_line s) → P (map_of s).line
  places_line_keeps p = labels_line_keeps (labels_keep (places_line s) (first_of (places_line s)) (2 ^ first_of (marks_line s)) p)

  pub marks_line_keeps : P (marks_line s) → P (map_of s).line
  marks_line_keeps p = places_line_keeps (k.one (marks_line s) places_key 1 129 p)

  pub tour_line_keeps : P (tour_line s) → P (map_of s).line
  tour_line_keeps p = marks_line_keeps (k.one (tour_line s) marks_key 0 9 p)

  -- the whole file, from the map on
  module _ (ends : (l : Line) → P l → P (finish s l)) where
    pub softs_end_keeps : P (softs_end s) → P (draft_of s).line
    unfolding draft_of
    softs_end_keeps p = ends (softs_end s) p

    pub rules_line_keeps : P (rules_line s) → P (draft_of s).line
    rules_line_keeps p = softs_end_keeps (softs_keep (rules_line s) (first_of (rules_line s)) (bound s) p)

    pub hard_end_keeps : P (hard_end s) → P (draft_of s).line
    hard_end_keeps p = rules_line_keeps (k.one (hard_end s) rules_key 0 9 p)

    pub map_keeps : P (map_of s).line → P (draft_of s).line
    map_keeps p = hard_end_keeps (hard_keeps (map_of s).line (bound s) p)

-- a fault stays the same
pub faults : (s : List ℕ) (f : Fault) → Sticky s (λ l. l ≡ Err f)
unfolding line_of_one road_line move_line
faults s f = record { one = λ l key low bound e. rw e; road = λ l key bound again e. rw e; move = λ l key q labels e. rw e }

pub finish_fault : (s : List ℕ) (f : Fault) (l : Line) → l ≡ Err f → finish s l ≡ Err f
unfolding finish
finish_fault s f l e = rw e

-- a fault, where there is one, is of a line of s, or of the line behind them
abbrev pub Placed : List ℕ → Line → Type 0
Placed s (Ok (xs, c)) = Unit {0}
Placed s (Err f) = (1 ≤ fault.line_of f) × (fault.line_of f ≤ length s + 1)

module _ (s : List ℕ) where
  led_placed : (Q : Numbers → Type 0) (l r : Line) → Led s Q l r → Placed s l → Placed s r
  led_placed Q l (Ok (xs, c)) g p = tt
  led_placed Q l (Err f) (before e) p = rw e at p
  led_placed Q l (Err f) (here at e) p = rw e (line_least s at, line_most s at)

  placed : Sticky s (Placed s)
  placed = record {
    one = λ l key low bound. led_placed _ l (line_of_one s l key low bound) (one_led s l key low bound);
    road = λ l key bound again. led_placed _ l (road_line s l key bound again) (road_led s l key bound again);
    move = λ l key q labels. led_placed _ l (move_line s l key q labels) (move_led s l key q labels);
  }

  finish_placed : (l : Line) → Placed s l → Placed s (finish s l)
  unfolding finish
  finish_placed (Err f) p = p
  finish_placed (Ok (xs, c)) p = by_test (ltb c.at (length s))
    where
      by_test : (t : Bool) → Placed s (cond t (Err (Form (line_at s c.at))) (Ok (xs, c)))
      by_test true = (line_least s c.at, line_most s c.at)
      by_test false = tt

  pub draft_placed : Placed s (draft_of s).line
  draft_placed =
      map_keeps s (Placed s) placed finish_placed (tour_line_keeps s (Placed s) placed (placed.one top tour_key 1 2 tt))
