-- Blocks of lines (01, "The plan file"), each behind the line before it. What an array has room for beyond the lines that are read is 0.
--   LabelBlock, RoadBlock, ..       == the last line of a block, or the first fault, and what was made of its lines so far
--   repeat n f x                    == f, n times, from x on
--   Filling B                       == a block B in reading, with the index that the next line's numbers go to
--   label_step, road_step, move_step, soft_step == one line, or one soft rule, more
--   label_block s prior n bound      == n lines `label=L`, each L below bound
--   road_of xs, move_of xs          == the road, and the move, of the numbers of a line
--   on_line b xs i                   == the numbers xs stand on road line i of the block b
--   earlier b n xs                  == they stand on one of its first n road lines (02, note 6)
--   road_block s prior n bound       == n lines `road=A,B`, both below bound, of which none has the numbers of an earlier one
--   move_block s prior n q labels    == n move lines of an automaton of q states; need, bar and any are below labels
--   automaton_block s prior q labels == first, accept, moves=T and T move lines of an automaton of q states
--   hard_block s prior labels        == hard=Q and its automaton
--   weight_line s prior              == weight=W, 0 to 4,000,000 (02, note 5: a rule of weight 0 only watches)
--   soft_block s prior labels        == soft=Q, weight=W and its automaton
--   soft_blocks s prior n labels     == n soft rules
use Rattle.std.specs.Prelude.{Bool, ◌&&◌, List, ℕ, zero, suc, ◌+◌, ◌^◌, set, get_or, replicate, eqb}
use Rattle.base.specs.Below.{any_below}
use Rattle.automata.specs.Automaton.{no_move}
use Rattle.automata.specs.WellFormed.{no_automaton}
use Rattle.automata.specs.declared.Automaton.{Automaton}
use Rattle.automata.specs.declared.Move.{Move}
use Rattle.plan.specs.WellFormed.{no_road}
use Rattle.plan.specs.declared.Road.{Road}
use Rattle.reader.specs.Keys.{label_key, road_key, move_key, first_key, accept_key, moves_key, hard_key, soft_key, weight_key}
use Rattle.text.specs.Line.{Line, line_of_one, numbers_of, first_of}
use Rattle.reader.specs.Line.{road_line, move_line}
use Rattle.text.specs.declared.line.Numbers.{Numbers}

pub record LabelBlock : Type 0 where
  pub line : Line
  pub labels : List ℕ

pub record RoadBlock : Type 0 where
  pub line : Line
  pub roads : List Road

pub record MoveBlock : Type 0 where
  pub line : Line
  pub moves : List Move

pub record AutomatonBlock : Type 0 where
  pub line : Line
  pub automaton : Automaton

pub record SoftBlock : Type 0 where
  pub line : Line
  pub automaton : Automaton
  pub weight : ℕ

pub record SoftBlocks : Type 0 where
  pub line : Line
  pub soft : List Automaton
  pub weights : List ℕ

unfoldable pub repeat : {S : Type 0} → ℕ → (S → S) → S → S
repeat zero f x = x
repeat (suc n) f x = repeat n f (f x)

pub record Filling (B : Type 0) : Type 0 where
  pub next : ℕ
  pub block : B

abbrev pub label_step : List ℕ → ℕ → Filling LabelBlock → Filling LabelBlock
label_step s bound x =
    let l = line_of_one s x.block.line label_key 0 bound in
    record { next = x.next + 1; block = record { line = l; labels = set x.block.labels x.next (first_of l) } }

unfoldable pub label_block : List ℕ → Line → ℕ → ℕ → LabelBlock
label_block s prior n bound =
    (repeat n (label_step s bound) (record { next = 0; block = record { line = prior; labels = replicate 128 0 } })).block

abbrev pub road_of : Numbers → Road
road_of xs = record { from = xs.first; to = xs.second }

abbrev pub on_line : RoadBlock → Numbers → ℕ → Bool
on_line b xs i = eqb (get_or b.roads i no_road).from xs.first && eqb (get_or b.roads i no_road).to xs.second

abbrev pub earlier : RoadBlock → ℕ → Numbers → Bool
earlier b n xs = any_below n (on_line b xs)

abbrev pub road_step : List ℕ → ℕ → Filling RoadBlock → Filling RoadBlock
road_step s bound x =
    let l = road_line s x.block.line road_key bound (earlier x.block x.next) in
    record { next = x.next + 1; block = record { line = l; roads = set x.block.roads x.next (road_of (numbers_of l)) } }

unfoldable pub road_block : List ℕ → Line → ℕ → ℕ → RoadBlock
road_block s prior n bound =
    (repeat n (road_step s bound) (record { next = 0; block = record { line = prior; roads = replicate 1024 no_road } })).block

abbrev pub move_of : Numbers → Move
move_of xs = record { from = xs.first; need = xs.second; bar = xs.third; any = xs.fourth; to = xs.fifth }

abbrev pub move_step : List ℕ → ℕ → ℕ → Filling MoveBlock → Filling MoveBlock
move_step s q labels x =
    let l = move_line s x.block.line move_key q labels in
    record { next = x.next + 1; block = record { line = l; moves = set x.block.moves x.next (move_of (numbers_of l)) } }

unfoldable pub move_block : List ℕ → Line → ℕ → ℕ → ℕ → MoveBlock
move_block s prior n q labels =
    (repeat n (move_step s q labels) (record { next = 0; block = record { line = prior; moves = replicate 64 no_move } })).block

unfoldable pub automaton_block : List ℕ → Line → ℕ → ℕ → AutomatonBlock
automaton_block s prior q labels =
    let first = line_of_one s prior first_key 0 q in
    let accept = line_of_one s first accept_key 0 (2 ^ q) in
    let count = line_of_one s accept moves_key 0 65 in
    let x = move_block s count (first_of count) q labels in
    record {
      line = x.line;
      automaton = record {
        states = q;
        first = first_of first;
        accept = first_of accept;
        move_count = first_of count;
        moves = x.moves;
      };
    }

unfoldable pub hard_block : List ℕ → Line → ℕ → AutomatonBlock
hard_block s prior labels =
    let states = line_of_one s prior hard_key 1 17 in
    automaton_block s states (first_of states) labels

abbrev pub weight_line : List ℕ → Line → Line
weight_line s prior = line_of_one s prior weight_key 0 4000001

unfoldable pub soft_block : List ℕ → Line → ℕ → SoftBlock
soft_block s prior labels =
    let states = line_of_one s prior soft_key 1 9 in
    let weight = weight_line s states in
    let x = automaton_block s weight (first_of states) labels in
    record { line = x.line; automaton = x.automaton; weight = first_of weight }

abbrev pub soft_step : List ℕ → ℕ → Filling SoftBlocks → Filling SoftBlocks
soft_step s labels x =
    let b = soft_block s x.block.line labels in
    record {
      next = x.next + 1;
      block = record {
        line = b.line;
        soft = set x.block.soft x.next b.automaton;
        weights = set x.block.weights x.next b.weight;
      };
    }

unfoldable pub soft_blocks : List ℕ → Line → ℕ → ℕ → SoftBlocks
soft_blocks s prior n labels =
    (repeat n (soft_step s labels)
    (record { next = 0; block = record { line = prior; soft = replicate 8 no_automaton; weights = replicate 8 0 } })).block
