-- The loops that read a block: what is read so far and what is still to be read make up the block.
--   labels_in, roads_in, moves_in, softs_in == a block that ends with a line
--   labels_start, label_more, ..            == the block that a loop starts from, and its definition's step
--   LabelsRead, RoadsRead, ..               == so many lines are read, and the last ends at a cursor
--   labels_begun, label_read, label_fault, labels_done, ..
--                                           == none at first; then one more; a fault ends it; then all are read
use mathlib.Core.Path.{◌≡◌, refl, ap, ◌∙◌}
use mathlib.Core.List.{List}
use Prim.Native.Nat.{ℕ, ◌+◌, ◌≤◌, ◌<◌}
use lib.ListN.{set, replicate}
use Rattle.std.specs.Prelude.{Ok, Err}
use Rattle.automata.specs.declared.Automaton.{Automaton}
use Rattle.automata.specs.declared.Move.{Move}
use Rattle.automata.specs.Automaton.{no_move}
use Rattle.automata.specs.WellFormed.{no_automaton}
use Rattle.plan.specs.declared.Road.{Road}
use Rattle.plan.specs.WellFormed.{no_road}
use Rattle.text.specs.Line.{Line, pair, one_from, line_of_one, numbers_of, first_of, top, told}
use Rattle.text.specs.declared.fault.Fault.{Fault}
use Rattle.text.specs.declared.line.Numbers.{Numbers}
use Rattle.text.specs.declared.line.Cursor.{Cursor}
use Rattle.reader.specs.Keys.{label_key, road_key, move_key}
use Rattle.reader.specs.Line.{road_from, road_line, move_from, move_line}
use Rattle.reader.specs.Blocks.{LabelBlock, RoadBlock, MoveBlock, SoftBlock, SoftBlocks, label_step, label_block, road_of, earlier, road_step, road_block, move_of, move_step, move_block, soft_block, soft_step, soft_blocks}
use Rattle.text.proofs.Lines.{Ended, told_fault}
use Rattle.reader.proofs.Filling.{rest, rest_start, Read, read_start, read_step, read_end, read_kept}
use Rattle.reader.proofs.Sticky.{faults, soft_keeps}

abbrev pub labels_in : Line → List ℕ → LabelBlock
labels_in l b = record { line = l; labels = b }

abbrev pub roads_in : Line → List Road → RoadBlock
roads_in l a = record { line = l; roads = a }

abbrev pub moves_in : Line → List Move → MoveBlock
moves_in l a = record { line = l; moves = a }

abbrev pub softs_in : Line → List Automaton → List ℕ → SoftBlocks
softs_in l a b = record { line = l; soft = a; weights = b }

module _ (s : List ℕ) (bound : ℕ) where
  pub labels_start : (l : Line) (n : ℕ) → label_block s l n bound ≡ rest n (label_step s bound) 0 (labels_in l (replicate 128 0))
  unfolding label_block
  labels_start l n = rest_start n (label_step s bound) _

  pub label_more : (i : ℕ) (l r : Line) (b : List ℕ) → line_of_one s l label_key 0 bound ≡ r
      → label_step s bound (record { next = i; block = labels_in l b }) ≡ record { next = i + 1; block = labels_in r (set b i (first_of r)) }
  label_more i l r b p = rw p

  pub roads_start : (l : Line) (n : ℕ) → road_block s l n bound ≡ rest n (road_step s bound) 0 (roads_in l (replicate 1024 no_road))
  unfolding road_block
  roads_start l n = rest_start n (road_step s bound) _

  pub road_more : (i : ℕ) (l r : Line) (a : List Road) → road_line s l road_key bound (earlier (roads_in l a) i) ≡ r
      → road_step s bound (record { next = i; block = roads_in l a }) ≡ record { next = i + 1; block = roads_in r (set a i (road_of (numbers_of r))) }
  road_more i l r a p = rw p

module _ (s : List ℕ) (states labels : ℕ) where
  pub moves_start : (l : Line) (n : ℕ) → move_block s l n states labels ≡ rest n (move_step s states labels) 0 (moves_in l (replicate 64 no_move))
  unfolding move_block
  moves_start l n = rest_start n (move_step s states labels) _

  pub move_more : (i : ℕ) (l r : Line) (a : List Move) → move_line s l move_key states labels ≡ r
      → move_step s states labels (record { next = i; block = moves_in l a }) ≡ record { next = i + 1; block = moves_in r (set a i (move_of (numbers_of r))) }
  move_more i l r a p = rw p

module _ (s : List ℕ) (labels : ℕ) where
  pub softs_start : (l : Line) (n : ℕ) (none : Automaton) → none ≡ no_automaton
      → soft_blocks s l n labels ≡ rest n (soft_step s labels) 0 (softs_in l (replicate 8 none) (replicate 8 0))
  unfolding soft_blocks
  softs_start l n none e = rw e (rest_start n (soft_step s labels) _)

  pub soft_more : (i : ℕ) (l : Line) (a : List Automaton) (b : List ℕ) (r : SoftBlock) → soft_block s l labels ≡ r
      → soft_step s labels (record { next = i; block = softs_in l a b })
      ≡ record { next = i + 1; block = softs_in r.line (set a i r.automaton) (set b i r.weight) }
  soft_more i l a b r p = rw p

-- the loops
module _ (s : List ℕ) (n bound : ℕ) (xs : Numbers) (c : Cursor) where
  abbrev pub LabelsRead : Cursor → List ℕ → ℕ → Type 0
  LabelsRead d labels i = Read n (label_step s bound) (label_block s (Ok (xs, c)) n bound) (λ l. labels_in l labels) d i

  pub labels_begun : LabelsRead c (replicate 128 0) 0
  labels_begun = read_start n (label_step s bound) _ (λ l. labels_in l (replicate 128 0)) xs c (labels_start s bound (Ok (xs, c)) n)

  module _ (d : Cursor) (labels : List ℕ) (i : ℕ) (r : LabelsRead d labels i) where
    pub label_read : i < n → (v : ℕ) (e : Cursor) → one_from s d.at label_key 0 bound ≡ Ok (pair v 0, e) → LabelsRead e (set labels i v) (i + 1)
    unfolding line_of_one
    label_read o v e p =
        read_step n (label_step s bound) _ (λ l. labels_in l labels) d i r o (λ l. labels_in l (set labels i v)) (pair v 0) e
        (label_more s bound i (Ok (r.numbers, d)) (Ok (pair v 0, e)) labels p)

    pub label_fault : i < n → (f : Fault) → one_from s d.at label_key 0 bound ≡ Err f
        → Err f ≡ told (label_block s (Ok (xs, c)) n bound).line (label_block s (Ok (xs, c)) n bound).labels
    unfolding line_of_one
    label_fault o f p =
        told_fault _ _ f
        (read_kept n (label_step s bound) _ (λ l. labels_in l labels) d i r o _ (label_more s bound i (Ok (r.numbers, d)) (Err f) labels p)
        (λ (b : LabelBlock). b.line ≡ Err f) (λ x. (faults s f).one x.block.line label_key 0 bound) refl)

    pub labels_done : n ≤ i → Ok (labels, d) ≡ told (label_block s (Ok (xs, c)) n bound).line (label_block s (Ok (xs, c)) n bound).labels
    labels_done o = rw (read_end n (label_step s bound) _ (λ l. labels_in l labels) d i r o)

module _ (s : List ℕ) (n bound : ℕ) (xs : Numbers) (c : Cursor) where
  abbrev pub RoadsRead : Cursor → List Road → ℕ → Type 0
  RoadsRead d roads i = Read n (road_step s bound) (road_block s (Ok (xs, c)) n bound) (λ l. roads_in l roads) d i

  pub roads_begun : RoadsRead c (replicate 1024 no_road) 0
  roads_begun = read_start n (road_step s bound) _ (λ l. roads_in l (replicate 1024 no_road)) xs c (roads_start s bound (Ok (xs, c)) n)

  module _ (d : Cursor) (roads : List Road) (i : ℕ) (r : RoadsRead d roads i) where
    pub road_read : i < n → (ys : Numbers) (e : Cursor) → road_from s d.at road_key bound (earlier (roads_in top roads) i) ≡ Ok (ys, e)
        → RoadsRead e (set roads i (road_of ys)) (i + 1)
    unfolding road_line
    road_read o ys e p =
        read_step n (road_step s bound) _ (λ l. roads_in l roads) d i r o (λ l. roads_in l (set roads i (road_of ys))) ys e
        (road_more s bound i (Ok (r.numbers, d)) (Ok (ys, e)) roads p)

    pub road_fault : i < n → (f : Fault) → road_from s d.at road_key bound (earlier (roads_in top roads) i) ≡ Err f
        → Err f ≡ told (road_block s (Ok (xs, c)) n bound).line (road_block s (Ok (xs, c)) n bound).roads
    unfolding road_line
    road_fault o f p =
        told_fault _ _ f
        (read_kept n (road_step s bound) _ (λ l. roads_in l roads) d i r o _ (road_more s bound i (Ok (r.numbers, d)) (Err f) roads p)
        (λ (b : RoadBlock). b.line ≡ Err f) (λ x. (faults s f).road x.block.line road_key bound (earlier x.block x.next)) refl)

    pub roads_done : n ≤ i → Ok (roads, d) ≡ told (road_block s (Ok (xs, c)) n bound).line (road_block s (Ok (xs, c)) n bound).roads
    roads_done o = rw (read_end n (road_step s bound) _ (λ l. roads_in l roads) d i r o)

module _ (s : List ℕ) (n states labels : ℕ) (xs : Numbers) (c : Cursor) where
  abbrev pub MovesRead : Cursor → List Move → ℕ → Type 0
  MovesRead d moves i = Read n (move_step s states labels) (move_block s (Ok (xs, c)) n states labels) (λ l. moves_in l moves) d i

  pub moves_begun : (none : Move) → none ≡ no_move → MovesRead c (replicate 64 none) 0
  moves_begun none h =
      rw h (read_start n (move_step s states labels) _ (λ l. moves_in l (replicate 64 no_move)) xs c (moves_start s states labels (Ok (xs, c)) n))

  module _ (d : Cursor) (moves : List Move) (i : ℕ) (r : MovesRead d moves i) where
    pub move_read : i < n → (ys : Numbers) (e : Cursor) → move_from s d.at move_key states labels ≡ Ok (ys, e)
        → MovesRead e (set moves i (move_of ys)) (i + 1)
    unfolding move_line
    move_read o ys e p =
        read_step n (move_step s states labels) _ (λ l. moves_in l moves) d i r o (λ l. moves_in l (set moves i (move_of ys))) ys e
        (move_more s states labels i (Ok (r.numbers, d)) (Ok (ys, e)) moves p)

    pub move_fault : i < n → (f : Fault) → move_from s d.at move_key states labels ≡ Err f
        → Err f ≡ told (move_block s (Ok (xs, c)) n states labels).line (move_block s (Ok (xs, c)) n states labels).moves
    unfolding move_line
    move_fault o f p =
        told_fault _ _ f
        (read_kept n (move_step s states labels) _ (λ l. moves_in l moves) d i r o _
        (move_more s states labels i (Ok (r.numbers, d)) (Err f) moves p)
        (λ (b : MoveBlock). b.line ≡ Err f) (λ x. (faults s f).move x.block.line move_key states labels) refl)

    pub moves_done : n ≤ i → Ok (moves, d) ≡ told (move_block s (Ok (xs, c)) n states labels).line (move_block s (Ok (xs, c)) n states labels).moves
    moves_done o = rw (read_end n (move_step s states labels) _ (λ l. moves_in l moves) d i r o)

module _ (s : List ℕ) (n labels : ℕ) (xs : Numbers) (c : Cursor) where
  abbrev pub SoftsRead : Cursor → List Automaton → List ℕ → ℕ → Type 0
  SoftsRead d soft weights i = Read n (soft_step s labels) (soft_blocks s (Ok (xs, c)) n labels) (λ l. softs_in l soft weights) d i

  pub softs_begun : (none : Automaton) → none ≡ no_automaton → SoftsRead c (replicate 8 none) (replicate 8 0) 0
  softs_begun none h =
      read_start n (soft_step s labels) _ (λ l. softs_in l (replicate 8 none) (replicate 8 0)) xs c (softs_start s labels (Ok (xs, c)) n none h)

  module _ (d : Cursor) (soft : List Automaton) (weights : List ℕ) (i : ℕ) (r : SoftsRead d soft weights i) where
    abbrev rule : SoftBlock
    rule = soft_block s (Ok (r.numbers, d)) labels

    pub soft_read : i < n → (a : Automaton) (w : ℕ) (e : Cursor) → Ended {T = Automaton × ℕ} rule.line (rule.automaton, rule.weight) (a, w) e
        → SoftsRead e (set soft i a) (set weights i w) (i + 1)
    soft_read o a w e p =
        read_step n (soft_step s labels) _ (λ l. softs_in l soft weights) d i r o (λ l. softs_in l (set soft i a) (set weights i w)) p.numbers e
        (soft_more s labels i (Ok (r.numbers, d)) soft weights rule refl ∙ rw (p.line, ap (λ p. p.0) p.same, ap (λ p. p.1) p.same))

    pub soft_fault : i < n → (f : Fault) → rule.line ≡ Err f
        → Err f
        ≡ told {T = List Automaton × List ℕ} (soft_blocks s (Ok (xs, c)) n labels).line
        ((soft_blocks s (Ok (xs, c)) n labels).soft, (soft_blocks s (Ok (xs, c)) n labels).weights)
    soft_fault o f p =
        told_fault _ _ f
        (read_kept n (soft_step s labels) _ (λ l. softs_in l soft weights) d i r o _ (soft_more s labels i (Ok (r.numbers, d)) soft weights rule refl)
        (λ (b : SoftBlocks). b.line ≡ Err f) (λ x. soft_keeps s (λ l. l ≡ Err f) (faults s f) x.block.line labels) p)

    pub softs_done : n ≤ i → Ok ((soft, weights), d)
        ≡ told {T = List Automaton × List ℕ} (soft_blocks s (Ok (xs, c)) n labels).line
        ((soft_blocks s (Ok (xs, c)) n labels).soft, (soft_blocks s (Ok (xs, c)) n labels).weights)
    softs_done o = rw (read_end n (soft_step s labels) _ (λ l. softs_in l soft weights) d i r o)
