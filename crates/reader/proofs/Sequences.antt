-- Straight sequences of lines, as the code reads them: each line is read from where the line before it ends. The premises are what the calls
-- tell, in order; where one of them tells a fault, all of it comes to that fault (`.._fault`), else to what the code puts together (`.._made`).
use mathlib.Core.Path.{◌≡◌, refl, ap, ◌∙◌}
use mathlib.Core.Bool.{Bool, true, false, cond}
use mathlib.Core.List.{List}
use Prim.Native.Nat.{ℕ, ◌^◌}
use native.Mathlib.Omega.{arith}
use lib.Dec.{ltb}
use lib.ListN.{length}
use Rattle.std.specs.Prelude.{Result, Ok, Err, ⊤}
use Rattle.automata.specs.declared.Automaton.{Automaton}
use Rattle.automata.specs.declared.Move.{Move}
use Rattle.plan.specs.declared.Plan.{Plan}
use Rattle.plan.specs.declared.Road.{Road}
use Rattle.text.specs.Line.{Line, pair, bad_form, one_from, line_of_one, first_of, finish, told, ended, made}
use Rattle.text.specs.declared.fault.Fault.{Fault}
use Rattle.text.specs.declared.line.Numbers.{Numbers}
use Rattle.text.specs.declared.line.Cursor.{Cursor}
use Rattle.reader.specs.Keys.{tour_key, marks_key, places_key, start_key, roads_key, first_key, accept_key, moves_key, hard_key, rules_key, soft_key, weight_key}
use Rattle.reader.specs.Blocks.{LabelBlock, RoadBlock, AutomatonBlock, SoftBlocks, label_block, road_block, move_block, automaton_block, hard_block, soft_block, soft_blocks}
use Rattle.reader.specs.Map.{map_of}
use Rattle.reader.specs.Reading.{draft_of, lines_read}
use Rattle.reader.specs.declared.map.Map.{Map}
use Rattle.text.proofs.Lines.{Ended, told_fault}
use Rattle.reader.proofs.Sticky.{faults, finish_fault, first_line_keeps, accept_line_keeps, moves_line_keeps, hard_line_keeps, soft_line_keeps, weight_line_keeps, marks_line, places_line, labels_line, start_line, roads_line, tour_line_keeps, marks_line_keeps, places_line_keeps, labels_line_keeps, start_line_keeps, roads_line_keeps, hard_end, rules_line, map_keeps, hard_end_keeps, rules_line_keeps, softs_end_keeps}

-- a line behind one that ends at c
pub next_is : (s : List ℕ) (l : Line) (key : List ℕ) (low bound : ℕ) (xs : Numbers) (c : Cursor) → l ≡ Ok (xs, c)
    → line_of_one s l key low bound ≡ one_from s c.at key low bound
unfolding line_of_one
next_is s l key low bound xs c e = rw e

-- an automaton of q states, behind a line that ends at c
module _ (s : List ℕ) (xs : Numbers) (c : Cursor) (q labels : ℕ) where
  pub first_fault : (f : Fault) → one_from s c.at first_key 0 q ≡ Err f
      → Err f ≡ told (automaton_block s (Ok (xs, c)) q labels).line (automaton_block s (Ok (xs, c)) q labels).automaton
  unfolding line_of_one
  first_fault f e = told_fault _ _ f (first_line_keeps s (λ l. l ≡ Err f) (faults s f) (Ok (xs, c)) q labels e)

  module _ (first : ℕ) (c1 : Cursor) (e1 : one_from s c.at first_key 0 q ≡ Ok (pair first 0, c1)) where
    pub accept_fault : (f : Fault) → one_from s c1.at accept_key 0 (2 ^ q) ≡ Err f
        → Err f ≡ told (automaton_block s (Ok (xs, c)) q labels).line (automaton_block s (Ok (xs, c)) q labels).automaton
    unfolding line_of_one
    accept_fault f e = told_fault _ _ f (accept_line_keeps s (λ l. l ≡ Err f) (faults s f) (Ok (xs, c)) q labels (rw e1 e))

    module _ (accept : ℕ) (c2 : Cursor) (e2 : one_from s c1.at accept_key 0 (2 ^ q) ≡ Ok (pair accept 0, c2)) where
      pub count_fault : (f : Fault) → one_from s c2.at moves_key 0 65 ≡ Err f
          → Err f ≡ told (automaton_block s (Ok (xs, c)) q labels).line (automaton_block s (Ok (xs, c)) q labels).automaton
      unfolding line_of_one
      count_fault f e = told_fault _ _ f (moves_line_keeps s (λ l. l ≡ Err f) (faults s f) (Ok (xs, c)) q labels (rw (e1, e2) e))

      module _ (n : ℕ) (c3 : Cursor) (e3 : one_from s c2.at moves_key 0 65 ≡ Ok (pair n 0, c3)) where
        pub moves_fault : (f : Fault) → (move_block s (Ok (pair n 0, c3)) n q labels).line ≡ Err f
            → Err f ≡ told (automaton_block s (Ok (xs, c)) q labels).line (automaton_block s (Ok (xs, c)) q labels).automaton
        unfolding line_of_one automaton_block
        moves_fault f e = told_fault _ _ f (rw (e1, e2, e3) e)

        pub automaton_made : (moves : List Move) (c4 : Cursor)
            → Ended (move_block s (Ok (pair n 0, c3)) n q labels).line (move_block s (Ok (pair n 0, c3)) n q labels).moves moves c4
            → Ok (record { states = q; first = first; accept = accept; move_count = n; moves = moves }, c4)
            ≡ told (automaton_block s (Ok (xs, c)) q labels).line (automaton_block s (Ok (xs, c)) q labels).automaton
        unfolding line_of_one automaton_block
        automaton_made moves c4 e = rw (e1, e2, e3, e.line, e.same)

-- the hard rule
module _ (s : List ℕ) (xs : Numbers) (c : Cursor) (labels : ℕ) where
  pub hard_fault : (f : Fault) → one_from s c.at hard_key 1 17 ≡ Err f
      → Err f ≡ told (hard_block s (Ok (xs, c)) labels).line (hard_block s (Ok (xs, c)) labels).automaton
  unfolding line_of_one
  hard_fault f e = told_fault _ _ f (hard_line_keeps s (λ l. l ≡ Err f) (faults s f) (Ok (xs, c)) labels e)

  pub hard_made : (q : ℕ) (c1 : Cursor) → one_from s c.at hard_key 1 17 ≡ Ok (pair q 0, c1)
      → told (automaton_block s (Ok (pair q 0, c1)) q labels).line (automaton_block s (Ok (pair q 0, c1)) q labels).automaton
      ≡ told (hard_block s (Ok (xs, c)) labels).line (hard_block s (Ok (xs, c)) labels).automaton
  unfolding line_of_one hard_block
  hard_made q c1 e = rw e

-- a soft rule
module _ (s : List ℕ) (xs : Numbers) (c : Cursor) (labels : ℕ) where
  pub soft_fault : (f : Fault) → one_from s c.at soft_key 1 9 ≡ Err f
      → Err f ≡ told {T = Automaton × ℕ} (soft_block s (Ok (xs, c)) labels).line ((soft_block s (Ok (xs, c)) labels).automaton, (soft_block s (Ok (xs, c)) labels).weight)
  unfolding line_of_one
  soft_fault f e = told_fault _ _ f (soft_line_keeps s (λ l. l ≡ Err f) (faults s f) (Ok (xs, c)) labels e)

  module _ (q : ℕ) (c1 : Cursor) (e1 : one_from s c.at soft_key 1 9 ≡ Ok (pair q 0, c1)) where
    pub weight_fault : (f : Fault) → one_from s c1.at weight_key 0 4000001 ≡ Err f
        → Err f ≡ told {T = Automaton × ℕ} (soft_block s (Ok (xs, c)) labels).line ((soft_block s (Ok (xs, c)) labels).automaton, (soft_block s (Ok (xs, c)) labels).weight)
    unfolding line_of_one
    weight_fault f e = told_fault _ _ f (weight_line_keeps s (λ l. l ≡ Err f) (faults s f) (Ok (xs, c)) labels (rw e1 e))

    module _ (weight : ℕ) (c2 : Cursor) (e2 : one_from s c1.at weight_key 0 4000001 ≡ Ok (pair weight 0, c2)) where
      pub rule_fault : (f : Fault) → (automaton_block s (Ok (pair weight 0, c2)) q labels).line ≡ Err f
          → Err f ≡ told {T = Automaton × ℕ} (soft_block s (Ok (xs, c)) labels).line ((soft_block s (Ok (xs, c)) labels).automaton, (soft_block s (Ok (xs, c)) labels).weight)
      unfolding line_of_one soft_block
      rule_fault f e = told_fault _ _ f (rw (e1, e2) e)

      pub soft_made : (a : Automaton) (c3 : Cursor)
          → Ended (automaton_block s (Ok (pair weight 0, c2)) q labels).line (automaton_block s (Ok (pair weight 0, c2)) q labels).automaton a c3
          → Ok ((a, weight), c3)
          ≡ told {T = Automaton × ℕ} (soft_block s (Ok (xs, c)) labels).line ((soft_block s (Ok (xs, c)) labels).automaton, (soft_block s (Ok (xs, c)) labels).weight)
      unfolding line_of_one soft_block
      soft_made a c3 e = rw (e1, e2, e.line, e.same)

-- the map
module _ (s : List ℕ) where
  pub tour_fault : (f : Fault) → one_from s 0 tour_key 1 2 ≡ Err f → Err f ≡ told (map_of s).line (map_of s).map
  unfolding line_of_one
  tour_fault f e = told_fault _ _ f (tour_line_keeps s (λ l. l ≡ Err f) (faults s f) e)

  module _ (t : ℕ) (c1 : Cursor) (e1 : one_from s 0 tour_key 1 2 ≡ Ok (pair t 0, c1)) where
    marks_from : marks_line s ≡ one_from s c1.at marks_key 0 9
    unfolding line_of_one
    marks_from = rw e1

    pub marks_fault : (f : Fault) → one_from s c1.at marks_key 0 9 ≡ Err f → Err f ≡ told (map_of s).line (map_of s).map
    marks_fault f e = told_fault _ _ f (marks_line_keeps s (λ l. l ≡ Err f) (faults s f) (marks_from ∙ e))

    module _ (m : ℕ) (c2 : Cursor) (e2 : one_from s c1.at marks_key 0 9 ≡ Ok (pair m 0, c2)) where
      places_from : places_line s ≡ one_from s c2.at places_key 1 129
      places_from = next_is s (marks_line s) places_key 1 129 _ c2 (marks_from ∙ e2)

      pub places_fault : (f : Fault) → one_from s c2.at places_key 1 129 ≡ Err f → Err f ≡ told (map_of s).line (map_of s).map
      places_fault f e = told_fault _ _ f (places_line_keeps s (λ l. l ≡ Err f) (faults s f) (places_from ∙ e))

      module _ (p : ℕ) (c3 : Cursor) (e3 : one_from s c2.at places_key 1 129 ≡ Ok (pair p 0, c3)) where
        abbrev labels_read : LabelBlock
        labels_read = label_block s (Ok (pair p 0, c3)) p (2 ^ m)

        labels_from : label_block s (places_line s) (first_of (places_line s)) (2 ^ first_of (marks_line s)) ≡ labels_read
        labels_from = rw (places_from ∙ e3, marks_from ∙ e2)

        pub labels_fault : (f : Fault) → labels_read.line ≡ Err f → Err f ≡ told (map_of s).line (map_of s).map
        labels_fault f e = told_fault _ _ f (labels_line_keeps s (λ l. l ≡ Err f) (faults s f) (ap (λ x. x.line) labels_from ∙ e))

        module _ (labels : List ℕ) (c4 : Cursor) (e4 : Ended labels_read.line labels_read.labels labels c4) where
          start_from : start_line s ≡ one_from s c4.at start_key 0 p
          start_from = next_is s (labels_line s) start_key 0 _ _ c4 (ap (λ x. x.line) labels_from ∙ e4.line) ∙ rw (places_from ∙ e3)

          pub start_fault : (f : Fault) → one_from s c4.at start_key 0 p ≡ Err f → Err f ≡ told (map_of s).line (map_of s).map
          start_fault f e = told_fault _ _ f (start_line_keeps s (λ l. l ≡ Err f) (faults s f) (start_from ∙ e))

          module _ (start : ℕ) (c5 : Cursor) (e5 : one_from s c4.at start_key 0 p ≡ Ok (pair start 0, c5)) where
            roads_from : roads_line s ≡ one_from s c5.at roads_key 0 1025
            roads_from = next_is s (start_line s) roads_key 0 1025 _ c5 (start_from ∙ e5)

            pub roads_fault : (f : Fault) → one_from s c5.at roads_key 0 1025 ≡ Err f → Err f ≡ told (map_of s).line (map_of s).map
            roads_fault f e = told_fault _ _ f (roads_line_keeps s (λ l. l ≡ Err f) (faults s f) (roads_from ∙ e))

            module _ (n : ℕ) (c6 : Cursor) (e6 : one_from s c5.at roads_key 0 1025 ≡ Ok (pair n 0, c6)) where
              abbrev roads_read : RoadBlock
              roads_read = road_block s (Ok (pair n 0, c6)) n p

              map_from : map_of s ≡ record {
                line = roads_read.line;
                map = record { marks = m; places = p; start = start; road_count = n; labels = labels_read.labels; roads = roads_read.roads };
              }
              unfolding map_of
              map_from = rw (roads_from ∙ e6, start_from ∙ e5, labels_from, places_from ∙ e3, marks_from ∙ e2)

              pub road_fault : (f : Fault) → roads_read.line ≡ Err f → Err f ≡ told (map_of s).line (map_of s).map
              road_fault f e = told_fault _ _ f (ap (λ x. x.line) map_from ∙ e)

              pub map_made : (roads : List Road) (c7 : Cursor) → Ended roads_read.line roads_read.roads roads c7
                  → Ok (record { marks = m; places = p; start = start; road_count = n; labels = labels; roads = roads }, c7)
                  ≡ told (map_of s).line (map_of s).map
              map_made roads c7 e = rw (map_from, e.line, e4.same, e.same)

-- the whole file
module _ (s : List ℕ) where
  pub lines_fault : (f : Fault) → (draft_of s).line ≡ Err f → Err f ≡ lines_read s
  lines_fault f e = rw e

  pub map_fault : (f : Fault) → (map_of s).line ≡ Err f → Err f ≡ lines_read s
  map_fault f e = lines_fault f (map_keeps s (λ l. l ≡ Err f) (faults s f) (finish_fault s f) e)

  module _ (m : Map) (c1 : Cursor) (e1 : Ended (map_of s).line (map_of s).map m c1) where
    abbrev hard_read : AutomatonBlock
    hard_read = hard_block s (Ok (e1.numbers, c1)) (2 ^ m.marks)

    hard_from : hard_block s (map_of s).line (2 ^ (map_of s).map.marks) ≡ hard_read
    hard_from = ap (λ l. hard_block s l (2 ^ (map_of s).map.marks)) e1.line ∙ ap (λ x. hard_block s (Ok (e1.numbers, c1)) (2 ^ x.marks)) e1.same

    pub hard_rule_fault : (f : Fault) → hard_read.line ≡ Err f → Err f ≡ lines_read s
    hard_rule_fault f e = lines_fault f (hard_end_keeps s (λ l. l ≡ Err f) (faults s f) (finish_fault s f) (ap (λ x. x.line) hard_from ∙ e))

    module _ (hard : Automaton) (c2 : Cursor) (e2 : Ended hard_read.line hard_read.automaton hard c2) where
      rules_from : rules_line s ≡ one_from s c2.at rules_key 0 9
      rules_from = next_is s (hard_end s) rules_key 0 9 _ c2 (ap (λ x. x.line) hard_from ∙ e2.line)

      pub rules_fault : (f : Fault) → one_from s c2.at rules_key 0 9 ≡ Err f → Err f ≡ lines_read s
      rules_fault f e = lines_fault f (rules_line_keeps s (λ l. l ≡ Err f) (faults s f) (finish_fault s f) (rules_from ∙ e))

      module _ (n : ℕ) (c3 : Cursor) (e3 : one_from s c2.at rules_key 0 9 ≡ Ok (pair n 0, c3)) where
        abbrev softs_read : SoftBlocks
        softs_read = soft_blocks s (Ok (pair n 0, c3)) n (2 ^ m.marks)

        softs_from : soft_blocks s (rules_line s) (first_of (rules_line s)) (2 ^ (map_of s).map.marks) ≡ softs_read
        softs_from =
            ap (λ l. soft_blocks s l (first_of l) (2 ^ (map_of s).map.marks)) (rules_from ∙ e3)
            ∙ ap (λ x. soft_blocks s (Ok (pair n 0, c3)) n (2 ^ x.marks)) e1.same

        pub softs_fault : (f : Fault) → softs_read.line ≡ Err f → Err f ≡ lines_read s
        softs_fault f e = lines_fault f (softs_end_keeps s (λ l. l ≡ Err f) (faults s f) (finish_fault s f) (ap (λ x. x.line) softs_from ∙ e))

        module _ (soft : List Automaton) (weights : List ℕ) (c4 : Cursor)
            (e4 : Ended {T = List Automaton × List ℕ} softs_read.line (softs_read.soft, softs_read.weights) (soft, weights) c4) where
          abbrev plan_read : Plan
          plan_read = record {
            marks = m.marks;
            places = m.places;
            start = m.start;
            road_count = m.road_count;
            rules = n;
            labels = m.labels;
            roads = m.roads;
            hard = hard;
            soft = soft;
            weights = weights;
          }

          draft_is : draft_of s ≡ record { line = finish s (Ok (e4.numbers, c4)); plan = plan_read }
          unfolding draft_of
          draft_is =
              rw (softs_from, rules_from ∙ e3, hard_from, e1.same, e2.same, e4.line, ap (λ p. p.0) e4.same, ap (λ p. p.1) e4.same)

          pub end_fault : (f : Fault) → ended s c4.at ≡ Err f → Err f ≡ lines_read s
          unfolding finish
          end_fault f e = rw draft_is (by (ltb c4.at (length s)) e)
            where
              by : (t : Bool) → ◌≡◌ {A = Result ⊤ Fault} (cond t (Err (bad_form s c4.at)) (Ok tt)) (Err f)
                  → ◌≡◌ {A = Result Plan Fault} (Err f) (made (cond t (Err (bad_form s c4.at)) (Ok (e4.numbers, c4))) plan_read)
              by true h = let z : bad_form s c4.at ≡ f = cc h in rw z
              by false h = let z : ◌≡◌ {A = ℕ} 0 1 = cc in absurd (omega arith)

          pub lines_made : ended s c4.at ≡ Ok tt → Ok plan_read ≡ lines_read s
          unfolding finish
          lines_made e = rw draft_is (by (ltb c4.at (length s)) e)
            where
              by : (t : Bool) → ◌≡◌ {A = Result ⊤ Fault} (cond t (Err (bad_form s c4.at)) (Ok tt)) (Ok tt)
                  → ◌≡◌ {A = Result Plan Fault} (Ok plan_read) (made (cond t (Err (bad_form s c4.at)) (Ok (e4.numbers, c4))) plan_read)
              by true h = let z : ◌≡◌ {A = ℕ} 0 1 = cc in absurd (omega arith)
              by false h = refl
