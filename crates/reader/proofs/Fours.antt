-- A plan file in which no move line has five numbers is read and answered as it was when every move line had four. Only `move_line` reads move
-- lines. Where the chain of four numbers is good, any is 0; where it is bad, so is that of five, and the line has a bad form either way.
--   four_fits xs q labels            == the numbers of a line of four are in their ranges
--   four_line, four_step, four_block   == `move_line`, `move_step` and `move_block`, with lines `key=q,need,bar,r` alone
--   five_at s at                     == the last number of the move line of five numbers at index `at` of s; None if none is there
--   NoFive s                        == nowhere in s stands a move line of five numbers
--   line_as_before, block_as_before == then move lines, and blocks of them, are what they were
--   Fours a, FourPlan p             == any is 0 throughout in the automaton a, in every automaton of the plan p
--   block_fours, read_fours         == so it is in a block of moves, and in the plan that is read
--   fits_before a x q i              == move i of a leaves q, and the label x has every bit of its need and no bit of its bar
--   AsBefore p                      == the automata of p have the fitting moves that they had: no number but these counts
--   answered_as_before              == so it is in the plan that is read
use mathlib.Core.Path.{◌≡◌, refl, ap, subst, ◌∙◌}
use mathlib.Core.Bool.{Bool, true, false, ◌&&◌}
use mathlib.Core.List.{List}
use Prim.Native.Nat.{ℕ, zero, suc, ◌+◌, ◌^◌}
use native.Mathlib.Omega.{arith}
use lib.ListN.{get_or, set, replicate}
use lib.Bits.{bit_and}
use lib.Dec.{ltb, eqb}
use borrow.Author.Tests.{ltb-true, lt-ltb}
use Rattle.std.specs.Prelude.{Some, None, Ok, Err}
use Rattle.text.specs.Scan.{first_number, key_at, next_number, else_number, either, value_of, Number}
use Rattle.automata.specs.Automaton.{no_move, move, fits}
use Rattle.automata.specs.WellFormed.{no_automaton}
use Rattle.automata.specs.declared.Automaton.{Automaton}
use Rattle.automata.proofs.Either.{fits_none}
use Rattle.plan.specs.WellFormed.{soft}
use Rattle.plan.specs.declared.Plan.{Plan}
use Rattle.reader.specs.Keys.{move_key, first_key, accept_key, moves_key}
use Rattle.text.specs.Line.{behind, judged, closed, line_of_one, numbers_of, first_of, Line}
use Rattle.reader.specs.Line.{move_fits, move_line}
use Rattle.reader.specs.Blocks.{MoveBlock, SoftBlocks, repeat, Filling, move_of, move_step, move_block, automaton_block, hard_block, soft_block, soft_step, soft_blocks}
use Rattle.reader.specs.Reading.{draft_of, read_plan}
use Rattle.text.specs.declared.line.Numbers.{Numbers}
use Rattle.reader.proofs.Lines.{numbers}
use Rattle.reader.proofs.Filling.{repeat_keeps}
use Rattle.reader.proofs.Columns.{all_set, all_same}
use Rattle.reader.proofs.WellRead.{passed}

-- reading as it was
abbrev pub four_fits : Numbers → ℕ → ℕ → Bool
four_fits xs q labels = ltb xs.first q && ltb xs.second labels && ltb xs.third labels && ltb xs.fifth q

unfoldable pub four_line : List ℕ → Line → List ℕ → ℕ → ℕ → Line
four_line s prior key q labels =
    behind prior
    (λ at.
    let a = first_number s (key_at s at key) 44 in
    let b = next_number s a 44 in
    let c = next_number s b 44 in
    let d = next_number s c 10 in
    let xs : Numbers = record { first = value_of a; second = value_of b; third = value_of c; fourth = 0; fifth = value_of d } in
    closed s at d (four_fits xs q labels) xs)

abbrev pub four_step : List ℕ → ℕ → ℕ → Filling MoveBlock → Filling MoveBlock
four_step s q labels x =
    let l = four_line s x.block.line move_key q labels in
    record { next = x.next + 1; block = record { line = l; moves = set x.block.moves x.next (move_of (numbers_of l)) } }

unfoldable pub four_block : List ℕ → Line → ℕ → ℕ → ℕ → MoveBlock
four_block s prior n q labels =
    (repeat n (four_step s q labels) (record { next = 0; block = record { line = prior; moves = replicate 64 no_move } })).block

abbrev pub five_at : List ℕ → ℕ → Number
five_at s at =
    let a = first_number s (key_at s at move_key) 44 in
    let b = next_number s a 44 in
    let c = next_number s b 44 in
    next_number s (next_number s c 44) 10

pub record NoFive (s : List ℕ) : Type 0 where
  pub none : (at : ℕ) → five_at s at ≡ None

-- 0 is in the range of any, if need is
zero_fits : (y labels : ℕ) → ltb y labels ≡ true → ltb 0 labels ≡ true
zero_fits y labels h = lt-ltb 0 labels (omega (arith, ltb-true y labels h))

tests_same : (a b c z e : Bool) → (b ≡ true → z ≡ true) → (a && b && c && z && e) ≡ (a && b && c && e)
tests_same false b c z e h = refl
tests_same true false c z e h = refl
tests_same true true false z e h = refl
tests_same true true true z e h = rw (h refl)

-- steps that are equal everywhere repeat alike
repeat_same : {S : Type 0} (f g : S → S) → ((x : S) → f x ≡ g x) → (n : ℕ) (x : S) → repeat n f x ≡ repeat n g x
unfolding repeat
repeat_same f g h zero x = refl
repeat_same f g h (suc n) x = repeat_same f g h n (f x) ∙ ap (repeat n g) (h x)

module _ (s : List ℕ) (no_five : NoFive s) (q labels : ℕ) where
  -- a line is the same by d, its number behind c, or by any and the last one there
  ends_alike : (at x y z : ℕ) (c d : Number) → next_number s (next_number s c 44) 10 ≡ None
      → (let any = else_number s d c 44 in let last = either d (next_number s any 10) in let xs = numbers x y z (value_of any) (value_of last) in
      closed s at last (move_fits xs q labels) xs)
      ≡ (let xs = numbers x y z 0 (value_of d) in closed s at d (four_fits xs q labels) xs)
  ends_alike at x y z c (Some (v, i)) h =
      ap (λ t. judged s at i t (numbers x y z 0 v))
      (tests_same (ltb x q) (ltb y labels) (ltb z labels) (ltb 0 labels) (ltb v q) (zero_fits y labels))
  ends_alike at x y z c None h = rw h

  pub line_as_before : (l : Line) → move_line s l move_key q labels ≡ four_line s l move_key q labels
  unfolding move_line four_line
  line_as_before (Err f) = refl
  line_as_before (Ok (xs, c)) =
      let a = first_number s (key_at s c.at move_key) 44 in let b = next_number s a 44 in let z = next_number s b 44 in
      ends_alike c.at (value_of a) (value_of b) (value_of z) z (next_number s z 10) (no_five.none c.at)

  step_as_before : (x : Filling MoveBlock) → move_step s q labels x ≡ four_step s q labels x
  step_as_before x = rw (line_as_before x.block.line)

  pub block_as_before : (l : Line) (n : ℕ) → move_block s l n q labels ≡ four_block s l n q labels
  unfolding move_block four_block
  block_as_before l n = ap (λ (x : Filling MoveBlock). x.block) (repeat_same (move_step s q labels) (four_step s q labels) step_as_before n _)

  -- any of a line of four numbers is 0
  judged_zero : (at i : ℕ) (fit : Bool) (x y z v : ℕ) → (numbers_of (judged s at i fit (numbers x y z 0 v))).fourth ≡ 0
  judged_zero at i true x y z v = refl
  judged_zero at i false x y z v = refl

  closed_zero : (at x y z : ℕ) (d : Number)
      → (numbers_of (let xs = numbers x y z 0 (value_of d) in closed s at d (four_fits xs q labels) xs)).fourth ≡ 0
  closed_zero at x y z None = refl
  closed_zero at x y z (Some (v, i)) = judged_zero at i (four_fits (numbers x y z 0 v) q labels) x y z v

  four_zero : (l : Line) → (numbers_of (four_line s l move_key q labels)).fourth ≡ 0
  unfolding four_line
  four_zero (Err f) = refl
  four_zero (Ok (xs, c)) =
      let a = first_number s (key_at s c.at move_key) 44 in let b = next_number s a 44 in let z = next_number s b 44 in
      closed_zero c.at (value_of a) (value_of b) (value_of z) (next_number s z 10)

  move_zero : (l : Line) → (numbers_of (move_line s l move_key q labels)).fourth ≡ 0
  move_zero l = ap (λ x. (numbers_of x).fourth) (line_as_before l) ∙ four_zero l

  pub block_fours : (l : Line) (n i : ℕ) → (get_or (move_block s l n q labels).moves i no_move).any ≡ 0
  unfolding move_block
  block_fours l n =
      repeat_keeps (λ (x : Filling MoveBlock). (i : ℕ) → (get_or x.block.moves i no_move).any ≡ 0) (move_step s q labels)
      (λ x h. all_set (λ y. y.any ≡ 0) no_move x.block.moves x.next _ h (move_zero x.block.line))
      n _ (all_same (λ y. y.any ≡ 0) no_move refl 64)

pub record Fours (a : Automaton) : Type 0 where
  pub none : (i : ℕ) → (move a i).any ≡ 0

pub record FourPlan (p : Plan) : Type 0 where
  pub hard : Fours p.hard
  pub softs : (k : ℕ) → Fours (soft p k)

no_automaton_fours : Fours no_automaton
no_automaton_fours = record { none = all_same (λ y. y.any ≡ 0) no_move refl 64 }

no_softs_fours : (k : ℕ) → Fours (get_or (replicate 8 no_automaton) k no_automaton)
no_softs_fours = all_same Fours no_automaton no_automaton_fours 8

module _ (s : List ℕ) (no_five : NoFive s) where
  automaton_fours : (l : Line) (q labels : ℕ) → Fours (automaton_block s l q labels).automaton
  unfolding automaton_block
  automaton_fours l q labels =
      let count = line_of_one s (line_of_one s (line_of_one s l first_key 0 q) accept_key 0 (2 ^ q)) moves_key 0 65 in
      record { none = block_fours s no_five q labels count (first_of count) }

  hard_fours : (l : Line) (labels : ℕ) → Fours (hard_block s l labels).automaton
  unfolding hard_block
  hard_fours l labels = automaton_fours _ _ labels

  soft_fours : (l : Line) (labels : ℕ) → Fours (soft_block s l labels).automaton
  unfolding soft_block
  soft_fours l labels = automaton_fours _ _ labels

  softs_fours : (l : Line) (n labels k : ℕ) → Fours (get_or (soft_blocks s l n labels).soft k no_automaton)
  unfolding soft_blocks
  softs_fours l n labels =
      repeat_keeps (λ (x : Filling SoftBlocks). (k : ℕ) → Fours (get_or x.block.soft k no_automaton)) (soft_step s labels)
      (λ x h. all_set Fours no_automaton x.block.soft x.next _ h (soft_fours x.block.line labels))
      n _ no_softs_fours

  draft_fours : FourPlan (draft_of s).plan
  unfolding draft_of
  draft_fours = record { hard = hard_fours _ _; softs = softs_fours _ _ _ }

  pub read_fours : (p : Plan) → read_plan s ≡ Ok p → FourPlan p
  read_fours p e = subst FourPlan (passed s p e).same draft_fours

abbrev pub fits_before : Automaton → ℕ → ℕ → ℕ → Bool
fits_before a x q i =
    let m = move a i in
    eqb m.from q && (eqb (bit_and x m.need) m.need && eqb (bit_and x m.bar) 0)

pub record AsBefore (p : Plan) : Type 0 where
  pub hard : (x q i : ℕ) → fits p.hard x q i ≡ fits_before p.hard x q i
  pub softs : (k x q i : ℕ) → fits (soft p k) x q i ≡ fits_before (soft p k) x q i

pub answered_as_before : (s : List ℕ) → NoFive s → (p : Plan) → read_plan s ≡ Ok p → AsBefore p
answered_as_before s no_five p e =
    let f = read_fours s no_five p e in
    record { hard = fits_none p.hard f.hard.none; softs = λ k. fits_none (soft p k) (f.softs k).none }
