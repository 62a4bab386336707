-- What was read without a fault is in its range. A line without a fault stands behind one without a fault and has its number in its
-- range; so going back from the last line, every line of a block, of an automaton and of the map is in its range.
use mathlib.Core.Path.{◌≡◌, refl}
use mathlib.Core.Bool.{true, false}
use mathlib.Core.List.{List}
use Prim.Native.Nat.{ℕ, ◌+◌, ◌^◌, ◌≤◌, ◌<◌}
use native.Mathlib.Omega.{arith}
use native.Mathlib.Decide.{ℕ_discrete}
use lib.ListN.{length, get_or, length-set}
use lib.Seq.{get_or-set_same, get_or-set_other}
use Rattle.std.specs.Prelude.{Ok, Err}
use Rattle.automata.specs.WellFormed as automaton
use Rattle.automata.specs.WellFormed.{ZeroFrom, no_automaton}
use Rattle.automata.specs.declared.Automaton.{Automaton}
use Rattle.text.specs.Line.{line_of_one, first_of, finish, good, Line}
use Rattle.reader.specs.Line.{road_line, move_line}
use Rattle.reader.specs.Keys.{first_key, accept_key, moves_key, hard_key, soft_key, weight_key}
use Rattle.reader.specs.Blocks.{SoftBlocks, Filling, move_block, automaton_block, hard_block, weight_line, soft_block, soft_step, soft_blocks}
use Rattle.text.specs.declared.line.Numbers.{Numbers}
use Rattle.text.proofs.Lines.{within_both, Led, First, one_led}
use Rattle.reader.proofs.Lines.{road_led, move_led}
use Rattle.reader.proofs.Sticky.{Sticky, moves_keep, soft_keeps}
use Rattle.reader.proofs.Columns.{filled, all_same, below, unset, set_rest, zeros_rest, moves_filled}

abbrev pub Faulty : Line → Type 0
Faulty l = good l ≡ false

led_faulty : (s : List ℕ) (Q : Numbers → Type 0) (l r : Line) → Led s Q l r → Faulty l → Faulty r
led_faulty s Q l (Ok (xs, c)) g p = let z : ◌≡◌ {A = ℕ} 0 1 = cc in absurd (omega arith)
led_faulty s Q l (Err f) g p = refl

pub faulty : (s : List ℕ) → Sticky s Faulty
faulty s = record {
  one = λ l key low bound. led_faulty s _ l (line_of_one s l key low bound) (one_led s l key low bound);
  road = λ l key bound again. led_faulty s _ l (road_line s l key bound again) (road_led s l key bound again);
  move = λ l key q labels. led_faulty s _ l (move_line s l key q labels) (move_led s l key q labels);
}

-- what keeps a fault has none only behind a line that has none
pub was_good : (l r : Line) → (Faulty l → Faulty r) → good r ≡ true → good l ≡ true
was_good (Ok (xs, c)) r h e = refl
was_good (Err f) r h e = let p : good r ≡ false = h refl in let z : ◌≡◌ {A = ℕ} 0 1 = cc in absurd (omega arith)

pub finish_good : (s : List ℕ) (l : Line) → good (finish s l) ≡ true → good l ≡ true
unfolding finish
finish_good s (Err f) e = e
finish_good s (Ok (xs, c)) e = refl

pub record OneGood (low bound : ℕ) (l r : Line) : Type 0 where
  pub was : good l ≡ true
  pub least : low ≤ first_of r
  pub below : first_of r < bound

led_good : (s : List ℕ) (low bound : ℕ) (l r : Line) → Led s (First low bound) l r → good r ≡ true → OneGood low bound l r
led_good s low bound l (Ok (xs, c)) g e =
    let h = within_both xs.first low bound g.1 in
    record { was = g.0; least = h.0; below = h.1 }
led_good s low bound l (Err f) g e = let z : ◌≡◌ {A = ℕ} 0 1 = cc in absurd (omega arith)

pub one_good : (s : List ℕ) (l : Line) (key : List ℕ) (low bound : ℕ) → good (line_of_one s l key low bound) ≡ true
    → OneGood low bound l (line_of_one s l key low bound)
one_good s l key low bound = led_good s low bound l (line_of_one s l key low bound) (one_led s l key low bound)

-- an automaton's lines
module _ (s : List ℕ) (l : Line) (q labels : ℕ) (e : good (automaton_block s l q labels).line ≡ true) where
  abbrev first_line : Line
  first_line = line_of_one s l first_key 0 q

  abbrev accept_line : Line
  accept_line = line_of_one s first_line accept_key 0 (2 ^ q)

  abbrev count_line : Line
  count_line = line_of_one s accept_line moves_key 0 65

  count_good : OneGood 0 65 accept_line count_line
  unfolding automaton_block
  count_good =
      one_good s accept_line moves_key 0 65
      (was_good count_line (move_block s count_line (first_of count_line) q labels).line (moves_keep s Faulty (faulty s) count_line (first_of count_line) q labels) e)

  accept_good : OneGood 0 (2 ^ q) first_line accept_line
  accept_good = one_good s first_line accept_key 0 (2 ^ q) count_good.was

  first_good : OneGood 0 q l first_line
  first_good = one_good s l first_key 0 q accept_good.was

  automaton_read : (most : ℕ) → 1 ≤ q → q ≤ most → 1 ≤ labels → automaton.WellFormed most labels (automaton_block s l q labels).automaton
  unfolding automaton_block
  automaton_read most o h m =
      let n = first_of count_line in
      let x = moves_filled s count_line n q labels in
      record {
        some = o;
        few = h;
        first = first_good.below;
        accept = accept_good.below;
        moves = omega (arith, count_good.below);
        from = below q o _ x.from;
        need = below labels m _ x.need;
        bar = below labels m _ x.bar;
        any = below labels m _ x.any;
        to = below q o _ x.to;
        rest = x.rest;
      }

pub record SoftRead (labels : ℕ) (a : Automaton) (w : ℕ) : Type 0 where
  pub well : automaton.WellFormed 8 labels a
  pub heavy : w ≤ 4000000

module _ (s : List ℕ) (l : Line) (labels : ℕ) (m : 1 ≤ labels) where
  pub hard_read : good (hard_block s l labels).line ≡ true → automaton.WellFormed 16 labels (hard_block s l labels).automaton
  unfolding hard_block
  hard_read e =
      let states = line_of_one s l hard_key 1 17 in
      let h = one_good s l hard_key 1 17 (first_good s states (first_of states) labels e).was in
      automaton_read s states (first_of states) labels e 16 h.least (omega (arith, h.below)) m

  soft_read : good (soft_block s l labels).line ≡ true → SoftRead labels (soft_block s l labels).automaton (soft_block s l labels).weight
  unfolding soft_block
  soft_read e =
      let states = line_of_one s l soft_key 1 9 in
      let weight = weight_line s states in
      let w = one_good s states weight_key _ _ (first_good s weight (first_of states) labels e).was in
      let h = one_good s l soft_key 1 9 w.was in
      record {
        well = automaton_read s weight (first_of states) labels e 8 h.least (omega (arith, h.below)) m;
        heavy = omega (arith, w.below);
      }

-- i soft rules have been read into b
pub record SoftsRead (labels i : ℕ) (b : SoftBlocks) : Type 0 where
  pub room : length b.soft ≡ 8
  pub weight_room : length b.weights ≡ 8
  pub read : good b.line ≡ true → (k : ℕ) → k < i → k < 8 → SoftRead labels (get_or b.soft k no_automaton) (get_or b.weights k 0)
  pub rest : (k : ℕ) → i ≤ k → get_or b.soft k no_automaton ≡ no_automaton
  pub rest_weights : ZeroFrom i b.weights

module _ (s : List ℕ) (labels : ℕ) (m : 1 ≤ labels) where
  module _ (x : Filling SoftBlocks) (p : SoftsRead labels x.next x.block) where
    soft_put : good (soft_step s labels x).block.line ≡ true → (k : ℕ) → k < x.next + 1 → k < 8 → Dec (k ≡ x.next)
        → SoftRead labels (get_or (soft_step s labels x).block.soft k no_automaton) (get_or (soft_step s labels x).block.weights k 0)
    soft_put e k h b (yes d) =
        let y = soft_block s x.block.line labels in
        let o : x.next < length x.block.soft = omega (arith, p.room) in
        let u : x.next < length x.block.weights = omega (arith, p.weight_room) in
        rw (d, get_or-set_same x.block.soft x.next y.automaton no_automaton o, get_or-set_same x.block.weights x.next y.weight 0 u)
        (soft_read s x.block.line labels m e)
    soft_put e k h b (no d) =
        let y = soft_block s x.block.line labels in
        let g = was_good x.block.line y.line (soft_keeps s Faulty (faulty s) x.block.line labels) e in
        rw (get_or-set_other x.block.soft x.next k y.automaton no_automaton d, get_or-set_other x.block.weights x.next k y.weight 0 d)
        (p.read g k (omega arith) b)

    soft-step : SoftsRead labels (x.next + 1) (soft_step s labels x).block
    soft-step = record {
      room = simp length-set p.room;
      weight_room = simp length-set p.weight_room;
      read = λ e k h b. soft_put e k h b (ℕ_discrete k x.next);
      rest = λ k h.
          unset no_automaton x.block.soft x.next (soft_block s x.block.line labels).automaton p.rest k h;
      rest_weights = set_rest x.block.weights x.next _ p.rest_weights;
    }

  pub softs_read : (l : Line) (n : ℕ) → SoftsRead labels n (soft_blocks s l n labels)
  unfolding soft_blocks
  softs_read l n =
      filled (soft_step s labels) (SoftsRead labels) (λ x. refl) soft-step n _
      (record {
        room = refl;
        weight_room = refl;
        read = λ e k h b. absurd (omega arith);
        rest = λ k h. all_same (λ a. a ≡ no_automaton) no_automaton refl 8 k;
        rest_weights = zeros_rest 8;
      })
