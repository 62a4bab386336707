-- Weight 0 used to be out of range (02, note 5). This one value is all that moved: every file reads as it did, or it was turned away for the
-- range of a line `weight=0`.
--   weight_before, soft_before, step_before, softs_before, draft_before, read_before
--                       == `weight_line`, `soft_block`, `soft_step`, `soft_blocks`, `draft_of` and `read_plan`, with weights of at least 1
--   weight_at s at       == the number of the weight line at index `at` of s; None if none is there
--   Zero s l            == l is the range fault of a line `weight=0` of s
--   line_narrowed, soft_narrowed, softs_narrowed, draft_narrowed
--                       == lines, blocks and the whole draft are what they were, or their fault was such a one
--   Turned s r          == the answer r turns s away for such a line
--   read_narrowed       == every file reads as before, or was turned away so
--   NoZero s            == nowhere in s stands a line `weight=0`
--   read_as_before      == then it reads as before
--   passed_as_before    == so does every file that passed before
use mathlib.Core.Path.{◌≡◌, refl, sym, ap, ◌∙◌}
use mathlib.Core.Bool.{Bool, true, false, cond}
use mathlib.Core.List.{List}
use mathlib.Core.Logic.{◌⊎◌, inl, inr}
use Prim.Native.Nat.{ℕ, zero, suc, ◌+◌, ◌^◌}
use native.Mathlib.Omega.{arith}
use lib.ListN.{set, replicate, length}
use lib.Dec.{ltb}
use borrow.Author.Tests.{le-ltb}
use Rattle.std.specs.Prelude.{Result, Some, None, Ok, Err}
use Rattle.text.specs.Scan.{first_number, key_at, value_of, line_at, Number}
use Rattle.text.specs.declared.fault.Fault.{Fault}
use Rattle.text.specs.declared.fault.Fault.TheVariants.{Range}
use Rattle.text.specs.Line.{pair, judged, closed, within, line_of_one, first_of, finish, Line}
use Rattle.automata.specs.WellFormed.{no_automaton}
use Rattle.plan.specs.declared.Plan.{Plan}
use Rattle.plan.specs.declared.Refusal.TheVariants as refusal
use Rattle.plan.specs.declared.Refusal.{Refusal}
use Rattle.reader.specs.Keys.{soft_key, weight_key, rules_key}
use Rattle.reader.specs.Line.{road_line, move_line}
use Rattle.reader.specs.Blocks.{SoftBlock, SoftBlocks, repeat, Filling, automaton_block, hard_block, weight_line, soft_block, soft_step, soft_blocks}
use Rattle.reader.specs.Map.{map_of}
use Rattle.reader.specs.Reading.{Draft, draft_of, answer, answer_to, read_plan}
use Rattle.reader.proofs.Sticky.{Sticky, automaton_keeps}

-- reading as it was
abbrev pub weight_before : List ℕ → Line → Line
weight_before s prior = line_of_one s prior weight_key 1 4000001

unfoldable pub soft_before : List ℕ → Line → ℕ → SoftBlock
soft_before s prior labels =
    let states = line_of_one s prior soft_key 1 9 in
    let weight = weight_before s states in
    let x = automaton_block s weight (first_of states) labels in
    record { line = x.line; automaton = x.automaton; weight = first_of weight }

abbrev pub step_before : List ℕ → ℕ → Filling SoftBlocks → Filling SoftBlocks
step_before s labels x =
    let b = soft_before s x.block.line labels in
    record {
      next = x.next + 1;
      block = record {
        line = b.line;
        soft = set x.block.soft x.next b.automaton;
        weights = set x.block.weights x.next b.weight;
      };
    }

unfoldable pub softs_before : List ℕ → Line → ℕ → ℕ → SoftBlocks
softs_before s prior n labels =
    (repeat n (step_before s labels)
    (record { next = 0; block = record { line = prior; soft = replicate 8 no_automaton; weights = replicate 8 0 } })).block

unfoldable pub draft_before : List ℕ → Draft
draft_before s =
    let m = map_of s in
    let bound = 2 ^ m.map.marks in
    let h = hard_block s m.line bound in
    let count = line_of_one s h.line rules_key 0 9 in
    let x = softs_before s count (first_of count) bound in
    record {
      line = finish s x.line;
      plan = record {
        marks = m.map.marks;
        places = m.map.places;
        start = m.map.start;
        road_count = m.map.road_count;
        rules = first_of count;
        labels = m.map.labels;
        roads = m.map.roads;
        hard = h.automaton;
        soft = x.soft;
        weights = x.weights;
      };
    }

unfoldable pub read_before : List ℕ → Result Plan Refusal
read_before s = answer_to s (draft_before s)

abbrev pub weight_at : List ℕ → ℕ → Number
weight_at s at = first_number s (key_at s at weight_key) 10

pub record Zero (s : List ℕ) (l : Line) : Type 0 where
  pub index : ℕ
  pub next : ℕ
  pub written : weight_at s index ≡ Some (0, next)
  pub fault : l ≡ Err (Range (line_at s index))

module _ (s : List ℕ) where
  -- a number from 1 on is in range as it was
  judged_alike : (at v i : ℕ) → weight_at s at ≡ Some (v, i)
      → (judged s at i (within v 0 4000001) (pair v 0) ≡ judged s at i (within v 1 4000001) (pair v 0))
      ⊎ Zero s (judged s at i (within v 1 4000001) (pair v 0))
  unfolding within
  judged_alike at zero i e = inr (record { index = at; next = i; written = e; fault = refl })
  judged_alike at (suc v) i e = inl (rw (le-ltb (suc v) 0 (omega arith), le-ltb (suc v) 1 (omega arith)))

  closed_alike : (at : ℕ) (a : Number) → weight_at s at ≡ a
      → (closed s at a (within (value_of a) 0 4000001) (pair (value_of a) 0) ≡ closed s at a (within (value_of a) 1 4000001) (pair (value_of a) 0))
      ⊎ Zero s (closed s at a (within (value_of a) 1 4000001) (pair (value_of a) 0))
  closed_alike at None e = inl refl
  closed_alike at (Some (v, i)) e = judged_alike at v i e

  pub line_narrowed : (l : Line) → (weight_line s l ≡ weight_before s l) ⊎ Zero s (weight_before s l)
  unfolding line_of_one
  line_narrowed (Err f) = inl refl
  line_narrowed (Ok (xs, c)) = closed_alike c.at (weight_at s c.at) refl

  -- such a fault stays
  behind_zero : {l r : Line} → Zero s l → ((f : Fault) → l ≡ Err f → r ≡ Err f) → Zero s r
  behind_zero z h = record { index = z.index; next = z.next; written = z.written; fault = h _ z.fault }

  stays : Sticky s (Zero s)
  unfolding line_of_one road_line move_line
  stays = record {
    one = λ l key low bound z. behind_zero z (λ f e. rw e);
    road = λ l key bound again z. behind_zero z (λ f e. rw e);
    move = λ l key q labels z. behind_zero z (λ f e. rw e);
  }

  pub soft_narrowed : (l : Line) (labels : ℕ) → (soft_block s l labels ≡ soft_before s l labels) ⊎ Zero s (soft_before s l labels).line
  unfolding soft_block soft_before
  soft_narrowed l labels = by (line_narrowed states)
    where
      states : Line
      states = line_of_one s l soft_key 1 9

      by : (weight_line s states ≡ weight_before s states) ⊎ Zero s (weight_before s states)
          → (soft_block s l labels ≡ soft_before s l labels) ⊎ Zero s (soft_before s l labels).line
      by (inl e) = inl (rw e)
      by (inr z) = inr (automaton_keeps s (Zero s) stays (weight_before s states) (first_of states) labels z)

  soft_zero : (l : Line) (labels : ℕ) → Zero s l → Zero s (soft_before s l labels).line
  unfolding soft_before
  soft_zero l labels z =
      let states = line_of_one s l soft_key 1 9 in
      automaton_keeps s (Zero s) stays (weight_before s states) (first_of states) labels (stays.one states weight_key 1 4000001 (stays.one l soft_key 1 9 z))

  -- two readings of soft rules, the later and the earlier one
  abbrev Alike : Filling SoftBlocks → Filling SoftBlocks → Type 0
  Alike x y = (x ≡ y) ⊎ Zero s y.block.line

  step_narrowed : (labels : ℕ) (x y : Filling SoftBlocks) → Alike x y → Alike (soft_step s labels x) (step_before s labels y)
  step_narrowed labels x y (inl e) = by (soft_narrowed y.block.line labels)
    where
      by : (soft_block s y.block.line labels ≡ soft_before s y.block.line labels) ⊎ Zero s (soft_before s y.block.line labels).line
          → Alike (soft_step s labels x) (step_before s labels y)
      by (inl d) = inl (rw (e, d))
      by (inr z) = inr z
  step_narrowed labels x y (inr z) = inr (soft_zero y.block.line labels z)

  repeat_narrowed : (labels n : ℕ) (x y : Filling SoftBlocks) → Alike x y → Alike (repeat n (soft_step s labels) x) (repeat n (step_before s labels) y)
  unfolding repeat
  repeat_narrowed labels zero x y a = a
  repeat_narrowed labels (suc n) x y a = repeat_narrowed labels n (soft_step s labels x) (step_before s labels y) (step_narrowed labels x y a)

  pub softs_narrowed : (l : Line) (n labels : ℕ) → (soft_blocks s l n labels ≡ softs_before s l n labels) ⊎ Zero s (softs_before s l n labels).line
  unfolding soft_blocks softs_before
  softs_narrowed l n labels = by (repeat_narrowed labels n _ _ (inl refl))
    where
      by : {x y : Filling SoftBlocks} → Alike x y → (x.block ≡ y.block) ⊎ Zero s y.block.line
      by (inl e) = inl (ap (λ (x : Filling SoftBlocks). x.block) e)
      by (inr z) = inr z

  finish_zero : (l : Line) → Zero s l → Zero s (finish s l)
  unfolding finish
  finish_zero l z = behind_zero z (λ f e. rw e)

  pub draft_narrowed : (draft_of s ≡ draft_before s) ⊎ Zero s (draft_before s).line
  unfolding draft_of draft_before
  draft_narrowed = by (softs_narrowed count (first_of count) bound)
    where
      bound : ℕ
      bound = 2 ^ (map_of s).map.marks

      count : Line
      count = line_of_one s (hard_block s (map_of s).line bound).line rules_key 0 9

      by : (soft_blocks s count (first_of count) bound ≡ softs_before s count (first_of count) bound) ⊎ Zero s (softs_before s count (first_of count) bound).line
          → (draft_of s ≡ draft_before s) ⊎ Zero s (draft_before s).line
      by (inl e) = inl (rw e)
      by (inr z) = inr (finish_zero (softs_before s count (first_of count) bound).line z)

pub record Turned (s : List ℕ) (r : Result Plan Refusal) : Type 0 where
  pub index : ℕ
  pub next : ℕ
  pub written : weight_at s index ≡ Some (0, next)
  pub told : r ≡ Err (refusal.Line (Range (line_at s index)))

answer_turned : (s : List ℕ) (l : Line) (p : Plan) → Zero s l → Turned s (answer l p)
unfolding answer
answer_turned s l p z = record { index = z.index; next = z.next; written = z.written; told = rw z.fault }

pub read_narrowed : (s : List ℕ) → (read_plan s ≡ read_before s) ⊎ Turned s (read_before s)
unfolding read_plan read_before
read_narrowed s = by (ltb 60000 (length s)) (draft_narrowed s)
  where
    by : (t : Bool) → (draft_of s ≡ draft_before s) ⊎ Zero s (draft_before s).line
        → (cond t (Err refusal.PlanTooLong) (answer (draft_of s).line (draft_of s).plan)
        ≡ cond t (Err refusal.PlanTooLong) (answer (draft_before s).line (draft_before s).plan))
        ⊎ Turned s (cond t (Err refusal.PlanTooLong) (answer (draft_before s).line (draft_before s).plan))
    by true d = inl refl
    by false (inl e) = inl (rw e)
    by false (inr z) = inr (answer_turned s (draft_before s).line (draft_before s).plan z)

pub record NoZero (s : List ℕ) : Type 0 where
  pub none : (at next : ℕ) → weight_at s at ≡ Some (0, next) → ⊥

pub read_as_before : (s : List ℕ) → NoZero s → read_plan s ≡ read_before s
read_as_before s no_zero = by (read_narrowed s)
  where
    by : (read_plan s ≡ read_before s) ⊎ Turned s (read_before s) → read_plan s ≡ read_before s
    by (inl e) = e
    by (inr t) = absurd (no_zero.none t.index t.next t.written)

pub passed_as_before : (s : List ℕ) (p : Plan) → read_before s ≡ Ok p → read_plan s ≡ read_before s
passed_as_before s p passed = by (read_narrowed s)
  where
    by : (read_plan s ≡ read_before s) ⊎ Turned s (read_before s) → read_plan s ≡ read_before s
    by (inl e) = e
    by (inr t) = let z : ◌≡◌ {A = ℕ} 0 1 = cc (sym passed ∙ t.told) in absurd (omega arith)
