-- A repeated move changes nothing (01, "The plan file"; a repeated road is turned away since 02, note 6): not which tours there are, which rules
-- accept them, what they cost, which set is best, nor the size.
--   Frame p q            == p and q are equal in all that counts beside their rules' automata
--   Alike p q            == and rule by rule they list the same moves, in whatever order and however often
--   Repetition p q       == q is p with one of the moves of a rule once more
--   Unchanged p q        == q has the tours of p; the same rules accept them, they keep and cost the same; what is best is; and so is N
--   alike_unchanged      == that holds of plans that are alike
--   repetition_unchanged == and so of a plan with a move repeated
use mathlib.Core.Path.{◌≡◌, sym, ◌∙◌, transport, transport⁻¹, subst}
use mathlib.Core.Bool.{not, ◌&&◌, ◌||◌}
use mathlib.Core.List.{List}
use mathlib.Core.Logic.{◌↔◌, ◌⊎◌}
use Prim.Native.Nat.{ℕ, ◌+◌, ◌*◌, ◌^◌, ◌<◌, min}
use native.Mathlib.Decide.{ℕ_discrete}
use native.Mathlib.Omega.{arith}
use lib.ListN.{length, get_or}
use lib.Dec.{eqb, ltb}
use Rattle.base.specs.Below.{any_below, product_below}
use Rattle.automata.specs.Acceptance.{lasso_at, HardAccepts, SoftAccepts}
use Rattle.automata.specs.declared.Automaton.{Automaton}
use Rattle.automata.proofs.Repeats as automata
use Rattle.automata.proofs.Repeats.{SameMoves, RepeatedMove}
use Rattle.plan.specs.WellFormed.{soft, no_road}
use Rattle.plan.specs.Size.{size}
use Rattle.plan.specs.Tour.{joins, IsLasso, word, Hard, Soft}
use Rattle.plan.specs.Cost.{KeptIs, cost_of, cost, First, Better, Best}
use Rattle.plan.specs.declared.Plan.{Plan}

pub record Frame (p q : Plan) : Type 0 where
  pub places : p.places ≡ q.places
  pub labels : p.labels ≡ q.labels
  pub start : p.start ≡ q.start
  pub road_count : p.road_count ≡ q.road_count
  pub roads : p.roads ≡ q.roads
  pub rules : p.rules ≡ q.rules
  pub weights : p.weights ≡ q.weights

pub record Alike (p q : Plan) : Type 0 where
  pub frame : Frame p q
  pub hard : SameMoves p.hard q.hard
  pub softs : (i : ℕ) → SameMoves (soft p i) (soft q i)

pub data Repetition (p q : Plan) : Type 0 where
  of_hard : RepeatedMove p.hard q.hard → ((j : ℕ) → soft p j ≡ soft q j) → Repetition p q
  of_soft : p.hard ≡ q.hard → (i : ℕ) → RepeatedMove (soft p i) (soft q i) → ((j : ℕ) → (j ≡ i → ⊥) → soft p j ≡ soft q j) → Repetition p q

pub record Unchanged (p q : Plan) : Type 0 where
  pub joined : (u v : ℕ) → joins p u v ≡ joins q u v
  pub tours : (stem cycle : List ℕ) → IsLasso p stem cycle ↔ IsLasso q stem cycle
  pub hard : (stem cycle : List ℕ) → Hard p stem cycle ↔ Hard q stem cycle
  pub soft : (stem cycle : List ℕ) (i : ℕ) → Soft p stem cycle i ↔ Soft q stem cycle i
  pub kept : (stem cycle : List ℕ) (k : ℕ) → KeptIs p stem cycle k ↔ KeptIs q stem cycle k
  pub costs : (k : ℕ) → cost p k ≡ cost q k
  pub best : (k : ℕ) → Best p k ↔ Best q k
  pub nodes : size p ≡ size q

module _ (p q : Plan) (a : Alike p q) where
  same_joins : (u v : ℕ) → joins p u v ≡ joins q u v
  unfolding joins
  same_joins u v =
      let f = a.frame in
      λ i. any_below (min (f.road_count i) 1024) (λ k. eqb (get_or (f.roads i) k no_road).from u && eqb (get_or (f.roads i) k no_road).to v)
      || (eqb u v && (ltb u (f.places i) && not (any_below (min (f.road_count i) 1024) (λ k. eqb (get_or (f.roads i) k no_road).from u))))

  same_costs : (k : ℕ) → cost p k ≡ cost q k
  same_costs k = λ i. cost_of (a.frame.weights i) (a.frame.rules i) k

  same_better : (k k' : ℕ) → Better p k k' ≡ Better q k k'
  same_better k k' = λ i. (same_costs k i < same_costs k' i) ⊎ ((same_costs k i ≡ same_costs k' i) × First (a.frame.rules i) k k')

  same_size : size p ≡ size q
  unfolding size
  same_size = λ i. a.frame.places i * a.hard.states i * product_below (a.frame.rules i) (λ j. (a.softs j).states i + 1)

  module _ (stem cycle : List ℕ) where
    same_hard : Hard p stem cycle ≡ Hard q stem cycle
    same_hard =
        automata.alike_hard p.hard q.hard (automata.same_alike _ _ a.hard) (word p stem cycle) (length stem) (length cycle)
        ∙ λ i. HardAccepts q.hard (λ t. get_or (a.frame.labels i) (lasso_at stem cycle t) 0) (length stem) (length cycle)

    same_soft : (i : ℕ) → Soft p stem cycle i ≡ Soft q stem cycle i
    same_soft i =
        automata.alike_soft (soft p i) (soft q i) (automata.same_alike _ _ (a.softs i)) (word p stem cycle) (length stem) (length cycle)
        ∙ λ j. SoftAccepts (soft q i) (λ t. get_or (a.frame.labels j) (lasso_at stem cycle t) 0) (length stem) (length cycle)

    to_tour : IsLasso p stem cycle → IsLasso q stem cycle
    to_tour l = record { filled = l.filled; begins = l.begins ∙ a.frame.start; roads = λ t h. sym (same_joins _ _) ∙ l.roads t h }

    to_kept : (k : ℕ) → KeptIs p stem cycle k → KeptIs q stem cycle k
    to_kept k h = record {
      small = subst (λ n. k < 2 ^ n) a.frame.rules h.small;
      accepted = λ i l e. transport (same_soft i) (h.accepted i (omega (arith, a.frame.rules)) e);
      refused = λ i l e s. h.refused i (omega (arith, a.frame.rules)) e (transport⁻¹ (same_soft i) s);
    }

alike_sym : {p q : Plan} → Alike p q → Alike q p
alike_sym a = record {
  frame = let f = a.frame in record {
    places = sym f.places;
    labels = sym f.labels;
    start = sym f.start;
    road_count = sym f.road_count;
    roads = sym f.roads;
    rules = sym f.rules;
    weights = sym f.weights;
  };
  hard = automata.same_sym a.hard;
  softs = λ i. automata.same_sym (a.softs i);
}

to_best : (p q : Plan) → Alike p q → (k : ℕ) → Best p k → Best q k
to_best p q a k best stem cycle tour hard k' small accepted =
    transport
    (λ i. (k ≡ k') ⊎ same_better p q a k k' i)
    (best
    stem
    cycle
    (to_tour q p (alike_sym a) stem cycle tour)
    (transport⁻¹ (same_hard p q a stem cycle) hard)
    k'
    (subst (λ n. k' < 2 ^ n) (sym a.frame.rules) small)
    (λ i l e. transport⁻¹ (same_soft p q a stem cycle i) (accepted i (omega (arith, a.frame.rules)) e)))

pub alike_unchanged : {p q : Plan} → Alike p q → Unchanged p q
alike_unchanged {p} {q} a = record {
  joined = same_joins p q a;
  tours = λ stem cycle. (to_tour p q a stem cycle, to_tour q p b stem cycle);
  hard = λ stem cycle. (transport (same_hard p q a stem cycle), transport⁻¹ (same_hard p q a stem cycle));
  soft = λ stem cycle i. (transport (same_soft p q a stem cycle i), transport⁻¹ (same_soft p q a stem cycle i));
  kept = λ stem cycle k. (to_kept p q a stem cycle k, to_kept q p b stem cycle k);
  costs = same_costs p q a;
  best = λ k. (to_best p q a k, to_best q p b k);
  nodes = same_size p q a;
}
  where
    b : Alike q p
    b = alike_sym a

equal_moves : {a b : Automaton} → a ≡ b → SameMoves a b
equal_moves {a} e = subst (SameMoves a) e (automata.same_refl a)

pub repetition_unchanged : {p q : Plan} → Frame p q → Repetition p q → Unchanged p q
repetition_unchanged {p} {q} f r = alike_unchanged (alike r)
  where
    alike : Repetition p q → Alike p q
    alike (of_hard again softs) = record { frame = f; hard = automata.repeated_same again; softs = λ j. equal_moves (softs j) }
    alike (of_soft hard i again others) = record { frame = f; hard = equal_moves hard; softs = λ j. at j (ℕ_discrete j i) }
      where
        at : (j : ℕ) → Dec (j ≡ i) → SameMoves (soft p j) (soft q j)
        at j (yes e) = subst (λ n. SameMoves (soft p n) (soft q n)) (sym e) (automata.repeated_same again)
        at j (no e) = equal_moves (others j e)
