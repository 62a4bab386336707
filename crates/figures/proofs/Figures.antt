-- One lemma over the list of figures: a figure that passes its test holds.
--   passes_holds == that of one figure
--   all_pass     == all figures pass: the plan files are read and the parts and routes tested, by computing
--   figures_hold == all figures hold
use mathlib.Core.Path.{◌≡◌, refl, ap, ap₂, subst, transport}
use mathlib.Core.Bool.{Bool, true, false, not, ◌&&◌}
use mathlib.Core.List.{List, [], ◌∷◌}
use mathlib.Core.Logic.{◌⊎◌, inl, inr}
use Prim.Native.Nat.{ℕ, zero, suc, ◌^◌, ◌≤◌, ◌<◌}
use native.Mathlib.Omega.{arith}
use native.Mathlib.Nat.{le_trans}
use borrow.Author.Tests.{eqb-true, ne_eqb, ltb-true, leb-true}
use lib.Count.{ones, ones_in}
use lib.ListN.{length, get_or}
use lib.Dec.{eqb, leb}
use Rattle.std.specs.Prelude.{Result, Ok, Err}
use Rattle.base.specs.Below.{any_below, product_below, sum_below, all_below}
use Rattle.automata.specs.Automaton.{guard, fits, leads, step, blocked, trap_step, final}
use Rattle.automata.specs.Acceptance.{lasso_at}
use Rattle.base.specs.Bits.{bit}
use Rattle.base.proofs.Tests.{and_left, and_right, false_not_true, all_elim}
use Rattle.plan.specs.WellFormed.{weight, WellFormed}
use Rattle.plan.specs.Size.{size}
use Rattle.plan.specs.Tour.{parks, IsLasso, Hard, Soft, joins}
use Rattle.plan.specs.Cost.{keeps, KeptIs, cost, cost_of, Better}
use Rattle.plan.specs.Key.{tie, key_of, key}
use Rattle.plan.specs.Refusal as refused
use Rattle.plan.specs.declared.Plan.{Plan}
use Rattle.plan.specs.declared.Refusal.{Refusal}
use Rattle.plan.proofs.Keys.{key_mono, key_better}
use Rattle.text.specs.Scan.{starts_with, is_digit, canonical, digit_count, value, leading, number_at, key_at, newlines, line_at}
use Rattle.text.specs.Line.{within, line_of_one, finish}
use Rattle.reader.specs.Line.{road_line, move_line}
use Rattle.reader.specs.Blocks.{repeat, label_block, road_block, move_block, automaton_block, hard_block, soft_block, soft_blocks}
use Rattle.reader.specs.Map.{map_of}
use Rattle.reader.specs.Reading.{draft_of, answer, read_plan}
use Rattle.reader.proofs.WellRead.{read_well}
use Rattle.tuples.specs.Radix.{stride, encode}
use Rattle.product.specs.Product.{radices, tuple, node_of, arc_of, colours_below}
use Rattle.optimality.specs.Offer.{Choice}
use Rattle.optimality.proofs.Bound.{bound}
use Rattle.optimality.proofs.Best.{lasso_drive, hard_unrolls, soft_unrolls, tour_best, tour_none, exact}
use Rattle.serve.specs.Upcoming.{upcoming_places}
use Rattle.figures.specs.Bytes.{bytes}
use Rattle.figures.specs.Certificate.{implies, every_of, some_of, listed, shades, parted, walks_by}
use Rattle.figures.specs.Claim.{Room, Numbers, tour, refusal, Answers, Turned, Repeated, Dear, Tied}
use Rattle.figures.specs.Figure.{Route, Reason, best, none, short, Figure, answers, turned, repeats, dear, tied, served, plan_in, plan_of, Holds}
use Rattle.figures.specs.Figure.{is_plan, turned_as, all_of, alike, reason_tests, lighter, dear_tests, tied_tests, same, is_read, passes}
use Rattle.figures.specs.Cases.{figures}
use Rattle.figures.proofs.Certificates.{mp, offered, best_by, none_by}
use Rattle.figures.proofs.Routes.{all_nth, stem, cycle, lasso, hard, softs}
use Rattle.figures.proofs.Answers.{turned_away, repeated, answers_tour, answers_none, answers_short}

same_sound : (xs ys : List ℕ) → same xs ys ≡ true → xs ≡ ys
same_sound [] [] h = refl
same_sound [] (y ∷ ys) h = absurd (false_not_true h refl)
same_sound (x ∷ xs) [] h = absurd (false_not_true h refl)
same_sound (x ∷ xs) (y ∷ ys) h = ap₂ (λ a l. a ∷ l) (eqb-true x y (and_left (eqb x y) (same xs ys) h)) (same_sound xs ys (and_right (eqb x y) (same xs ys) h))

alike_sound : (x y : Numbers) → all_of (alike x y) ≡ true → x ≡ y
alike_sound x y h =
    let test = all_nth (alike x y) h in
    let number = eqb-true x.number y.number (test 0) in
    let cost = eqb-true x.cost y.cost (test 1) in
    let kept = eqb-true x.kept y.kept (test 2) in
    let count = eqb-true x.count y.count (test 3) in
    λ i. record { number = number i; cost = cost i; kept = kept i; count = count i }

plan_sound : (r : Result Plan Refusal) → is_plan r ≡ true → r ≡ Ok (plan_in r)
plan_sound (Ok p) h = refl
plan_sound (Err x) h = absurd (false_not_true h refl)

-- ---- an answer

module _ (text : List ℕ) (room : Room) (x : Numbers) (p : Plan) (o : read_plan text ≡ Ok p) (small : size p ≤ 2048) where
  ok : WellFormed p
  ok = read_well text p o

  reason_holds : (by : Reason) → all_of (reason_tests p room x by) ≡ true → Answers text room x
  reason_holds (best cs r) h =
      let test = all_nth (reason_tests p room x (best cs r)) h in
      let k = x.kept in
      let listed : k < 2 ^ p.rules = ltb-true k (2 ^ p.rules) (test 2) in
      let choice : Choice p k = best_by p k cs (test 3) in
      let d = test 4 in
      let kept = exact p ok k listed choice (stem p ok k r d) (cycle p ok k r d) (lasso p ok k r d) (hard p ok k r d) (softs p ok k r d) in
      subst (Answers text room) (alike_sound (tour (cost p k) k (ones k)) x (test 0))
      (answers_tour text room p o small (test 1) k (tour_best p ok k listed choice) (stem p ok k r d) (cycle p ok k r d) (lasso p ok k r d) (hard p ok k r d) kept)
  reason_holds (none cs) h =
      let test = all_nth (reason_tests p room x (none cs)) h in
      subst (Answers text room) (alike_sound (refusal 6) x (test 0)) (answers_none text room p o small (test 1) (tour_none p ok (none_by p cs (test 2))))
  reason_holds short h =
      let test = all_nth (reason_tests p room x short) h in
      subst (Answers text room) (alike_sound (refusal 5) x (test 0)) (answers_short text room p o small (test 1))

-- ---- a refusal

turned_holds : (text : List ℕ) (n line : ℕ) (r : Result Plan Refusal) → read_plan text ≡ r → turned_as r n line ≡ true → Turned text n line
turned_holds text n line (Ok p) e h = absurd (false_not_true h refl)
turned_holds text n line (Err x) e h =
    let number = eqb-true (refused.number x) n (and_left (eqb (refused.number x) n) (eqb (refused.line_of x) line) h) in
    let at = eqb-true (refused.line_of x) line (and_right (eqb (refused.number x) n) (eqb (refused.line_of x) line) h) in
    transport (λ i. Turned text (number i) (at i)) (turned_away text x e)

-- ---- a rule that is not worth it

better_cost : (p : Plan) (k k' : ℕ) → (k ≡ k') ⊎ Better p k k' → cost p k ≤ cost p k'
better_cost p k k' (inl e) = rw e (omega arith)
better_cost p k k' (inr (inl l)) = omega arith
better_cost p k k' (inr (inr (e, f))) = omega arith

module _ (p : Plan) (ok : WellFormed p) (rule least k : ℕ) (cs : List (List ℕ)) (r : Route) (h : all_of (dear_tests p rule least k cs r) ≡ true) where
  test : (i : ℕ) → get_or (dear_tests p rule least k cs r) i true ≡ true
  test = all_nth (dear_tests p rule least k cs r) h

  inside : rule < p.rules
  inside = ltb-true rule p.rules (test 0)

  costs : (stem cycle : List ℕ) → IsLasso p stem cycle → Hard p stem cycle → Soft p stem cycle rule → (k' : ℕ) → KeptIs p stem cycle k' → least ≤ cost p k'
  costs stem cycle lasso hard soft k' kept =
      let drive = lasso_drive p stem cycle lasso in
      let q : ℕ → Bool = λ m. implies (keeps m rule) (leb (key p k) (key p m)) in
      let b = bound p ok (lasso_at stem cycle) drive (hard_unrolls p stem cycle lasso hard) k' (λ i l e. soft_unrolls p stem cycle lasso i (kept.accepted i l e)) in
      let m = offered p q cs (test 5) b.0 k' b.1 b.2 in
      let le = leb-true (key p k) (key p m.0) (mp (keeps m.0 rule) _ m.1 (m.2 rule inside has_rule)) in
      let small : k < 2 ^ p.rules = ltb-true k (2 ^ p.rules) (test 3) in
      let e : cost p k ≡ least = eqb-true (cost p k) least (test 2) in
      let better = key_better p ok.rules k k' small kept.small (le_trans le (key_mono p.weights p.rules k' m.0 m.2)) in
      rw (← e) (better_cost p k k' better)
    where
      has_rule : keeps k' rule ≡ true
      has_rule = by (keeps k' rule) refl
        where
          by : (b : Bool) → keeps k' rule ≡ b → b ≡ true
          by true e = refl
          by false e = absurd (kept.refused rule inside e soft)

  dear_holds : Dear p rule least
  dear_holds = record {
    listed = inside;
    heaviest = λ i l apart. ltb-true _ _ (mp (not (eqb i rule)) _ (all_elim (lighter p rule) p.rules (test 1) i l) (rw (ne_eqb i rule apart)));
    stem = stem p ok k r (test 6);
    cycle = cycle p ok k r (test 6);
    lasso = lasso p ok k r (test 6);
    hard = hard p ok k r (test 6);
    kept = softs p ok k r (test 6) rule inside (test 4);
    dear = costs;
  }

-- ---- a rule of weight 0 that decides

module _ (p : Plan) (ok : WellFormed p) (rule k k' : ℕ) (r : Route) (h : all_of (tied_tests p rule k k' r) ≡ true) where
  passed : (i : ℕ) → get_or (tied_tests p rule k k' r) i true ≡ true
  passed = all_nth (tied_tests p rule k k' r) h

  tied_holds : Tied p rule k k'
  tied_holds = record {
    costs = eqb-true (cost p k) (cost p k') (passed 0);
    stem = stem p ok k' r (passed 1);
    cycle = cycle p ok k' r (passed 1);
    lasso = lasso p ok k' r (passed 1);
    hard = hard p ok k' r (passed 1);
    kept = softs p ok k' r (passed 1);
    listed = ltb-true rule p.rules (passed 2);
    before = λ i l. ap (λ b. eqb b 1) (eqb-true (bit k i) (bit k' i) (all_elim (λ i. eqb (bit k i) (bit k' i)) rule (passed 3) i l));
    has = passed 4;
    lacks = rw (eqb-true (bit k' rule) 0 (passed 5));
    watches = eqb-true (weight p rule) 0 (passed 6);
  }

-- ---- the list

pub passes_holds : (f : Figure) → passes f ≡ true → Holds f
unfolding passes Holds
passes_holds (answers text n room x by) h =
    let test = all_nth (is_read text ∷ eqb (size (plan_of text)) n ∷ leb n 2048 ∷ all_of (reason_tests (plan_of text) room x by) ∷ []) h in
    let e = eqb-true (size (plan_of text)) n (test 1) in
    (e, reason_holds (bytes text) room x (plan_of text) (plan_sound _ (test 0)) (omega (arith, e, leb-true n 2048 (test 2))) by (test 3))
passes_holds (turned text n line) h = turned_holds (bytes text) n line (read_plan (bytes text)) refl h
passes_holds (repeats text v) h =
    let test = all_nth (is_read text ∷ eqb (plan_of text).start v ∷ parks (plan_of text) v ∷ []) h in
    let e = eqb-true (plan_of text).start v (test 1) in
    subst (Repeated (bytes text)) e (repeated (bytes text) (plan_of text) (plan_sound _ (test 0)) (rw (← e) at (test 2)))
passes_holds (dear text rule least k cs r) h =
    let test = all_nth (is_read text ∷ all_of (dear_tests (plan_of text) rule least k cs r) ∷ []) h in
    dear_holds (plan_of text) (read_well (bytes text) (plan_of text) (plan_sound _ (test 0))) rule least k cs r (test 1)
passes_holds (tied text rule k k' r) h =
    let test = all_nth (is_read text ∷ all_of (tied_tests (plan_of text) rule k k' r) ∷ []) h in
    tied_holds (plan_of text) (read_well (bytes text) (plan_of text) (plan_sound _ (test 0))) rule k k' r (test 1)
passes_holds (served stem cycle t part) h = same_sound (upcoming_places stem cycle t) part h

pass : List Figure → Bool
pass [] = true
pass (f ∷ fs) = passes f && pass fs

pass_holds : (fs : List Figure) → pass fs ≡ true → (i : ℕ) → i < length fs → Holds (get_or fs i (served [] [] 0 []))
unfolding pass
pass_holds [] h i l = absurd (let z : ⊥ = omega arith in z)
pass_holds (f ∷ fs) h zero l = passes_holds f (and_left (passes f) (pass fs) h)
pass_holds (f ∷ fs) h (suc i) l = pass_holds fs (and_right (passes f) (pass fs) h) i (omega arith)

all_pass : pass figures ≡ true
unfolding pass passes all_of bytes upcoming_places
    read_plan answer draft_of map_of label_block road_block move_block automaton_block hard_block soft_block soft_blocks repeat
    within line_of_one road_line move_line finish starts_with is_digit canonical digit_count value leading number_at key_at newlines line_at
    size product_below every_of some_of listed shades parted walks_by all_below arc_of node_of tuple encode stride radices
    joins step trap_step blocked leads fits guard any_below final bit colours_below cost_of key_of tie sum_below ones ones_in
all_pass = refl

pub figures_hold : (i : ℕ) → i < length figures → Holds (get_or figures i (served [] [] 0 []))
figures_hold = pass_holds figures all_pass
