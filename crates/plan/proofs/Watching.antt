-- A rule of weight 0 only watches (02, note 5): it costs nothing, it counts in a tie as every rule does, and where it stands last it changes
-- nothing of the others.
--   Apart p k k'    == the sets k and k' differ in rules of weight 0 alone
--   watched_cost    == then they cost the same
--   watched_decides == and the one that has the first rule on which they differ is the better one
--   without p n     == p without its last rule, soft rule n + 1
--   last_cost       == if that rule weighs nothing, a set costs the same with it and without it
--   last_best       == and the best set of p is, but for that rule, the best set of p without it
use mathlib.Core.Path.{◌≡◌, refl, sym, ap, subst, ◌∙◌}
use mathlib.Core.Bool.{Bool, true, false, cond}
use mathlib.Core.List.{List}
use mathlib.Core.Logic.{◌⊎◌, inl, inr}
use Prim.Native.Nat.{ℕ, suc, ◌^◌, ◌≤◌, ◌<◌}
use native.Mathlib.Nat.{pow-suc}
use native.Mathlib.Decide.{dec_lt}
use native.Mathlib.Omega.{arith}
use lib.ListN.{length, set}
use lib.Seq.{get_or-set_other}
use borrow.Author.Tests.{eqb-true}
use Rattle.base.specs.Below.{sum_below}
use Rattle.base.specs.Bits.{bit}
use Rattle.base.proofs.Bits.{bit_high}
use Rattle.automata.specs.Acceptance.{SoftAccepts}
use Rattle.automata.specs.WellFormed.{no_automaton}
use Rattle.plan.specs.WellFormed.{weight}
use Rattle.plan.specs.Tour.{joins, word, IsLasso, Soft}
use Rattle.plan.specs.Cost.{keeps, cost, cost_of, First, Better, Best}
use Rattle.plan.specs.declared.Plan.{Plan}
use Rattle.base.proofs.Sums.{sum_le}
use Rattle.plan.proofs.Sums.{kept_ext}
use Rattle.plan.proofs.Ties.{Agree}

abbrev pub Apart : Plan → ℕ → ℕ → Type 0
Apart p k k' = (i : ℕ) → i < p.rules → (keeps k i ≡ keeps k' i) ⊎ (weight p i ≡ 0)

charge_le : (b b' : Bool) (w : ℕ) → (b ≡ b') ⊎ (w ≡ 0) → cond b 0 w ≤ cond b' 0 w
charge_le true b' w h = omega arith
charge_le false false w h = omega arith
charge_le false true w (inr e) = omega arith
charge_le false true w (inl e) = let z : ◌≡◌ {A = ℕ} 0 1 = cc in absurd (omega arith)

apart_sym : (p : Plan) (k k' : ℕ) → Apart p k k' → Apart p k' k
apart_sym p k k' a i l = back (a i l)
  where
    back : (keeps k i ≡ keeps k' i) ⊎ (weight p i ≡ 0) → (keeps k' i ≡ keeps k i) ⊎ (weight p i ≡ 0)
    back (inl e) = inl (sym e)
    back (inr z) = inr z

no_dearer : (p : Plan) (k k' : ℕ) → Apart p k k' → cost p k ≤ cost p k'
unfolding cost_of
no_dearer p k k' a = sum_le p.rules _ _ (λ i l. charge_le (keeps k i) (keeps k' i) (weight p i) (a i l))

pub watched_cost : (p : Plan) (k k' : ℕ) → Apart p k k' → cost p k ≡ cost p k'
watched_cost p k k' a = omega (arith, no_dearer p k k' a, no_dearer p k' k (apart_sym p k k' a))

pub watched_decides : (p : Plan) (k k' : ℕ) → Apart p k k' → First p.rules k k' → Better p k k'
watched_decides p k k' a f = inr (watched_cost p k k' a, f)

abbrev pub without : Plan → ℕ → Plan
without p n = record {
  marks = p.marks;
  places = p.places;
  start = p.start;
  road_count = p.road_count;
  rules = n;
  labels = p.labels;
  roads = p.roads;
  hard = p.hard;
  soft = set p.soft n no_automaton;
  weights = set p.weights n 0;
}

module _ (p : Plan) (n : ℕ) (last : p.rules ≡ suc n) (watches : weight p n ≡ 0) where
  abbrev q : Plan
  q = without p n

  same_weight : (i : ℕ) → i < n → weight q i ≡ weight p i
  same_weight i l = get_or-set_other p.weights n i 0 0 (λ e. omega arith)

  charge_eq : (b b' : Bool) (w w' : ℕ) → b ≡ b' → w ≡ w' → cond b 0 w ≤ cond b' 0 w'
  charge_eq b b' w w' e f = rw (e, f) (omega arith)

  none : (b : Bool) → cond b 0 (weight p n) ≡ 0
  none true = refl
  none false = watches

  pub last_cost : (k k₀ : ℕ) → Agree n k₀ k → cost q k₀ ≡ cost p k
  unfolding cost_of sum_below
  last_cost k k₀ agree =
      rw last
      (omega (
        arith,
        sum_le n (λ i. cond (keeps k₀ i) 0 (weight q i)) (λ i. cond (keeps k i) 0 (weight p i)) (λ i l. charge_eq _ _ _ _ (agree i l) (same_weight i l)),
        sum_le n (λ i. cond (keeps k i) 0 (weight p i)) (λ i. cond (keeps k₀ i) 0 (weight q i)) (λ i l. charge_eq _ _ _ _ (sym (agree i l)) (sym (same_weight i l))),
        none (keeps k n),
      ))

  to_tour : (stem cycle : List ℕ) → IsLasso q stem cycle → IsLasso p stem cycle
  unfolding joins
  to_tour stem cycle t = record { filled = t.filled; begins = t.begins; roads = t.roads }

  to_soft : (stem cycle : List ℕ) (i : ℕ) → i < n → Soft q stem cycle i → Soft p stem cycle i
  to_soft stem cycle i l =
      subst (λ a. SoftAccepts a (word p stem cycle) (length stem) (length cycle)) (get_or-set_other p.soft n i no_automaton no_automaton (λ e. omega arith))

  pub last_best : (k k₀ : ℕ) → k₀ < 2 ^ n → Agree n k₀ k → Best p k → Best q k₀
  last_best k k₀ small₀ agree best stem cycle tour hard k' small accepted =
      chosen (best stem cycle (to_tour stem cycle tour) hard k' (rw (last, pow-suc) (omega arith)) (λ i l e. at i l e (dec_lt i n)))
    where
      at : (i : ℕ) → i < p.rules → keeps k' i ≡ true → Dec (i < n) → Soft p stem cycle i
      at i l e (yes b) = to_soft stem cycle i b (accepted i b e)
      at i l e (no b) = absurd (omega (arith, eqb-true (bit k' i) 1 e, bit_high n k' i small (omega arith)))

      by_rule : cost p k ≡ cost p k' → (f : First p.rules k k') → Dec (f.rule < n) → (k₀ ≡ k') ⊎ Better q k₀ k'
      by_rule e f (yes b) =
          inr (inr (
            omega (arith, last_cost k k₀ agree, last_cost k' k' (λ i l. refl)),
            record {
              rule = f.rule;
              listed = b;
              before = λ i l. agree i (omega arith) ∙ f.before i l;
              kept = agree f.rule b ∙ f.kept;
              dropped = f.dropped;
            },
          ))
      by_rule e f (no b) = inl (kept_ext n k₀ k' small₀ small (λ i l. agree i l ∙ f.before i (omega arith)))

      chosen : (k ≡ k') ⊎ Better p k k' → (k₀ ≡ k') ⊎ Better q k₀ k'
      chosen (inl e) = inl (kept_ext n k₀ k' small₀ small (λ i l. agree i l ∙ ap (λ x. keeps x i) e))
      chosen (inr (inl l)) = inr (inl (omega (arith, last_cost k k₀ agree, last_cost k' k' (λ i l. refl))))
      chosen (inr (inr (e, f))) = by_rule e f (dec_lt f.rule n)
