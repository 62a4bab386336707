-- The two tables tell which place leads to which.
--   blank_long   == a blank table has two words for each of 128 places
--   table_inside == a table of two words for each of 128 places, whose roads below 128 lead to places, is paved
--   paths_made   == tables that tell of the plan's roads, and of the places that park, are the plan's paths
use mathlib.Core.Path.{◌≡◌, sym, ap, ◌∙◌}
use mathlib.Core.Bool.{true, false}
use mathlib.Core.List.{List}
use Prim.Native.Nat.{ℕ, ◌%◌, ◌≤◌, ◌<◌}
use native.Mathlib.Decide.{dec_lt}
use native.Mathlib.Omega.{arith}
use lib.ListN.{length, replicate, length-replicate, get_or-eq_default}
use Rattle.base.specs.Bits.{has_bit}
use Rattle.base.proofs.Tests.{false_not_true}
use Rattle.nodes.specs.Sets.{road_b, Paved}
use Rattle.nodes.proofs.Masks.{has_none}
use Rattle.plan.specs.Tour.{joins}
use Rattle.plan.specs.WellFormed.{WellFormed}
use Rattle.plan.specs.declared.Plan.{Plan}
use Rattle.plan.proofs.Joins.{joins_from, joins_to}
use Rattle.roadmap.specs.Words.{Paths}
use Rattle.roadmap.proofs.Gains.{Told}

pub blank_long : {l : List ℕ} → l ≡ replicate 256 0 → length l ≡ 256
blank_long e = ap length e ∙ length-replicate {A = ℕ} 256 0

-- past the end of the table there is no road
past_none : (l : List ℕ) → length l ≡ 256 → (a b : ℕ) → 128 ≤ b → road_b l a b ≡ false
unfolding road_b
past_none l long a b h = ap (λ m. has_bit m (b % 64)) (get_or-eq_default l 0 (omega arith)) ∙ has_none (b % 64)

pub table_inside : (places : ℕ) (l : List ℕ) → length l ≡ 256 → ((a b : ℕ) → a < places → b < 128 → road_b l a b ≡ true → b < places) → Paved places l
table_inside places l long inside = record { long = long; inside = λ a b h r. by a b h r (dec_lt b 128) }
  where
    by : (a b : ℕ) → a < places → road_b l a b ≡ true → Dec (b < 128) → b < places
    by a b h r (yes k) = inside a b h k r
    by a b h r (no k) = absurd (false_not_true r (past_none l long a b (omega arith)))

pub paths_made : (p : Plan) {roads broads : List ℕ} → WellFormed p → length roads ≡ 256 → length broads ≡ 256 → Told (joins p) roads broads → Paths p roads broads
paths_made p {roads} {broads} ok long long_back t = record {
  forth = λ a b ha hb. t.forth a b (omega (arith, ok.few)) hb;
  back = λ a b ha hb. t.back a b ha (omega (arith, ok.few));
  paved = table_inside p.places roads long (λ a b ha hb r. joins_to p a b ok (sym (t.forth a b (omega (arith, ok.few)) hb) ∙ r));
  paved_back = table_inside p.places broads long_back (λ b a hb ha r. joins_from p a b ok (sym (t.back a b ha (omega (arith, ok.few))) ∙ r));
}
