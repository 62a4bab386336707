-- The tours of a plan and the rules that accept them (01, "Tours and what they keep"; 02, note 7).
--   label p v             == the label of place v
--   has_road p u v         == a road of p leads from place u to place v
--   leaves p u            == a road of p leads out of place u
--   parks p u             == u is a place of p, and no road leads out of it
--   joins p u v           == place u leads to place v: by a road, or u parks and v is u
--   Begins p v            == a tour may begin at place v
--   IsLasso p stem cycle  == run-in `stem` and loop `cycle` are a tour of p
--   word p stem cycle t   == the label that is read at step t
--   Hard p stem cycle     == the hard rule accepts the tour
--   Soft p stem cycle i   == soft rule i + 1 accepts the tour
use Rattle.std.specs.Prelude.{◌≡◌, Bool, true, not, ◌&&◌, ◌||◌, List, ℕ, suc, ◌+◌, ◌<◌, min, length, get_or, eqb, ltb}
use Rattle.base.specs.Below.{any_below}
use Rattle.automata.specs.Acceptance.{lasso_at, HardAccepts, SoftAccepts}
use Rattle.plan.specs.WellFormed.{soft, road}
use Rattle.plan.specs.declared.Plan.{Plan}

abbrev pub label : Plan → ℕ → ℕ
label p v = get_or p.labels v 0

-- the array has room for 1,024
abbrev pub road_count : Plan → ℕ
road_count p = min p.road_count 1024

abbrev pub is_road : Plan → ℕ → ℕ → ℕ → Bool
is_road p u v i = eqb (road p i).from u && eqb (road p i).to v

abbrev pub has_road : Plan → ℕ → ℕ → Bool
has_road p u v = any_below (road_count p) (is_road p u v)

abbrev pub leaves : Plan → ℕ → Bool
leaves p u = any_below (road_count p) (λ i. eqb (road p i).from u)

abbrev pub parks : Plan → ℕ → Bool
parks p u = ltb u p.places && not (leaves p u)

unfoldable pub joins : Plan → ℕ → ℕ → Bool
joins p u v = has_road p u v || (eqb u v && parks p u)

abbrev pub Begins : Plan → ℕ → Type 0
Begins p v = v ≡ p.start

-- The last of these steps, from the last place of the loop, is the one that closes it.
pub record IsLasso (p : Plan) (stem cycle : List ℕ) : Type 0 where
  pub filled : 0 < length cycle
  pub begins : Begins p (lasso_at stem cycle 0)
  pub roads : (t : ℕ) → t < length stem + length cycle → joins p (lasso_at stem cycle t) (lasso_at stem cycle (suc t)) ≡ true

abbrev pub word : Plan → List ℕ → List ℕ → ℕ → ℕ
word p stem cycle t = label p (lasso_at stem cycle t)

abbrev pub Hard : Plan → List ℕ → List ℕ → Type 0
Hard p stem cycle = HardAccepts p.hard (word p stem cycle) (length stem) (length cycle)

abbrev pub Soft : Plan → List ℕ → List ℕ → ℕ → Type 0
Soft p stem cycle i = SoftAccepts (soft p i) (word p stem cycle) (length stem) (length cycle)
