-- Roads that are added to a pair of tables, one by one.
--   gains_single == a table with one bit more has one road more
--   Told R roads broads == `roads` tells what R says, `broads` tells it turned round
--   told_through == calls that add a pair each add all to blank tables
--   told_joins   == the pairs of places that are joined, added, tell which places are joined
use mathlib.Core.Path.{◌≡◌, refl, sym, ap, ap₂, ◌∙◌}
use mathlib.Core.Bool.{Bool, true, false, cond, not, ◌&&◌, ◌||◌, or-true, or-false, and-true, and-false, and_comm, or_assoc}
use mathlib.Core.List.{List, [], ◌∷◌, ◌++◌}
use Prim.Native.Nat.{ℕ, zero, suc, ◌+◌, ◌*◌, ◌/◌, ◌%◌, ◌^◌, ◌<◌}
use native.Mathlib.Decide.{dec_lt, ℕ_discrete}
use native.Mathlib.Omega.{arith}
use borrow.Author.Tests.{lt-ltb, le-ltb, eq-eqb, ne_eqb}
use lib.ListN.{length, get_or, set, replicate}
use lib.Bits.{bit_or}
use lib.Dec.{eqb, ltb}
use Rattle.std.proofs.Common.{append-nil}
use Rattle.std.specs.List.{FoldsTo}
use Rattle.std.proofs.lemmas.Fn.{chained_keeps}
use Rattle.base.specs.Below.{any_below}
use Rattle.nodes.specs.Sets.{in_b, road_b, With}
use Rattle.nodes.proofs.Numbers.{node_place, node_tuple}
use Rattle.nodes.proofs.Words.{blank_at}
use Rattle.nodes.proofs.Changes.{word_joined}
use Rattle.nodes.proofs.Roads.{road_in, road_none}
use Rattle.plan.specs.Tour.{road_count, is_road, has_road, leaves, joins}
use Rattle.plan.specs.WellFormed.{WellFormed}
use Rattle.plan.specs.declared.Plan.{Plan}
use Rattle.roadmap.specs.Joined.{road_pairs, joined_pairs, pairs}
use Rattle.roadmap.specs.Words.{single, Gains}

-- one road more
pub gains_single : (l : List ℕ) (a b : ℕ) → length l ≡ 256 → a < 128 → b < 128
    → Gains (single a b) l (set l (b / 64 * 128 + a) (bit_or (get_or l (b / 64 * 128 + a) 0) (2 ^ (b % 64))))
gains_single l a b long ha hb = record { has = λ x y hx hy. road_in l' x y hx ∙ by x y hx hy (ℕ_discrete a x) (ℕ_discrete b y) ∙ ap (λ r. r || single a b x y) (sym (road_in l x y hx)) }
  where
    w : ℕ
    w = b / 64 * 128 + a

    l' : List ℕ
    l' = set l w (bit_or (get_or l w 0) (2 ^ (b % 64)))

    joined : With 16384 128 (b * 128 + a) l l'
    joined =
        rw (node_place 128 b a ha, node_tuple 128 b a ha) at
        (word_joined 16384 128 l (b * 128 + a) (omega arith) (rw (node_place 128 b a ha, node_tuple 128 b a ha) (omega arith)))

    by : (x y : ℕ) → x < 128 → y < 128 → Dec (a ≡ x) → Dec (b ≡ y) → in_b 128 l' (y * 128 + x) ≡ in_b 128 l (y * 128 + x) || single a b x y
    by x y hx hy (yes e) (yes f) =
        let here : y * 128 + x ≡ b * 128 + a = omega arith in
        rw (eq-eqb a x e, eq-eqb b y f, or-true) (ap (in_b 128 l') here ∙ joined.here)
    by x y hx hy (yes e) (no f) = rw (eq-eqb a x e, ne_eqb b y f, or-false) (joined.others (y * 128 + x) (omega arith) (λ z. f (omega arith)))
    by x y hx hy (no e) d = rw (ne_eqb a x e, or-false) (joined.others (y * 128 + x) (omega arith) (λ z. e (omega arith)))

-- one of the pairs
pub among : List (ℕ × ℕ) → ℕ → ℕ → Bool
among [] x y = false
among (z ∷ zs) x y = single z.0 z.1 x y || among zs x y

among_push : (zs : List (ℕ × ℕ)) (z : ℕ × ℕ) (x y : ℕ) → among (zs ++ (z ∷ [])) x y ≡ among zs x y || single z.0 z.1 x y
unfolding among
among_push [] z x y = or-false (single z.0 z.1 x y)
among_push (t ∷ ts) z x y = ap (λ r. single t.0 t.1 x y || r) (among_push ts z x y) ∙ sym (or_assoc (single t.0 t.1 x y) (among ts x y) (single z.0 z.1 x y))

pub record Told (R : ℕ → ℕ → Bool) (roads broads : List ℕ) : Type 0 where
  pub forth : (x y : ℕ) → x < 128 → y < 128 → road_b roads x y ≡ R x y
  pub back : (x y : ℕ) → x < 128 → y < 128 → road_b broads y x ≡ R x y

told_none : {l m : List ℕ} → l ≡ replicate 256 0 → m ≡ replicate 256 0 → Told (among []) l m
unfolding among
told_none e f = record {
  forth = λ x y _ _. ap (λ k. road_b k x y) e ∙ road_none (replicate 256 0) (blank_at 256) x y;
  back = λ x y _ _. ap (λ k. road_b k y x) f ∙ road_none (replicate 256 0) (blank_at 256) y x;
}

told_more : {l m l' m' : List ℕ} (zs : List (ℕ × ℕ)) (z : ℕ × ℕ) → Told (among zs) l m → Gains (single z.0 z.1) l l' → Gains (single z.1 z.0) m m'
    → Told (among (zs ++ (z ∷ []))) l' m'
told_more zs z t g h = record {
  forth = λ x y hx hy. g.has x y hx hy ∙ ap (λ r. r || single z.0 z.1 x y) (t.forth x y hx hy) ∙ sym (among_push zs z x y);
  back = λ x y hx hy. h.has y x hy hx ∙ ap₂ ◌||◌ (t.back x y hx hy) (and_comm (eqb z.1 y) (eqb z.0 x)) ∙ sym (among_push zs z x y);
}

-- what calls leave that add a pair each
pub told_through : {F N : Type 0} (R : F → ℕ × ℕ → F → Type 0) (zs : List (ℕ × ℕ)) (f g : F) → FoldsTo R f zs g → (name name_back : F → N) (roads broads : F → List ℕ)
    → ((f : F) (z : ℕ × ℕ) (g : F) → R f z g → (name g ≡ name f) × (name_back g ≡ name_back f) × Gains (single z.0 z.1) (roads f) (roads g) × Gains (single z.1 z.0) (broads f) (broads g))
    → roads f ≡ replicate 256 0 → broads f ≡ replicate 256 0 → {l m : List ℕ} → (name f ≡ name g → l ≡ roads g) → (name_back f ≡ name_back g → m ≡ broads g)
    → Told (among zs) l m
told_through {F} R zs f g ran name name_back roads broads step blank blank_back left left_back =
    rw (left (sym kept.0), left_back (sym kept.1)) kept.2
  where
    kept : (name g ≡ name f) × (name_back g ≡ name_back f) × Told (among zs) (roads g) (broads g)
    kept =
        chained_keeps R (λ zs g. (name g ≡ name f) × (name_back g ≡ name_back f) × Told (among zs) (roads g) (broads g))
        (λ zs q z v j r. let s = step q z v r in (s.0 ∙ j.0, s.1 ∙ j.1, told_more zs z j.2 s.2 s.3)) zs f g (refl, refl, told_none blank blank_back) ran

-- the pairs of a plan
module _ (p : Plan) (w : WellFormed p) where
  among_roads : (n x y : ℕ) → among (road_pairs p n) x y ≡ any_below n (is_road p x y)
  unfolding among road_pairs any_below
  among_roads zero x y = refl
  among_roads (suc n) x y = among_push (road_pairs p n) _ x y ∙ ap (λ r. r || is_road p x y n) (among_roads n x y)

  abbrev seen : ℕ → ℕ → ℕ → Bool
  seen n x y = has_road p x y || (eqb x y && (ltb x n && not (leaves p x)))

  -- one place more, which changes what is told of that place alone
  next : (n : ℕ) (free : Bool) → not (leaves p n) ≡ free → (x y : ℕ) → seen n x y || (single n n x y && free) ≡ seen (suc n) x y
  next n free is x y = by (ℕ_discrete n x) (dec_lt x n)
    where
      by : Dec (n ≡ x) → Dec (x < n) → seen n x y || (single n n x y && free) ≡ seen (suc n) x y
      by (yes e) d = rw (← is, ← e, le-ltb n n (omega arith), lt-ltb n (suc n) (omega arith), eq-eqb n n refl, and-false (eqb n y), or-false)
      by (no e) (yes d) = rw (ne_eqb n x e, lt-ltb x n d, lt-ltb x (suc n) (omega arith), or-false)
      by (no e) (no d) = rw (ne_eqb n x e, le-ltb x n (omega arith), le-ltb x (suc n) (omega arith), or-false)

  among_parked : (n x y : ℕ) → among (joined_pairs p n) x y ≡ seen n x y
  unfolding joined_pairs
  among_parked zero x y =
      let count : p.road_count ≡ road_count p = omega (arith, w.roads) in
      among_roads p.road_count x y ∙ ap (λ n. any_below n (is_road p x y)) count ∙ rw (le-ltb x 0 (omega arith), and-false (eqb x y), or-false) refl
  among_parked (suc n) x y = by (leaves p n) refl (among_parked n x y)
    where
      by : (b : Bool) → leaves p n ≡ b → among (joined_pairs p n) x y ≡ seen n x y → among (joined_pairs p n ++ cond (leaves p n) [] ((n, n) ∷ [])) x y ≡ seen (suc n) x y
      by true e before =
          rw (e, append-nil)
          (before ∙ sym (or-false (seen n x y)) ∙ ap (λ r. seen n x y || r) (sym (and-false (single n n x y))) ∙ next n false (ap not e) x y)
      by false e before =
          rw e
          (among_push (joined_pairs p n) (n, n) x y ∙ ap (λ r. r || single n n x y) before ∙ ap (λ r. seen n x y || r) (sym (and-true (single n n x y))) ∙ next n true (ap not e) x y)

  pub told_joins : {roads broads : List ℕ} → Told (among (pairs p)) roads broads → Told (joins p) roads broads
  unfolding joins
  told_joins t = record {
    forth = λ x y hx hy. t.forth x y hx hy ∙ among_parked p.places x y;
    back = λ x y hx hy. t.back x y hx hy ∙ among_parked p.places x y;
  }
