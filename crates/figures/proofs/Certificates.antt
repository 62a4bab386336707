-- What passed tests of parts and walks show. No arc leads back, so a component of the product graph that the start reaches keeps
-- to one part; a set that it offers is then within the colours of that part, and the part was judged.
--   mp       == an implication that passes
--   offered  == what is offered is within a kept byte of which q holds
--   best_by, none_by == from parts of which none is better, or none has a tour, to what is offered
--   walks-by == a passed test, and a walk
use mathlib.Core.Path.{◌≡◌, refl, ◌∙◌}
use mathlib.Core.Bool.{Bool, true, false, ◌&&◌, ◌||◌}
use mathlib.Core.List.{List, [], ◌∷◌}
use Prim.Native.Nat.{ℕ, suc, ◌/◌, ◌≤◌, max}
use native.Mathlib.Nat.{le_trans}
use native.Mathlib.Omega.{arith}
use borrow.Author.Tests.{eqb-true, eq-eqb, leb-true, ltb-true}
use lib.ListN.{get_or}
use lib.Dec.{eqb, leb, ltb}
use Rattle.base.specs.Below.{all_below}
use Rattle.base.specs.Bits.{bit}
use Rattle.base.proofs.Tests.{and_intro, and_left, and_right, false_not_true, all_elim}
use Rattle.base.proofs.Bits.{bit_lt, bit-or}
use Rattle.graph.specs.Paths.{Star, Plus, plus, Mutual, Walk, arrived, leave}
use Rattle.graph.proofs.Paths.{star_one, star_keeps, mutual_refl}
use Rattle.plan.specs.Size.{size}
use Rattle.plan.specs.Cost.{keeps}
use Rattle.plan.specs.Key.{key}
use Rattle.plan.specs.declared.Plan.{Plan}
use Rattle.plan.proofs.Keys.{key_mono}
use Rattle.plan.proofs.Ties.{Within}
use Rattle.product.specs.Product.{arc_of, colours_of, start_node}
use Rattle.optimality.specs.Offer.{Edge, Colour, Offers, Choice, Nothing}
use Rattle.optimality.proofs.Colours.{bit_colour}
use Rattle.figures.specs.Certificate.{every_of, some_of, implies, has, listed, shades, turns, closed, parted, certified, walks_by}

pub mp : (a b : Bool) → implies a b ≡ true → a ≡ true → b ≡ true
mp true b h e = h
mp false b h e = absurd (false_not_true e refl)

or_left : (a b : Bool) → a ≡ true → (a || b) ≡ true
or_left a b h = rw h

or_right : (a b : Bool) → b ≡ true → (a || b) ≡ true
or_right true b h = refl
or_right false b h = h

or_elim : (a b : Bool) → (a || b) ≡ true → a ≡ false → b ≡ true
or_elim true b h e = absurd (false_not_true refl e)
or_elim false b h e = h

-- ---- lists of nodes

every_has : (c : List ℕ) (f : ℕ → Bool) (v : ℕ) → every_of c f ≡ true → has c v ≡ true → f v ≡ true
unfolding every_of some_of
every_has [] f v h l = absurd (false_not_true l refl)
every_has (x ∷ c) f v h l = by (eqb v x) refl (every_has c f v (and_right (f x) (every_of c f) h))
  where
    by : (b : Bool) → eqb v x ≡ b → (has c v ≡ true → f v ≡ true) → f v ≡ true
    by true e ih = rw (eqb-true v x e) (and_left (f x) (every_of c f) h)
    by false e ih = ih (or_elim (eqb v x) (has c v) l e)

some_has : (c : List ℕ) (f : ℕ → Bool) (v : ℕ) → has c v ≡ true → f v ≡ true → some_of c f ≡ true
unfolding some_of
some_has [] f v l h = absurd (false_not_true l refl)
some_has (x ∷ c) f v l h = by (eqb v x) refl (λ l. some_has c f v l h)
  where
    by : (b : Bool) → eqb v x ≡ b → (has c v ≡ true → some_of c f ≡ true) → (f x || some_of c f) ≡ true
    by true e ih = or_left (f x) (some_of c f) (rw (← eqb-true v x e) h)
    by false e ih = or_right (f x) (some_of c f) (ih (or_elim (eqb v x) (has c v) l e))

shades_has : (p : Plan) (c : List ℕ) (v i : ℕ) → has c v ≡ true → bit (colours_of p v) i ≡ 1 → bit (shades p c) i ≡ 1
unfolding some_of shades
shades_has p [] v i l h = absurd (false_not_true l refl)
shades_has p (x ∷ c) v i l h = bit-or (colours_of p x) (shades p c) i ∙ by (eqb v x) refl (λ l. shades_has p c v i l h)
  where
    by : (b : Bool) → eqb v x ≡ b → (has c v ≡ true → bit (shades p c) i ≡ 1) → max (bit (colours_of p x) i) (bit (shades p c) i) ≡ 1
    by true e ih = let same : bit (colours_of p x) i ≡ 1 = rw (← eqb-true v x e) h in omega (arith, bit_lt (shades p c) i)
    by false e ih = omega (arith, ih (or_elim (eqb v x) (has c v) l e), bit_lt (colours_of p x) i)

-- ---- parts

module _ (p : Plan) (q : ℕ → Bool) where
  -- the parts of a part's test
  module _ (c : List ℕ) (cs : List (List ℕ)) (h : parted p q (c ∷ cs) ≡ true) where
    both : (closed p c cs && implies (turns p c && keeps (shades p c) 0) (q (shades p c / 2))) ≡ true
    unfolding parted
    both = and_left (closed p c cs && implies (turns p c && keeps (shades p c) 0) (q (shades p c / 2))) (parted p q cs) h

    is_closed : closed p c cs ≡ true
    is_closed = and_left (closed p c cs) _ both

    is_judged : implies (turns p c && keeps (shades p c) 0) (q (shades p c / 2)) ≡ true
    is_judged = and_right (closed p c cs) _ both

    rest : parted p q cs ≡ true
    unfolding parted
    rest = and_right (closed p c cs && implies (turns p c && keeps (shades p c) 0) (q (shades p c / 2))) (parted p q cs) h

  edge_listed : (cs : List (List ℕ)) → parted p q cs ≡ true → (u v : ℕ) → listed cs u ≡ true → Edge p u v → listed cs v ≡ true
  unfolding listed
  edge_listed [] h u v l e = absurd (false_not_true l refl)
  edge_listed (c ∷ cs) h u v l e = by (has c u) refl (edge_listed cs (rest c cs h) u v)
    where
      by : (b : Bool) → has c u ≡ b → (listed cs u ≡ true → Edge p u v → listed cs v ≡ true) → (has c v || listed cs v) ≡ true
      by true m ih =
          mp (arc_of p u v) (has c v || listed cs v)
          (all_elim (λ v. implies (arc_of p u v) (has c v || listed cs v)) (size p)
          (every_has c (λ u. all_below (size p) (λ v. implies (arc_of p u v) (has c v || listed cs v))) u (is_closed c cs h) m) v e.to)
          e.arc
      by false m ih = or_right (has c v) (listed cs v) (ih (or_elim (has c u) (listed cs u) l m) e)

  star_listed : (cs : List (List ℕ)) → parted p q cs ≡ true → (u v : ℕ) → Star (Edge p) u v → listed cs u ≡ true → listed cs v ≡ true
  star_listed cs h u v s l = star_keeps (λ v. listed cs v ≡ true) (λ u v. edge_listed cs h u v) s l

  -- the part that the component of v keeps to
  record Part (v : ℕ) : Type 0 where
    nodes : List ℕ
    holds : (w : ℕ) → Mutual (Edge p) v w → has nodes w ≡ true
    judged : implies (turns p nodes && keeps (shades p nodes) 0) (q (shades p nodes / 2)) ≡ true

  -- the last part that has v: whatever is tied to v and is in a later part would have v in a later part too
  part_of : (cs : List (List ℕ)) → parted p q cs ≡ true → (v : ℕ) → listed cs v ≡ true → Part v
  unfolding listed
  part_of [] h v l = absurd (false_not_true l refl)
  part_of (c ∷ cs) h v l = by (listed cs v) refl (part_of cs (rest c cs h) v)
    where
      by : (b : Bool) → listed cs v ≡ b → (listed cs v ≡ true → Part v) → Part v
      by true e ih = ih e
      by false e ih = record { nodes = c; holds = λ w m. in_part w m (has c w) refl; judged = is_judged c cs h }
        where
          in_part : (w : ℕ) → Mutual (Edge p) v w → (b : Bool) → has c w ≡ b → b ≡ true
          in_part w m true k = refl
          in_part w m false k = absurd (false_not_true (star_listed cs (rest c cs h) w v m.from (or_elim (has c w) (listed cs w) (star_listed (c ∷ cs) h v w m.to l) k)) e)

  module _ (cs : List (List ℕ)) (h : certified p q cs ≡ true) (v k : ℕ) (reached : Star (Edge p) (start_node p) v) (offer : Offers p v k) where
    part : Part v
    part =
        let parts = and_right (listed cs (start_node p)) (parted p q cs) h in
        part_of cs parts v (star_listed cs parts (start_node p) v reached (and_left (listed cs (start_node p)) (parted p q cs) h))

    met : (c : ℕ) → c ≤ p.rules → (w : ℕ) × Colour p c w × Mutual (Edge p) v w → bit (shades p part.nodes) c ≡ 1
    met c l m = shades_has p part.nodes m.0 c (part.holds m.0 m.2) (bit_colour p m.0 c l m.1)

    goes_round : turns p part.nodes ≡ true
    goes_round = by offer.turns
      where
        by : Plus (Edge p) v v → turns p part.nodes ≡ true
        by (plus {v = x} e s) =
            some_has part.nodes (λ u. some_of part.nodes (arc_of p u)) v (part.holds v mutual_refl)
            (some_has part.nodes (arc_of p v) x (part.holds x (record { to = star_one e; from = s })) e.arc)

    pub offered : (m : ℕ) × (q m ≡ true) × Within p.rules k m
    unfolding bit
    offered =
        let x = shades p part.nodes in (
          x / 2,
          mp (turns p part.nodes && keeps x 0) (q (x / 2)) part.judged (and_intro goes_round (eq-eqb (bit x 0) 1 (met 0 (omega arith) (offer.meets 0 (omega arith) refl)))),
          λ i l e. eq-eqb (bit (x / 2) i) 1 (met (suc i) l (offer.meets (suc i) l e)),
        )

pub best_by : (p : Plan) (k : ℕ) (cs : List (List ℕ)) → certified p (λ m. leb (key p k) (key p m)) cs ≡ true → Choice p k
best_by p k cs h v k' small reached offer =
    let o = offered p (λ m. leb (key p k) (key p m)) cs h v k' reached offer in
    le_trans (leb-true (key p k) (key p o.0) o.1) (key_mono p.weights p.rules k' o.0 o.2)

pub none_by : (p : Plan) (cs : List (List ℕ)) → certified p (λ m. false) cs ≡ true → Nothing p
none_by p cs h v reached offer = false_not_true (offered p (λ m. false) cs h v 0 reached offer).1 refl

-- ---- walks

pub walks-by : (p : Plan) (u : ℕ) (xs : List ℕ) (v : ℕ) → walks_by p u xs v ≡ true → Walk (Edge p) u xs v
unfolding walks_by
walks-by p u [] v h = rw (eqb-true u v h) arrived
walks-by p u (x ∷ xs) v h = rw (← eqb-true u x (and_left (eqb u x) _ h)) (leave edge (walks-by p y xs v (and_right (arc_of p u y) _ c)))
  where
    y : ℕ
    y = get_or xs 0 v

    a : (ltb u (size p) && (ltb y (size p) && (arc_of p u y && walks_by p y xs v))) ≡ true
    a = and_right (eqb u x) _ h

    b : (ltb y (size p) && (arc_of p u y && walks_by p y xs v)) ≡ true
    b = and_right (ltb u (size p)) _ a

    c : (arc_of p u y && walks_by p y xs v) ≡ true
    c = and_right (ltb y (size p)) _ b

    edge : Edge p u y
    edge = record { from = ltb-true u (size p) (and_left (ltb u (size p)) _ a); to = ltb-true y (size p) (and_left (ltb y (size p)) _ b); arc = and_left (arc_of p u y) _ c }
