-- A list of entries read forward, a set of states at a time, and read from one state on: both tell the same.
--   met_same   == of sets with the same members the same is met
--   after_turn == what is reached from the set of one state is what a turn leads to from that state
--   met_meet   == and it is reached with an accepting state met where the turn meets one
-- The laws between take one reading to the other: after_of, met_by and met_of from the states to the sets, after_from and met_from back.
use mathlib.Core.Path.{◌≡◌, refl, sym, ap, ap₂, subst}
use mathlib.Core.Bool.{Bool, true, ◌&&◌, ◌||◌}
use mathlib.Core.List.{List, [], ◌∷◌}
use Prim.Native.Nat.{ℕ, ◌<◌}
use native.Mathlib.Omega.{arith}
use borrow.Author.Tests.{eq-eqb, eqb-true}
use lib.Dec.{eqb}
use Rattle.base.specs.Below.{any_below}
use Rattle.acceptance.specs.Decision.{after, turn, meet}
use Rattle.acceptance.specs.Sets.{met_after}
use Rattle.base.proofs.Tests.{bool_same, any_same, any_intro, any_elim, and_intro, and_left, and_right, or_left, or_right, or_elim}

-- the states that one step leads to from a set
abbrev onward : (ℕ → ℕ → ℕ → Bool) → ℕ → ℕ → (ℕ → Bool) → ℕ → Bool
onward δ n v X s = any_below n (λ q. X q && δ v q s)

module _ (δ : ℕ → ℕ → ℕ → Bool) (n : ℕ) where
  onward_same : (v : ℕ) (X X' : ℕ → Bool) → ((q : ℕ) → X q ≡ X' q) → (s : ℕ) → onward δ n v X s ≡ onward δ n v X' s
  onward_same v X X' e s = any_same _ _ n (λ q l. ap (λ b. b && δ v q s) (e q))

  onward_by : (v : ℕ) (X : ℕ → Bool) (q s : ℕ) → q < n → X q ≡ true → δ v q s ≡ true → onward δ n v X s ≡ true
  onward_by v X q s l x d = any_intro (λ q. X q && δ v q s) n q l (and_intro x d)

  onward_from : {C : Type 0} (v : ℕ) (X : ℕ → Bool) (s : ℕ) → onward δ n v X s ≡ true → ((q : ℕ) → q < n → X q ≡ true → δ v q s ≡ true → C) → C
  onward_from v X s h k =
      let f = any_elim (λ q. X q && δ v q s) n h in
      k f.0 f.1 (and_left (X f.0) _ f.2) (and_right (X f.0) _ f.2)

  -- a turn by its first step
  turn_by : (v : ℕ) (vs : List ℕ) (q s r : ℕ) → s < n → δ v q s ≡ true → turn δ n vs s r ≡ true → turn δ n (v ∷ vs) q r ≡ true
  unfolding turn
  turn_by v vs q s r l d t = any_intro (λ s. δ v q s && turn δ n vs s r) n s l (and_intro d t)

  turn_from : {C : Type 0} (v : ℕ) (vs : List ℕ) (q r : ℕ) → turn δ n (v ∷ vs) q r ≡ true
      → ((s : ℕ) → s < n → δ v q s ≡ true → turn δ n vs s r ≡ true → C) → C
  unfolding turn
  turn_from v vs q r h k =
      let f = any_elim (λ s. δ v q s && turn δ n vs s r) n h in
      k f.0 f.1 (and_left (δ v q f.0) _ f.2) (and_right (δ v q f.0) _ f.2)

  after_of : (vs : List ℕ) (X : ℕ → Bool) (q r : ℕ) → q < n → X q ≡ true → turn δ n vs q r ≡ true → after δ n vs X r ≡ true
  unfolding after turn
  after_of [] X q r l x t = subst (λ q. X q ≡ true) (eqb-true q r t) x
  after_of (v ∷ vs) X q r l x t =
      turn_from v vs q r t (λ s m d u. after_of vs (onward δ n v X) s r m (onward_by v X q s l x d) u)

module _ (δ : ℕ → ℕ → ℕ → Bool) (n : ℕ) (F : ℕ → Bool) where
  pub met_same : (vs : List ℕ) (X X' Y Y' : ℕ → Bool) → ((q : ℕ) → X q ≡ X' q) → ((q : ℕ) → Y q ≡ Y' q)
      → (r : ℕ) → met_after δ n F vs X Y r ≡ met_after δ n F vs X' Y' r
  unfolding met_after
  met_same [] X X' Y Y' e f r = f r
  met_same (v ∷ vs) X X' Y Y' e f r =
      met_same vs _ _ _ _ (onward_same δ n v X X' e)
      (λ s. ap₂ (λ a b. a || (F s && b)) (onward_same δ n v Y Y' f s) (onward_same δ n v X X' e s)) r

  -- those that one step leads to with an accepting state met, from a set and from those of it that have met one
  abbrev marked : ℕ → (ℕ → Bool) → (ℕ → Bool) → ℕ → Bool
  marked v X Y s = onward δ n v Y s || (F s && onward δ n v X s)

  meet_here : (vs : List ℕ) (q r : ℕ) → F q ≡ true → turn δ n vs q r ≡ true → meet δ n F vs q r ≡ true
  unfolding turn meet
  meet_here [] q r f t = and_intro f t
  meet_here (v ∷ vs) q r f t = or_right (any_below n (λ s. δ v q s && meet δ n F vs s r)) _ (and_intro f t)

  meet_by : (v : ℕ) (vs : List ℕ) (q s r : ℕ) → s < n → δ v q s ≡ true → meet δ n F vs s r ≡ true → meet δ n F (v ∷ vs) q r ≡ true
  unfolding meet
  meet_by v vs q s r l d m = or_left _ (F q && turn δ n (v ∷ vs) q r) (any_intro (λ s. δ v q s && meet δ n F vs s r) n s l (and_intro d m))

  met_by : (vs : List ℕ) (X Y : ℕ → Bool) (q r : ℕ) → q < n → Y q ≡ true → turn δ n vs q r ≡ true → met_after δ n F vs X Y r ≡ true
  unfolding met_after turn
  met_by [] X Y q r l y t = subst (λ q. Y q ≡ true) (eqb-true q r t) y
  met_by (v ∷ vs) X Y q r l y t = turn_from δ n v vs q r t (λ s m d u.
      met_by vs (onward δ n v X) (marked v X Y) s r m (or_left _ (F s && onward δ n v X s) (onward_by δ n v Y q s l y d)) u)

  met_of : (vs : List ℕ) (X Y : ℕ → Bool) → ((s : ℕ) → F s ≡ true → X s ≡ true → Y s ≡ true)
      → (q r : ℕ) → q < n → X q ≡ true → meet δ n F vs q r ≡ true → met_after δ n F vs X Y r ≡ true
  unfolding met_after meet turn
  met_of [] X Y here q r l x m =
      met_by [] X Y q r l (here q (and_left (F q) (eqb q r) m) x) (and_right (F q) (eqb q r) m)
  met_of (v ∷ vs) X Y here q r l x m = or_elim (any_below n (λ s. δ v q s && meet δ n F vs s r)) _ m
      (λ on.
      let f = any_elim (λ s. δ v q s && meet δ n F vs s r) n on in
      met_of vs (onward δ n v X) (marked v X Y) (λ s a o. or_right (onward δ n v Y s) _ (and_intro a o)) f.0 r f.1
      (onward_by δ n v X q f.0 l x (and_left (δ v q f.0) _ f.2)) (and_right (δ v q f.0) _ f.2))
      (λ now. met_by (v ∷ vs) X Y q r l (here q (and_left (F q) _ now) x) (and_right (F q) _ now))

module _ (δ : ℕ → ℕ → ℕ → Bool) (n : ℕ) (lands : (v q r : ℕ) → δ v q r ≡ true → r < n) where
  onward_lands : (v : ℕ) (X : ℕ → Bool) (s : ℕ) → onward δ n v X s ≡ true → s < n
  onward_lands v X s h = onward_from δ n v X s h (λ q l x d. lands v q s d)

  after_from : {C : Type 0} (vs : List ℕ) (X : ℕ → Bool) → ((q : ℕ) → X q ≡ true → q < n) → (r : ℕ) → after δ n vs X r ≡ true
      → ((q : ℕ) → q < n → X q ≡ true → turn δ n vs q r ≡ true → C) → C
  unfolding after turn
  after_from [] X below r h k = k r (below r h) h (eq-eqb r r refl)
  after_from (v ∷ vs) X below r h k = after_from vs (onward δ n v X) (onward_lands v X) r h (λ s m o t.
      onward_from δ n v X s o (λ q l x d. k q l x (turn_by δ n v vs q s r m d t)))

  pub after_turn : (vs : List ℕ) (q r : ℕ) → q < n → after δ n vs (eqb q) r ≡ turn δ n vs q r
  after_turn vs q r l = bool_same _ _
      (λ h. after_from vs (eqb q) (λ s e. omega (arith, l, eqb-true q s e)) r h (λ s m e t.
      subst (λ s. turn δ n vs s r ≡ true) (sym (eqb-true q s e)) t))
      (λ t. after_of δ n vs (eqb q) q r l (eq-eqb q q refl) t)

module _ (δ : ℕ → ℕ → ℕ → Bool) (n : ℕ) (F : ℕ → Bool) (lands : (v q r : ℕ) → δ v q r ≡ true → r < n) where
  marked_lands : (v : ℕ) (X Y : ℕ → Bool) (s : ℕ) → marked δ n F v X Y s ≡ true → s < n
  marked_lands v X Y s h = or_elim (onward δ n v Y s) _ h (onward_lands δ n lands v Y s) (λ m. onward_lands δ n lands v X s (and_right (F s) _ m))

  met_from : {C : Type 0} (vs : List ℕ) (X Y : ℕ → Bool) → ((q : ℕ) → Y q ≡ true → q < n) → (r : ℕ) → met_after δ n F vs X Y r ≡ true
      → ((q : ℕ) → q < n → Y q ≡ true → turn δ n vs q r ≡ true → C)
      → ((q : ℕ) → q < n → X q ≡ true → meet δ n F vs q r ≡ true → C) → C
  unfolding met_after turn
  met_from [] X Y below r h i j = i r (below r h) h (eq-eqb r r refl)
  met_from (v ∷ vs) X Y below r h i j = met_from vs (onward δ n v X) (marked δ n F v X Y) (marked_lands v X Y) r h
      (λ s m o t. or_elim (onward δ n v Y s) _ o
      (λ o. onward_from δ n v Y s o (λ q l y d. i q l y (turn_by δ n v vs q s r m d t)))
      (λ o. onward_from δ n v X s (and_right (F s) _ o) (λ q l x d.
      j q l x (meet_by δ n F v vs q s r m d (meet_here δ n F vs s r (and_left (F s) _ o) t)))))
      (λ s m o t. onward_from δ n v X s o (λ q l x d. j q l x (meet_by δ n F v vs q s r m d t)))

  pub met_meet : (vs : List ℕ) (q r : ℕ) → q < n → met_after δ n F vs (eqb q) (λ s. F s && eqb q s) r ≡ meet δ n F vs q r
  met_meet vs q r l = bool_same _ _
      (λ h. met_from vs (eqb q) (λ s. F s && eqb q s) (λ s y. omega (arith, l, eqb-true q s (and_right (F s) _ y))) r h
      (λ s m y t. back s (and_right (F s) _ y) (meet_here δ n F vs s r (and_left (F s) _ y) t))
      (λ s m e t. back s e t))
      (λ t. met_of δ n F vs (eqb q) (λ s. F s && eqb q s) (λ s f e. and_intro f e) q r l (eq-eqb q q refl) t)
    where
      back : (s : ℕ) → eqb q s ≡ true → meet δ n F vs s r ≡ true → meet δ n F vs q r ≡ true
      back s e t = subst (λ s. meet δ n F vs s r ≡ true) (sym (eqb-true q s e)) t
