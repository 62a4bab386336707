-- A run-in and a loop spelled otherwise: the loop written twice, or driven once more in the run-in. The places are the same at every
-- step, and so is what is accepted. The loop may be empty.
--   lasso_doubled, lasso_turned     == the same places
--   Accepts δ q₀ F label stem cycle == 01's acceptance of the labels of a run-in and a loop
--   accepts_doubled, accepts_turned == the same acceptance. From the other spelling to the given one the same run serves, with its
--                                      turns counted otherwise; the other way the run that repeats itself for ever does (Unroll)
use mathlib.Core.Path.{◌≡◌, refl, sym, ap, ◌∙◌, subst}
use mathlib.Core.Bool.{Bool, true}
use mathlib.Core.Logic.{◌↔◌}
use mathlib.Core.List.{List, [], ◌∷◌, ◌++◌}
use Prim.Native.Nat.{ℕ, suc, ◌+◌, ◌-◌, ◌*◌, ◌/◌, ◌%◌, ◌≤◌, ◌<◌}
use native.Mathlib.Nat.{mod-lt, mod-eq_of_lt, mod-add-div', add-mod_left, add-mod_right, add-mul-mod_self_right, le-mul_of_pos_right}
use native.Mathlib.Decide.{dec_lt}
use native.Mathlib.Omega.{arith}
use lib.ListN.{length, get_or, length-append, get_or-append}
use lib.Seq.{get_or-append-add}
use Rattle.automata.specs.Acceptance.{Accepting, lasso_at}
use Rattle.automata.proofs.Lassos.{lasso_stem, lasso_cycle, lasso_period}
use Rattle.automata.proofs.Unroll.{Recurring, recurring, periodic}

-- a list written twice, read round and round
doubled_at : (cycle : List ℕ) → 0 < length cycle → (i : ℕ)
    → get_or (cycle ++ cycle) (i % length (cycle ++ cycle)) 0 ≡ get_or cycle (i % length cycle) 0
doubled_at cycle filled i = rw (length-append cycle cycle, rest) (at (dec_lt m l))
  where
    l : ℕ
    l = length cycle

    m : ℕ
    m = i % (l + l)

    c : ℕ
    c = i / (l + l)

    rest : i % l ≡ m % l
    rest = let e : i ≡ m + (c + c) * l = omega (arith, mod-add-div' i (l + l)) in ap (λ j. j % l) e ∙ add-mul-mod_self_right m (c + c) l

    at : Dec (m < l) → get_or (cycle ++ cycle) m 0 ≡ get_or cycle (m % l) 0
    at (yes h) = get_or-append cycle cycle 0 m h ∙ ap (λ j. get_or cycle j 0) (sym (mod-eq_of_lt h))
    at (no h) =
        let k : ℕ = m - l in
        let e : l + k ≡ m = omega arith in
        let g : k < l = omega (arith, mod-lt i {m = l + l} (omega arith)) in
        let f : m % l ≡ k = ap (λ j. j % l) (sym e) ∙ add-mod_left l k ∙ mod-eq_of_lt g in
        ap (λ j. get_or (cycle ++ cycle) j 0) (sym e) ∙ get_or-append-add cycle cycle k 0 ∙ ap (λ j. get_or cycle j 0) (sym f)

pub lasso_doubled : (stem cycle : List ℕ) (t : ℕ) → lasso_at stem (cycle ++ cycle) t ≡ lasso_at stem cycle t
lasso_doubled stem [] t = refl
lasso_doubled stem (x ∷ xs) t = at (dec_lt t (length stem))
  where
    cycle : List ℕ
    cycle = x ∷ xs

    at : Dec (t < length stem) → lasso_at stem (cycle ++ cycle) t ≡ lasso_at stem cycle t
    at (yes h) = lasso_stem stem (cycle ++ cycle) t h ∙ sym (lasso_stem stem cycle t h)
    at (no h) =
        let g : length stem ≤ t = omega arith in
        lasso_cycle stem (cycle ++ cycle) t g ∙ doubled_at cycle (omega arith) (t - length stem) ∙ sym (lasso_cycle stem cycle t g)

pub lasso_turned : (stem cycle : List ℕ) (t : ℕ) → lasso_at (stem ++ cycle) cycle t ≡ lasso_at stem cycle t
lasso_turned stem cycle t = at (dec_lt t r) (dec_lt t (r + l))
  where
    r : ℕ
    r = length stem

    l : ℕ
    l = length cycle

    longer : length (stem ++ cycle) ≡ r + l
    longer = length-append stem cycle

    at : Dec (t < r) → Dec (t < r + l) → lasso_at (stem ++ cycle) cycle t ≡ lasso_at stem cycle t
    at (yes h) d = lasso_stem (stem ++ cycle) cycle t (omega (arith, longer)) ∙ get_or-append stem cycle 0 t h ∙ sym (lasso_stem stem cycle t h)
    at (no h) (yes g) =
        let i : ℕ = t - r in
        let e : r + i ≡ t = omega arith in
        let f : i % l ≡ i = mod-eq_of_lt (omega arith) in
        lasso_stem (stem ++ cycle) cycle t (omega (arith, longer))
        ∙ ap (λ j. get_or (stem ++ cycle) j 0) (sym e)
        ∙ get_or-append-add stem cycle i 0
        ∙ ap (λ j. get_or cycle j 0) (sym f)
        ∙ sym (lasso_cycle stem cycle t (omega arith))
    at (no h) (no g) =
        let i : ℕ = t - length (stem ++ cycle) in
        let e : t - r ≡ i + l = omega (arith, longer) in
        lasso_cycle (stem ++ cycle) cycle t (omega (arith, longer))
        ∙ ap (λ j. get_or cycle j 0) (sym (ap (λ j. j % l) e ∙ add-mod_right i l))
        ∙ sym (lasso_cycle stem cycle t (omega arith))

abbrev pub Accepts : (ℕ → ℕ → ℕ → Bool) → ℕ → (ℕ → Bool) → (ℕ → ℕ) → List ℕ → List ℕ → Type 0
Accepts δ q₀ F label stem cycle = Accepting δ q₀ F (λ t. label (lasso_at stem cycle t)) (length stem) (length cycle)

module _ {δ : ℕ → ℕ → ℕ → Bool} {q₀ : ℕ} {F : ℕ → Bool} {w : ℕ → ℕ} where
  -- the same run, where its turns end at the same steps
  recounted : {r l : ℕ} (A : Accepting δ q₀ F w r l) (r' l' a b : ℕ) → 1 ≤ b
      → r + A.a * l ≡ r' + a * l' → r + (A.a + A.b) * l ≡ r' + (a + b) * l' → Accepting δ q₀ F w r' l'
  recounted A r' l' a b some start end = record {
    a = a;
    b = b;
    run = A.run;
    turns = some;
    starts = A.starts;
    steps = λ t h. A.steps t (omega arith);
    returns = ap A.run (sym start) ∙ A.returns ∙ ap A.run end;
    accepts = (A.accepts.0, omega (arith, A.accepts.1), omega (arith, A.accepts.2), A.accepts.3);
  }

  -- the run that repeats itself, where the turns are whole periods of it
  repeated : {s p : ℕ} → Recurring δ q₀ F w s p → (r l a b m : ℕ) → 1 ≤ b → 0 < m → s ≤ r + a * l → b * l ≡ p * m → Accepting δ q₀ F w r l
  repeated {s} {p} C r l a b m some more late whole = record {
    a = a;
    b = b;
    run = C.run;
    turns = some;
    starts = C.starts;
    steps = λ t h. C.steps t;
    returns = sym (ap C.run later ∙ periodic C.run s p C.again m (r + a * l) late);
    accepts = (u.0, u.1, omega (arith, u.2, le-mul_of_pos_right p more), u.3);
  }
    where
      later : r + (a + b) * l ≡ r + a * l + m * p
      later = omega arith

      u : (u : ℕ) × (r + a * l ≤ u) × (u ≤ r + a * l + p) × (F (C.run u) ≡ true)
      u = C.meets (r + a * l) late

module _ (δ : ℕ → ℕ → ℕ → Bool) (q₀ : ℕ) (F : ℕ → Bool) (label : ℕ → ℕ) (stem cycle : List ℕ) where
  abbrev r : ℕ
  r = length stem

  abbrev l : ℕ
  l = length cycle

  abbrev w : ℕ → ℕ
  w t = label (lasso_at stem cycle t)

  rounds : 0 < l → (A : Accepting δ q₀ F w r l) → Recurring δ q₀ F w (r + A.a * l) (A.b * l)
  rounds filled = recurring δ q₀ F w r l filled (λ t h. ap label (lasso_period stem cycle t h))

  -- another spelling of the same places, r' and l' being the lengths of its run-in and of its loop
  respelled : (stem' cycle' : List ℕ) → ((t : ℕ) → lasso_at stem' cycle' t ≡ lasso_at stem cycle t)
      → (r' l' : ℕ) → length stem' ≡ r' → length cycle' ≡ l'
      → Accepting δ q₀ F w r' l' ≡ Accepts δ q₀ F label stem' cycle'
  respelled stem' cycle' same r' l' er el = λ i. Accepting δ q₀ F (λ t. label (sym (same t) i)) (sym er i) (sym el i)

  doubled : 0 < l → Accepting δ q₀ F w r l ↔ Accepting δ q₀ F w r (l + l)
  doubled filled = (
    λ A. repeated (rounds filled A) r (l + l) A.a A.b 2 A.turns (omega arith) (omega arith) (omega arith),
    λ A. recounted A r l (A.a + A.a) (A.b + A.b) (omega (arith, A.turns)) (omega arith) (omega arith),
  )

  turned : Accepting δ q₀ F w r l ↔ Accepting δ q₀ F w (r + l) l
  turned = (λ A. there A (dec_lt 0 l), λ A. recounted A r l (suc A.a) A.b A.turns (omega arith) (omega arith))
    where
      there : Accepting δ q₀ F w r l → Dec (0 < l) → Accepting δ q₀ F w (r + l) l
      there A (yes h) = repeated (rounds h A) (r + l) l A.a A.b 1 A.turns (omega arith) (omega arith) (omega arith)
      there A (no h) = recounted A (r + l) l A.a A.b A.turns (omega arith) (omega arith)

pub accepts_doubled : (δ : ℕ → ℕ → ℕ → Bool) (q₀ : ℕ) (F : ℕ → Bool) (label : ℕ → ℕ) (stem cycle : List ℕ)
    → Accepts δ q₀ F label stem cycle ↔ Accepts δ q₀ F label stem (cycle ++ cycle)
accepts_doubled δ q₀ F label stem [] = (λ A. A, λ A. A)
accepts_doubled δ q₀ F label stem (x ∷ xs) =
    let cycle : List ℕ = x ∷ xs in
    let l : ℕ = length cycle in
    subst (λ T. Accepts δ q₀ F label stem cycle ↔ T)
    (respelled δ q₀ F label stem cycle stem (cycle ++ cycle) (lasso_doubled stem cycle) (length stem) (l + l) refl (length-append cycle cycle))
    (doubled δ q₀ F label stem cycle (omega arith))

pub accepts_turned : (δ : ℕ → ℕ → ℕ → Bool) (q₀ : ℕ) (F : ℕ → Bool) (label : ℕ → ℕ) (stem cycle : List ℕ)
    → Accepts δ q₀ F label stem cycle ↔ Accepts δ q₀ F label (stem ++ cycle) cycle
accepts_turned δ q₀ F label stem cycle =
    let r : ℕ = length stem in
    let l : ℕ = length cycle in
    subst (λ T. Accepts δ q₀ F label stem cycle ↔ T)
    (respelled δ q₀ F label stem cycle (stem ++ cycle) cycle (lasso_turned stem cycle) (r + l) l (length-append stem cycle) refl)
    (turned δ q₀ F label stem cycle)
