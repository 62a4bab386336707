-- `decided` decides 01's acceptance. The run-in and the loop may be any lists, the loop also the empty one.
--   decided_accepts == what is decided is accepted: a stretch over the run-in, turns of the loop, a turn in which an accepting state is
--                      met and the turns back are joined to one run
--   accepts_decided == what is accepted is decided, where q₀ is below n and every step of δ leads to a state below n: of the run's turns
--                      of the loop the accepting state stands in one, and the state in which that turn begins serves. It leads back to
--                      itself by the turns up to the last, which ends in the state after a turns, and the turns from there
use mathlib.Core.Path.{◌≡◌, refl, sym, ap, ◌∙◌, subst}
use mathlib.Core.Bool.{Bool, true, ◌&&◌}
use mathlib.Core.List.{List}
use Prim.Native.Nat.{ℕ, zero, suc, ◌+◌, ◌-◌, ◌*◌, ◌%◌, ◌≤◌, ◌<◌}
use native.Mathlib.Nat.{le_refl, mul-le-mul_right, mod-eq_of_lt, mul-add-mod_self_right, add-sub_cancel_left}
use native.Mathlib.Decide.{dec_le, le_ind}
use native.Mathlib.Omega.{arith}
use borrow.Author.Tests.{eq-eqb, eqb-true}
use lib.ListN.{length}
use lib.Dec.{eqb}
use Rattle.base.specs.Below.{any_below}
use Rattle.base.proofs.Tests.{any_intro, any_elim, and_intro, and_left, and_right}
use Rattle.automata.specs.Acceptance.{Accepting, lasso_at}
use Rattle.automata.proofs.Lassos.{lasso_stem, lasso_cycle}
use Rattle.acceptance.specs.Decision.{after, turn, meet, turns, decided}
use Rattle.acceptance.proofs.Stretches.{Stretch, Meeting, stretch_none, stretch_same, stretch_join, meeting_same, meeting_join, accepting_join}
use Rattle.acceptance.proofs.Turns.{word, turn_stretch, after_stretch, meet_meeting, stretch_turn, stretch_after, meeting_meet}
use Rattle.acceptance.proofs.Closure.{linked_refl, linked_one, linked_trans, linked_least}

-- a list that is repeated for ever
abbrev loop : List ℕ → ℕ → ℕ
loop cycle t = word cycle (t % length cycle)

loop_first : (cycle : List ℕ) (t : ℕ) → t < length cycle → word cycle t ≡ loop cycle t
loop_first cycle t h = ap (word cycle) (sym (mod-eq_of_lt h))

loop_later : (cycle : List ℕ) (c t : ℕ) → loop cycle (c * length cycle + t) ≡ loop cycle t
loop_later cycle c t = ap (word cycle) (mul-add-mod_self_right c (length cycle) t)

-- past the run-in, and past it and a turns
lasso_loop : (stem cycle : List ℕ) (t : ℕ) → lasso_at stem cycle (length stem + t) ≡ loop cycle t
lasso_loop stem cycle t = lasso_cycle stem cycle (length stem + t) (omega arith) ∙ ap (loop cycle) (add-sub_cancel_left (length stem) t)

lasso_later : (stem cycle : List ℕ) (a t : ℕ) → lasso_at stem cycle (length stem + a * length cycle + t) ≡ loop cycle t
lasso_later stem cycle a t =
    let e : length stem + a * length cycle + t ≡ length stem + (a * length cycle + t) = omega arith in
    ap (lasso_at stem cycle) e ∙ lasso_loop stem cycle (a * length cycle + t) ∙ loop_later cycle a t

module _ (δ : ℕ → ℕ → ℕ → Bool) (n q₀ : ℕ) (F : ℕ → Bool) (stem cycle : List ℕ) where
  abbrev r : ℕ
  r = length stem

  abbrev l : ℕ
  l = length cycle

  abbrev w : ℕ → ℕ
  w = lasso_at stem cycle

  -- some turns of the loop
  abbrev Turned : ℕ → ℕ → Type 0
  Turned q s = (c : ℕ) × Stretch δ (loop cycle) (c * l) q s

  turned_join : (q m s : ℕ) → Turned q m → Turned m s → Turned q s
  turned_join q m s T U =
      let U' = stretch_same refl (λ t h. sym (loop_later cycle T.0 t)) U.1 in
      (T.0 + U.0, stretch_same (omega arith) (λ t h. refl) (stretch_join T.1 U'))

  turned : (q s : ℕ) → turns δ n cycle q s ≡ true → Turned q s
  turned = linked_least (turn δ n cycle) Turned none one turned_join n
    where
      none : (q s : ℕ) → q ≡ s → Turned q s
      none q s e = (0, stretch_same (omega arith) (λ t h. refl) (stretch_none e))

      one : (q s : ℕ) → turn δ n cycle q s ≡ true → Turned q s
      one q s h = (1, stretch_same (omega arith) (loop_first cycle) (turn_stretch δ n cycle q s h))

  -- the two halves of `decided`, of a state s: it is reached, and it leads back to itself
  abbrev reached : ℕ → ℕ → Bool
  reached s p = after δ n stem (eqb q₀) p && turns δ n cycle p s

  abbrev back : ℕ → ℕ → Bool
  back s t = meet δ n F cycle s t && turns δ n cycle t s

  reached_stretch : (s : ℕ) → any_below n (reached s) ≡ true → (a : ℕ) × Stretch δ w (r + a * l) q₀ s
  reached_stretch s h =
      let p = any_elim (reached s) n h in
      let A = after_stretch δ n stem (eqb q₀) p.0 (and_left (after δ n stem (eqb q₀) p.0) (turns δ n cycle p.0 s) p.2) in
      let T = turned p.0 s (and_right (after δ n stem (eqb q₀) p.0) (turns δ n cycle p.0 s) p.2) in
      let S = subst (λ q. Stretch δ (word stem) r q p.0) (sym (eqb-true q₀ A.0 A.1)) A.2 in
      let S' = stretch_same refl (λ t h. sym (lasso_stem stem cycle t h)) S in
      let T' = stretch_same refl (λ t h. sym (lasso_loop stem cycle t)) T.1 in
      (T.0, stretch_join S' T')

  back_meeting : (s : ℕ) → any_below n (back s) ≡ true → (b : ℕ) × (1 ≤ b) × Meeting δ F (loop cycle) (b * l) s s
  back_meeting s h =
      let t = any_elim (back s) n h in
      let M = meet_meeting δ n F cycle s t.0 (and_left (meet δ n F cycle s t.0) (turns δ n cycle t.0 s) t.2) in
      let T = turned t.0 s (and_right (meet δ n F cycle s t.0) (turns δ n cycle t.0 s) t.2) in
      let N : Meeting δ F (loop cycle) (1 * l) s t.0 = meeting_same (omega arith) (loop_first cycle) M in
      let J = meeting_join N (stretch_same refl (λ t h. sym (loop_later cycle 1 t)) T.1) in
      (suc T.0, omega arith, meeting_same (omega arith) (λ t h. refl) J)

  pub decided_accepts : decided δ n q₀ F stem cycle ≡ true → Accepting δ q₀ F (lasso_at stem cycle) (length stem) (length cycle)
  unfolding decided
  decided_accepts h =
      let s = any_elim (λ s. any_below n (reached s) && any_below n (back s)) n h in
      let S = reached_stretch s.0 (and_left (any_below n (reached s.0)) (any_below n (back s.0)) s.2) in
      let M = back_meeting s.0 (and_right (any_below n (reached s.0)) (any_below n (back s.0)) s.2) in
      accepting_join r l S.0 M.0 M.1 S.1 (meeting_same refl (λ t h. sym (lasso_later stem cycle S.0 t)) M.2)

  module _ (first : q₀ < n) (lands : (v q r : ℕ) → δ v q r ≡ true → r < n) (A : Accepting δ q₀ F w r l) where
    abbrev end : ℕ
    end = r + (A.a + A.b) * l

    -- the state after j turns
    abbrev state : ℕ → ℕ
    state j = A.run (r + j * l)

    inside : (t : ℕ) → t ≤ end → A.run t < n
    inside zero h = omega (arith, A.starts)
    inside (suc t) h = lands (w t) (A.run t) (A.run (suc t)) (A.steps t h)

    inside_state : (j : ℕ) → j ≤ A.a + A.b → state j < n
    inside_state j h = inside (r + j * l) (omega (arith, mul-le-mul_right l h))

    stem_cut : Stretch δ (word stem) r q₀ (state 0)
    stem_cut = record {
      run = A.run;
      starts = A.starts;
      ends = ap A.run (omega arith);
      steps = λ t g. rw (lasso_stem stem cycle t g) at (A.steps t (omega arith));
    }

    turn_cut : (j : ℕ) → j < A.a + A.b → Stretch δ (word cycle) l (state j) (state (suc j))
    turn_cut j h = record { run = λ t. A.run (r + j * l + t); starts = ap A.run (omega arith); ends = ap A.run (omega arith); steps = steps }
      where
        steps : (t : ℕ) → t < l → δ (word cycle t) (A.run (r + j * l + t)) (A.run (r + j * l + suc t)) ≡ true
        steps t g =
            let e : suc (r + j * l + t) ≡ r + j * l + suc t = omega arith in
            let v : w (r + j * l + t) ≡ word cycle t = lasso_later stem cycle j t ∙ sym (loop_first cycle t g) in
            rw (e, v) at (A.steps (r + j * l + t) (omega (arith, mul-le-mul_right l h)))

    turn_at : (j : ℕ) → j < A.a + A.b → turn δ n cycle (state j) (state (suc j)) ≡ true
    turn_at j h = stretch_turn δ n lands cycle (state j) (state (suc j)) (turn_cut j h)

    turns_at : (i j : ℕ) → i ≤ j → j ≤ A.a + A.b → turns δ n cycle (state i) (state j) ≡ true
    turns_at i = le_ind (λ j. j ≤ A.a + A.b → turns δ n cycle (state i) (state j) ≡ true)
        (λ h. linked_refl (turn δ n cycle) n (state i))
        (λ j g ih h. linked_trans (turn δ n cycle) n (state i) (state j) (state (suc j)) (inside_state j (omega arith)) (ih (omega arith))
        (linked_one (turn δ n cycle) n (state j) (state (suc j)) (turn_at j h)))

    -- the turn in which step t stands
    turn_of : (t b : ℕ) → 1 ≤ b → r + A.a * l ≤ t → t ≤ r + (A.a + b) * l
        → (j : ℕ) × (A.a ≤ j) × (j < A.a + b) × (r + j * l ≤ t) × (t ≤ r + suc j * l)
    turn_of t zero some low high = absurd (omega arith)
    turn_of t (suc zero) some low high = (A.a, le_refl A.a, omega arith, low, omega arith)
    turn_of t (suc (suc b)) some low high = at (dec_le t (r + (A.a + suc b) * l)) (turn_of t (suc b) (omega arith) low)
      where
        at : Dec (t ≤ r + (A.a + suc b) * l)
            → (t ≤ r + (A.a + suc b) * l → (j : ℕ) × (A.a ≤ j) × (j < A.a + suc b) × (r + j * l ≤ t) × (t ≤ r + suc j * l))
            → (j : ℕ) × (A.a ≤ j) × (j < A.a + suc (suc b)) × (r + j * l ≤ t) × (t ≤ r + suc j * l)
        at (yes g) ih = let m = ih g in (m.0, m.1, omega arith, m.3, m.4)
        at (no g) ih = (A.a + suc b, omega arith, omega arith, omega arith, omega arith)

    met_at : (t j : ℕ) → j < A.a + A.b → r + j * l ≤ t → t ≤ r + suc j * l → F (A.run t) ≡ true
        → meet δ n F cycle (state j) (state (suc j)) ≡ true
    unfolding turn_cut
    met_at t j h low high met = meeting_meet δ n lands F cycle (state j) (state (suc j)) (record {
      stretch = turn_cut j h;
      time = t - (r + j * l);
      within = omega arith;
      accepts = subst (λ t. F (A.run t) ≡ true) (omega arith) met;
    })

    home : (j : ℕ) → A.a ≤ j → j < A.a + A.b → turns δ n cycle (state (suc j)) (state j) ≡ true
    home j low high =
        linked_trans (turn δ n cycle) n (state (suc j)) (state A.a) (state j) (inside_state A.a (omega arith))
        (rw (← A.returns) at (turns_at (suc j) (A.a + A.b) high (le_refl (A.a + A.b)))) (turns_at A.a j low (omega arith))

    pub accepts_decided : decided δ n q₀ F stem cycle ≡ true
    unfolding decided
    accepts_decided =
        let m = turn_of A.accepts.0 A.b A.turns A.accepts.1 A.accepts.2 in
        let j : ℕ = m.0 in
        let s : ℕ = state j in
        let there = stretch_after δ n lands stem (eqb q₀) q₀ (state 0) first (eq-eqb q₀ q₀ refl) stem_cut in
        let met = met_at A.accepts.0 j m.2 m.3 m.4 A.accepts.3 in
        any_intro (λ s. any_below n (reached s) && any_below n (back s)) n s (inside_state j (omega arith))
        (and_intro (any_intro (reached s) n (state 0) (inside_state 0 (omega arith)) (and_intro there (turns_at 0 j (omega arith) (omega arith))))
        (any_intro (back s) n (state (suc j)) (inside_state (suc j) m.2) (and_intro met (home j m.1 m.2))))
