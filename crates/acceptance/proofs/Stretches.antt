-- Stretches of a run, and how they are put together.
--   Stretch δ w k q r   == k steps over the first k entries of the word w lead from the state q to the state r
--   Meeting δ F w k q r == and on the way, both ends counted, an accepting state is met
--   stretch_none        == no step
--   stretch_cons        == one step more in front; `stretch_head` and `stretch_tail` take it away again
--   stretch_same        == another word with the same first k entries, and k otherwise written
--   stretch_join        == two stretches, the second where the first ends
--   meeting_here        == it is met at the first state
--   meeting_cons, meeting_same, meeting_join == as of stretches; `meeting_by` takes the first step away again
--   accepting_join      == a stretch, and then a meeting that leads back to where it began, are 01's acceptance
use mathlib.Core.Path.{◌≡◌, refl, sym, ap, ◌∙◌}
use mathlib.Core.Bool.{Bool, true, cond}
use Prim.Native.Nat.{ℕ, zero, suc, ◌+◌, ◌-◌, ◌*◌, ◌≤◌, ◌<◌}
use native.Mathlib.Nat.{le_refl, add-sub_cancel_left}
use native.Mathlib.Decide.{dec_lt}
use native.Mathlib.Omega.{arith}
use borrow.Author.Tests.{lt-ltb, le-ltb}
use lib.Dec.{ltb}
use Rattle.automata.specs.Acceptance.{Accepting}

pub record Stretch (δ : ℕ → ℕ → ℕ → Bool) (w : ℕ → ℕ) (k q r : ℕ) : Type 0 where
  pub run : ℕ → ℕ
  pub starts : run 0 ≡ q
  pub ends : run k ≡ r
  pub steps : (t : ℕ) → t < k → δ (w t) (run t) (run (suc t)) ≡ true

pub record Meeting (δ : ℕ → ℕ → ℕ → Bool) (F : ℕ → Bool) (w : ℕ → ℕ) (k q r : ℕ) : Type 0 where
  pub stretch : Stretch δ w k q r
  pub time : ℕ
  pub within : time ≤ k
  pub accepts : F (stretch.run time) ≡ true

-- the states of a run f for k steps, and then those of a run g
join : ℕ → (ℕ → ℕ) → (ℕ → ℕ) → ℕ → ℕ
join k f g t = cond (ltb t k) (f t) (g (t - k))

join_after : (k : ℕ) (f g : ℕ → ℕ) (t : ℕ) → join k f g (k + t) ≡ g t
unfolding join
join_after k f g t = rw (le-ltb (k + t) k (omega arith), add-sub_cancel_left k t)

join_before : (k : ℕ) (f g : ℕ → ℕ) → f k ≡ g 0 → (t : ℕ) → t ≤ k → join k f g t ≡ f t
unfolding join
join_before k f g seam t h = at (dec_lt t k)
  where
    at : Dec (t < k) → join k f g t ≡ f t
    at (yes l) = rw (lt-ltb t k l)
    at (no l) =
        let e : t ≡ k + 0 = omega arith in
        let s : k ≡ t = omega arith in
        ap (join k f g) e ∙ join_after k f g 0 ∙ sym seam ∙ ap f s

module _ {δ : ℕ → ℕ → ℕ → Bool} where
  pub stretch_none : {w : ℕ → ℕ} {q r : ℕ} → q ≡ r → Stretch δ w 0 q r
  stretch_none {w} {q} e = record { run = λ _. q; starts = refl; ends = e; steps = λ t h. absurd (omega arith) }

  pub stretch_cons : {w : ℕ → ℕ} {k q s r : ℕ} → δ (w 0) q s ≡ true → Stretch δ (λ t. w (suc t)) k s r → Stretch δ w (suc k) q r
  stretch_cons {w} {k} {q} {s} {r} e S = record { run = run; starts = refl; ends = S.ends; steps = steps }
    where
      run : ℕ → ℕ
      run zero = q
      run (suc t) = S.run t

      steps : (t : ℕ) → t < suc k → δ (w t) (run t) (run (suc t)) ≡ true
      steps zero h = rw S.starts e
      steps (suc t) h = S.steps t (omega arith)

  pub stretch_head : {w : ℕ → ℕ} {k q r : ℕ} (S : Stretch δ w (suc k) q r) → δ (w 0) q (S.run 1) ≡ true
  stretch_head S = rw S.starts at (S.steps 0 (omega arith))

  pub stretch_tail : {w : ℕ → ℕ} {k q r : ℕ} (S : Stretch δ w (suc k) q r) → Stretch δ (λ t. w (suc t)) k (S.run 1) r
  stretch_tail S = record { run = λ t. S.run (suc t); starts = refl; ends = S.ends; steps = λ t h. S.steps (suc t) (omega arith) }

  pub stretch_same : {u w : ℕ → ℕ} {k m q r : ℕ} → k ≡ m → ((t : ℕ) → t < k → u t ≡ w t) → Stretch δ u k q r → Stretch δ w m q r
  stretch_same {u} {w} {k} {m} {q} {r} e same S = record {
    run = S.run;
    starts = S.starts;
    ends = ap S.run (sym e) ∙ S.ends;
    steps = λ t h. rw (same t (omega arith)) at (S.steps t (omega arith));
  }

  module _ {w : ℕ → ℕ} {k m q r s : ℕ} (S : Stretch δ w k q r) (T : Stretch δ (λ t. w (k + t)) m r s) where
    joined : ℕ → ℕ
    joined = join k S.run T.run

    joined_before : (t : ℕ) → t ≤ k → joined t ≡ S.run t
    unfolding joined
    joined_before = join_before k S.run T.run (S.ends ∙ sym T.starts)

    joined_after : (t : ℕ) → joined (k + t) ≡ T.run t
    unfolding joined
    joined_after = join_after k S.run T.run

    joined_steps : (t : ℕ) → t < k + m → δ (w t) (joined t) (joined (suc t)) ≡ true
    joined_steps t h = at (dec_lt t k)
      where
        at : Dec (t < k) → δ (w t) (joined t) (joined (suc t)) ≡ true
        at (yes l) = rw (joined_before t (omega arith), joined_before (suc t) l) (S.steps t l)
        at (no l) =
            let i : ℕ = t - k in
            let e : k + i ≡ t = omega arith in
            let f : k + suc i ≡ suc t = omega arith in
            let g : δ (w (k + i)) (joined (k + i)) (joined (k + suc i)) ≡ true =
            rw (joined_after i, joined_after (suc i)) (T.steps i (omega arith)) in
            rw (f, e) at g

    pub stretch_join : Stretch δ w (k + m) q s
    stretch_join = record { run = joined; starts = joined_before 0 (omega arith) ∙ S.starts; ends = joined_after m ∙ T.ends; steps = joined_steps }

  module _ {F : ℕ → Bool} where
    pub meeting_here : {w : ℕ → ℕ} {k q r : ℕ} → Stretch δ w k q r → F q ≡ true → Meeting δ F w k q r
    meeting_here S h = record { stretch = S; time = 0; within = omega arith; accepts = ap F S.starts ∙ h }

    pub meeting_cons : {w : ℕ → ℕ} {k q s r : ℕ} → δ (w 0) q s ≡ true → Meeting δ F (λ t. w (suc t)) k s r → Meeting δ F w (suc k) q r
    unfolding stretch_cons
    meeting_cons e M = record { stretch = stretch_cons e M.stretch; time = suc M.time; within = omega (arith, M.within); accepts = M.accepts }

    -- the accepting state is the first one, or is met from the second on
    pub meeting_by : {C : Type 0} {w : ℕ → ℕ} {k q r : ℕ} (M : Meeting δ F w (suc k) q r)
        → (F q ≡ true → C) → (Meeting δ F (λ t. w (suc t)) k (M.stretch.run 1) r → C) → C
    unfolding stretch_tail
    meeting_by {C} {w} {k} {q} {r} M first later = at M.time M.within M.accepts
      where
        at : (t : ℕ) → t ≤ suc k → F (M.stretch.run t) ≡ true → C
        at zero l h = first (ap F (sym M.stretch.starts) ∙ h)
        at (suc t) l h = later (record { stretch = stretch_tail M.stretch; time = t; within = omega arith; accepts = h })

    pub meeting_same : {u w : ℕ → ℕ} {k m q r : ℕ} → k ≡ m → ((t : ℕ) → t < k → u t ≡ w t) → Meeting δ F u k q r → Meeting δ F w m q r
    unfolding stretch_same
    meeting_same e same M =
        record { stretch = stretch_same e same M.stretch; time = M.time; within = omega (arith, M.within); accepts = M.accepts }

    pub meeting_join : {w : ℕ → ℕ} {k m q r s : ℕ} → Meeting δ F w k q r → Stretch δ (λ t. w (k + t)) m r s → Meeting δ F w (k + m) q s
    unfolding stretch_join
    meeting_join M T = record {
      stretch = stretch_join M.stretch T;
      time = M.time;
      within = omega (arith, M.within);
      accepts = ap F (joined_before M.stretch T M.time M.within) ∙ M.accepts;
    }

    -- the run-in and a turns lead from q₀ to s, and b turns from s back to s
    pub accepting_join : {w : ℕ → ℕ} {q₀ s : ℕ} (r l a b : ℕ) → 1 ≤ b
        → Stretch δ w (r + a * l) q₀ s → Meeting δ F (λ t. w (r + a * l + t)) (b * l) s s → Accepting δ q₀ F w r l
    unfolding stretch_join
    accepting_join {w} {q₀} {s} r l a b some S M = record {
      a = a;
      b = b;
      run = run;
      turns = some;
      starts = (stretch_join S T).starts;
      steps = λ t h. joined_steps S T t (omega arith);
      returns = joined_before S T k (le_refl k) ∙ S.ends ∙ sym (joined_after S T (b * l) ∙ T.ends) ∙ ap run (omega arith);
      accepts = (k + M.time, omega arith, omega (arith, M.within), ap F (joined_after S T M.time) ∙ M.accepts);
    }
      where
        k : ℕ
        k = r + a * l

        T : Stretch δ (λ t. w (k + t)) (b * l) s s
        T = M.stretch

        run : ℕ → ℕ
        run = joined S T
