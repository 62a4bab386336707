-- What `after`, `turn` and `meet` decide, said of stretches of a run over the entries of a list. States stay below n, since δ lands there.
--   word vs                       == a list as a word: its entries, and then 0
--   turn_stretch, stretch_turn    == turn δ n vs q r is true exactly where a stretch over vs leads from q to r
--   after_stretch, stretch_after  == after δ n vs X r, where one leads to r from a state of X
--   meet_meeting, meeting_meet    == meet δ n F vs q r, where one from q to r meets an accepting state
use mathlib.Core.Path.{◌≡◌, refl, sym, ap, ◌∙◌}
use mathlib.Core.Bool.{Bool, true, ◌&&◌}
use mathlib.Core.List.{List, [], ◌∷◌}
use Prim.Native.Nat.{ℕ, ◌<◌}
use native.Mathlib.Omega.{arith}
use borrow.Author.Tests.{eq-eqb, eqb-true}
use lib.ListN.{length, get_or}
use lib.Dec.{eqb}
use Rattle.base.specs.Below.{any_below}
use Rattle.base.proofs.Tests.{any_intro, any_elim, and_intro, and_left, and_right, or_left, or_right, or_elim}
use Rattle.acceptance.specs.Decision.{after, turn, meet}
use Rattle.acceptance.proofs.Stretches.{Stretch, stretch_none, stretch_cons, stretch_head, stretch_tail}
use Rattle.acceptance.proofs.Stretches.{Meeting, meeting_here, meeting_cons, meeting_by}

abbrev pub word : List ℕ → ℕ → ℕ
word vs i = get_or vs i 0

module _ (δ : ℕ → ℕ → ℕ → Bool) (n : ℕ) where
  pub turn_stretch : (vs : List ℕ) (q r : ℕ) → turn δ n vs q r ≡ true → Stretch δ (word vs) (length vs) q r
  unfolding turn
  turn_stretch [] q r h = stretch_none (eqb-true q r h)
  turn_stretch (v ∷ vs) q r h =
      let m = any_elim (λ s. δ v q s && turn δ n vs s r) n h in
      let s : ℕ = m.0 in
      stretch_cons (and_left (δ v q s) (turn δ n vs s r) m.2) (turn_stretch vs s r (and_right (δ v q s) (turn δ n vs s r) m.2))

  pub after_stretch : (vs : List ℕ) (X : ℕ → Bool) (r : ℕ) → after δ n vs X r ≡ true → (q : ℕ) × (X q ≡ true) × Stretch δ (word vs) (length vs) q r
  unfolding after
  after_stretch [] X r h = (r, h, stretch_none refl)
  after_stretch (v ∷ vs) X r h =
      let ih = after_stretch vs (λ s. any_below n (λ q. X q && δ v q s)) r h in
      let s : ℕ = ih.0 in
      let m = any_elim (λ q. X q && δ v q s) n ih.1 in
      let q : ℕ = m.0 in
      (q, and_left (X q) (δ v q s) m.2, stretch_cons (and_right (X q) (δ v q s) m.2) ih.2)

  pub meet_meeting : (F : ℕ → Bool) (vs : List ℕ) (q r : ℕ) → meet δ n F vs q r ≡ true → Meeting δ F (word vs) (length vs) q r
  unfolding meet
  meet_meeting F [] q r h = meeting_here (stretch_none (eqb-true q r (and_right (F q) (eqb q r) h))) (and_left (F q) (eqb q r) h)
  meet_meeting F (v ∷ vs) q r h =
      let next : ℕ → Bool = λ s. δ v q s && meet δ n F vs s r in
      let all : Bool = turn δ n (v ∷ vs) q r in
      or_elim (any_below n next) (F q && all) h
      (λ e. let m = any_elim next n e in
      let s : ℕ = m.0 in
      meeting_cons (and_left (δ v q s) (meet δ n F vs s r) m.2) (meet_meeting F vs s r (and_right (δ v q s) (meet δ n F vs s r) m.2)))
      (λ e. meeting_here (turn_stretch (v ∷ vs) q r (and_right (F q) all e)) (and_left (F q) all e))

  module _ (lands : (v q r : ℕ) → δ v q r ≡ true → r < n) where
    pub stretch_turn : (vs : List ℕ) (q r : ℕ) → Stretch δ (word vs) (length vs) q r → turn δ n vs q r ≡ true
    unfolding turn
    stretch_turn [] q r S = eq-eqb q r (sym S.starts ∙ S.ends)
    stretch_turn (v ∷ vs) q r S =
        let s : ℕ = S.run 1 in
        let e : δ v q s ≡ true = stretch_head S in
        any_intro (λ s. δ v q s && turn δ n vs s r) n s (lands v q s e) (and_intro e (stretch_turn vs s r (stretch_tail S)))

    pub stretch_after : (vs : List ℕ) (X : ℕ → Bool) (q r : ℕ) → q < n → X q ≡ true → Stretch δ (word vs) (length vs) q r → after δ n vs X r ≡ true
    unfolding after
    stretch_after [] X q r l h S = ap X (sym S.ends ∙ S.starts) ∙ h
    stretch_after (v ∷ vs) X q r l h S =
        let s : ℕ = S.run 1 in
        let e : δ v q s ≡ true = stretch_head S in
        let from = any_intro (λ q. X q && δ v q s) n q l (and_intro h e) in
        stretch_after vs (λ s. any_below n (λ q. X q && δ v q s)) s r (lands v q s e) from (stretch_tail S)

    pub meeting_meet : (F : ℕ → Bool) (vs : List ℕ) (q r : ℕ) → Meeting δ F (word vs) (length vs) q r → meet δ n F vs q r ≡ true
    unfolding meet
    meeting_meet F [] q r M =
        let S = M.stretch in
        let z : 0 ≡ M.time = omega (arith, M.within) in
        and_intro (ap F (sym S.starts ∙ ap S.run z) ∙ M.accepts) (eq-eqb q r (sym S.starts ∙ S.ends))
    meeting_meet F (v ∷ vs) q r M =
        let S = M.stretch in
        let s : ℕ = S.run 1 in
        let e : δ v q s ≡ true = stretch_head S in
        let later : Bool = any_below n (λ s. δ v q s && meet δ n F vs s r) in
        let here : Bool = F q && turn δ n (v ∷ vs) q r in
        meeting_by M
        (λ h. or_right later here (and_intro h (stretch_turn (v ∷ vs) q r S)))
        (λ m. or_left later here (any_intro (λ s. δ v q s && meet δ n F vs s r) n s (lands v q s e) (and_intro e (meeting_meet F vs s r m))))
