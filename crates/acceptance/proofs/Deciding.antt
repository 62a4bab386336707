-- What the tables come to is what is decided.
--   narrow_lands == steps of a table of sets of states below n lead to such states
--   entered_few  == the states that the run-in leads to
--   decides      == the sets of run-in, turn and closure together
use mathlib.Core.Path.{◌≡◌, refl, sym, ap, ap₂, ◌∙◌}
use mathlib.Core.Bool.{Bool, true, false, ◌&&◌}
use mathlib.Core.List.{List}
use Prim.Native.Nat.{ℕ, ◌+◌, ◌*◌, ◌^◌, ◌/◌, ◌≤◌, ◌<◌}
use native.Mathlib.Omega.{arith}
use borrow.Author.Tests.{eqb-true}
use lib.ListN.{get_or}
use lib.Dec.{eqb}
use Rattle.base.specs.Below.{any_below}
use Rattle.base.specs.Bits.{has_bit, Members}
use Rattle.acceptance.specs.Decision.{after, turn, meet, turns, decided}
use Rattle.acceptance.specs.Table.{step_in, gathered, Narrow, Turned, related, returning, Closed}
use Rattle.base.proofs.Tests.{bool_same, any_same, any_intro, any_elim, and_intro, and_left, and_right}
use Rattle.base.proofs.Bits.{bit_div}
use Rattle.base.proofs.Members.{members_lt, members_one}
use Rattle.acceptance.proofs.Gathers.{inside, gathered_below}
use Rattle.acceptance.proofs.Following.{after_same, after_narrow, after_lands}
use Rattle.acceptance.proofs.Words.{meet_lands}
use Rattle.acceptance.proofs.Links.{linked_same}

pub narrow_lands : (n : ℕ) (steps : List ℕ) → Narrow n steps → (v q r : ℕ) → step_in steps v q r ≡ true → r < n
unfolding step_in
narrow_lands n steps narrow v q r h = inside n (get_or steps (v * 32 + q) 0) r (narrow.narrow (v * 32 + q)) h

first_below : (n first : ℕ) → first < n → (q : ℕ) → eqb first q ≡ true → q < n
first_below n first begins q h = omega (arith, begins, eqb-true first q h)

-- of more states than there are, no others are met
pub entered_few : (steps : List ℕ) (n first one set : ℕ) (stem : List ℕ) → n ≤ 32 → first < n → Narrow n steps → one ≡ 2 ^ first
    → Members set (after (step_in steps) 32 stem (has_bit one)) → Members set (after (step_in steps) n stem (eqb first))
entered_few steps n first one set stem few begins narrow o x = record {
  has = λ p.
      x.has p ∙ after_same (step_in steps) 32 stem (has_bit one) (eqb first) (λ q. ap (λ m. has_bit m q) o ∙ (members_one first).has q) p
      ∙ after_narrow (step_in steps) n 32 few (narrow_lands n steps narrow) stem (eqb first) (first_below n first begins) p;
}

module _ (steps : List ℕ) (n first accept : ℕ) (stem cycle rows : List ℕ) (few : n ≤ 32) (begins : first < n) (narrow : Narrow n steps)
    (t : Turned steps n accept cycle n rows) (set : ℕ) (x : Members set (after (step_in steps) n stem (eqb first))) where
  abbrev δ : ℕ → ℕ → ℕ → Bool
  δ = step_in steps

  set_small : set < 2 ^ n
  set_small = members_lt n set x (λ i l. none i l (after δ n stem (eqb first) i) refl)
    where
      none : (i : ℕ) → n ≤ i → (b : Bool) → after δ n stem (eqb first) i ≡ b → after δ n stem (eqb first) i ≡ false
      none i l false e = e
      none i l true e = absurd (omega (arith, l, after_lands δ n (narrow_lands n steps narrow) stem (eqb first) (first_below n first begins) i e))

  module _ (b : Bool) (c : Closed n set rows b) where
    abbrev links : List ℕ
    links = c.links

    joined : (p : ℕ) → p < n → (s : ℕ) → s < n → has_bit (get_or links (0 + p) 0) s ≡ turns δ n cycle p s
    unfolding related
    joined p l s m =
        ap (λ x. has_bit x s) (ap (λ i. get_or links i 0) (omega arith)) ∙ c.linked.set p l s (omega arith)
        ∙ linked_same (related rows) (turn δ n cycle) n few (λ q h r i. (t.word q h).turned r i) n (omega arith) p l s (omega arith)

    pub decides : b ≡ decided δ n first (has_bit accept) stem cycle
    unfolding decided returning gathered
    decides = c.found ∙ any_same _ _ n (λ s l. ap₂ ◌&&◌ (reaches s l) (returns s l))
      where
        reaches : (s : ℕ) → s < n → has_bit c.reached s ≡ any_below n (λ p. after δ n stem (eqb first) p && turns δ n cycle p s)
        reaches s l = c.joined.has s ∙ gathered_below links 0 n set s few set_small ∙ any_same _ _ n (λ p h. ap₂ ◌&&◌ (x.has p) (joined p h s l))

        returns : (s : ℕ) → s < n → gathered links 0 (get_or rows s 0 / 2 ^ 32) s ≡ any_below n (λ t. meet δ n (has_bit accept) cycle s t && turns δ n cycle t s)
        returns s l = bool_same _ _ there back
          where
            upper : (t : ℕ) → t < 32 → has_bit (get_or rows s 0 / 2 ^ 32) t ≡ meet δ n (has_bit accept) cycle s t
            upper u h = ap (λ b. eqb b 1) (bit_div 32 (get_or rows s 0) u) ∙ (t.word s l).met u h

            there : any_below 32 (λ u. has_bit (get_or rows s 0 / 2 ^ 32) u && has_bit (get_or links (0 + u) 0) s) ≡ true
                → any_below n (λ u. meet δ n (has_bit accept) cycle s u && turns δ n cycle u s) ≡ true
            there h =
                let f = any_elim (λ u. has_bit (get_or rows s 0 / 2 ^ 32) u && has_bit (get_or links (0 + u) 0) s) 32 h in
                let m : meet δ n (has_bit accept) cycle s f.0 ≡ true = sym (upper f.0 f.1) ∙ and_left _ _ f.2 in
                let u = meet_lands δ n (has_bit accept) cycle s f.0 l m in
                any_intro (λ u. meet δ n (has_bit accept) cycle s u && turns δ n cycle u s) n f.0 u
                (and_intro m (sym (joined f.0 u s l) ∙ and_right (has_bit (get_or rows s 0 / 2 ^ 32) f.0) _ f.2))

            back : any_below n (λ u. meet δ n (has_bit accept) cycle s u && turns δ n cycle u s) ≡ true
                → any_below 32 (λ u. has_bit (get_or rows s 0 / 2 ^ 32) u && has_bit (get_or links (0 + u) 0) s) ≡ true
            back h =
                let f = any_elim (λ u. meet δ n (has_bit accept) cycle s u && turns δ n cycle u s) n h in
                let u : f.0 < 32 = omega (arith, few, f.1) in
                any_intro (λ u. has_bit (get_or rows s 0 / 2 ^ 32) u && has_bit (get_or links (0 + u) 0) s) 32 f.0 u
                (and_intro (upper f.0 u ∙ and_left _ _ f.2) (joined f.0 f.1 s l ∙ and_right (meet δ n (has_bit accept) cycle s f.0) _ f.2))
