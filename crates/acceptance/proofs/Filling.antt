-- The table of steps, filled entry by entry.
--   one_step     == the step of the set of one state is the step of that state
--   steps_own    == so the step of the set of one state of a rule is the set of the states to which that state leads
--   steps_narrow == which is below 2 ^ n, of n states
--   filled_put   == one entry more
--   filled_none  == before the first row, of a blank table
use mathlib.Core.Path.{◌≡◌, refl, sym, ap, ◌∙◌}
use mathlib.Core.Bool.{Bool, true, false, ◌&&◌}
use mathlib.Core.List.{List}
use Prim.Native.Nat.{ℕ, suc, zero, ◌+◌, ◌*◌, ◌^◌, ◌≤◌, ◌<◌}
use native.Mathlib.Nat.{pow-le-pow_right}
use native.Mathlib.Decide.{ℕ_discrete}
use native.Mathlib.Omega.{arith}
use borrow.Author.Count.{below_more}
use borrow.Author.Tests.{eqb-true, eq-eqb}
use lib.ListN.{length, get_or, set, replicate}
use lib.Seq.{get_or-set_same, get_or-set_other}
use Rattle.base.specs.Below.{any_below}
use Rattle.base.specs.Bits.{has_bit, Members}
use Rattle.base.proofs.Tests.{bool_same, any_intro, any_elim, and_intro, and_left, and_right}
use Rattle.base.proofs.Members.{members_one, members_same, members_lt}
use Rattle.automata.specs.Automaton.{step}
use Rattle.automata.specs.Sets.{step_of}
use Rattle.automata.specs.declared.Automaton.{Automaton}
use Rattle.automata.proofs.Traps.{step_lands}
use Rattle.acceptance.specs.Rule.{Usable}
use Rattle.acceptance.specs.Table.{Filled}

-- ---- the steps of one state
pub one_step : (a : Automaton) (x q : ℕ) → q < 32 → (s : ℕ) → step_of a x (2 ^ q) s ≡ step a x q s
unfolding step_of
one_step a x q l s = bool_same _ _ there back
  where
    there : any_below 32 (λ p. has_bit (2 ^ q) p && step a x p s) ≡ true → step a x q s ≡ true
    there h =
        let f = any_elim (λ p. has_bit (2 ^ q) p && step a x p s) 32 h in
        let alone : q ≡ f.0 = eqb-true _ _ (sym ((members_one q).has f.0) ∙ and_left _ _ f.2) in
        ap (λ p. step a x p s) alone ∙ and_right (has_bit (2 ^ q) f.0) _ f.2

    back : step a x q s ≡ true → any_below 32 (λ p. has_bit (2 ^ q) p && step a x p s) ≡ true
    back h = any_intro (λ p. has_bit (2 ^ q) p && step a x p s) 32 q l (and_intro ((members_one q).has q ∙ eq-eqb q q refl) h)

module _ {a : Automaton} {next : ℕ} (u : Usable a) (x q : ℕ) where
  pub steps_own : {one : ℕ} → q < a.states → one ≡ 2 ^ q → Members next (step_of a x one) → Members next (step a x q)
  steps_own l e m = members_same (one_step a x q (omega (arith, u.few))) (rw e at m)

  pub steps_narrow : {n : ℕ} → n ≡ a.states → Members next (step a x q) → next < 2 ^ n
  steps_narrow {n} e m = members_lt n next m (λ r l. none r l _ refl)
    where
      none : (r : ℕ) → n ≤ r → (b : Bool) → step a x q r ≡ b → b ≡ false
      none r l false h = refl
      none r l true h = absurd (let z : ⊥ = omega (arith, step_lands a x u.to q r h) in z)

-- ---- the table
module _ {δ : ℕ → ℕ → ℕ → Bool} {n v q : ℕ} {steps : List ℕ} where
  pub filled_put : (entry : ℕ) → Filled δ n v q steps → q < n → n ≤ 32 → v * 32 + q < length steps → Members entry (δ v q) → entry < 2 ^ n
      → Filled δ n v (q + 1) (set steps (v * 32 + q) entry)
  filled_put entry f l few room m small = record {
    rows = λ u p before inside. kept (u * 32 + p) (omega arith) (f.rows u p before inside);
    part = below_more _ _ (λ p before. kept (v * 32 + p) (omega arith) (f.part p before)) (rw here m);
    narrow = record { narrow = λ t. narrow_at t (ℕ_discrete t (v * 32 + q)) };
  }
    where
      here : get_or (set steps (v * 32 + q) entry) (v * 32 + q) 0 ≡ entry
      here = get_or-set_same steps (v * 32 + q) entry 0 room

      kept : {P : ℕ → Bool} (t : ℕ) → (t ≡ v * 32 + q → ⊥) → Members (get_or steps t 0) P → Members (get_or (set steps (v * 32 + q) entry) t 0) P
      kept t apart m = rw (get_or-set_other steps (v * 32 + q) t entry 0 apart) m

      narrow_at : (t : ℕ) → Dec (t ≡ v * 32 + q) → get_or (set steps (v * 32 + q) entry) t 0 < 2 ^ n
      narrow_at t (yes d) = rw (d, here) small
      narrow_at t (no d) = rw (get_or-set_other steps (v * 32 + q) t entry 0 d) (f.narrow.narrow t)

-- before the first row
pub filled_none : {δ : ℕ → ℕ → ℕ → Bool} (n k : ℕ) → Filled δ n 0 0 (replicate k 0)
filled_none n k = record {
  rows = λ u p l. absurd (omega arith);
  part = λ p l. absurd (omega arith);
  narrow = record { narrow = λ t. let p : 1 ≤ 2 ^ n = pow-le-pow_right (omega arith) {i = 0} {j = n} (omega arith) in omega (arith, zeros k t, p) };
}
  where
    zeros : (k t : ℕ) → ◌≡◌ {A = ℕ} (get_or (replicate k 0) t 0) 0
    zeros zero t = refl
    zeros (suc k) zero = refl
    zeros (suc k) (suc t) = zeros k t
