-- The words of a turn: of each state, to which states a part of the loop leads, and where an accepting state is met on the way.
--   marked_here, marked_not == the lower half of a word is put into the upper one where the state accepts, else not
--   word_none               == the words over no entries
--   word_cons, word_before  == the word over one entry more, in front; of a list, its entry i
--   turned_put              == the table of the words, row by row
--   turn_lands, meet_lands  == a turn leads to states below n
use mathlib.Core.Path.{◌≡◌, refl, sym, ap, ap₂, ◌∙◌, subst}
use mathlib.Core.Bool.{Bool, true, false, ◌&&◌, ◌||◌, or-false}
use mathlib.Core.List.{List, [], ◌∷◌}
use Prim.Native.Nat.{ℕ, suc, ◌+◌, ◌*◌, ◌^◌, ◌%◌, ◌≤◌, ◌<◌}
use native.Mathlib.Numerals.{add-one}
use native.Mathlib.Decide.{ℕ_discrete}
use native.Mathlib.Omega.{arith}
use borrow.Author.Tests.{eqb-true, ne_eqb}
use lib.ListN.{length, get_or, set, drop}
use lib.Seq.{get_or-set_same, get_or-set_other, drop-cons}
use lib.Bits.{bit_or}
use lib.Dec.{eqb}
use Rattle.base.specs.Below.{any_below}
use Rattle.base.specs.Bits.{has_bit, Members}
use Rattle.acceptance.specs.Decision.{turn, meet}
use Rattle.acceptance.specs.Table.{step_in, gathered, Marked, Word, Turned}
use Rattle.base.proofs.Tests.{any_same, any_elim, and_right, or_elim}
use Rattle.base.proofs.Bits.{bit_moved, bit_moved_low, bit_mod}
use Rattle.base.proofs.Members.{has_or, members_one}
use Rattle.acceptance.proofs.Gathers.{gathered_below}

pub marked_here : (word : ℕ) (accepting : Bool) → accepting ≡ true → Marked word accepting (bit_or word ((word % 2 ^ 32) * 2 ^ 32))
marked_here word accepting e = rw e (record {
  low = λ i l.
      has_or word ((word % 2 ^ 32) * 2 ^ 32) i
      ∙ ap (λ b. has_bit word i || eqb b 1) (bit_moved_low 32 (word % 2 ^ 32) i l)
      ∙ or-false (has_bit word i);
  high = λ i l.
      has_or word ((word % 2 ^ 32) * 2 ^ 32) (32 + i)
      ∙ ap (λ b. has_bit word (32 + i) || eqb b 1) (bit_moved 32 (word % 2 ^ 32) i ∙ bit_mod 32 word i l);
})

pub marked_not : (word : ℕ) (accepting : Bool) → accepting ≡ false → Marked word accepting word
marked_not word accepting e = rw e (record { low = λ i l. refl; high = λ i l. sym (or-false (has_bit word (32 + i))) })

module _ (δ : ℕ → ℕ → ℕ → Bool) (n : ℕ) (F : ℕ → Bool) where
  pub turn_lands : (vs : List ℕ) (q r : ℕ) → q < n → turn δ n vs q r ≡ true → r < n
  unfolding turn
  turn_lands [] q r l h = omega (arith, l, eqb-true q r h)
  turn_lands (v ∷ vs) q r l h =
      let f = any_elim (λ s. δ v q s && turn δ n vs s r) n h in
      turn_lands vs f.0 r f.1 (and_right (δ v q f.0) _ f.2)

  pub meet_lands : (vs : List ℕ) (q r : ℕ) → q < n → meet δ n F vs q r ≡ true → r < n
  unfolding meet
  meet_lands [] q r l h = omega (arith, l, eqb-true q r (and_right (F q) (eqb q r) h))
  meet_lands (v ∷ vs) q r l h = or_elim (any_below n (λ s. δ v q s && meet δ n F vs s r)) _ h
      (λ on.
      let f = any_elim (λ s. δ v q s && meet δ n F vs s r) n on in
      meet_lands vs f.0 r f.1 (and_right (δ v q f.0) _ f.2))
      (λ here. turn_lands (v ∷ vs) q r l (and_right (F q) _ here))

  pub word_none : (q one w : ℕ) → q < 32 → one ≡ 2 ^ q → Marked one (F q) w → Word δ n F [] q w
  unfolding turn meet
  word_none q one w l e m = record {
    turned = λ r h. m.low r h ∙ member r;
    met = λ r h. m.high r h ∙ ap₂ (λ a b. a || (F q && b)) (member (32 + r) ∙ ne_eqb q (32 + r) (λ s. omega arith)) (member r);
  }
    where
      member : (k : ℕ) → has_bit one k ≡ eqb q k
      member k = ap (λ m. has_bit m k) e ∙ (members_one q).has k

module _ (steps : List ℕ) (n accept : ℕ) where
  pub word_cons : (v : ℕ) (vs rows : List ℕ) (q next g w : ℕ) → n ≤ 32 → Turned steps n accept vs n rows → next ≡ get_or steps (v * 32 + q) 0 → next < 2 ^ n
      → Members g (gathered rows 0 next) → Marked g (has_bit accept q) w → Word (step_in steps) n (has_bit accept) (v ∷ vs) q w
  unfolding turn meet step_in
  word_cons v vs rows q next g w few t e small m k = record {
    turned = λ r h. k.low r h ∙ on r h;
    met = λ r h. k.high r h ∙ ap₂ (λ a b. a || (has_bit accept q && b)) (up r h) (on r h);
  }
    where
      at : (s : ℕ) → get_or rows (0 + s) 0 ≡ get_or rows s 0
      at s = ap (λ i. get_or rows i 0) (omega arith)

      on : (r : ℕ) → r < 32 → has_bit g r ≡ any_below n (λ s. step_in steps v q s && turn (step_in steps) n vs s r)
      on r h =
          m.has r ∙ gathered_below rows 0 n next r few small
          ∙ any_same _ _ n (λ s l. ap₂ ◌&&◌ (ap (λ m. has_bit m s) e) (ap (λ m. has_bit m r) (at s) ∙ (t.word s l).turned r h))

      up : (r : ℕ) → r < 32 → has_bit g (32 + r) ≡ any_below n (λ s. step_in steps v q s && meet (step_in steps) n (has_bit accept) vs s r)
      up r h =
          m.has (32 + r) ∙ gathered_below rows 0 n next (32 + r) few small
          ∙ any_same _ _ n (λ s l. ap₂ ◌&&◌ (ap (λ m. has_bit m s) e) (ap (λ m. has_bit m (32 + r)) (at s) ∙ (t.word s l).met r h))

  -- in front of the entries of a list from i + 1 on
  pub word_before : (vs rows : List ℕ) (i q row next g w : ℕ) {b : Bool} → n ≤ 32 → i < length vs → Turned steps n accept (drop (i + 1) vs) n rows
      → row ≡ get_or vs i 0 * 32 → next ≡ get_or steps (row + q) 0 → next < 2 ^ n → Members g (gathered rows 0 next) → b ≡ has_bit accept q → Marked g b w
      → Word (step_in steps) n (has_bit accept) (drop i vs) q w
  word_before vs rows i q row next g w few l t e f small m b k =
      rw (drop-cons vs i 0 l)
      (word_cons (get_or vs i 0) (drop (suc i) vs) rows q next g w few (subst (λ j. Turned steps n accept (drop j vs) n rows) (add-one i) t)
      (f ∙ ap (λ r. get_or steps (r + q) 0) e) small m (subst (λ b. Marked g b w) b k))

  module _ (vs rows : List ℕ) where
    pub turned_put : (q w : ℕ) → Turned steps n accept vs q rows → q < length rows → Word (step_in steps) n (has_bit accept) vs q w
        → Turned steps n accept vs (q + 1) (set rows q w)
    turned_put q w t h x = record { word = λ p l. at p l (ℕ_discrete p q) }
      where
        at : (p : ℕ) → p < q + 1 → Dec (p ≡ q) → Word (step_in steps) n (has_bit accept) vs p (get_or (set rows q w) p 0)
        at p l (yes e) = rw (e, get_or-set_same rows q w 0 h) x
        at p l (no e) = rw (get_or-set_other rows q p w 0 e) (t.word p (omega arith))
