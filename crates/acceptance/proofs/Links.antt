-- The closure over turns, as sets.
--   linked_put                == the set of one state more: itself and what one turn leads to
--   pass_take, pass_leave     == a set by way of state k: it has k, or not
--   passed_front              == the first n sets of a list, and what stands behind them
--   linked_pass               == all sets by way of state k
--   linked_same               == the closures of relations that agree
--   any_range                 == a test at the numbers below n, as a program tries them
use mathlib.Core.Path.{◌≡◌, refl, sym, ap, ap₂, ◌∙◌}
use mathlib.Core.Bool.{Bool, true, false, ◌&&◌, ◌||◌, or_assoc, or_comm, or-false}
use mathlib.Core.List.{List, ◌++◌}
use Prim.Native.Nat.{ℕ, zero, suc, ◌+◌, ◌-◌, ◌^◌, ◌%◌, ◌≤◌, ◌<◌}
use native.Mathlib.Nat.{zero-add, add-zero}
use native.Mathlib.Numerals.{add-one}
use native.Mathlib.Decide.{ℕ_discrete}
use native.Mathlib.Omega.{arith}
use Rattle.std.specs.List.{list_any, range_with_len}
use Rattle.base.specs.Below.{any_below}
use Rattle.std.proofs.lemmas.List.{get_or-take, length-take}
use lib.ListN.{length, get_or, set, take, drop}
use lib.ListN.{get_or-append}
use lib.Seq.{get_or-set_same, get_or-set_other, get_or-append-add, get_or-drop}
use lib.Bits.{bit_or}
use lib.Dec.{eqb}
use Rattle.base.specs.Bits.{has_bit, Members}
use Rattle.acceptance.specs.Decision.{linked}
use Rattle.acceptance.specs.Table.{related, Linked, passing, Passed}
use Rattle.base.proofs.Tests.{any_same}
use Rattle.base.proofs.Bits.{bit_mod}
use Rattle.base.proofs.Members.{has_or, members_one}

pub linked_same : (R S : ℕ → ℕ → Bool) (n : ℕ) → n ≤ 32 → ((q : ℕ) → q < n → (r : ℕ) → r < 32 → R q r ≡ S q r)
    → (k : ℕ) → k ≤ n → (q : ℕ) → q < n → (r : ℕ) → r < 32 → linked R k q r ≡ linked S k q r
unfolding linked
linked_same R S n few e zero h q l r m = ap (λ b. eqb q r || b) (e q l r m)
linked_same R S n few e (suc k) h q l r m =
    ap₂ ◌||◌ (linked_same R S n few e k (omega arith) q l r m)
    (ap₂ ◌&&◌ (linked_same R S n few e k (omega arith) q l k (omega arith)) (linked_same R S n few e k (omega arith) k (omega arith) r m))

module _ (rows links : List ℕ) where
  pub linked_put : (q one : ℕ) → Linked (related rows) q 0 links → q < length links → one ≡ 2 ^ q
      → Linked (related rows) (q + 1) 0 (set links q (bit_or (get_or rows q 0 % 2 ^ 32) one))
  unfolding linked related
  linked_put q one x h e = record { set = λ p l r m. at p l r m (ℕ_discrete p q) }
    where
      here : (r : ℕ) → r < 32 → has_bit (bit_or (get_or rows q 0 % 2 ^ 32) one) r ≡ (eqb q r || has_bit (get_or rows q 0) r)
      here r m =
          has_or (get_or rows q 0 % 2 ^ 32) one r
          ∙ ap₂ ◌||◌ (ap (λ b. eqb b 1) (bit_mod 32 (get_or rows q 0) r m)) (ap (λ x. has_bit x r) e ∙ (members_one q).has r)
          ∙ or_comm (has_bit (get_or rows q 0) r) (eqb q r)

      at : (p : ℕ) → p < q + 1 → (r : ℕ) → r < 32 → Dec (p ≡ q)
          → has_bit (get_or (set links q (bit_or (get_or rows q 0 % 2 ^ 32) one)) p 0) r ≡ (eqb p r || has_bit (get_or rows p 0) r)
      at p l r m (yes d) = rw (d, get_or-set_same links q (bit_or (get_or rows q 0 % 2 ^ 32) one) 0 h) (here r m)
      at p l r m (no d) = rw (get_or-set_other links q p (bit_or (get_or rows q 0 % 2 ^ 32) one) 0 d) (x.set p (omega arith) r m)

pub any_range : (p : ℕ → Bool) (n : ℕ) → list_any p (range_with_len 0 n) ≡ any_below n p
unfolding any_below
any_range p n = from 0 n ∙ any_same _ _ n (λ i l. ap p (zero-add i))
  where
    first : (q : ℕ → Bool) (n : ℕ) → any_below (suc n) q ≡ q 0 || any_below n (λ i. q (suc i))
    first q zero = sym (or-false (q 0))
    first q (suc n) = ap (λ b. b || q (suc n)) (first q n) ∙ or_assoc (q 0) (any_below n (λ i. q (suc i))) (q (suc n))

    from : (a n : ℕ) → list_any p (range_with_len a n) ≡ any_below n (λ i. p (a + i))
    from a zero = refl
    from a (suc n) =
        ap₂ ◌||◌ (ap p (sym (add-zero a))) (from (a + 1) n ∙ any_same _ _ n (λ i l. ap p (omega arith)))
        ∙ sym (first (λ i. p (a + i)) n)

-- one set by way of state k
pub pass_take : (word k mid : ℕ) → has_bit word k ≡ true → Members (bit_or word mid) (passing word k mid)
pass_take word k mid h = record { has = λ r. has_or word mid r ∙ ap (λ b. has_bit word r || (b && has_bit mid r)) (sym h) }

pub pass_leave : (word k mid : ℕ) → has_bit word k ≡ false → Members word (passing word k mid)
pass_leave word k mid h = record { has = λ r. sym (or-false (has_bit word r)) ∙ ap (λ b. has_bit word r || (b && has_bit mid r)) (sym h) }

-- the first n sets of a list, and what stands behind them
pub passed_front : {k mid n i : ℕ} {old part : List ℕ} → n ≤ length old → length part ≡ length (take n old) → length (take n old) ≤ i
    → Passed k mid (take n old) i part → Passed k mid old n (part ++ drop n old)
passed_front {k} {mid} {n} {i} {old} {part} room long all x = record {
  done = λ q l r.
      let inside : q < length part = omega (arith, whole) in
      let before : q < i = omega (arith, whole) in
      rw (get_or-append part (drop n old) 0 q inside) (x.done q before r ∙ ap (λ o. passing o k mid r) (get_or-take n old q 0 l));
  same = λ q l.
      let e : length part + (q - n) ≡ q = omega (arith, whole) in
      let f : n + (q - n) ≡ q = omega arith in
      ap (λ q. get_or (part ++ drop n old) q 0) (sym e) ∙ get_or-append-add part (drop n old) (q - n) 0 ∙ get_or-drop n old (q - n) 0
      ∙ ap (λ q. get_or old q 0) f;
}
  where
    whole : length part ≡ n
    whole = omega (arith, length-take n old)

pub linked_pass : (R : ℕ → ℕ → Bool) (n k mid : ℕ) (old new : List ℕ) → n ≤ 32 → k < n → mid ≡ get_or old k 0 → Linked R n k old → Passed k mid old n new
    → Linked R n (k + 1) new
unfolding linked
linked_pass R n k mid old new few l e x p = record {
  set = λ q h r m.
      p.done q h r
      ∙ ap₂ ◌||◌ (x.set q h r m) (ap₂ ◌&&◌ (x.set q h k (omega arith)) (ap (λ m. has_bit m r) e ∙ x.set k l r m))
      ∙ ap (λ j. linked R j q r) (sym (add-one k));
}
