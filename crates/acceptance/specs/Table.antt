-- The tables of the decision. A set of states is a number, whose bits are the members.
--   step_in steps v q r      == the table of steps has r in the set of state q at place v
--   gathered table at set i == i is in one of the sets of the table from `at` on, at a member of `set`
--   Narrow n table          == every set of the table is of numbers below n
--   Filled δ n v q steps    == the rows of the places below v are filled with the steps δ of n states, of place v the first q entries; what is
--                              not filled is empty or narrow, too
--   Gathering table at set out left == out has what the members passed have, left has those to come
--   Following steps vs set i reached == from the states reached the entries from i on lead to where all entries lead to from the set
--   Marked word accepting r == r has the bits of word below 32, and from there on those, too, where `accepting`
--   Word δ n F vs q w       == the word of state q over the entries vs: bit r is `turn`, bit 32 + r is `meet`
--   Turned steps n accept vs k rows == the first k of n rows are the words over vs
--   related rows q r         == r is in the set of q
--   Linked R i k links       == of the first i states the sets are what `linked R k` relates to them
--   passing word k mid r     == r is in the set, or in mid where k is in the set
--   Passed k mid old i new   == of the first i sets of old, those that have k are joined with mid; the others are as they were
--   returning rows links set s == s is in the set, and by `links` returns to itself from where the upper half of its word leads
--   Closed n set rows b     == b tells whether from the states of a set, by turns, a state is reached that comes back
use Rattle.std.specs.Prelude.{◌≡◌, Bool, ◌&&◌, ◌||◌, List, ℕ, ◌+◌, ◌*◌, ◌^◌, ◌/◌, ◌≤◌, ◌<◌, get_or, drop}
use Rattle.base.specs.Below.{any_below}
use Rattle.base.specs.Bits.{has_bit, Members}
use Rattle.acceptance.specs.Decision.{after, turn, meet, linked}

unfoldable pub step_in : List ℕ → ℕ → ℕ → ℕ → Bool
step_in steps v q r = has_bit (get_or steps (v * 32 + q) 0) r

unfoldable pub gathered : List ℕ → ℕ → ℕ → ℕ → Bool
gathered table at set i = any_below 32 (λ q. has_bit set q && has_bit (get_or table (at + q) 0) i)

pub record Narrow (n : ℕ) (table : List ℕ) : Type 0 where
  pub narrow : (t : ℕ) → get_or table t 0 < 2 ^ n

pub record Filled (δ : ℕ → ℕ → ℕ → Bool) (n v q : ℕ) (steps : List ℕ) : Type 0 where
  pub rows : (u p : ℕ) → u < v → p < n → Members (get_or steps (u * 32 + p) 0) (δ u p)
  pub part : (p : ℕ) → p < q → Members (get_or steps (v * 32 + p) 0) (δ v p)
  pub narrow : Narrow n steps

pub record Gathering (table : List ℕ) (at set out left : ℕ) : Type 0 where
  pub small : left < 2 ^ 32
  pub whole : (i : ℕ) → (has_bit out i || gathered table at left i) ≡ gathered table at set i

pub record Following (steps vs : List ℕ) (set i reached : ℕ) : Type 0 where
  pub small : reached < 2 ^ 32
  pub whole : (r : ℕ) → after (step_in steps) 32 (drop i vs) (has_bit reached) r ≡ after (step_in steps) 32 vs (has_bit set) r

pub record Marked (word : ℕ) (accepting : Bool) (r : ℕ) : Type 0 where
  pub low : (i : ℕ) → i < 32 → has_bit r i ≡ has_bit word i
  pub high : (i : ℕ) → i < 32 → has_bit r (32 + i) ≡ (has_bit word (32 + i) || (accepting && has_bit word i))

pub record Word (δ : ℕ → ℕ → ℕ → Bool) (n : ℕ) (F : ℕ → Bool) (vs : List ℕ) (q w : ℕ) : Type 0 where
  pub turned : (r : ℕ) → r < 32 → has_bit w r ≡ turn δ n vs q r
  pub met : (r : ℕ) → r < 32 → has_bit w (32 + r) ≡ meet δ n F vs q r

pub record Turned (steps : List ℕ) (n accept : ℕ) (vs : List ℕ) (k : ℕ) (rows : List ℕ) : Type 0 where
  pub word : (q : ℕ) → q < k → Word (step_in steps) n (has_bit accept) vs q (get_or rows q 0)

unfoldable pub related : List ℕ → ℕ → ℕ → Bool
related rows q r = has_bit (get_or rows q 0) r

pub record Linked (R : ℕ → ℕ → Bool) (i k : ℕ) (links : List ℕ) : Type 0 where
  pub set : (q : ℕ) → q < i → (r : ℕ) → r < 32 → has_bit (get_or links q 0) r ≡ linked R k q r

abbrev pub passing : ℕ → ℕ → ℕ → ℕ → Bool
passing word k mid r = has_bit word r || (has_bit word k && has_bit mid r)

pub record Passed (k mid : ℕ) (old : List ℕ) (i : ℕ) (new : List ℕ) : Type 0 where
  pub done : (q : ℕ) → q < i → (r : ℕ) → has_bit (get_or new q 0) r ≡ passing (get_or old q 0) k mid r
  pub same : (q : ℕ) → i ≤ q → get_or new q 0 ≡ get_or old q 0

unfoldable pub returning : List ℕ → List ℕ → ℕ → ℕ → Bool
returning rows links set s = has_bit set s && gathered links 0 (get_or rows s 0 / 2 ^ 32) s

pub record Closed (n set : ℕ) (rows : List ℕ) (b : Bool) : Type 0 where
  pub links : List ℕ
  pub reached : ℕ
  pub linked : Linked (related rows) n n links
  pub joined : Members reached (gathered links 0 set)
  pub found : b ≡ any_below n (returning rows links reached)
