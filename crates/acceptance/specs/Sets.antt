-- The table of the sets of an automaton of at most eight states: entry v * 256 + x is where the set x leads at place v.
--   met_after δ n F vs X Y r    == over the entries of vs, some state of Y leads to r, or some state of X does with an accepting state met after
--                                 the first entry or later
--   led_by steps v x r          == at place v some state of the set x leads to r
--   Extended at size next old i new == from at + size on, the first i entries of new are those of old from `at` on with `next` joined; those
--                                 before are as in old
--   Tabled steps n v size sets == for the places below v all sets of n states are tabled, for place v those below `size`
--   Ending steps n vs q i ends == from state q, over the first i entries of vs, the states of `ends` are reached: what is left of vs leads from
--                                 them to where all of vs leads to from q
--   Course steps n accept vs q i ends good
--                              == and those of `good` are reached with an accepting state met
--   Begun q n accept ends good == before the first entry: the state q, if there is such a state
--   Going                      == the course of state q, if there is such a state
--   Worded                     == the words of four states from q on, as far as there are such states
use Rattle.std.specs.Prelude.{◌≡◌, Bool, ◌&&◌, ◌||◌, List, [], ◌∷◌, ℕ, ◌+◌, ◌*◌, ◌^◌, ◌<◌, get_or, drop, eqb}
use Rattle.std.specs.Int.Bits.{bit_and, bit_or}
use Rattle.base.specs.Below.{any_below}
use Rattle.base.specs.Bits.{has_bit, Members}
use Rattle.acceptance.specs.Decision.{after}
use Rattle.acceptance.specs.Table.{step_in, Word}

unfoldable pub met_after : (ℕ → ℕ → ℕ → Bool) → ℕ → (ℕ → Bool) → List ℕ → (ℕ → Bool) → (ℕ → Bool) → ℕ → Bool
met_after δ n F [] X Y r = Y r
met_after δ n F (v ∷ vs) X Y r =
    met_after δ n F vs (λ s. any_below n (λ q. X q && δ v q s)) (λ s. any_below n (λ q. Y q && δ v q s) || (F s && any_below n (λ q. X q && δ v q s))) r

unfoldable pub led_by : List ℕ → ℕ → ℕ → ℕ → Bool
led_by steps v x r = any_below 8 (λ q. has_bit x q && step_in steps v q r)

pub record Extended (at size next : ℕ) (old : List ℕ) (i : ℕ) (new : List ℕ) : Type 0 where
  pub joined : (x : ℕ) → x < i → get_or new (at + size + x) 0 ≡ bit_or (get_or old (at + x) 0) next
  pub below : (t : ℕ) → t < at + size → get_or new t 0 ≡ get_or old t 0

pub record Tabled (steps : List ℕ) (n v size : ℕ) (sets : List ℕ) : Type 0 where
  pub places : (u x : ℕ) → u < v → x < 2 ^ n → Members (get_or sets (u * 256 + x) 0) (led_by steps u x)
  pub part : (x : ℕ) → x < size → Members (get_or sets (v * 256 + x) 0) (led_by steps v x)

pub record Ending (steps : List ℕ) (n : ℕ) (vs : List ℕ) (q i ends : ℕ) : Type 0 where
  pub small : ends < 2 ^ n
  pub whole : (r : ℕ) → after (step_in steps) n (drop i vs) (has_bit ends) r ≡ after (step_in steps) n vs (eqb q) r

pub record Course (steps : List ℕ) (n accept : ℕ) (vs : List ℕ) (q i ends good : ℕ) : Type 0 where
  pub reach : Ending steps n vs q i ends
  pub good_small : good < 2 ^ n
  pub good_whole : (r : ℕ) → met_after (step_in steps) n (has_bit accept) (drop i vs) (has_bit ends) (has_bit good) r
      ≡ met_after (step_in steps) n (has_bit accept) vs (eqb q) (λ s. has_bit accept s && eqb q s) r

pub record Begun (q n accept ends good : ℕ) : Type 0 where
  pub own : q < n → ends ≡ 2 ^ q
  pub own_good : q < n → good ≡ bit_and (2 ^ q) accept

pub record Going (steps : List ℕ) (n accept : ℕ) (vs : List ℕ) (q i ends good : ℕ) : Type 0 where
  pub course : q < n → Course steps n accept vs q i ends good

pub record Worded (steps : List ℕ) (n accept : ℕ) (vs : List ℕ) (q : ℕ) (words : List ℕ) : Type 0 where
  pub each : (j : ℕ) → j < 4 → q + j < n → Word (step_in steps) n (has_bit accept) vs (q + j) (get_or words j 0)
