-- The loop driven from one state, forwards, by the table of sets.
--   led_below                 == a set of states below n is led on by these alone
--   looked                    == what the table says of a set
--   ending-, course_start, -step, -end == before the first place; one place farther; at the loop's end, as a word
--   going-                    == the same of a state that there may not be
--   goings_start, -step, -end == the same of four states at a time
--   row_whole, row_part       == the part of the sets that belongs to one place
--   turned_four               == four words more of a turn
use mathlib.Core.Path.{◌≡◌, refl, sym, ap, ap₂, ◌∙◌, subst}
use mathlib.Core.Bool.{Bool, true, false, ◌&&◌, ◌||◌, and_comm}
use mathlib.Core.List.{List, [], ◌∷◌}
use Prim.Native.Nat.{ℕ, zero, suc, ◌+◌, ◌-◌, ◌*◌, ◌^◌, ◌/◌, ◌≤◌, ◌<◌, min}
use native.Mathlib.Nat.{pow-le-pow_right}
use native.Mathlib.Numerals.{add-one}
use native.Mathlib.Decide.{dec_lt}
use native.Mathlib.Omega.{arith}
use Rattle.std.proofs.Math.Pow.{pow-lt}
use lib.ListN.{length, get_or, take, drop}
use Rattle.std.proofs.lemmas.List.{length-take}
use Rattle.std.proofs.Common.{length-drop}
use lib.Seq.{drop-cons, drop-length, get_or-take, get_or-drop}
use lib.Bits.{bit_and, bit_or, and_le_l, or_lt}
use lib.Arith.{digits_div}
use lib.Dec.{eqb}
use Rattle.base.specs.Below.{any_below}
use Rattle.base.specs.Bits.{bit, has_bit, Members}
use Rattle.acceptance.specs.Decision.{after}
use Rattle.acceptance.specs.Table.{step_in, Narrow, Word, Turned}
use Rattle.acceptance.specs.Sets.{met_after, led_by, Tabled, Begun, Ending, Course, Going, Worded}
use Rattle.acceptance.specs.declared.narrow.Reach.{Reach}
use Rattle.base.proofs.Tests.{bool_same, any_intro, any_elim, and_left, and_right}
use Rattle.base.proofs.Bits.{bit_block, bit_div}
use Rattle.base.proofs.Members.{has_or, has_and, members_one, members_lt}
use Rattle.acceptance.proofs.Gathers.{inside}
use Rattle.acceptance.proofs.Following.{after_same}
use Rattle.acceptance.proofs.Forward.{met_same, after_turn, met_meet}
use Rattle.acceptance.proofs.Deciding.{narrow_lands}

abbrev pub nowhere : Reach
nowhere = record { ends = 0; good = 0 }

module _ (steps : List ℕ) (n : ℕ) (few : n ≤ 8) (narrow : Narrow n steps) where
  pub led_below : (v x r : ℕ) → x < 2 ^ n → led_by steps v x r ≡ any_below n (λ q. has_bit x q && step_in steps v q r)
  unfolding led_by
  led_below v x r small = bool_same _ _ there back
    where
      there : any_below 8 (λ q. has_bit x q && step_in steps v q r) ≡ true → any_below n (λ q. has_bit x q && step_in steps v q r) ≡ true
      there h =
          let f = any_elim (λ q. has_bit x q && step_in steps v q r) 8 h in
          any_intro (λ q. has_bit x q && step_in steps v q r) n f.0 (inside n x f.0 small (and_left _ _ f.2)) f.2

      back : any_below n (λ q. has_bit x q && step_in steps v q r) ≡ true → any_below 8 (λ q. has_bit x q && step_in steps v q r) ≡ true
      back h =
          let f = any_elim (λ q. has_bit x q && step_in steps v q r) n h in
          any_intro (λ q. has_bit x q && step_in steps v q r) 8 f.0 (omega (arith, f.1)) f.2

  led_small : (v x y : ℕ) → Members y (led_by steps v x) → y < 2 ^ n
  unfolding led_by
  led_small v x y m = members_lt n y m (λ i l. none i l (led_by steps v x i) refl)
    where
      none : (i : ℕ) → n ≤ i → (b : Bool) → led_by steps v x i ≡ b → led_by steps v x i ≡ false
      none i l false e = e
      none i l true e =
          let f = any_elim (λ q. has_bit x q && step_in steps v q i) 8 e in
          absurd (omega (arith, l, narrow_lands n steps narrow v f.0 i (and_right (has_bit x f.0) _ f.2)))

  pub byte : (x : ℕ) → x < 2 ^ n → x < 256
  byte x h = let e : 2 ^ n ≤ 2 ^ 8 = pow-le-pow_right (omega arith) {i = n} {j = 8} few in omega (arith, h, e)

  -- what the table says of a set
  pub looked : (places v x y : ℕ) (sets : List ℕ) → v < places → Tabled steps n places 0 sets → x < 2 ^ n → y ≡ get_or sets (v * 256 + x) 0
      → Members y (led_by steps v x)
  looked places v x y sets known t small e = rw e (t.places v x known small)

  module _ (vs : List ℕ) (q : ℕ) where
    pub ending_start : (ends : ℕ) → q < n → ends ≡ 2 ^ q → Ending steps n vs q 0 ends
    ending_start ends l e = record {
      small = rw e (pow-lt l);
      whole = λ r. after_same (step_in steps) n vs (has_bit ends) (eqb q) (λ s. ap (λ m. has_bit m s) e ∙ (members_one q).has s) r;
    }

    on : (v ends ends' : ℕ) → ends < 2 ^ n → Members ends' (led_by steps v ends) → (s : ℕ)
        → has_bit ends' s ≡ any_below n (λ p. has_bit ends p && step_in steps v p s)
    on v ends ends' small m s = m.has s ∙ led_below v ends s small

    pub ending_step : (i ends ends' : ℕ) → i < length vs → Ending steps n vs q i ends → Members ends' (led_by steps (get_or vs i 0) ends)
        → Ending steps n vs q (i + 1) ends'
    unfolding after
    ending_step i ends ends' l c m = record {
      small = led_small (get_or vs i 0) ends ends' m;
      whole = λ r.
          ap (λ ws. after (step_in steps) n ws (has_bit ends') r) (ap (λ j. drop j vs) (add-one i))
          ∙ after_same (step_in steps) n (drop (suc i) vs) (has_bit ends') _ (on (get_or vs i 0) ends ends' c.small m) r
          ∙ ap (λ ws. after (step_in steps) n ws (has_bit ends) r) (sym (drop-cons vs i 0 l)) ∙ c.whole r;
    }

    pub ending_end : (i ends : ℕ) → i ≡ length vs → Ending steps n vs q i ends → Members ends (after (step_in steps) n vs (eqb q))
    unfolding after
    ending_end i ends e c =
        record { has = λ r. ap (λ ws. after (step_in steps) n ws (has_bit ends) r) (sym (ap (λ i. drop i vs) e ∙ drop-length vs)) ∙ c.whole r }

  module _ (accept : ℕ) (vs : List ℕ) (q : ℕ) where
    pub course_start : (ends good : ℕ) → q < n → ends ≡ 2 ^ q → good ≡ bit_and (2 ^ q) accept → Course steps n accept vs q 0 ends good
    course_start ends good l e g = record {
      reach = ending_start vs q ends l e;
      good_small = rw g (omega (arith, pow-lt l, and_le_l (2 ^ q) accept));
      good_whole = λ r. met_same (step_in steps) n (has_bit accept) vs (has_bit ends) (eqb q) (has_bit good) (λ s. has_bit accept s && eqb q s) own both r;
    }
      where
        own : (s : ℕ) → has_bit ends s ≡ eqb q s
        own s = ap (λ m. has_bit m s) e ∙ (members_one q).has s

        both : (s : ℕ) → has_bit good s ≡ (has_bit accept s && eqb q s)
        both s =
            ap (λ m. has_bit m s) g ∙ has_and (2 ^ q) accept s ∙ ap (λ b. b && has_bit accept s) ((members_one q).has s)
            ∙ and_comm (eqb q s) (has_bit accept s)

    pub course_step : (i ends good ends' led good' : ℕ) → i < length vs → Course steps n accept vs q i ends good
        → Members ends' (led_by steps (get_or vs i 0) ends) → Members led (led_by steps (get_or vs i 0) good) → good' ≡ bit_or led (bit_and ends' accept)
        → Course steps n accept vs q (i + 1) ends' good'
    unfolding met_after
    course_step i ends good ends' led good' l c m k g = record {
      reach = ending_step vs q i ends ends' l c.reach m;
      good_small =
          rw g (or_lt n led (bit_and ends' accept) (led_small (get_or vs i 0) good led k)
          (omega (arith, led_small (get_or vs i 0) ends ends' m, and_le_l ends' accept)));
      good_whole = λ r.
          ap (λ ws. met_after (step_in steps) n (has_bit accept) ws (has_bit ends') (has_bit good') r) (ap (λ j. drop j vs) (add-one i))
          ∙ met_same (step_in steps) n (has_bit accept) (drop (suc i) vs) (has_bit ends') _ (has_bit good') _ (on vs q (get_or vs i 0) ends ends' c.reach.small m) up r
          ∙ ap (λ ws. met_after (step_in steps) n (has_bit accept) ws (has_bit ends) (has_bit good) r) (sym (drop-cons vs i 0 l)) ∙ c.good_whole r;
    }
      where
        up : (s : ℕ) → has_bit good' s ≡ (any_below n (λ p. has_bit good p && step_in steps (get_or vs i 0) p s)
            || (has_bit accept s && any_below n (λ p. has_bit ends p && step_in steps (get_or vs i 0) p s)))
        up s =
            ap (λ m. has_bit m s) g ∙ has_or led (bit_and ends' accept) s
            ∙ ap₂ ◌||◌ (on vs q (get_or vs i 0) good led c.good_small k s)
            (has_and ends' accept s ∙ and_comm (has_bit ends' s) (has_bit accept s)
            ∙ ap (λ b. has_bit accept s && b) (on vs q (get_or vs i 0) ends ends' c.reach.small m s))

    pub course_end : (i ends good w : ℕ) → q < n → i ≡ length vs → Course steps n accept vs q i ends good → w ≡ ends + good * 2 ^ 32
        → Word (step_in steps) n (has_bit accept) vs q w
    unfolding met_after
    course_end i ends good w l e c d = record {
      turned = λ r h. low r h ∙ (ending_end vs q i ends e c.reach).has r ∙ after_turn (step_in steps) n (narrow_lands n steps narrow) vs q r l;
      met = λ r h. high r ∙ good_ended r ∙ c.good_whole r ∙ met_meet (step_in steps) n (has_bit accept) (narrow_lands n steps narrow) vs q r l;
    }
      where
        good_ended : (r : ℕ) → has_bit good r ≡ met_after (step_in steps) n (has_bit accept) (drop i vs) (has_bit ends) (has_bit good) r
        good_ended r =
            ap (λ ws. met_after (step_in steps) n (has_bit accept) ws (has_bit ends) (has_bit good) r) (sym (ap (λ i. drop i vs) e ∙ drop-length vs))

        split : w ≡ good * 2 ^ 32 + ends
        split = omega (arith, d)

        half : ends < 2 ^ 32
        half = let e : 2 ^ n ≤ 2 ^ 32 = pow-le-pow_right (omega arith) {i = n} {j = 32} (omega arith) in omega (arith, c.reach.small, e)

        low : (r : ℕ) → r < 32 → has_bit w r ≡ has_bit ends r
        low r h = ap (λ b. eqb b 1) (ap (λ m. bit m r) split ∙ bit_block 32 good ends r h)

        high : (r : ℕ) → has_bit w (32 + r) ≡ has_bit good r
        high r = ap (λ b. eqb b 1) (sym (bit_div 32 w r) ∙ ap (λ m. bit m r) (ap (λ m. m / 2 ^ 32) split ∙ digits_div good half))

    -- a state that there may not be
    pub going_start : {ends good : ℕ} → Begun q n accept ends good → Going steps n accept vs q 0 ends good
    going_start {ends} {good} b = record { course = λ l. course_start ends good l (b.own l) (b.own_good l) }

    pub going_step : (places i ends good ends' good' : ℕ) (sets row : List ℕ) → i < length vs → get_or vs i 0 < places → Tabled steps n places 0 sets
        → ((x : ℕ) → x < 256 → get_or row x 0 ≡ get_or sets (get_or vs i 0 * 256 + x) 0) → Going steps n accept vs q i ends good
        → ends' ≡ get_or row ends 0 → good' ≡ bit_or (get_or row good 0) (bit_and ends' accept) → Going steps n accept vs q (i + 1) ends' good'
    going_step places i ends good ends' good' sets row l known t same g e f = record {
      course = λ below.
          let c = g.course below in
          course_step i ends good ends' (get_or row good 0) good' l c
          (looked places (get_or vs i 0) ends ends' sets known t c.reach.small (e ∙ same ends (byte ends c.reach.small)))
          (looked places (get_or vs i 0) good (get_or row good 0) sets known t c.good_small (same good (byte good c.good_small))) f;
    }

    pub going_end : (i ends good w : ℕ) → i ≡ length vs → Going steps n accept vs q i ends good → w ≡ ends + good * 2 ^ 32 → q < n
        → Word (step_in steps) n (has_bit accept) vs q w
    going_end i ends good w e g d l = course_end i ends good w l e (g.course l) d

-- the part of the sets that belongs to one place
pub row_whole : (sets : List ℕ) {a k v : ℕ} → a ≡ v * 256 → k ≡ 256 → v < 128 → length sets ≡ 32768
    → (take k (drop a sets) ≡ take 256 (drop (v * 256) sets)) × (length (take k (drop a sets)) ≡ 256)
row_whole sets {a} {k} {v} e f l whole = rw (e, f) (refl, simp (length-take, length-drop) (omega arith))

pub row_part : (sets row : List ℕ) (v : ℕ) → row ≡ take 256 (drop (v * 256) sets) → (x : ℕ) → x < 256 → get_or row x 0 ≡ get_or sets (v * 256 + x) 0
row_part sets row v e x h = rw e (get_or-take 256 (drop (v * 256) sets) x 0 h ∙ get_or-drop (v * 256) sets x 0)

-- four states at a time
pub record Goings (steps : List ℕ) (n accept : ℕ) (vs : List ℕ) (q i : ℕ) (four : List Reach) : Type 0 where
  pub each : (j : ℕ) → j < 4 → Going steps n accept vs (q + j) i (get_or four j nowhere).ends (get_or four j nowhere).good

each_of_four : {A : Type 0} {a b c d : A} (z : A) (P : ℕ → A → Type 0) → P 0 a → P 1 b → P 2 c → P 3 d
    → (j : ℕ) → j < 4 → P j (get_or (a ∷ b ∷ c ∷ d ∷ []) j z)
each_of_four s P x y z w zero l = x
each_of_four s P x y z w (suc zero) l = y
each_of_four s P x y z w (suc (suc zero)) l = z
each_of_four s P x y z w (suc (suc (suc zero))) l = w
each_of_four s P x y z w (suc (suc (suc (suc j)))) l = absurd (omega arith)

-- one place farther: the reach r, by the row of the place
abbrev pub Advanced : List ℕ → ℕ → Reach → Reach → Type 0
Advanced row accept r r' = (r'.ends ≡ get_or row r.ends 0) × (r'.good ≡ bit_or (get_or row r.good 0) (bit_and r'.ends accept))

module _ {steps : List ℕ} {n : ℕ} (few : n ≤ 8) (narrow : Narrow n steps) {accept : ℕ} (vs : List ℕ) (q : ℕ) where
  pub goings_start : {a b c d : Reach} → Begun q n accept a.ends a.good → Begun (q + 1) n accept b.ends b.good → Begun (q + 2) n accept c.ends c.good
      → Begun (q + 3) n accept d.ends d.good → Goings steps n accept vs q 0 (a ∷ b ∷ c ∷ d ∷ [])
  goings_start {a} {b} {c} {d} f g h k = record { each = each_of_four nowhere (λ j (r : Reach). Going steps n accept vs (q + j) 0 r.ends r.good) (rw own (start q f)) (start (q + 1) g) (start (q + 2) h) (start (q + 3) k) }
    where
      own : q + 0 ≡ q
      own = omega arith

      start : (p : ℕ) {r : Reach} → Begun p n accept r.ends r.good → Going steps n accept vs p 0 r.ends r.good
      start p b = going_start steps n few narrow accept vs p b

  pub goings_step : {i places : ℕ} {sets row : List ℕ} {four : List Reach} {a b c d : Reach} → i < length vs → get_or vs i 0 < places
      → Tabled steps n places 0 sets → row ≡ take 256 (drop (get_or vs i 0 * 256) sets) → Goings steps n accept vs q i four
      → Advanced row accept (get_or four 0 nowhere) a → Advanced row accept (get_or four 1 nowhere) b → Advanced row accept (get_or four 2 nowhere) c
      → Advanced row accept (get_or four 3 nowhere) d → Goings steps n accept vs q (i + 1) (a ∷ b ∷ c ∷ d ∷ [])
  goings_step {i} {places} {sets} {row} {four} l known t part g f h k m = record { each = each_of_four nowhere (λ j (r : Reach). Going steps n accept vs (q + j) (i + 1) r.ends r.good) (next 0 (omega arith) f) (next 1 (omega arith) h) (next 2 (omega arith) k) (next 3 (omega arith) m) }
    where
      next : (j : ℕ) → j < 4 → {r : Reach} → Advanced row accept (get_or four j nowhere) r → Going steps n accept vs (q + j) (i + 1) r.ends r.good
      next j s {r} e =
          going_step steps n few narrow accept vs (q + j) places i _ _ r.ends r.good sets row l known t (row_part sets row (get_or vs i 0) part) (g.each j s) e.0 e.1

  pub goings_end : {i a b c d : ℕ} {four : List Reach} → i ≡ length vs → Goings steps n accept vs q i four
      → a ≡ (get_or four 0 nowhere).ends + (get_or four 0 nowhere).good * 2 ^ 32 → b ≡ (get_or four 1 nowhere).ends + (get_or four 1 nowhere).good * 2 ^ 32
      → c ≡ (get_or four 2 nowhere).ends + (get_or four 2 nowhere).good * 2 ^ 32 → d ≡ (get_or four 3 nowhere).ends + (get_or four 3 nowhere).good * 2 ^ 32
      → Worded steps n accept vs q (a ∷ b ∷ c ∷ d ∷ [])
  goings_end {i} {four = four} e g f h k m = record { each = each_of_four 0 (λ j (w : ℕ). q + j < n → Word (step_in steps) n (has_bit accept) vs (q + j) w) (last 0 (omega arith) f) (last 1 (omega arith) h) (last 2 (omega arith) k) (last 3 (omega arith) m) }
    where
      last : (j : ℕ) → j < 4 → {w : ℕ} → w ≡ (get_or four j nowhere).ends + (get_or four j nowhere).good * 2 ^ 32 → q + j < n
          → Word (step_in steps) n (has_bit accept) vs (q + j) w
      last j s {w} d l = going_end steps n few narrow accept vs (q + j) i _ _ w e (g.each j s) d l

-- the words of four states more: new holds them from q on, and below q what old holds
pub turned_four : {steps vs old new words : List ℕ} {n accept : ℕ} (q k : ℕ) → Turned steps n accept vs (min q n) old → Worded steps n accept vs q words
    → ((p : ℕ) → p < q → get_or new p 0 ≡ get_or old p 0) → ((j : ℕ) → j < 4 → get_or new (q + j) 0 ≡ get_or words j 0)
    → k ≤ q + 4 → k ≤ n → Turned steps n accept vs k new
turned_four {steps} {vs} {old} {new} {words} {n} {accept} q k t w before here most few = record { word = λ p l. at p l (dec_lt p q) }
  where
    at : (p : ℕ) → p < k → Dec (p < q) → Word (step_in steps) n (has_bit accept) vs p (get_or new p 0)
    at p l (yes h) = rw (before p h) (t.word p (omega arith))
    at p l (no h) =
        let j : ℕ = p - q in
        let e : q + j ≡ p = omega arith in
        subst (λ p. Word (step_in steps) n (has_bit accept) vs p (get_or new p 0)) e (rw (here j (omega arith)) (w.each j (omega arith) (omega arith)))
