-- The pairs that the reader notes are those of the road lines read so far.
--   noting_noted == noting a pair adds this one and no other
--   noting_again == a pair that is noted is noted again without a change
--   noted_start  == at first there is none
--   noted_next   == with a road line more, its pair
--   noted_behind == so it is behind a line that was read
--   noted_after  == and so behind a line without a fault
--   road_noted   == what is noted is as good a test of a road line as the definition's
--   road_by      == so it is behind any line, as behind a fault nothing is tested
use mathlib.Core.Path.{subst, ◌≡◌, refl, sym, ap, ◌∙◌}
use mathlib.Core.Bool.{Bool, true, false, ◌&&◌, ◌||◌, or-false}
use mathlib.Core.List.{List, [], ◌∷◌}
use Prim.Native.Nat.{ℕ, zero, suc, ◌+◌, ◌-◌, ◌/◌, ◌%◌, ◌^◌, ◌≤◌, ◌<◌}
use native.Mathlib.Decide.{ℕ_discrete}
use native.Mathlib.Numerals.{add-one}
use native.Mathlib.Omega.{arith}
use borrow.Author.Tests.{eq-eqb, ne_eqb, eqb-true}
use lib.Bits.{bit_or}
use lib.Dec.{eqb}
use lib.ListN.{length, get_or, set, replicate}
use lib.Seq.{get_or-set_same, get_or-set_other}
use Rattle.std.specs.Prelude.{Some, None, Ok, Err}
use Rattle.base.specs.Below.{any_below}
use Rattle.base.specs.Bits.{has_bit}
use Rattle.base.proofs.Bits.{bit_zero}
use Rattle.base.proofs.Members.{has_or, members_one, or_member}
use Rattle.base.proofs.Tests.{bool_same, pair_same, any_same, false_not_true}
use Rattle.text.specs.Scan.{first_number, key_at, next_number, value_of, Number}
use Rattle.text.specs.Line.{Line, pair, closed, good, numbers_of}
use Rattle.text.specs.declared.line.Numbers.{Numbers}
use Rattle.text.specs.declared.line.Cursor.{Cursor}
use Rattle.plan.specs.declared.Road.{Road}
use Rattle.plan.specs.WellFormed.{no_road}
use Rattle.reader.specs.Pairs.{pair_of, noted, noted_of, noting, Noted}
use Rattle.reader.specs.Line.{road_fits, once, road_from, road_line, RoadRead}
use Rattle.reader.specs.Blocks.{road_of, on_line, earlier}
use Rattle.reader.proofs.Lines.{fits_both}
use Rattle.reader.proofs.Columns.{zeros_rest}
use Rattle.reader.proofs.Faultless.{Faulty, faulty, was_good}
use Rattle.reader.proofs.Steps.{roads_in}

-- one bit more in a list of words
bit_put : (words : List ℕ) (i k : ℕ) → i / 32 < length words
    → has_bit (get_or (set words (i / 32) (bit_or (get_or words (i / 32) 0) (2 ^ (i % 32)))) (k / 32) 0) (k % 32)
    ≡ has_bit (get_or words (k / 32) 0) (k % 32) || eqb i k
bit_put words i k room = by (ℕ_discrete (i / 32) (k / 32))
  where
    more : ℕ
    more = bit_or (get_or words (i / 32) 0) (2 ^ (i % 32))

    -- in one word the rests tell two numbers apart
    rests : i / 32 ≡ k / 32 → eqb (i % 32) (k % 32) ≡ eqb i k
    rests e = bool_same _ _ (λ h. let r = eqb-true (i % 32) (k % 32) h in eq-eqb i k (omega arith)) (λ h. eq-eqb _ _ (ap (λ n. n % 32) (eqb-true i k h)))

    by : Dec (i / 32 ≡ k / 32) → has_bit (get_or (set words (i / 32) more) (k / 32) 0) (k % 32) ≡ has_bit (get_or words (k / 32) 0) (k % 32) || eqb i k
    by (yes e) =
        ap (λ w. has_bit (get_or (set words (i / 32) more) w 0) (k % 32)) (sym e)
        ∙ ap (λ w. has_bit w (k % 32)) (get_or-set_same words (i / 32) more 0 room)
        ∙ has_or (get_or words (i / 32) 0) (2 ^ (i % 32)) (k % 32)
        ∙ ap (λ b. has_bit (get_or words (i / 32) 0) (k % 32) || b) ((members_one (i % 32)).has (k % 32) ∙ rests e)
        ∙ ap (λ w. has_bit (get_or words w 0) (k % 32) || eqb i k) e
    by (no d) =
        ap (λ w. has_bit w (k % 32)) (get_or-set_other words (i / 32) (k / 32) more 0 (λ e. d (sym e)))
        ∙ sym (rw (ne_eqb i k (λ e. d (ap (λ n. n / 32) e))) (or-false (has_bit (get_or words (k / 32) 0) (k % 32))))

pub noting_noted : (words : List ℕ) (a b x y : ℕ) → length words ≡ 512 → a < 128 → b < 128 → y < 128
    → noted (noting words a b) x y ≡ noted words x y || (eqb a x && eqb b y)
noting_noted words a b x y room ha hb hy =
    bit_put words (pair_of a b) (pair_of x y) (omega arith) ∙ ap (λ t. noted words x y || t) (pair_same a b x y hb hy)

put_back : (xs : List ℕ) (i : ℕ) → i < length xs → set xs i (get_or xs i 0) ≡ xs
put_back [] i h = refl
put_back (x ∷ xs) zero h = refl
put_back (x ∷ xs) (suc i) h = ap (λ ys. x ∷ ys) (put_back xs i (omega arith))

pub noting_again : (words : List ℕ) (a b : ℕ) → length words ≡ 512 → a < 128 → b < 128 → noted words a b ≡ true → noting words a b ≡ words
noting_again words a b room ha hb e =
    let i = pair_of a b in
    ap (set words (i / 32)) (or_member (get_or words (i / 32) 0) (i % 32) e) ∙ put_back words (i / 32) (omega arith)

pub noted_start : (l : Line) (roads : List Road) → Noted (replicate 512 0) (earlier (roads_in l roads) 0)
unfolding any_below
noted_start l roads = record {
  has = λ xs h k. let i = pair_of xs.first xs.second in rw (zeros_rest 512 (i / 32) (omega arith), bit_zero (i % 32));
}

module _ (l r : Line) (roads : List Road) (i : ℕ) (x : Road) (room : i < length roads) where
  -- the pairs of i + 1 lines are those of i lines and the last
  earlier_next : (xs : Numbers) → earlier (roads_in r (set roads i x)) (i + 1) xs ≡ earlier (roads_in l roads) i xs || (eqb x.from xs.first && eqb x.to xs.second)
  unfolding any_below
  earlier_next xs = rw (
    add-one,
    any_same (on_line (roads_in r (set roads i x)) xs) (on_line (roads_in l roads) xs) i (λ k h. rw (get_or-set_other roads i k x no_road (λ e. omega arith))),
    get_or-set_same roads i x no_road room,
  )

  pub noted_next : (words : List ℕ) → Noted words (earlier (roads_in l roads) i) → length words ≡ 512 → x.from < 128 → x.to < 128
      → Noted (noting words x.from x.to) (earlier (roads_in r (set roads i x)) (i + 1))
  noted_next words n long ha hb = record {
    has = λ xs h k.
        noting_noted words x.from x.to xs.first xs.second long ha hb k
        ∙ ap (λ t. t || (eqb x.from xs.first && eqb x.to xs.second)) (n.has xs h k)
        ∙ sym (earlier_next xs);
  }

-- so it is behind a line that was read
pub noted_behind : (given l r : Line) (bound : ℕ) (roads : List Road) (pairs pairs' : List ℕ) (i : ℕ) (xs : Numbers) (c : Cursor) → bound ≤ 128
    → Noted pairs (earlier (roads_in l roads) i) → length pairs ≡ 512 → i < length roads
    → RoadRead given bound pairs r pairs' → r ≡ Ok (xs, c)
    → Noted pairs' (earlier (roads_in r (set roads i (road_of xs))) (i + 1))
noted_behind given l r bound roads pairs pairs' i xs c few n long room read e =
    let same : pairs' ≡ noting pairs xs.first xs.second = read.noted ∙ rw e in
    let first : xs.first ≤ bound - 1 = rw e at read.first_low in
    let second : xs.second ≤ bound - 1 = rw e at read.second_low in
    rw same (noted_next l r roads i (road_of xs) room pairs n long (omega (arith, first)) (omega (arith, second)))

-- so it is behind a line without a fault
pub noted_after : (s key : List ℕ) (bound : ℕ) (again : Numbers → Bool) (l r : Line) (roads : List Road) (pairs pairs' : List ℕ) (i : ℕ) (xs : Numbers) → bound ≤ 128
    → (good l ≡ true → Noted pairs (earlier (roads_in l roads) i)) → length pairs ≡ 512 → i < length roads
    → RoadRead (road_line s l key bound again) bound pairs r pairs' → xs ≡ numbers_of r → good r ≡ true
    → Noted pairs' (earlier (roads_in r (set roads i (road_of xs))) (i + 1))
noted_after s key bound again l r roads pairs pairs' i xs few n long room read e g =
    let stays : Faulty l → Faulty r = λ f. subst Faulty (sym read.same) ((faulty s).road l key bound again f) in
    by r refl (n (was_good l r stays g)) g
  where
    by : (x : Line) → r ≡ x → Noted pairs (earlier (roads_in l roads) i) → good x ≡ true
        → Noted pairs' (earlier (roads_in r (set roads i (road_of xs))) (i + 1))
    by (Ok (ys, c)) h m g =
        let same : xs ≡ ys = e ∙ ap numbers_of h in
        rw same (noted_behind _ l r bound roads pairs pairs' i ys c few m long room read h)
    by (Err f) h m g = absurd (false_not_true g refl)

-- tests that agree on pairs of places make the same road line
module _ (s key : List ℕ) (bound : ℕ) (few : bound ≤ 128) (P Q : Numbers → Bool) (agree : (xs : Numbers) → xs.first < 128 → xs.second < 128 → P xs ≡ Q xs) where
  once_by : (at : ℕ) (b : Number) (fit : Bool) (xs : Numbers) → road_fits xs bound ≡ fit
      → once s at (P xs) (closed s at b fit xs) ≡ once s at (Q xs) (closed s at b fit xs)
  once_by at None fit xs e = refl
  once_by at (Some (v, i)) false xs e = refl
  once_by at (Some (v, i)) true xs e =
      let low = fits_both xs bound e in
      rw (agree xs (omega (arith, low.0)) (omega (arith, low.1)))

  road_alike : (at : ℕ) → road_from s at key bound P ≡ road_from s at key bound Q
  road_alike at =
      let a = first_number s (key_at s at key) 44 in let b = next_number s a 10 in
      once_by at b (road_fits (pair (value_of a) (value_of b)) bound) (pair (value_of a) (value_of b)) refl

-- so is what is noted as a test
pub road_noted : (s key : List ℕ) (bound : ℕ) (words : List ℕ) (P : Numbers → Bool) → bound ≤ 128 → Noted words P → (at : ℕ)
    → road_from s at key bound (noted_of words) ≡ road_from s at key bound P
road_noted s key bound words P few n = road_alike s key bound few (noted_of words) P n.has

-- behind a fault nothing is tested
pub road_by : (s key : List ℕ) (l : Line) (bound : ℕ) (words : List ℕ) (P : Numbers → Bool) → bound ≤ 128 → (good l ≡ true → Noted words P)
    → road_line s l key bound (noted_of words) ≡ road_line s l key bound P
unfolding road_line
road_by s key (Err f) bound words P few n = refl
road_by s key (Ok (xs, c)) bound words P few n = road_noted s key bound words P few (n refl) c.at
