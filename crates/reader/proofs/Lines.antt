-- What the lines of a plan file that hold more than one number come to; the laws of any line stand in `text/proofs/Lines`.
--   road_held, move_held    == a line of good form is judged by held values as by the exact ones
--   two_none, two_one, two_both, five_none, .. == the numbers of a line, one behind the other
--   any_told, last_held     == behind four numbers, the fourth is any, and the last is the one behind it, each held
--   road_bad, move_bad      == each kind of line has a bad form where its last number has
--   road_good               == a road line of good form is judged by its held values
--   road_none, road_some, move_none, move_good == what each kind of line is, by its numbers as the code knows them
--   by_none, by_some        == and of a move line for any numbers in front of its last
--   road_doubled, road_passed, road_ranged == the three ends of a road line of good form
--   fits_both               == where the numbers of a road line fit, both are below the bound
--   byte                    == a number below a bound of at most 256 fits a byte
--   road_led, move_led      == what each kind of line leads to: numbers in their ranges
--   road_low, move_low      == so the numbers of each are below their bounds
--   road_is, road_faulty, move_is == and each is read as promised
use mathlib.Core.Path.{◌≡◌, refl, sym, ap, subst, ◌∙◌}
use mathlib.Core.Bool.{Bool, true, false, ◌&&◌}
use mathlib.Core.List.{List}
use Prim.Native.Nat.{ℕ, ◌-◌, ◌≤◌, ◌<◌, min}
use native.Mathlib.Omega.{arith}
use lib.Dec.{ltb}
use borrow.Author.Tests.{ltb-true}
use Rattle.std.specs.Prelude.{Option, Some, None, Ok, Err}
use Rattle.base.proofs.Tests.{and_left, and_right}
use Rattle.text.specs.Scan.{Number, key_at, number_at, first_number, next_number, else_number, either, value_of, line_at}
use Rattle.text.specs.Line.{Line, pair, bad_form, judged, closed, numbers_of}
use Rattle.text.specs.declared.fault.Fault.{Fault}
use Rattle.text.specs.declared.fault.Fault.TheVariants.{Range, Doubled}
use Rattle.text.specs.declared.line.Numbers.{Numbers}
use Rattle.text.specs.declared.line.Cursor.{Cursor}
use Rattle.text.proofs.Held.{Held, Told, held_told, held_bad, told_held, bad_held, else_held, either_held}
use Rattle.text.proofs.Lines.{same_below, judged_same, before, here, Led, closed_led, low}
use Rattle.reader.specs.Line.{road_fits, once, road_from, road_line, move_fits, move_from, move_line, all_of, two_numbers, five_numbers, noting_line, RoadRead, MoveRead}

abbrev pub numbers : ℕ → ℕ → ℕ → ℕ → ℕ → Numbers
numbers a b c d e = record { first = a; second = b; third = c; fourth = d; fifth = e }

move_tests : (xs : Numbers) (q labels : ℕ) → move_fits xs q labels ≡ true
    → (ltb xs.first q ≡ true) × (ltb xs.second labels ≡ true) × (ltb xs.third labels ≡ true) × (ltb xs.fourth labels ≡ true)
    × (ltb xs.fifth q ≡ true)
move_tests xs q labels h =
    let d = and_left _ (ltb xs.fifth q) h in let c = and_left _ (ltb xs.fourth labels) d in let b = and_left _ (ltb xs.third labels) c in
    let two = ltb xs.first q && ltb xs.second labels in let three = two && ltb xs.third labels in (
      and_left _ _ b,
      and_right (ltb xs.first q) _ b,
      and_right two _ c,
      and_right three _ d,
      and_right (three && ltb xs.fourth labels) _ h,
    )

module _ (s : List ℕ) (at next : ℕ) where
  -- what a road line of good form comes to
  abbrev road : Bool → Bool → Numbers → Line
  road again fit xs = once s at again (judged s at next fit xs)

  road_same : (again : Numbers → Bool) (t u : Bool) (xs ys : Numbers) → t ≡ u → (u ≡ true → xs ≡ ys) → road (again xs) t xs ≡ road (again ys) u ys
  road_same again t true xs ys e f = rw (e, f refl)
  road_same again t false xs ys e f = rw e

  road_held : (again : Numbers → Bool) (v w x y bound : ℕ) → x ≡ min v 4000000000 → y ≡ min w 4000000000 → bound ≤ 4000000000
      → road (again (pair x y)) (road_fits (pair x y) bound) (pair x y) ≡ road (again (pair v w)) (road_fits (pair v w) bound) (pair v w)
  road_held again v w x y bound e f h =
      let a = same_below v x bound e h in let b = same_below w y bound f h in
      road_same again (road_fits (pair x y) bound) (road_fits (pair v w) bound) _ _ (rw (a.test, b.test))
      (λ g. rw (a.passed (and_left _ _ g), b.passed (and_right (ltb v bound) _ g)))

  move_held : (v w t u b x y z a o q labels : ℕ) → x ≡ min v 4000000000 → y ≡ min w 4000000000 → z ≡ min t 4000000000
      → a ≡ min u 4000000000 → o ≡ min b 4000000000 → q ≤ 4000000000 → labels ≤ 4000000000
      → judged s at next (move_fits (numbers x y z a o) q labels) (numbers x y z a o)
      ≡ judged s at next (move_fits (numbers v w t u b) q labels) (numbers v w t u b)
  move_held v w t u b x y z a o q labels e1 e2 e3 e4 e5 h k =
      let s1 = same_below v x q e1 h in let s2 = same_below w y labels e2 k in let s3 = same_below t z labels e3 k in
      let s4 = same_below u a labels e4 k in let s5 = same_below b o q e5 h in
      judged_same s at next (move_fits (numbers x y z a o) q labels) (move_fits (numbers v w t u b) q labels) _ _
      (rw (s1.test, s2.test, s3.test, s4.test, s5.test))
      (λ m.
      let f = move_tests (numbers v w t u b) q labels m in
      rw (s1.passed f.0, s2.passed f.1, s3.passed f.2, s4.passed f.3, s5.passed f.4))

-- the numbers of a line, one behind the other
module _ (s : List ℕ) (at : ℕ) (key : List ℕ) where
  abbrev first : Number
  first = first_number s (key_at s at key) 44

  pub two_none : first ≡ None → None ≡ two_numbers s at key
  two_none e = rw e

  pub five_none : first ≡ None → None ≡ five_numbers s at key
  five_none e = rw e

  module _ (x i : ℕ) (a : Told first x i) where
    pub two_one : number_at s i 10 ≡ None → None ≡ two_numbers s at key
    two_one e = rw (a.is, e)

    pub two_both : (y n : ℕ) → Told (number_at s i 10) y n → Some (pair x y, n) ≡ two_numbers s at key
    two_both y n b = rw (a.is, b.is, a.held, b.held)

    pub five_one : number_at s i 44 ≡ None → None ≡ five_numbers s at key
    five_one e = rw (a.is, e)

    module _ (y j : ℕ) (b : Told (number_at s i 44) y j) where
      pub five_two : number_at s j 44 ≡ None → None ≡ five_numbers s at key
      five_two e = rw (a.is, b.is, e)

      module _ (z k : ℕ) (d : Told (number_at s j 44) z k) where
        pub five_four : (o n : ℕ) → Told (number_at s k 10) o n → Some (numbers x y z 0 o, n) ≡ five_numbers s at key
        five_four o n e = rw (a.is, b.is, d.is, e.is, a.held, b.held, d.held, e.held)

        module _ (no : number_at s k 10 ≡ None) where
          pub five_three : number_at s k 44 ≡ None → None ≡ five_numbers s at key
          five_three e = rw (a.is, b.is, d.is, no, e)

          module _ (u m : ℕ) (g : Told (number_at s k 44) u m) where
            abbrev fourth : Number
            fourth = next_number s (number_at s j 44) 10

            abbrev extra : Number
            extra = else_number s fourth (number_at s j 44) 44

            abbrev final : Number
            final = either fourth (next_number s extra 10)

            no_fourth : Held fourth None
            no_fourth = bad_held fourth (rw d.is no)

            -- the number behind the third is any, and the one behind it is the last
            any_told : Told extra u m
            any_told =
                held_told _ _ (else_held s 44 fourth None _ _ (Some (u, m)) no_fourth (told_held _ z k d) (told_held _ u m g).same).same u m refl

            last_held : (r : Number) → Held (number_at s m 10) r → Held final r
            last_held r h = either_held fourth None (next_number s extra 10) r r no_fourth (rw any_told.is h) refl

            pub five_any : number_at s m 10 ≡ None → None ≡ five_numbers s at key
            five_any e = let l = held_bad final None (last_held None (bad_held _ e)).same refl in rw (a.is, b.is, l)

            pub five_all : (o n : ℕ) → Told (number_at s m 10) o n → Some (numbers x y z u o, n) ≡ five_numbers s at key
            five_all o n e =
                let l = held_told final _ (last_held (Some (o, n)) (told_held _ o n e)).same o n refl in
                rw (a.is, b.is, l.is, a.held, b.held, d.held, any_told.held, l.held)

-- a line that stands behind one without a fault
module _ (s : List ℕ) (l : Line) (key : List ℕ) (xs : Numbers) (c : Cursor) (p : l ≡ Ok (xs, c)) where
  abbrev front : Number
  front = first_number s (key_at s c.at key) 44

  pub road_bad : (bound : ℕ) (again : Numbers → Bool) → next_number s front 10 ≡ None → Err (bad_form s c.at) ≡ road_line s l key bound again
  unfolding road_line
  road_bad bound again e = rw (p, e)

  pub road_good : (bound : ℕ) (again : Numbers → Bool) (x y n : ℕ) (ys : Numbers) → bound ≤ 4000000000 → x ≡ min (value_of front) 4000000000
      → Told (next_number s front 10) y n → ys ≡ pair x y → road s c.at n (again ys) (road_fits ys bound) ys ≡ road_line s l key bound again
  unfolding road_line
  road_good bound again x y n ys h a b e = rw e (road_held s c.at n again _ _ x y bound a b.held h ∙ rw (p, b.is))

  -- the numbers of a move: the third, the one behind it where that is not the last, and the last
  abbrev third : Number
  third = next_number s (next_number s front 44) 44

  abbrev any : Number
  any = else_number s (next_number s third 10) third 44

  abbrev last : Number
  last = either (next_number s third 10) (next_number s any 10)

  pub move_bad : (q labels : ℕ) → last ≡ None → Err (bad_form s c.at) ≡ move_line s l key q labels
  unfolding move_line
  move_bad q labels e = rw (p, e)

-- a line, by its numbers as the code knows them
module _ (s : List ℕ) (at : ℕ) (key : List ℕ) where
  abbrev index_in : Option (Numbers × ℕ) → ℕ
  index_in None = 0
  index_in (Some (xs, i)) = i

  abbrev numbers_in : Option (Numbers × ℕ) → Numbers
  numbers_in None = pair 0 0
  numbers_in (Some (xs, i)) = xs

  -- all of them are there only if the last is
  all_none : (b : Number) (xs : Numbers) → all_of b xs ≡ None → b ≡ None
  all_none None xs e = refl
  all_none (Some (w, i)) xs e = let z : ◌≡◌ {A = ℕ} 0 1 = cc in absurd (omega arith)

  -- the number in front of the last of a road line
  abbrev x : ℕ
  x = value_of (first_number s (key_at s at key) 44)

  module _ (bound : ℕ) (again : Numbers → Bool) where
    pub road_none : two_numbers s at key ≡ None → Err (bad_form s at) ≡ road_from s at key bound again
    unfolding road_line
    road_none e = road_bad s (Ok (pair 0 0, record { at = at })) key _ _ refl bound again (all_none _ _ e)

    pub road_some : (ys : Numbers) (n : ℕ) → two_numbers s at key ≡ Some (ys, n) → bound ≤ 4000000000
        → road s at n (again ys) (road_fits ys bound) ys ≡ road_from s at key bound again
    road_some ys n e h = by (next_number s (first_number s (key_at s at key) 44) 10) e
      where
        by : (b : Number) → all_of b (pair x (value_of b)) ≡ Some (ys, n)
            → road s at n (again ys) (road_fits ys bound) ys
            ≡ once s at (again (pair x (value_of b))) (closed s at b (road_fits (pair x (value_of b)) bound) (pair x (value_of b)))
        by None e = let z : ◌≡◌ {A = ℕ} 0 1 = cc in absurd (omega arith)
        by (Some (w, i)) e =
            let p : pair (min x 4000000000) (min w 4000000000) ≡ ys = ap numbers_in e in
            let q : i ≡ n = ap index_in e in
            rw (← p, ← q) (road_held s at i again x w _ _ bound refl refl h)

  module _ (q labels : ℕ) where
    -- the numbers in front of the last
    module _ (x y z u : ℕ) where
      abbrev line_by : Number → Line
      line_by b = closed s at b (move_fits (numbers x y z u (value_of b)) q labels) (numbers x y z u (value_of b))

      pub by_none : (b : Number) → all_of b (numbers x y z u (value_of b)) ≡ None → Err (bad_form s at) ≡ line_by b
      by_none b e = rw (all_none b _ e)

      pub by_some : (b : Number) (ys : Numbers) (n : ℕ) → all_of b (numbers x y z u (value_of b)) ≡ Some (ys, n) → q ≤ 4000000000 → labels ≤ 4000000000
          → judged s at n (move_fits ys q labels) ys ≡ line_by b
      by_some None ys n e h k = let z : ◌≡◌ {A = ℕ} 0 1 = cc in absurd (omega arith)
      by_some (Some (w, i)) ys n e h k =
          let p : numbers (min x 4000000000) (min y 4000000000) (min z 4000000000) (min u 4000000000) (min w 4000000000) ≡ ys = ap numbers_in e in
          let o : i ≡ n = ap index_in e in
          rw (← p, ← o) (move_held s at i x y z u w _ _ _ _ _ q labels refl refl refl refl refl h k)

    pub move_none : five_numbers s at key ≡ None → Err (bad_form s at) ≡ move_from s at key q labels
    unfolding move_line
    move_none e = move_bad s (Ok (pair 0 0, record { at = at })) key _ _ refl q labels (all_none _ _ e)

    pub move_good : (ys : Numbers) (n : ℕ) → five_numbers s at key ≡ Some (ys, n) → q ≤ 4000000000 → labels ≤ 4000000000
        → judged s at n (move_fits ys q labels) ys ≡ move_from s at key q labels
    move_good ys n e h k = by_some _ _ _ _ _ ys n e h k

-- the three ends of a road line of good form
module _ (s : List ℕ) (at next : ℕ) (xs : Numbers) (bound : ℕ) (again : Numbers → Bool) where
  pub road_doubled : (k : ℕ) → k ≡ line_at s at → road_fits xs bound ≡ true → again xs ≡ true
      → Err (Doubled k) ≡ road s at next (again xs) (road_fits xs bound) xs
  road_doubled k e f g = rw (e, f, g)

  pub road_passed : road_fits xs bound ≡ true → again xs ≡ false
      → Ok (xs, record { at = next }) ≡ road s at next (again xs) (road_fits xs bound) xs
  road_passed f g = rw (f, g)

  pub road_ranged : (k : ℕ) → k ≡ line_at s at → road_fits xs bound ≡ false → Err (Range k) ≡ road s at next (again xs) (road_fits xs bound) xs
  road_ranged k e f = rw (e, f)

pub fits_both : (xs : Numbers) (bound : ℕ) → road_fits xs bound ≡ true → (xs.first < bound) × (xs.second < bound)
fits_both xs bound h = (ltb-true _ bound (and_left _ _ h), ltb-true _ bound (and_right (ltb xs.first bound) _ h))

abbrev Road : ℕ → Numbers → Type 0
Road bound xs = road_fits xs bound ≡ true

abbrev Move : ℕ → ℕ → Numbers → Type 0
Move q labels xs = move_fits xs q labels ≡ true

module _ (s : List ℕ) where
  once_led : (Q : Numbers → Type 0) (l : Line) (at : ℕ) (again : Bool) (r : Line) → Led s Q l r → Led s Q l (once s at again r)
  once_led Q l at again (Err f) g = g
  once_led Q l at true (Ok (xs, c)) g = here at refl
  once_led Q l at false (Ok (xs, c)) g = g

  pub road_led : (l : Line) (key : List ℕ) (bound : ℕ) (again : Numbers → Bool) → Led s (Road bound) l (road_line s l key bound again)
  unfolding road_line
  road_led (Err f) key bound again = before refl
  road_led (Ok (xs, c)) key bound again =
      let a = first_number s (key_at s c.at key) 44 in let b = next_number s a 10 in
      let ys = pair (value_of a) (value_of b) in
      once_led (Road bound) (Ok (xs, c)) c.at (again ys) (closed s c.at b (road_fits ys bound) ys)
      (closed_led s (Road bound) (Ok (xs, c)) refl c.at b (road_fits ys bound) ys (λ e. e))

  pub move_led : (l : Line) (key : List ℕ) (q labels : ℕ) → Led s (Move q labels) l (move_line s l key q labels)
  unfolding move_line
  move_led (Err f) key q labels = before refl
  move_led (Ok (xs, c)) key q labels =
      let a = first_number s (key_at s c.at key) 44 in
      let z = next_number s (next_number s a 44) 44 in let d = next_number s z 10 in
      closed_led s (Move q labels) (Ok (xs, c)) refl c.at (either d (next_number s (else_number s d z 44) 10)) _ _ (λ e. e)

module _ (s : List ℕ) (l : Line) (key : List ℕ) where
  pub road_low : (bound : ℕ) (again : Numbers → Bool) (r : Line) → r ≡ road_line s l key bound again
      → ((numbers_of r).first ≤ bound - 1) × ((numbers_of r).second ≤ bound - 1)
  road_low bound again r e =
      let led = subst (λ x. Led s (Road bound) l x) (sym e) (road_led s l key bound again) in (
        low s (Road bound) l (λ xs. xs.first) bound refl (λ xs h. (fits_both xs bound h).0) r led,
        low s (Road bound) l (λ xs. xs.second) bound refl (λ xs h. (fits_both xs bound h).1) r led,
      )

  pub move_low : (q labels : ℕ) (r : Line) → r ≡ move_line s l key q labels → MoveRead (move_line s l key q labels) q labels r
  move_low q labels r e =
      let led = subst (λ x. Led s (Move q labels) l x) (sym e) (move_led s l key q labels) in
      record {
        same = e;
        first_low = low s (Move q labels) l (λ xs. xs.first) q refl (λ xs h. ltb-true _ q (move_tests xs q labels h).0) r led;
        second_low = low s (Move q labels) l (λ xs. xs.second) labels refl (λ xs h. ltb-true _ labels (move_tests xs q labels h).1) r led;
        third_low = low s (Move q labels) l (λ xs. xs.third) labels refl (λ xs h. ltb-true _ labels (move_tests xs q labels h).2) r led;
        fourth_low = low s (Move q labels) l (λ xs. xs.fourth) labels refl (λ xs h. ltb-true _ labels (move_tests xs q labels h).3) r led;
        fifth_low = low s (Move q labels) l (λ xs. xs.fifth) q refl (λ xs h. ltb-true _ q (move_tests xs q labels h).4) r led;
      }

module _ (s : List ℕ) (at : ℕ) (key : List ℕ) where
  -- before a line at this index
  abbrev before_it : Line
  before_it = Ok (pair 0 0, record { at = at })

  pub road_is : (bound : ℕ) (again : Numbers → Bool) (pairs pairs' : List ℕ) (r : Line) → r ≡ road_from s at key bound again
      → pairs' ≡ noting_line pairs r → RoadRead (road_from s at key bound again) bound pairs r pairs'
  unfolding road_line
  road_is bound again pairs pairs' r e h =
      let low = road_low s before_it key bound again r e in
      record { same = e; first_low = low.0; second_low = low.1; noted = h }

  -- a line that has a fault leaves what is noted
  pub road_faulty : (bound : ℕ) (again : Numbers → Bool) (pairs pairs' : List ℕ) (r : Line) (f : Fault) → r ≡ Err f → r ≡ road_from s at key bound again → pairs' ≡ pairs
      → RoadRead (road_from s at key bound again) bound pairs r pairs'
  road_faulty bound again pairs pairs' r f k e same = road_is bound again pairs pairs' r e (same ∙ rw k)

  pub move_is : (q labels : ℕ) (r : Line) → r ≡ move_from s at key q labels → MoveRead (move_from s at key q labels) q labels r
  unfolding move_line
  move_is q labels r e = move_low s before_it key q labels r e

pub byte : (f : Numbers → ℕ) (xs ys : Numbers) (bound : ℕ) → xs ≡ ys → f ys ≤ bound - 1 → bound ≤ 256 → f xs < 256
byte f xs ys bound e h b = rw e (omega arith)
