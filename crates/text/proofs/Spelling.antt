-- The numbers of a list that was read, written out as bytes: number by number, each read again.
--   Next s i v ws e   == at index i stands the number v; behind it the list ends at e, or the numbers ws follow
--   entries_some      == the numbers of a list that is not empty are not none
--   entries_next      == of numbers v, ws that stand at index i, the first
--   items_entries     == a list that is not empty is its entries
--   Put s at count before after next n
--                     == n of so many numbers of the list at index `at` stand over the front of `before`; the next is at index `next`
--   put_start, put_next, put_end == none is written at first; then one more; then all are
--   put_there         == there is a next number while some are left
use mathlib.Core.Path.{◌≡◌, refl, sym, ap, ◌∙◌}
use mathlib.Core.Bool.{Bool, true, false, cond}
use mathlib.Core.List.{List, [], ◌∷◌, ◌++◌}
use Prim.Native.Nat.{ℕ, zero, suc, ◌+◌, ◌-◌, ◌%◌, ◌≤◌, ◌<◌, min}
use native.Mathlib.Omega.{arith}
use native.Mathlib.Numerals.{add-one}
use borrow.Author.Tests.{lt-ltb, le-ltb}
use lib.ListN.{length, drop, get_or, set, length-drop, drop_of_length-le}
use lib.Seq.{drop-cons}
use lib.Dec.{ltb, eqb}
use Rattle.std.specs.Prelude.{Some, None}
use Rattle.text.specs.Scan.{Number, number_at, value_of, cap}
use Rattle.text.specs.List.{Items, items, bad, ahead, last, entry, entries, items_at, numbers_in}
use Rattle.text.specs.Runs.{Stands}
use Rattle.text.specs.Over.{Left}
use Rattle.text.proofs.Overs.{left_start, left_store, left_end, wrote_front}
use Rattle.text.proofs.Held.{index_of}
use Rattle.text.proofs.Lists.{under_elim}

pub data Next (s : List ℕ) (i v : ℕ) (ws : List ℕ) (e : ℕ) : Type 0 where
  final : ws ≡ [] → number_at s i 10 ≡ Some (v, e) → Next s i v ws e
  more : (k j : ℕ) → 0 < length ws → number_at s i 44 ≡ Some (v, j) → entries k s j ≡ items ws e → Next s i v ws e

last_some : (n : Number) (ws : List ℕ) (e : ℕ) → last n ≡ items ws e → 0 < length ws
last_some (Some (v, i)) ws e h = let k : (v ∷ []) ≡ ws = cc h in rw (← k) (omega arith)
last_some None ws e h = let z : ◌≡◌ {A = ℕ} 0 1 = cc in absurd (omega arith)

ahead_some : (v : ℕ) (l : Items) (ws : List ℕ) (e : ℕ) → ahead v l ≡ items ws e → 0 < length ws
ahead_some v (items us i) ws e h = let k : (v ∷ us) ≡ ws = cc h in rw (← k) (omega arith)
ahead_some v bad ws e h = let z : ◌≡◌ {A = ℕ} 0 1 = cc in absurd (omega arith)

pub entries_some : (k : ℕ) (s : List ℕ) (i : ℕ) (ws : List ℕ) (e : ℕ) → entries k s i ≡ items ws e → 0 < length ws
unfolding entries
entries_some zero s i ws e h = last_some (number_at s i 10) ws e h
entries_some (suc k) s i ws e h = by (number_at s i 44) h
  where
    by : (n : Number) → entry n (entries k s) (last (number_at s i 10)) ≡ items ws e → 0 < length ws
    by (Some (v, j)) g = ahead_some v (entries k s j) ws e g
    by None g = last_some (number_at s i 10) ws e g

module _ (s : List ℕ) (i v : ℕ) (ws : List ℕ) (e : ℕ) where
  last_next : (n : Number) → number_at s i 10 ≡ n → last n ≡ items (v ∷ ws) e → Next s i v ws e
  last_next (Some (u, j)) p h =
      let a : u ≡ v = cc h in let b : [] ≡ ws = cc h in let c : j ≡ e = cc h in
      final (sym b) (p ∙ rw (a, c))
  last_next None p h = let z : ◌≡◌ {A = ℕ} 0 1 = cc in absurd (omega arith)

  ahead_next : (k u j : ℕ) → number_at s i 44 ≡ Some (u, j) → (l : Items) → entries k s j ≡ l → ahead u l ≡ items (v ∷ ws) e → Next s i v ws e
  ahead_next k u j p (items us f) q h =
      let a : u ≡ v = cc h in let b : us ≡ ws = cc h in let c : f ≡ e = cc h in
      more k j (entries_some k s j ws e (q ∙ rw (b, c))) (p ∙ rw a) (q ∙ rw (b, c))
  ahead_next k u j p bad q h = let z : ◌≡◌ {A = ℕ} 0 1 = cc in absurd (omega arith)

  pub entries_next : (k : ℕ) → entries k s i ≡ items (v ∷ ws) e → Next s i v ws e
  unfolding entries
  entries_next zero h = last_next (number_at s i 10) refl h
  entries_next (suc k) h = by (number_at s i 44) refl h
    where
      by : (n : Number) → number_at s i 44 ≡ n → entry n (entries k s) (last (number_at s i 10)) ≡ items (v ∷ ws) e → Next s i v ws e
      by (Some (u, j)) p g = ahead_next k u j p (entries k s j) refl g
      by None p g = last_next (number_at s i 10) refl g

abbrev end_of : Items → ℕ
end_of (items vs i) = i
end_of bad = 0

pub items_entries : (s : List ℕ) (at : ℕ) → 0 < length (numbers_in (items_at s at))
    → entries (length s) s at ≡ items (numbers_in (items_at s at)) (end_of (entries (length s) s at))
unfolding items_at
items_entries s at h = by (eqb (get_or s at 0) 10) (entries (length s) s at) h
  where
    by : (t : Bool) (l : Items) → 0 < length (numbers_in (cond t (items [] (at + 1)) l)) → l ≡ items (numbers_in (cond t (items [] (at + 1)) l)) (end_of l)
    by true l h = absurd (omega arith)
    by false (items vs i) h = refl
    by false bad h = absurd (omega arith)

pub record Put (s : List ℕ) (at count : ℕ) (before after : List ℕ) (next n : ℕ) : Type 0 where
  pub stands : Stands s (record { at = at; count = count })
  pub done : n ≤ count
  pub fuel : ℕ
  pub end : ℕ
  pub rest : n < count → entries fuel s next ≡ items (drop n (numbers_in (items_at s at))) end
  pub bytes : Left before 0 (numbers_in (items_at s at)) after n (drop n (numbers_in (items_at s at)))

module _ (s : List ℕ) (at count : ℕ) where
  abbrev places : List ℕ
  places = numbers_in (items_at s at)

  pub put_start : Stands s (record { at = at; count = count }) → (before : List ℕ) → count ≤ length before → Put s at count before before at 0
  put_start h before room = record {
    stands = h;
    done = omega arith;
    fuel = length s;
    end = end_of (entries (length s) s at);
    rest = λ some. items_entries s at (omega (arith, h.whole));
    bytes = left_start before 0 places (omega (arith, h.whole));
  }

  module _ (before after : List ℕ) (next n : ℕ) (p : Put s at count before after next n) where
    module _ (h : n < count) where
      inside : n < length places
      inside = omega (arith, p.stands.whole)

      split : drop n places ≡ get_or places n 0 ∷ drop (suc n) places
      split = drop-cons places n 0 inside

      there : Next s next (get_or places n 0) (drop (suc n) places) p.end
      there = entries_next s next (get_or places n 0) (drop (suc n) places) p.end p.fuel (p.rest h ∙ ap (λ x. items x p.end) split)

      left : length (drop (suc n) places) ≡ count - (n + 1)
      left = simp length-drop (omega (arith, p.stands.whole))

      low : get_or places n 0 < 256
      low = under_elim 256 places p.stands.bytes n inside

      -- the number that is read there, and what is then left
      record Read (e : ℕ) : Type 0 where
        pub index : ℕ
        pub is : number_at s next e ≡ Some (get_or places n 0, index)
        pub more_fuel : ℕ
        pub onward : n + 1 < count → entries more_fuel s index ≡ items (drop (suc n) places) p.end

      read : (e : ℕ) → e ≡ cond (ltb (n + 1) count) 44 10 → Read e
      read e k = by there
        where
          by : Next s next (get_or places n 0) (drop (suc n) places) p.end → Read e
          by (final z q) =
              let m : n + 1 ≡ count = omega (arith, left, ap length z) in
              record { index = p.end; is = rw (k, le-ltb (n + 1) count (omega arith)) q; more_fuel = 0; onward = λ l. absurd (omega arith) }
          by (more f j some q r) = record { index = j; is = rw (k, lt-ltb (n + 1) count (omega (arith, left))) q; more_fuel = f; onward = λ l. r }

      module _ (e : ℕ) (k : e ≡ cond (ltb (n + 1) count) 44 10) (m : Number) (g : m ≡ cap (number_at s next e)) where
        held : m ≡ Some (min (get_or places n 0) 4000000000, (read e k).index)
        unfolding cap
        held = g ∙ ap cap (read e k).is

        pub put_there : m ≡ None → ⊥
        put_there z = let q : ◌≡◌ {A = Number} None (Some (min (get_or places n 0) 4000000000, (read e k).index)) = sym z ∙ held in
            let w : ◌≡◌ {A = ℕ} 0 1 = cc in omega arith

        pub put_next : (x i : ℕ) → m ≡ Some (x, i) → Put s at count before (set after n (x % 256)) i (n + 1)
        put_next x i q =
            let same : ◌≡◌ {A = Number} (Some (x, i)) (Some (min (get_or places n 0) 4000000000, (read e k).index)) = sym q ∙ held in
            let v : x ≡ min (get_or places n 0) 4000000000 = ap value_of same in
            let j : i ≡ (read e k).index = ap index_of same in
            let byte : x % 256 ≡ get_or places n 0 = omega (arith, low) in
            record {
              stands = p.stands;
              done = omega arith;
              fuel = (read e k).more_fuel;
              end = p.end;
              rest = λ l. rw (j, add-one n) ((read e k).onward l);
              bytes = rw (byte, add-one n) (rw (add-one n) at (left_store (get_or places n 0) (drop (suc n) places) (rw split at p.bytes)));
            }

    pub put_end : count ≤ n → after ≡ places ++ drop count before
    put_end h =
        let same : n ≡ count = omega (arith, p.done) in
        let past : length places ≤ n = omega (arith, p.stands.whole) in
        let none : drop n places ≡ [] = drop_of_length-le places past in
        let w = wrote_front (left_end (rw none at p.bytes)) in
        rw same at w.1
