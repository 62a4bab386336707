-- The laws of writing from the front: a text that is put over other bytes part by part. `left_next` serves every writer.
--   over_none   == no text changes nothing
--   over_byte   == one byte put over is a store
--   over_part   == so is a part that is overwritten, with as many bytes
--   over_append == two texts one after the other are put over as one
--   length_over == the length stays
--   left_start  == all is left where nothing is written
--   left_room   == there is room for the next part
--   left_next   == with the next part written, the rest is left
--   left_last   == with all that is left written, the text is written
--   left_end    == with nothing left, the text is written
--   left_store  == left_next for one byte that is stored
--   wrote_front == what is put over the first bytes, in plain words
--   wrote_both  == a text of two parts
--   second_room, third_room, wrote_three
--               == a text of three parts: room for the second, room for the third, all written
use mathlib.Core.Path.{◌≡◌, refl, sym, ◌∙◌}
use mathlib.Core.List.{List, [], ◌∷◌, ◌++◌, append_assoc}
use Prim.Native.Nat.{ℕ, ◌+◌, ◌-◌, ◌≤◌, ◌<◌}
use native.Mathlib.Nat.{add-zero, add_assoc}
use native.Mathlib.Numerals.{add-one}
use native.Mathlib.Omega.{arith}
use borrow.Rule.Slice.PartMut.{put_mid}
use lib.ListN.{length, take, drop, set, length-append, length-drop, take-append-drop}
use lib.Seq.{length-take-le, set_split, take-append_seam, drop-append-add, drop-drop}
use Rattle.text.specs.Over.{over, Wrote, Left}

pub over_none : (b : List ℕ) (at : ℕ) → over b at [] ≡ b
unfolding over
over_none b at = rw (add-zero at) (take-append-drop at b)

pub over_byte : (b : List ℕ) (at x : ℕ) → at < length b → over b at (x ∷ []) ≡ set b at x
unfolding over
over_byte b at x h = rw (add-one at) (sym (set_split b at x h))

-- so is a part that is overwritten, with as many bytes
pub over_part : (b : List ℕ) (at : ℕ) (text new : List ℕ) → new ≡ text → put_mid at (at + length text - at) b new ≡ over b at text
unfolding over
over_part b at text new e = let k : at + length text - at ≡ length text = omega arith in rw (k, e, drop-drop (length text) at b)

-- behind what stands before it
over_behind : (p q w : List ℕ) (n : ℕ) → length p ≡ n → over (p ++ q) n w ≡ p ++ (w ++ drop (length w) q)
unfolding over
over_behind p q w n e = rw (← e, take-append_seam p q, drop-append-add p q (length w))

module _ (b : List ℕ) (at : ℕ) (v : List ℕ) (room : at + length v ≤ length b) where
  front : length (take at b ++ v) ≡ at + length v
  front = rw (length-append, length-take-le at b (omega arith))

  pub over_append : (w : List ℕ) → over (over b at v) (at + length v) w ≡ over b at (v ++ w)
  unfolding over
  over_append w =
      rw (← append_assoc (take at b) v (drop (at + length v) b))
      (over_behind (take at b ++ v) (drop (at + length v) b) w (at + length v) front
      ∙ rw (drop-drop (length w) (at + length v) b, length-append v w, ← add_assoc at (length v) (length w))
      (simp append_assoc))

  pub length_over : length (over b at v) ≡ length b
  unfolding over
  length_over = simp (length-append, length-drop, length-take-le at b (omega arith)) (omega arith)

pub left_start : (b : List ℕ) (at : ℕ) (text : List ℕ) → at + length text ≤ length b → Left b at text b at text
left_start b at text h = record { room = h; size = refl; place = refl; bytes = refl }

module _ {b : List ℕ} {at : ℕ} {text now : List ℕ} {next : ℕ} where
  pub left_room : (v w : List ℕ) → Left b at text now next (v ++ w) → next + length v ≤ length now
  left_room v w l =
      let e : length (v ++ w) ≡ length v + length w = length-append v w in
      omega (arith, l.place, l.room, l.size)

  pub left_next : (v w : List ℕ) {after : List ℕ} {end : ℕ} → Left b at text now next (v ++ w)
      → Wrote now next v after end → Left b at text after end w
  left_next v w l d =
      let room : next + length v ≤ length now = left_room v w l in
      record {
        room = l.room;
        size = rw d.bytes (length_over now next v room ∙ l.size);
        place = omega (arith, length-append v w, l.place, d.place);
        bytes = rw (d.bytes, d.place) (over_append now next v room w ∙ l.bytes);
      }

  pub left_last : {w after : List ℕ} {end : ℕ} → Left b at text now next w
      → Wrote now next w after end → Wrote b at text after end
  left_last l d = record { place = omega (arith, l.place, d.place); bytes = d.bytes ∙ l.bytes }

  pub left_end : Left b at text now next [] → Wrote b at text now next
  left_end l = record { place = omega (arith, l.place); bytes = sym (over_none now next) ∙ l.bytes }

  pub left_store : (x : ℕ) (w : List ℕ) → Left b at text now next (x ∷ w)
      → Left b at text (set now next x) (next + 1) w
  left_store x w l =
      let room : next < length now = omega (arith, left_room (x ∷ []) w l) in
      left_next (x ∷ []) w l (record { place = refl; bytes = sym (over_byte now next x room) })

pub wrote_front : {b text after : List ℕ} {end : ℕ} → Wrote b 0 text after end
    → (end ≡ length text) × (after ≡ text ++ drop end b)
unfolding over
wrote_front d = (omega (arith, d.place), rw d.place d.bytes)

pub wrote_both : {b : List ℕ} {at : ℕ} {v w now : List ℕ} {next : ℕ} {after : List ℕ} {end : ℕ}
    → at + length (v ++ w) ≤ length b
    → Wrote b at v now next → Wrote now next w after end → Wrote b at (v ++ w) after end
wrote_both {b} {at} {v} {w} h d e = left_last (left_next v w (left_start b at (v ++ w) h) d) e

module _ (p q r : List ℕ) {b : List ℕ} {at : ℕ} {b₁ : List ℕ} {n₁ : ℕ}
    (room : at + length (p ++ (q ++ r)) ≤ length b) (d₁ : Wrote b at p b₁ n₁) where
  after_first : Left b at (p ++ (q ++ r)) b₁ n₁ (q ++ r)
  after_first = left_next p (q ++ r) (left_start b at (p ++ (q ++ r)) room) d₁

  pub second_room : n₁ + length q ≤ length b₁
  second_room = left_room q r after_first

  module _ {b₂ : List ℕ} {n₂ : ℕ} (d₂ : Wrote b₁ n₁ q b₂ n₂) where
    after_second : Left b at (p ++ (q ++ r)) b₂ n₂ r
    after_second = left_next q r after_first d₂

    pub third_room : n₂ + length r ≤ length b₂
    third_room = omega (arith, after_second.place, after_second.size, room)

    pub wrote_three : {b₃ : List ℕ} {n₃ : ℕ} → Wrote b₂ n₂ r b₃ n₃ → Wrote b at (p ++ (q ++ r)) b₃ n₃
    wrote_three d₃ = left_last after_second d₃
