-- What plantour prints is read as the tour that it tells, and so are its last two lines by themselves.
--   line_ended, not_begun == within a line the search goes on to the next one; so it does where a line does not begin with the key
--   line_passed           == the search passes over a key line that does not begin with the key
--   Read s r l stem cycle == the text s is read as the tour of these places, with buffers of r and l bytes
--   lines_read            == so it is where the search finds the lines of run-in and loop
--   runin_here            == a line `runin=` is found where it begins
--   pair_read             == of the two lines by themselves, whatever follows
--   answer_read           == of the text of an answer that there is
use mathlib.Core.Path.{◌≡◌, refl, ap, ◌∙◌}
use mathlib.Core.Bool.{Bool, true, false}
use mathlib.Core.List.{List, [], ◌∷◌, ◌++◌, append_assoc}
use Prim.Native.Nat.{ℕ, ◌+◌, ◌≤◌, ◌<◌}
use native.Mathlib.Omega.{arith}
use borrow.Author.Tests.{le-leb, lt-ltb}
use lib.Dec.{eqb}
use lib.ListN.{length, drop, length-append, length-drop}
use Rattle.text.specs.Decimal.{decimal}
use Rattle.text.specs.KeyLine.{joined, key_line}
use Rattle.text.specs.Line.{pair}
use Rattle.text.specs.List.{under}
use Rattle.text.specs.Scan.{starts_with, newline, newlines}
use Rattle.text.proofs.ReadLines.{line_rest, list_back, places_back}
use Rattle.text.proofs.StoodLines.{newlines_append, newlines_decimal}
use Rattle.text.proofs.Lists.{under_more}
use Rattle.answer.specs.Sound.{Sound}
use Rattle.answer.specs.Text.{answer_key, line_key, cost_key, kept_key, runin_key, loop_key, text_of}
use Rattle.answer.specs.declared.Answer.{Answer}
use Rattle.answer.proofs.Texts.{lines_of, text_lines}
use Rattle.drawn.specs.Drawing.{line_with, runin_at, draft_at, fitting, read_tour, runin_of, loop_of}
use Rattle.std.specs.Prelude.{Option, Some, Ok}

line_ended : (key w d : List ℕ) (i : ℕ) → newlines w ≡ 0 → line_with key false i (w ++ (10 ∷ d)) ≡ line_with key true (i + length w + 1) d
unfolding line_with newlines
line_ended key [] d i h = ap (λ (n : ℕ). line_with key true n d) (omega arith)
line_ended key (b ∷ w) d i h = by (eqb b 10) refl (line_ended key w d (i + 1))
  where
    by : (t : Bool) → eqb b 10 ≡ t → (newlines w ≡ 0 → line_with key false (i + 1) (w ++ (10 ∷ d)) ≡ line_with key true (i + 1 + length w + 1) d)
        → line_with key (eqb b 10) (i + 1) (w ++ (10 ∷ d)) ≡ line_with key true (i + length (b ∷ w) + 1) d
    by true e rest = let one : newline b ≡ 1 = rw e in absurd (omega (arith, one))
    by false e rest = rw e (rest (omega arith) ∙ ap (λ (n : ℕ). line_with key true n d) (omega arith))

not_begun : (key d : List ℕ) (i : ℕ) → starts_with key d ≡ false → line_with key true i d ≡ line_with key false i d
unfolding line_with
not_begun key [] i e = refl
not_begun key (b ∷ d) i e = rw e

line_passed : (key k value d : List ℕ) (i : ℕ) → starts_with key (key_line k value ++ d) ≡ false → newlines k ≡ 0 → newlines value ≡ 0
    → line_with key true i (key_line k value ++ d) ≡ line_with key true (i + length (key_line k value)) d
unfolding key_line
line_passed key k value d i e hk hv =
    let same : key_line k value ++ d ≡ (k ++ value) ++ (10 ∷ d) = simp (append_assoc) in
    let none : newlines (k ++ value) ≡ 0 = omega (arith, newlines_append k value) in
    not_begun key (key_line k value ++ d) i e
    ∙ ap (line_with key false i) same
    ∙ line_ended key (k ++ value) d i none
    ∙ ap (λ (n : ℕ). line_with key true n d) (omega (arith, length-append k value, length-append k (value ++ (10 ∷ [])), length-append value (10 ∷ [])))

pub record Read (s : List ℕ) (r l : ℕ) (stem cycle : List ℕ) : Type 0 where
  pub tour : read_tour s r l ≡ Ok (record { stem = length stem; cycle = length cycle })
  pub runin : runin_of s ≡ stem
  pub loop : loop_of s ≡ cycle

module _ (s : List ℕ) (r l : ℕ) (stem cycle rest : List ℕ) (stem_room : length stem ≤ r) (cycle_room : length cycle ≤ l)
    (stem_bytes : under 256 stem ≡ true) (cycle_bytes : under 256 cycle ≡ true)
    (at : ℕ) (begun : runin_at s ≡ Some at) (there : drop at s ≡ key_line runin_key (joined stem) ++ (key_line loop_key (joined cycle) ++ rest)) where
  loop_there : drop (at + length (key_line runin_key (joined stem))) s ≡ key_line loop_key (joined cycle) ++ rest
  loop_there = line_rest s at runin_key _ _ there

  pub lines_read : Read s r l stem cycle
  unfolding read_tour draft_at fitting
  lines_read =
      let one = list_back s at runin_key stem _ there 256 stem_bytes (pair 0 0) in
      let two = list_back s (at + length (key_line runin_key (joined stem))) loop_key cycle rest loop_there 256 cycle_bytes (pair 0 0) in
      record {
        tour = rw (begun, one, two, le-leb (length stem) r stem_room, le-leb (length cycle) l cycle_room);
        runin = rw (begun, one) (places_back s at runin_key stem _ there);
        loop = rw (begun, one, two) (places_back s (at + length (key_line runin_key (joined stem))) loop_key cycle rest loop_there);
      }

runin_here : (value d : List ℕ) (i : ℕ) → line_with runin_key true i (key_line runin_key value ++ d) ≡ Some i
unfolding line_with key_line starts_with
runin_here value d i = refl

pub pair_read : (stem cycle rest : List ℕ) (r l : ℕ) → length stem ≤ r → length cycle ≤ l → under 256 stem ≡ true → under 256 cycle ≡ true
    → Read (key_line runin_key (joined stem) ++ (key_line loop_key (joined cycle) ++ rest)) r l stem cycle
pair_read stem cycle rest r l p q g h = lines_read _ r l stem cycle rest p q g h 0 (runin_here (joined stem) _ 0) refl

module _ (a : Answer) (stem cycle : List ℕ) where
  pub answer_read : Sound a stem cycle → (r l : ℕ) → length stem ≤ r → length cycle ≤ l → Read (text_of a stem cycle) r l stem cycle
  unfolding starts_with newlines key_line
  answer_read h r l p q =
      let stem_bytes = under_more 128 256 (omega arith) stem h.stem_places in
      let cycle_bytes = under_more 128 256 (omega arith) cycle h.cycle_places in
      let line_at_lem = 0 + length (key_line answer_key (decimal a.number)) in
      let cost_at = line_at_lem + length (key_line line_key (decimal a.line)) in
      let kept_at = cost_at + length (key_line cost_key (decimal a.cost)) in
      let stem_at = kept_at + length (key_line kept_key (decimal a.kept)) in
      let line_there = line_rest (lines_of a stem cycle) 0 answer_key (decimal a.number) _ refl in
      let cost_there = line_rest (lines_of a stem cycle) line_at_lem line_key (decimal a.line) _ line_there in
      let kept_there = line_rest (lines_of a stem cycle) cost_at cost_key (decimal a.cost) _ cost_there in
      let stem_there = line_rest (lines_of a stem cycle) kept_at kept_key (decimal a.kept) _ kept_there in
      let begun : runin_at (lines_of a stem cycle) ≡ Some stem_at =
      line_passed runin_key answer_key (decimal a.number) _ 0 refl refl (newlines_decimal _)
      ∙ line_passed runin_key line_key (decimal a.line) _ line_at_lem refl refl (newlines_decimal _)
      ∙ line_passed runin_key cost_key (decimal a.cost) _ cost_at refl refl (newlines_decimal _)
      ∙ line_passed runin_key kept_key (decimal a.kept) _ kept_at refl refl (newlines_decimal _)
      ∙ runin_here (joined stem) _ stem_at in
      rw (text_lines a stem cycle) (lines_read (lines_of a stem cycle) r l stem cycle [] p q stem_bytes cycle_bytes stem_at begun stem_there)
