-- The verdict as the code comes to it.
--   too-large                  == N is above 2,048
--   short_runin, short_loop    == it is not, and a buffer is too short
--   roomy_planned              == both have room: what planning comes to is what is told
--   refused_told, read_told    == a plan file that is turned away, and one that is read
--   told_fits                  == the lengths that are told lie within the buffers
use mathlib.Core.Path.{◌≡◌, refl, sym, ap, ◌∙◌, subst}
use mathlib.Core.Bool.{Bool, true, false, ◌&&◌}
use mathlib.Core.List.{List, ◌++◌}
use Prim.Native.Nat.{ℕ, ◌+◌, ◌*◌, ◌≤◌, ◌<◌}
use native.Mathlib.Omega.{arith}
use borrow.Author.Tests.{lt-leb, le-leb}
use lib.ListN.{length, drop, length-append}
use lib.Dec.{leb}
use Rattle.std.specs.Prelude.{Some, None, Result, Ok, Err}
use Rattle.plan.specs.Size.{size, Sized, loop_room, roomy}
use Rattle.plan.specs.declared.Plan.{Plan}
use Rattle.plan.specs.declared.Refusal.{Refusal}
use Rattle.plan.specs.declared.Refusal.TheVariants as refusal
use Rattle.plan.proofs.Products.{sized_large, sized_fits, sized_nodes}
use Rattle.reader.specs.Reading.{read_plan}
use Rattle.answer.specs.declared.Answer.{Answer}
use Rattle.promise.specs.Promise.{Verdict, verdict, refuse, go, refusal_answer, Planned, none, tour, Told, ToldOf, AnswerTo}

and_no : (b : Bool) → (b && false) ≡ false
and_no true = refl
and_no false = refl

module _ (p : Plan) (runin loop : List ℕ) (a : Answer) where
  pub too-large : Sized p None → a ≡ refusal_answer refusal.ProductTooLarge → ToldOf (Ok p) runin loop runin loop a
  unfolding verdict Told
  too-large s t = rw (sized_large p s) (record { answer = t; same_runin = refl; same_loop = refl })

  module _ (n : ℕ) (s : Sized p (Some n)) where
    short : roomy p (length runin) (length loop) ≡ false → a ≡ refusal_answer refusal.BufferTooShort → ToldOf (Ok p) runin loop runin loop a
    unfolding verdict Told
    short e t = rw (sized_fits p n s, e) (record { answer = t; same_runin = refl; same_loop = refl })

    pub short_runin : length runin < n → a ≡ refusal_answer refusal.BufferTooShort → ToldOf (Ok p) runin loop runin loop a
    short_runin k t = short (rw (lt-leb (size p) (length runin) (omega (arith, sized_nodes p n s)))) t

    pub short_loop : length loop < (p.rules + 2) * n → a ≡ refusal_answer refusal.BufferTooShort → ToldOf (Ok p) runin loop runin loop a
    short_loop k t =
        let l : length loop < loop_room p = subst (λ x. length loop < (p.rules + 2) * x) (sized_nodes p n s) k in
        short (rw (lt-leb (loop_room p) (length loop) l) (and_no (leb (size p) (length runin)))) t

    pub roomy_planned : (runin' loop' : List ℕ) → n ≤ length runin → (p.rules + 2) * n ≤ length loop → Planned p runin loop runin' loop' a
        → ToldOf (Ok p) runin loop runin' loop' a
    unfolding verdict Told
    roomy_planned runin' loop' r k P =
        let l : loop_room p ≤ length loop = subst (λ x. (p.rules + 2) * x ≤ length loop) (sized_nodes p n s) k in
        let m : size p ≤ length runin = omega (arith, sized_nodes p n s) in
        rw (sized_fits p n s, le-leb (size p) (length runin) m, le-leb (loop_room p) (length loop) l) P

-- what the reader answered is what the plan file reads as
module _ (plan : List ℕ) (r : Result Plan Refusal) (same : r ≡ read_plan plan) (runin loop : List ℕ) where
  pub read_told : (runin' loop' : List ℕ) (a : Answer) (p : Plan) → r ≡ Ok p → ToldOf (Ok p) runin loop runin' loop' a
      → AnswerTo plan runin loop runin' loop' a
  read_told runin' loop' a p e t = subst (λ x. ToldOf x runin loop runin' loop' a) (sym e ∙ same) t

  pub refused_told : (a : Answer) (x : Refusal) → r ≡ Err x → a ≡ refusal_answer x → AnswerTo plan runin loop runin loop a
  unfolding verdict Told
  refused_told a x e t =
      subst (λ y. ToldOf y runin loop runin loop a) (sym e ∙ same) (record { answer = t; same_runin = refl; same_loop = refl })

-- the lengths of an answer lie within the buffers
pub told_fits : (v : Verdict) (runin loop runin' loop' : List ℕ) (a : Answer) → Told v runin loop runin' loop' a
    → (a.stem ≤ length runin') × (a.cycle ≤ length loop')
unfolding Told
told_fits (refuse x) runin loop runin' loop' a t = (rw t.answer (omega arith), rw t.answer (omega arith))
told_fits (go p) runin loop runin' loop' a (none n e r l) = (rw e (omega arith), rw e (omega arith))
told_fits (go p) runin loop runin' loop' a (tour t) =
    (rw t.answer (within t.stem runin runin' t.stem_text), rw t.answer (within t.cycle loop loop' t.cycle_text))
  where
    within : (xs before after : List ℕ) → after ≡ xs ++ drop (length xs) before → length xs ≤ length after
    within xs before after e = omega (arith, ap length e ∙ length-append xs (drop (length xs) before))
