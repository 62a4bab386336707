-- From what a plan file reads as to what a call of `plan_tour` on it says. The contract of the entry leaves a tour open, but not
-- its cost, kept byte and count: a tour with a best set, whichever it is, shows what they are.
--   answers_tour   == a best set that some tour keeps is the answer
--   answers_none   == where there is no tour, refusal 6 is
--   repeated       == where the start has no road out, a tour that is answered is the start again and again
--   turned_away    == a plan file that is turned away is answered by its refusal
--   answers_short  == where a buffer is too short, refusal 5 is
use mathlib.Core.Path.{◌≡◌, refl, sym, ap, ◌∙◌, subst}
use mathlib.Core.Bool.{Bool, true, false, cond}
use mathlib.Core.List.{List}
use Prim.Native.Nat.{ℕ, ◌≤◌, ◌<◌}
use native.Mathlib.Omega.{arith}
use borrow.Author.Tests.{leb-true, le-leb, le-ltb, not-true}
use lib.Count.{ones}
use lib.ListN.{length, get_or-append}
use lib.Dec.{leb}
use Rattle.base.proofs.Tests.{and_intro, and_left, and_right, false_not_true}
use Rattle.std.specs.Prelude.{Ok, Err}
use Rattle.plan.specs.WellFormed.{WellFormed}
use Rattle.plan.specs.Size.{size, loop_room, too_large, roomy}
use Rattle.plan.specs.Tour.{parks, IsLasso, Hard}
use Rattle.plan.specs.Cost.{KeptIs, cost, Best}
use Rattle.plan.specs.declared.Plan.{Plan}
use Rattle.plan.specs.Refusal as refused
use Rattle.plan.specs.declared.Refusal.{Refusal}
use Rattle.plan.specs.declared.Refusal.TheVariants as cause
use Rattle.plan.proofs.Tours.{parked_loop, parked_stem}
use Rattle.reader.specs.Reading.{read_plan}
use Rattle.reader.proofs.WellRead.{read_well}
use Rattle.answer.specs.declared.Answer.{Answer}
use Rattle.promise.specs.Promise.{verdict, refuse, go, NoTour, TourOf, Planned, none, tour as found, Refused, Told, AnswerTo}
use Rattle.promise.proofs.Unique.{best_unique}
use Rattle.moxiltra.specs.Entries.{Buffers}
use Rattle.moxiltra.proofs.Blocks.{answered, block_exact}
use Rattle.figures.specs.Claim.{Room, at_least, exactly, Fits, Numbers, tour, refusal, Tells, Answers, Turned, Repeated}
use Rattle.figures.specs.Figure.{enough, lacking}

-- ---- what planning came to

module _ (p : Plan) {runin loop runin' loop' : List ℕ} {a : Answer} where
  planned_tour : WellFormed p → (k : ℕ) → Best p k → (stem cycle : List ℕ) → IsLasso p stem cycle → Hard p stem cycle → KeptIs p stem cycle k
      → Planned p runin loop runin' loop' a → Tells (tour (cost p k) k (ones k)) a
  planned_tour ok k best stem cycle lasso hard kept (none n e r l) = absurd (n stem cycle lasso hard)
  planned_tour ok k best stem cycle lasso hard kept (found t) =
      let e = best_unique p ok t.kept k t.best best t.stem t.cycle stem cycle t.lasso t.hard t.exact lasso hard kept in
      let s = t.answer in
      record {
        number = ap (λ x. x.number) s;
        line = ap (λ x. x.line) s;
        cost = ap (λ x. x.cost) s ∙ ap (cost p) e;
        kept = ap (λ x. x.kept) s ∙ e;
        count = ap (λ x. x.count) s ∙ ap ones e;
      }

  planned_none : NoTour p → Planned p runin loop runin' loop' a → Tells (refusal 6) a
  planned_none without (none n e r l) = rw e (record { number = refl; line = refl; cost = refl; kept = refl; count = refl })
  planned_none without (found t) = absurd (without t.stem t.cycle t.lasso t.hard)

-- a call that returns 0 has told a tour
told_tour : (p : Plan) (large room : Bool) {runin loop runin' loop' : List ℕ} {a : Answer}
    → Told (cond large (refuse cause.ProductTooLarge) (cond room (go p) (refuse cause.BufferTooShort))) runin loop runin' loop' a → a.number ≡ 0
    → TourOf p runin loop runin' loop' a
unfolding Told
told_tour p true room t e = absurd (omega (arith, ap (λ x. x.number) t.answer))
told_tour p false true (none n s r l) e = absurd (omega (arith, ap (λ x. x.number) s))
told_tour p false true (found t) e = t
told_tour p false false t e = absurd (omega (arith, ap (λ x. x.number) t.answer))

refused_short : {runin loop runin' loop' : List ℕ} {a : Answer} → Refused cause.BufferTooShort runin loop runin' loop' a → Tells (refusal 5) a
refused_short t = rw t.answer (record { number = refl; line = refl; cost = refl; kept = refl; count = refl })

-- ---- buffers

enough_roomy : (room : Room) (p : Plan) (b : Buffers) → enough room p ≡ true → Fits room b → roomy p (length b.runin) (length b.loop) ≡ true
unfolding Fits
enough_roomy (at_least r l) p b h f =
    and_intro (le-leb (size p) (length b.runin) (omega (arith, leb-true (size p) r (and_left (leb (size p) r) _ h))))
    (le-leb (loop_room p) (length b.loop) (omega (arith, leb-true (loop_room p) l (and_right (leb (size p) r) _ h))))
enough_roomy (exactly r l) p b h f = rw (f.0, f.1) h

lacking_roomy : (room : Room) (p : Plan) (b : Buffers) → lacking room p ≡ true → Fits room b → roomy p (length b.runin) (length b.loop) ≡ false
unfolding Fits
lacking_roomy (at_least r l) p b h f = absurd (false_not_true h refl)
lacking_roomy (exactly r l) p b h f = rw (f.0, f.1) (not-true (roomy p r l) h)

-- ---- the entry

-- an answer that tells the numbers wherever it is told is what the call returns and what its block says
heard : (text : List ℕ) (room : Room) (x : Numbers)
    → ((b b' : Buffers) (a : Answer) → Fits room b → AnswerTo text b.runin b.loop b'.runin b'.loop a → Tells x a)
    → Answers text room x
heard text room x tells b b' r h f P =
    let A = answered text b b' r h P in
    let t = tells b b' A.answer f A.told in
    (A.returned ∙ t.number, subst (Tells x) (sym (block_exact text b b' r h P)) t)

pub turned_away : (text : List ℕ) (x : Refusal) → read_plan text ≡ Err x → Turned text (refused.number x) (refused.line_of x)
unfolding verdict Told
turned_away text x o b b' r h P =
    let A = answered text b b' r h P in
    let t : Refused x b.runin b.loop b'.runin b'.loop A.answer = rw o at A.told in
    let e = block_exact text b b' r h P in
    (A.returned ∙ ap (λ a. a.number) t.answer, ap (λ a. a.number) e ∙ ap (λ a. a.number) t.answer, ap (λ a. a.line) e ∙ ap (λ a. a.line) t.answer)

pub repeated : (text : List ℕ) (plan : Plan) → read_plan text ≡ Ok plan → parks plan plan.start ≡ true → Repeated text plan.start
unfolding verdict
repeated text plan o parked b b' h P =
    let A = answered text b b' 0 h P in
    let t = told_tour plan (too_large plan) (roomy plan (length b.runin) (length b.loop)) (rw o at A.told) (sym A.returned) in
    let e = block_exact text b b' 0 h P ∙ t.answer in
    let stay = parked_loop plan plan.start parked t.stem t.cycle t.lasso 0 (omega (arith, t.lasso.filled)) t.lasso.begins in
    let before = parked_stem plan plan.start parked t.stem t.cycle t.lasso t.lasso.begins in (
      rw (ap (λ a. a.cycle) e) t.lasso.filled,
      λ i l. let k : i < length t.stem = rw (ap (λ a. a.stem) e) at l in rw t.stem_text (get_or-append t.stem _ 0 i k ∙ before i k),
      λ i l. let k : i < length t.cycle = rw (ap (λ a. a.cycle) e) at l in rw t.cycle_text (get_or-append t.cycle _ 0 i k ∙ stay i k),
    )

module _ (text : List ℕ) (room : Room) (plan : Plan) (o : read_plan text ≡ Ok plan) (small : size plan ≤ 2048) where
  pub answers_tour : enough room plan ≡ true → (k : ℕ) → Best plan k → (stem cycle : List ℕ) → IsLasso plan stem cycle → Hard plan stem cycle → KeptIs plan stem cycle k
      → Answers text room (tour (cost plan k) k (ones k))
  unfolding verdict Told
  answers_tour e k best stem cycle lasso hard kept =
      heard text room (tour (cost plan k) k (ones k)) (λ b b' a f t.
      planned_tour plan (read_well text plan o) k best stem cycle lasso hard kept (rw (o, le-ltb 2048 (size plan) small, enough_roomy room plan b e f) at t))

  pub answers_none : enough room plan ≡ true → NoTour plan → Answers text room (refusal 6)
  unfolding verdict Told
  answers_none e without = heard text room (refusal 6) (λ b b' a f t. planned_none plan without (rw (o, le-ltb 2048 (size plan) small, enough_roomy room plan b e f) at t))

  pub answers_short : lacking room plan ≡ true → Answers text room (refusal 5)
  unfolding verdict Told
  answers_short e = heard text room (refusal 5) (λ b b' a f t. refused_short (rw (o, le-ltb 2048 (size plan) small, lacking_roomy room plan b e f) at t))
