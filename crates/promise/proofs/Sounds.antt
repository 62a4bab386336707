-- Every told answer is one of those that there are.
--   told_sound == its numbers are in their ranges and agree, and the run-in and the loop that stand in the buffers have its lengths
use mathlib.Core.Path.{◌≡◌, refl, ap, ◌∙◌}
use mathlib.Core.Bool.{Bool, true, false, cond}
use mathlib.Core.List.{List}
use Prim.Native.Nat.{ℕ, ◌≤◌}
use native.Mathlib.Omega.{arith}
use lib.ListN.{length, take}
use lib.Pow.{pow_mono}
use lib.Seq.{take-append_seam}
use borrow.Author.Tests.{lt-ltb}
use Rattle.std.specs.Prelude.{Result, Ok, Err}
use Rattle.text.specs.List.{under}
use Rattle.text.specs.Fault as fault
use Rattle.text.specs.declared.fault.Fault.{Fault}
use Rattle.text.specs.declared.fault.Fault.TheVariants.{Form, Range, Doubled}
use Rattle.text.proofs.Lists.{under_more}
use Rattle.plan.specs.Answers.{kind_of, consistent}
use Rattle.plan.specs.WellFormed.{WellFormed}
use Rattle.plan.specs.Size.{too_large, roomy}
use Rattle.plan.specs.Refusal as refused
use Rattle.plan.specs.declared.Plan.{Plan}
use Rattle.plan.specs.declared.Refusal.{Refusal}
use Rattle.plan.specs.declared.Refusal.TheVariants as refusal
use Rattle.plan.proofs.Tours.{stem_under, cycle_under}
use Rattle.reader.specs.Reading.{read_plan}
use Rattle.reader.proofs.Answers.{Turned, long, lined, read_turned}
use Rattle.reader.proofs.WellRead.{read_well}
use Rattle.answer.specs.Sound.{Sound}
use Rattle.answer.specs.declared.Answer.{Answer}
use Rattle.promise.specs.Promise.{verdict, refuse, go, refusal_answer, TourOf, Planned, none, tour, Told, ToldOf, AnswerTo}
use Rattle.plan.proofs.Charging.{cost_small}

-- the run-in and the loop that an answer says are those at the front of the buffers
abbrev SoundIn : List ℕ → List ℕ → Answer → Type 0
SoundIn runin loop a = Sound a (take a.stem runin) (take a.cycle loop)

-- the kind of refusal x may stand beside its line and nothing else
abbrev Agrees : Refusal → Type 0
Agrees x = consistent (kind_of (refused.number x)) (refused.line_of x) 0 0 0 0 ≡ true

fault_agrees : (f : Fault) → 1 ≤ fault.line_of f → Agrees (refusal.Line f)
unfolding kind_of
fault_agrees (Form n) h = rw (lt-ltb 0 n h)
fault_agrees (Range n) h = rw (lt-ltb 0 n h)
fault_agrees (Doubled n) h = rw (lt-ltb 0 n h)

module _ (runin loop runin' loop' : List ℕ) (a : Answer) where
  refusal_sound : (x : Refusal) → a ≡ refusal_answer x → refused.line_of x ≤ 60001 → Agrees x → SoundIn runin' loop' a
  unfolding under
  refusal_sound x e early agrees = rw e (record {
    stem_length = refl;
    cycle_length = refl;
    line = omega arith;
    cost = omega arith;
    kept = omega arith;
    stem_places = refl;
    cycle_places = refl;
    agrees = agrees;
  })

  turned_sound : (x : Refusal) → a ≡ refusal_answer x → Turned x → SoundIn runin' loop' a
  unfolding kind_of
  turned_sound x e (long k) = refusal_sound refusal.PlanTooLong (e ∙ ap refusal_answer k) (omega arith) refl
  turned_sound x e (lined f k low high) = refusal_sound (refusal.Line f) (e ∙ ap refusal_answer k) high (fault_agrees f low)

  module _ (p : Plan) (ok : WellFormed p) where
    tour_sound : TourOf p runin loop runin' loop' a → SoundIn runin' loop' a
    unfolding kind_of
    tour_sound t = rw (t.answer, t.stem_text, t.cycle_text, take-append_seam t.stem, take-append_seam t.cycle) (record {
      stem_length = refl;
      cycle_length = refl;
      line = omega arith;
      cost = omega (arith, cost_small p ok t.kept);
      kept = omega (arith, t.exact.small, pow_mono ok.rules);
      stem_places = under_more p.places 128 ok.few t.stem (stem_under p ok t.stem t.cycle t.lasso);
      cycle_places = under_more p.places 128 ok.few t.cycle (cycle_under p ok t.stem t.cycle t.lasso);
      agrees = lt-ltb 0 (length t.cycle) t.lasso.filled;
    })

    planned_sound : Planned p runin loop runin' loop' a → SoundIn runin' loop' a
    unfolding kind_of
    planned_sound (none n e r l) = refusal_sound refusal.NoTour e (omega arith) refl
    planned_sound (tour t) = tour_sound t

  verdict_sound : (r : Result Plan Refusal) → ((x : Refusal) → r ≡ Err x → Turned x) → ((p : Plan) → r ≡ Ok p → WellFormed p)
      → ToldOf r runin loop runin' loop' a → SoundIn runin' loop' a
  unfolding verdict Told kind_of
  verdict_sound (Err x) why ok t = turned_sound x t.answer (why x refl)
  verdict_sound (Ok p) why ok t = by (too_large p) (roomy p (length runin) (length loop)) t
    where
      by : (large room : Bool)
          → Told (cond large (refuse refusal.ProductTooLarge) (cond room (go p) (refuse refusal.BufferTooShort))) runin loop runin' loop' a
          → SoundIn runin' loop' a
      by true room t = refusal_sound refusal.ProductTooLarge t.answer (omega arith) refl
      by false true t = planned_sound p (ok p refl) t
      by false false t = refusal_sound refusal.BufferTooShort t.answer (omega arith) refl

pub told_sound : (plan runin loop runin' loop' : List ℕ) (a : Answer) → AnswerTo plan runin loop runin' loop' a
    → Sound a (take a.stem runin') (take a.cycle loop')
told_sound plan runin loop runin' loop' a =
    verdict_sound runin loop runin' loop' a (read_plan plan) (read_turned plan) (read_well plan)
