-- How large the numbers of a told answer are.
--   told_narrow == each has room in its bytes of the answer block
--   never_short == with buffers of 2,048 and 20,480 bytes refusal 5 is never given
use mathlib.Core.Path.{◌≡◌, refl, ap}
use mathlib.Core.Bool.{Bool, true, false, cond}
use mathlib.Core.List.{List}
use mathlib.Core.Logic.{◌≢◌}
use Prim.Native.Nat.{ℕ, ◌≤◌}
use native.Mathlib.Omega.{arith}
use lib.ListN.{length}
use borrow.Author.Tests.{ltb-false}
use lib.Pow.{pow_mono}
use Rattle.std.specs.Prelude.{Result, Ok, Err}
use Rattle.plan.specs.WellFormed.{WellFormed}
use Rattle.plan.specs.Size.{size, too_large, roomy}
use Rattle.plan.specs.Cost.{Counted, none as no_more, one, skip}
use Rattle.plan.specs.Refusal as refused
use Rattle.plan.specs.Returned.{number_of, line_of}
use Rattle.plan.specs.declared.Plan.{Plan}
use Rattle.plan.specs.declared.Refusal.{Refusal}
use Rattle.plan.specs.declared.Refusal.TheVariants as refusal
use Rattle.plan.proofs.Rooms.{loop_small, roomy_enough}
use Rattle.reader.specs.Reading.{read_plan}
use Rattle.reader.proofs.Answers.{Early, read_early}
use Rattle.reader.proofs.WellRead.{read_well}
use Rattle.answer.specs.Block.{Narrow}
use Rattle.answer.specs.declared.Answer.{Answer}
use Rattle.promise.specs.Promise.{verdict, refuse, go, refusal_answer, TourOf, Planned, none, tour, Told, ToldOf, AnswerTo}
use Rattle.plan.proofs.Charging.{cost_small}

counted_le : {P : ℕ → Type 0} {n c : ℕ} → Counted P n c → c ≤ n
counted_le no_more = omega arith
counted_le (one e k) = omega (arith, counted_le k)
counted_le (skip e k) = omega (arith, counted_le k)

refusal_narrow : (x : Refusal) (a : Answer) → a ≡ refusal_answer x → refused.number x ≤ 10 → refused.line_of x ≤ 60001 → Narrow a
refusal_narrow x a e h l = rw e (record { number = omega arith; line = omega arith; cost = omega arith; kept = omega arith; count = omega arith; stem = omega arith; cycle = omega arith })

module _ (p : Plan) {runin loop runin' loop' : List ℕ} {a : Answer} where
  tour_narrow : WellFormed p → size p ≤ 2048 → TourOf p runin loop runin' loop' a → Narrow a
  tour_narrow ok small t = rw t.answer (record {
    number = omega arith;
    line = omega arith;
    cost = omega (arith, cost_small p ok t.kept);
    kept = omega (arith, t.exact.small, pow_mono ok.rules);
    count = omega (arith, counted_le t.counted, ok.rules);
    stem = omega (arith, t.stem_short);
    cycle = omega (arith, t.cycle_short, loop_small p ok small);
  })

  planned_narrow : WellFormed p → size p ≤ 2048 → Planned p runin loop runin' loop' a → Narrow a
  planned_narrow ok small (none n e r l) = refusal_narrow refusal.NoTour a e (omega arith) (omega arith)
  planned_narrow ok small (tour t) = tour_narrow ok small t

  planned_number : Planned p runin loop runin' loop' a → a.number ≢ 5
  planned_number (none n e r l) f = omega (arith, ap (λ x. x.number) e)
  planned_number (tour t) f = omega (arith, ap (λ x. x.number) t.answer)

-- a plan file that was turned away, and one that was read, in the verdict's terms
module _ (runin loop runin' loop' : List ℕ) (a : Answer) where
  verdict_narrow : (r : Result Plan Refusal) → Early (number_of r) → line_of r ≤ 60001 → ((p : Plan) → r ≡ Ok p → WellFormed p)
      → ToldOf r runin loop runin' loop' a → Narrow a
  unfolding verdict Told
  verdict_narrow (Err x) among line ok t = refusal_narrow x a t.answer among.low line
  verdict_narrow (Ok p) among line ok t = by (too_large p) (roomy p (length runin) (length loop)) refl t
    where
      by : (large room : Bool) → too_large p ≡ large
          → Told (cond large (refuse refusal.ProductTooLarge) (cond room (go p) (refuse refusal.BufferTooShort))) runin loop runin' loop' a → Narrow a
      by true room e t = refusal_narrow refusal.ProductTooLarge a t.answer (omega arith) (omega arith)
      by false true e t = planned_narrow p (ok p refl) (ltb-false 2048 (size p) e) t
      by false false e t = refusal_narrow refusal.BufferTooShort a t.answer (omega arith) (omega arith)

  verdict_number : (r : Result Plan Refusal) → Early (number_of r)
      → ((p : Plan) → r ≡ Ok p → size p ≤ 2048 → roomy p (length runin) (length loop) ≡ true) → ToldOf r runin loop runin' loop' a → a.number ≢ 5
  unfolding verdict Told
  verdict_number (Err x) among room t f = among.none 5 (omega arith) (omega arith) (omega (arith, ap (λ y. y.number) t.answer))
  verdict_number (Ok p) among room t f = by (too_large p) refl t
    where
      by : (large : Bool) → too_large p ≡ large → Told (cond large (refuse refusal.ProductTooLarge)
          (cond (roomy p (length runin) (length loop)) (go p) (refuse refusal.BufferTooShort))) runin loop runin' loop' a → ⊥
      by true e t = omega (arith, ap (λ y. y.number) t.answer)
      by false e t = planned_number p (rw (room p refl (ltb-false 2048 (size p) e)) at t) f

module _ (plan runin loop runin' loop' : List ℕ) (a : Answer) (t : AnswerTo plan runin loop runin' loop' a) where
  pub told_narrow : Narrow a
  told_narrow =
      verdict_narrow runin loop runin' loop' a (read_plan plan) (read_early plan).0 (read_early plan).1 (read_well plan) t

  pub never_short : length runin ≡ 2048 → length loop ≡ 20480 → a.number ≢ 5
  never_short r l =
      verdict_number runin loop runin' loop' a (read_plan plan) (read_early plan).0
      (λ p e small. rw (r, l) (roomy_enough p (read_well plan p e) small)) t
