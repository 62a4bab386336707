-- A plan in which every place has a road out is answered as before parking counted (02, note 7).
--   TourBefore, PlannedBefore, ToldBefore == what was told of a plan then: `TourOf`, `Planned` and `ToldOf`, with tours by roads alone
--   told_as_before                        == of such a plan this is what is told
use mathlib.Core.Path.{◌≡◌, refl}
use mathlib.Core.Bool.{Bool, true, false, cond}
use mathlib.Core.List.{List, ◌++◌}
use mathlib.Core.Logic.{◌↔◌}
use Prim.Native.Nat.{ℕ, ◌≤◌}
use lib.Count.{ones}
use lib.ListN.{length, drop}
use Rattle.std.specs.Prelude.{Result, Ok, Err}
use Rattle.plan.specs.Size.{size, loop_room, too_large, roomy}
use Rattle.plan.specs.Tour.{Hard, Soft}
use Rattle.plan.specs.Cost.{KeptIs, Counted}
use Rattle.plan.specs.declared.Plan.{Plan}
use Rattle.plan.specs.declared.Refusal.{Refusal}
use Rattle.plan.specs.declared.Refusal.TheVariants as refusal
use Rattle.plan.proofs.Parking.{Left, RoadTour, BestBefore, road_tours, tours_as_before, best_as_before}
use Rattle.answer.specs.declared.Answer.{Answer}
use Rattle.promise.specs.Promise.{Verdict, refuse, go, verdict, refusal_answer, tour_answer, TourOf, Planned, none, tour, Refused, Told, ToldOf}

pub record TourBefore (p : Plan) (runin loop runin' loop' : List ℕ) (a : Answer) : Type 0 where
  pub stem : List ℕ
  pub cycle : List ℕ
  pub kept : ℕ
  pub lasso : RoadTour p stem cycle
  pub hard : Hard p stem cycle
  pub exact : KeptIs p stem cycle kept
  pub counted : Counted (Soft p stem cycle) p.rules (ones kept)
  pub best : BestBefore p kept
  pub stem_short : length stem ≤ size p
  pub cycle_short : length cycle ≤ loop_room p
  pub answer : a ≡ tour_answer p kept (length stem) (length cycle)
  pub stem_text : runin' ≡ stem ++ drop (length stem) runin
  pub cycle_text : loop' ≡ cycle ++ drop (length cycle) loop

pub data PlannedBefore (p : Plan) (runin loop runin' loop' : List ℕ) (a : Answer) : Type 0 where
  without : ((stem cycle : List ℕ) → RoadTour p stem cycle → Hard p stem cycle → ⊥) → a ≡ refusal_answer refusal.NoTour → runin' ≡ runin → loop' ≡ loop
      → PlannedBefore p runin loop runin' loop' a
  found : TourBefore p runin loop runin' loop' a → PlannedBefore p runin loop runin' loop' a

unfoldable pub ByVerdict : Verdict → List ℕ → List ℕ → List ℕ → List ℕ → Answer → Type 0
ByVerdict (refuse x) runin loop runin' loop' a = Refused x runin loop runin' loop' a
ByVerdict (go p) runin loop runin' loop' a = PlannedBefore p runin loop runin' loop' a

abbrev pub ToldBefore : Result Plan Refusal → List ℕ → List ℕ → List ℕ → List ℕ → Answer → Type 0
ToldBefore x runin loop runin' loop' a = ByVerdict (verdict x (length runin) (length loop)) runin loop runin' loop' a

module _ (p : Plan) (left : Left p) (runin loop runin' loop' : List ℕ) (a : Answer) where
  to_before : TourOf p runin loop runin' loop' a → TourBefore p runin loop runin' loop' a
  to_before t = record {
    stem = t.stem;
    cycle = t.cycle;
    kept = t.kept;
    lasso = (tours_as_before p left t.stem t.cycle).0 t.lasso;
    hard = t.hard;
    exact = t.exact;
    counted = t.counted;
    best = (best_as_before p left t.kept).0 t.best;
    stem_short = t.stem_short;
    cycle_short = t.cycle_short;
    answer = t.answer;
    stem_text = t.stem_text;
    cycle_text = t.cycle_text;
  }

  from_before : TourBefore p runin loop runin' loop' a → TourOf p runin loop runin' loop' a
  from_before t = record {
    stem = t.stem;
    cycle = t.cycle;
    kept = t.kept;
    lasso = road_tours p t.stem t.cycle t.lasso;
    hard = t.hard;
    exact = t.exact;
    counted = t.counted;
    best = (best_as_before p left t.kept).1 t.best;
    stem_short = t.stem_short;
    cycle_short = t.cycle_short;
    answer = t.answer;
    stem_text = t.stem_text;
    cycle_text = t.cycle_text;
  }

  planned_to : Planned p runin loop runin' loop' a → PlannedBefore p runin loop runin' loop' a
  planned_to (none n e r l) = without (λ stem cycle t. n stem cycle (road_tours p stem cycle t)) e r l
  planned_to (tour t) = found (to_before t)

  planned_from : PlannedBefore p runin loop runin' loop' a → Planned p runin loop runin' loop' a
  planned_from (without n e r l) = none (λ stem cycle t. n stem cycle ((tours_as_before p left stem cycle).0 t)) e r l
  planned_from (found t) = tour (from_before t)

  by_room : (large room : Bool)
      → Told (cond large (refuse refusal.ProductTooLarge) (cond room (go p) (refuse refusal.BufferTooShort))) runin loop runin' loop' a
      ↔ ByVerdict (cond large (refuse refusal.ProductTooLarge) (cond room (go p) (refuse refusal.BufferTooShort))) runin loop runin' loop' a
  unfolding Told ByVerdict
  by_room true room = (λ t. t, λ t. t)
  by_room false true = (planned_to, planned_from)
  by_room false false = (λ t. t, λ t. t)

pub told_as_before : (x : Result Plan Refusal) → ((p : Plan) → x ≡ Ok p → Left p) → (runin loop runin' loop' : List ℕ) (a : Answer)
    → ToldOf x runin loop runin' loop' a ↔ ToldBefore x runin loop runin' loop' a
unfolding verdict Told ByVerdict
told_as_before (Err x) left runin loop runin' loop' a = (λ t. t, λ t. t)
told_as_before (Ok p) left runin loop runin' loop' a = by_room p (left p refl) runin loop runin' loop' a (too_large p) (roomy p (length runin) (length loop))
