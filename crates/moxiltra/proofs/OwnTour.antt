-- The planner's own tour, checked (02, note 4): it is accepted, at the planner's cost and with the planner's kept byte.
--   own_tour    == of every answer that is told of a plan file
--   own_checked == of the bytes that `plan_tour` leaves, put to `check_tour`
use mathlib.Core.Path.{◌≡◌, refl, sym, ap, ◌∙◌, subst, subst₂}
use mathlib.Core.Bool.{Bool, true, false}
use mathlib.Core.List.{List, ◌++◌}
use Prim.Native.Nat.{ℕ, ◌≤◌}
use native.Mathlib.Omega.{arith}
use lib.ListN.{length, take, drop}
use lib.Seq.{take-append_seam}
use Rattle.std.specs.Prelude.{Result, Ok, Err}
use Rattle.plan.specs.Returned.{number_of}
use Rattle.plan.specs.Size.{too_large, roomy}
use Rattle.plan.specs.Tour.{IsLasso, Hard}
use Rattle.plan.specs.Cost.{KeptIs}
use Rattle.plan.specs.WellFormed.{WellFormed}
use Rattle.plan.specs.declared.Refusal.{Refusal}
use Rattle.plan.specs.declared.Refusal.TheVariants as refusal
use Rattle.plan.proofs.Numbers.{number_some}
use Rattle.plan.specs.declared.Plan.{Plan}
use Rattle.reader.specs.Reading.{read_plan}
use Rattle.reader.proofs.WellRead.{read_well}
use Rattle.answer.specs.declared.Answer.{Answer}
use Rattle.answer.specs.Block.{answer_of}
use Rattle.promise.specs.Promise.{AnswerTo, ToldOf, Told, verdict, refusal_answer, TourOf, Planned, none, tour}
use Rattle.checker.specs.Check.{Check, CheckOf, RuledOf}
use Rattle.checker.specs.Block as check_block
use Rattle.checker.proofs.Answering.{own_worth}
use Rattle.moxiltra.specs.Entries.{Buffers, Promise, Checking}
use Rattle.moxiltra.proofs.Blocks.{answered, block_exact, check_is}

-- what an answer says that a tour is worth
abbrev pub worth_in : Answer → Check
worth_in a = Ok (record { accepts = true; kept = a.kept; cost = a.cost })

module _ (runin loop runin' loop' : List ℕ) (a : Answer) (zero_number : a.number ≡ 0) (c : Check) where
  abbrev stem : List ℕ
  stem = take a.stem runin'

  abbrev cycle : List ℕ
  cycle = take a.cycle loop'

  refused : (x : Refusal) → a ≡ refusal_answer x → c ≡ worth_in a
  refused x e = absurd (let z : ⊥ = omega (arith, number_some x, ap (λ (a : Answer). a.number) e, zero_number) in z)

  module _ (p : Plan) (ok : WellFormed p) (small : too_large p ≡ false) (checked : RuledOf (Ok p) stem cycle c) where
    toured : TourOf p runin loop runin' loop' a → c ≡ worth_in a
    toured t =
        own_worth p stem cycle t.kept c ok small
        (subst₂ (IsLasso p) (sym same_stem) (sym same_cycle) t.lasso)
        (subst₂ (Hard p) (sym same_stem) (sym same_cycle) t.hard)
        (subst₂ (λ s l. KeptIs p s l t.kept) (sym same_stem) (sym same_cycle) t.exact) checked
        ∙ ap worth_in (sym t.answer)
      where
        same_stem : stem ≡ t.stem
        same_stem = ap (λ (a : Answer). take a.stem runin') t.answer ∙ ap (take (length t.stem)) t.stem_text ∙ take-append_seam t.stem (drop (length t.stem) runin)

        same_cycle : cycle ≡ t.cycle
        same_cycle = ap (λ (a : Answer). take a.cycle loop') t.answer ∙ ap (take (length t.cycle)) t.cycle_text ∙ take-append_seam t.cycle (drop (length t.cycle) loop)

    planned : Planned p runin loop runin' loop' a → c ≡ worth_in a
    planned (none n e f g) = refused refusal.NoTour e
    planned (tour t) = toured t

  read : (p : Plan) → WellFormed p → ToldOf (Ok p) runin loop runin' loop' a → RuledOf (Ok p) stem cycle c → c ≡ worth_in a
  unfolding verdict Told
  read p ok t checked = by (too_large p) refl (roomy p (length runin) (length loop)) refl
    where
      by : (large : Bool) → too_large p ≡ large → (room : Bool) → roomy p (length runin) (length loop) ≡ room → c ≡ worth_in a
      by true e room f = refused refusal.ProductTooLarge (rw e at t).answer
      by false e false f = refused refusal.BufferTooShort (rw (e, f) at t).answer
      by false e true f = planned p ok e checked (rw (e, f) at t)

pub own_tour : (file runin loop runin' loop' : List ℕ) (a : Answer) → AnswerTo file runin loop runin' loop' a → a.number ≡ 0
    → (c : Check) → CheckOf file (take a.stem runin') (take a.cycle loop') c → c ≡ worth_in a
unfolding verdict Told
own_tour file runin loop runin' loop' a t z c k = by (read_plan file) refl
  where
    by : (r : Result Plan Refusal) → read_plan file ≡ r → c ≡ worth_in a
    by (Ok p) e =
        read runin loop runin' loop' a z c p (read_well file p e) (subst (λ r. ToldOf r runin loop runin' loop' a) e t)
        (subst (λ r. RuledOf r (take a.stem runin') (take a.cycle loop') c) e k)
    by (Err x) e = refused runin loop runin' loop' a z c x (subst (λ r. ToldOf r runin loop runin' loop' a) e t).answer

-- the places that the block of `plan_tour` tells, put to `check_tour` with a block that is long enough
pub own_checked : (plan : List ℕ) (b b' : Buffers) → 16 ≤ length b.block → Promise plan b b' 0
    → (block block' : List ℕ) (r : ℕ) → 24 ≤ length block
    → Checking plan (take (answer_of (take 16 b'.block)).stem b'.runin) (take (answer_of (take 16 b'.block)).cycle b'.loop) block block' r
    → (r ≡ 0) × (block' ≡ check_block.block_of (worth_in (answer_of (take 16 b'.block))) ++ drop 24 block)
own_checked plan b b' h P block block' r l k =
    let a = answered plan b b' 0 h P in
    let e = block_exact plan b b' 0 h P in
    let x = check_is plan _ _ block block' r l k in
    let same : x.check ≡ worth_in (answer_of (take 16 b'.block)) =
    own_tour plan b.runin b.loop b'.runin b'.loop (answer_of (take 16 b'.block))
    (subst (λ (y : Answer). AnswerTo plan b.runin b.loop b'.runin b'.loop y) (sym e) a.told)
    (ap (λ (y : Answer). y.number) e ∙ sym a.returned) x.check x.told in
    (x.returned ∙ ap number_of same, x.filled ∙ ap (λ c. check_block.block_of c ++ drop 24 block) same)
