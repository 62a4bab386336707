-- What a plan file is answered with, case by case.
--   too_long                    == the answer to a text that is too long
--   faulty, faultless           == to one that is not, by the draft of its lines
--   short_enough                == and by what its lines are read as
--   Turned x, read_turned       == why a plan file is turned away: it is too long, or a line of it has a fault, no later one than may follow
--                                  60,000 line ends
--   Early n, read_early         == so the number is at most 3, or 10, and none of 4 to 9
--   refused_early               == and no line is above 60,001
use mathlib.Core.Path.{◌≡◌, refl, sym, ap, ◌∙◌}
use mathlib.Core.Bool.{Bool, true, false, cond}
use mathlib.Core.List.{List}
use mathlib.Core.Logic.{◌≢◌}
use Prim.Native.Nat.{ℕ, ◌≤◌, ◌<◌}
use native.Mathlib.Omega.{arith}
use lib.ListN.{length}
use lib.Dec.{ltb}
use borrow.Author.Tests.{lt-ltb, le-ltb, ltb-false}
use Rattle.std.specs.Prelude.{Result, Ok, Err}
use Rattle.std.specs.Result.{MatchResult, IsErrAnd}
use Rattle.std.proofs.lemmas.Result.{err_from_is_err_and}
use Rattle.text.specs.Fault as fault
use Rattle.text.specs.Line.{Line, made}
use Rattle.text.specs.declared.fault.Fault.{Fault}
use Rattle.text.specs.declared.line.Numbers.{Numbers}
use Rattle.text.specs.declared.line.Cursor.{Cursor}
use Rattle.text.specs.declared.fault.Fault.TheVariants.{Form, Range, Doubled}
use Rattle.plan.specs.Refusal as refusal
use Rattle.plan.specs.Returned.{number_of, line_of}
use Rattle.plan.specs.declared.Plan.{Plan}
use Rattle.plan.specs.declared.Refusal.{Refusal}
use Rattle.plan.specs.declared.Refusal.TheVariants as cause
use Rattle.reader.specs.Reading.{Draft, draft_of, lines_read, answer, read_plan}
use Rattle.reader.proofs.Sticky.{Placed, draft_placed}

module _ (s : List ℕ) where
  pub too_long : 60000 < length s → Err cause.PlanTooLong ≡ read_plan s
  unfolding read_plan
  too_long h = rw (lt-ltb 60000 (length s) h)

  -- lines that are read as r are answered with it
  abbrev refused : Result Plan Fault → Result Plan Refusal
  refused (Err f) = Err (cause.Line f)
  refused (Ok p) = Ok p

  answer_made : (l : Line) (p : Plan) → refused (made l p) ≡ answer l p
  unfolding answer
  answer_made (Err f) p = refl
  answer_made (Ok (xs, c)) p = refl

  -- the answer, by the draft of its lines
  module _ (h : length s ≤ 60000) (d : Draft) (e : d ≡ draft_of s) where
    pub faulty : (f : Fault) → d.line ≡ Err f → Err (cause.Line f) ≡ read_plan s
    unfolding read_plan
    faulty f k = rw (le-ltb 60000 (length s) h, ← e, k) (answer_made (Err f) d.plan)

    pub faultless : (xs : Numbers) (c : Cursor) → d.line ≡ Ok (xs, c) → Ok d.plan ≡ read_plan s
    unfolding read_plan
    faultless xs c k = rw (le-ltb 60000 (length s) h, ← e, k) (answer_made (Ok (xs, c)) d.plan)

  module _ (h : length s ≤ 60000) (r : Result Plan Fault) (e : r ≡ lines_read s) where
    answer_is : refused r ≡ read_plan s
    answer_is = rw e (by (draft_of s).line refl)
      where
        by : (l : Line) → (draft_of s).line ≡ l → refused (made l (draft_of s).plan) ≡ read_plan s
        by (Err f) k = faulty h (draft_of s) refl f k
        by (Ok (xs, c)) k = faultless h (draft_of s) refl xs c k

    -- a is r with its fault as a refusal
    pub short_enough : (a : Result Plan Refusal) → MatchResult r (λ p. a ≡ Ok p) (λ f. IsErrAnd a (λ x. x ≡ cause.Line f)) → a ≡ read_plan s
    short_enough a h = by r a h ∙ answer_is
      where
        by : (r : Result Plan Fault) (a : Result Plan Refusal) → MatchResult r (λ p. a ≡ Ok p) (λ f. IsErrAnd a (λ x. x ≡ cause.Line f)) → a ≡ refused r
        by (Ok p) a h = h
        by (Err f) a h = let x = err_from_is_err_and a h in rw (x.1, x.2)

pub data Turned (x : Refusal) : Type 0 where
  long : x ≡ cause.PlanTooLong → Turned x
  lined : (f : Fault) → x ≡ cause.Line f → 1 ≤ fault.line_of f → fault.line_of f ≤ 60001 → Turned x

pub record Early (n : ℕ) : Type 0 where
  pub low : n ≤ 10
  pub none : (k : ℕ) → 4 ≤ k → k ≤ 9 → n ≢ k

early : (n : ℕ) → n ≤ 3 → Early n
early n h = record { low = omega arith; none = λ k a b e. omega arith }

fault_early : (f : Fault) → Early (fault.number f)
fault_early (Form n) = early 2 (omega arith)
fault_early (Range n) = early 3 (omega arith)
fault_early (Doubled n) = record { low = omega arith; none = λ k a b e. omega arith }

turned_early : {x : Refusal} → Turned x → Early (refusal.number x) × (refusal.line_of x ≤ 60001)
turned_early (long e) = rw e (early 1 (omega arith), omega arith)
turned_early (lined f e low high) = rw e (fault_early f, high)

module _ (s : List ℕ) where
  -- the refusal of an answer, y of a plan
  abbrev cause_in : Refusal → Result Plan Refusal → Refusal
  cause_in y (Ok p) = y
  cause_in y (Err x) = x

  answered : (l : Line) (p : Plan) → length s ≤ 60000 → Placed s l → (x : Refusal) → answer l p ≡ Err x → Turned x
  unfolding answer
  answered (Err f) p h at x e = lined f (sym (ap (cause_in x) e)) at.0 (omega arith)
  answered (Ok (xs, c)) p h at x e = let z : ◌≡◌ {A = ℕ} 0 1 = cc in absurd (omega arith)

  pub read_turned : (x : Refusal) → read_plan s ≡ Err x → Turned x
  unfolding read_plan
  read_turned x = by (ltb 60000 (length s)) refl
    where
      by : (b : Bool) → ltb 60000 (length s) ≡ b → cond b (Err cause.PlanTooLong) (answer (draft_of s).line (draft_of s).plan) ≡ Err x → Turned x
      by true e k = long (sym (ap (cause_in x) k))
      by false e k = answered (draft_of s).line (draft_of s).plan (ltb-false 60000 (length s) e) (draft_placed s) x k

  pub read_early : Early (number_of (read_plan s)) × (line_of (read_plan s) ≤ 60001)
  read_early = by (read_plan s) refl
    where
      by : (r : Result Plan Refusal) → read_plan s ≡ r → Early (number_of r) × (line_of r ≤ 60001)
      by (Ok p) e = (early 0 (omega arith), omega arith)
      by (Err x) e = turned_early (read_turned x e)

  pub refused_early : (r : Result Plan Refusal) → r ≡ read_plan s → (x : Refusal) → r ≡ Err x → refusal.line_of x ≤ 60001
  refused_early r same x e = (turned_early (read_turned x (sym same ∙ e))).1
