-- A drive that does not break, place by place.
--   passes p s k    == place k of the list s is one of p, and the place before is joined to it; place 0 is the start
--   Passed p s n    == the first n places pass
--   closing p cycle == the loop's last place is joined to its first
--   closes p cycle  == the loop has a place, and that is so
--   Verdict p s c f == f is the first break of the drive s with a loop that closes (c is true) or does not
use Rattle.std.specs.Prelude.{◌≡◌, Bool, true, false, cond, ◌&&◌, List, ℕ, ◌-◌, ◌<◌, length, get_or, eqb, ltb}
use Rattle.base.specs.Least.{Found, nowhere, at}
use Rattle.plan.specs.Tour.{joins}
use Rattle.plan.specs.declared.Plan.{Plan}

unfoldable pub passes : Plan → List ℕ → ℕ → Bool
passes p s k = ltb (get_or s k 0) p.places && cond (eqb k 0) (eqb (get_or s k 0) p.start) (joins p (get_or s (k - 1) 0) (get_or s k 0))

pub record Passed (p : Plan) (s : List ℕ) (n : ℕ) : Type 0 where
  pub each : (k : ℕ) → k < n → passes p s k ≡ true

abbrev pub closing : Plan → List ℕ → Bool
closing p cycle = joins p (get_or cycle (length cycle - 1) 0) (get_or cycle 0 0)

unfoldable pub closes : Plan → List ℕ → Bool
closes p cycle = ltb 0 (length cycle) && closing p cycle

pub data Verdict (p : Plan) (s : List ℕ) (c : Bool) (f : Found) : Type 0 where
  stops : (i : ℕ) → i < length s → Passed p s i → passes p s i ≡ false → f ≡ at i → Verdict p s c f
  ends : Passed p s (length s) → c ≡ false → f ≡ at (length s) → Verdict p s c f
  whole : Passed p s (length s) → c ≡ true → f ≡ nowhere → Verdict p s c f
