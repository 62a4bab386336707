-- The drive along a list of places, as the checker follows it. The table of roads has a row for each place and one more, row 128, for the time
-- before the tour: its one road leads to the start.
--   before                == that row
--   allowed p u v         == v is a place of p, and from u, or from before the tour, it is driven to next
--   on_table roads places u v == the same, as the table tells it
--   prior_of from s i      == the place before place i of a list that is entered from place `from`
--   Stopped ok from s i   == the drive along s, entered from place `from`, goes as far as index i: no step before it is refused by ok, and if
--                            there is a place at i, the step to it is
--   Driving ok from s u i == the drive has gone as far as index i and is now at place u
use Rattle.std.specs.Prelude.{◌≡◌, Bool, true, false, cond, not, ◌&&◌, List, ℕ, ◌+◌, ◌-◌, ◌*◌, ◌≤◌, ◌<◌, length, get_or, eqb, ltb}
use Rattle.plan.specs.Tour.{joins}
use Rattle.plan.specs.declared.Plan.{Plan}

abbrev pub before : ℕ
before = 128

unfoldable pub allowed : Plan → ℕ → ℕ → Bool
allowed p u v = ltb v p.places && cond (eqb u before) (eqb v p.start) (joins p u v)

abbrev pub on_table : List ℕ → ℕ → ℕ → ℕ → Bool
on_table roads places u v = ltb v places && eqb (get_or roads (u * 128 + v) 0) 1

abbrev pub prior_of : ℕ → List ℕ → ℕ → ℕ
prior_of from s i = cond (eqb i 0) from (get_or s (i - 1) 0)

pub record Stopped (ok : ℕ → ℕ → Bool) (from : ℕ) (s : List ℕ) (i : ℕ) : Type 0 where
  pub inside : i ≤ length s
  pub driven : (k : ℕ) → k < i → ok (prior_of from s k) (get_or s k 0) ≡ true
  pub stopped : i < length s → ok (prior_of from s i) (get_or s i 0) ≡ false

pub record Driving (ok : ℕ → ℕ → Bool) (from : ℕ) (s : List ℕ) (u i : ℕ) : Type 0 where
  pub inside : i ≤ length s
  pub last : u ≡ prior_of from s i
  pub driven : (k : ℕ) → k < i → ok (prior_of from s k) (get_or s k 0) ≡ true

-- the table tells where a road leads, and where the tour may begin
pub record Charted (p : Plan) (roads : List ℕ) : Type 0 where
  pub long : length roads ≡ 16512
  pub allows : (u v : ℕ) → on_table roads p.places u v ≡ allowed p u v
  pub linked : (u v : ℕ) → u < 128 → v < 128 → eqb (get_or roads (u * 128 + v) 0) 1 ≡ joins p u v

abbrev pub unlinked : List ℕ → List ℕ → Bool
unlinked roads cycle = not (eqb (get_or roads (get_or cycle (length cycle - 1) 0 * 128 + get_or cycle 0 0) 0) 1)
