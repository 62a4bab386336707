-- Endless drives of a plan, repeating or not.
--   Drive p f     == f t is the place at step t of an endless drive, each place joined to the next, from where a tour may begin
--   read p f t    == the label that is read at step t
--   HardRun p f   == the hard rule accepts the drive: an endless run that meets an accepting state again and again
--   SoftRun p f i == soft rule i + 1 does
use Rattle.std.specs.Prelude.{◌≡◌, true, ℕ, suc}
use Rattle.automata.specs.Acceptance.{HardRuns, SoftRuns}
use Rattle.plan.specs.WellFormed.{soft}
use Rattle.plan.specs.Tour.{label, joins, Begins}
use Rattle.plan.specs.declared.Plan.{Plan}

pub record Drive (p : Plan) (f : ℕ → ℕ) : Type 0 where
  pub begins : Begins p (f 0)
  pub roads : (t : ℕ) → joins p (f t) (f (suc t)) ≡ true

abbrev pub read : Plan → (ℕ → ℕ) → ℕ → ℕ
read p f t = label p (f t)

abbrev pub HardRun : Plan → (ℕ → ℕ) → Type 0
HardRun p f = HardRuns p.hard (read p f)

abbrev pub SoftRun : Plan → (ℕ → ℕ) → ℕ → Type 0
SoftRun p f i = SoftRuns (soft p i) (read p f)
