-- What the functions that scan a drive find, in their own words.
--   table_past, table_shut, table_leads == the table refuses a place that is none of the plan, and a step without a road; it allows one with
--   whole_below           == the places of a list that is driven whole are below 128
--   prior_small           == so the place from which the next one is entered is at most 128, the row before the tour included
--   charted_stopped       == the drive by the table is the drive by the plan
--   charted_closing       == the closing road, as the table tells it
--   stops_stem, stops_empty, stops_loop, stops_open, stops_nowhere == the first break as the answer; loop_below: a loop that is driven whole has places below 128
use mathlib.Core.Path.{◌≡◌, sym, ap, subst, ◌∙◌}
use mathlib.Core.Bool.{Bool, true, false, not}
use mathlib.Core.List.{List}
use Prim.Native.Nat.{ℕ, zero, suc, ◌+◌, ◌-◌, ◌*◌, ◌≤◌, ◌<◌}
use native.Mathlib.Decide.{dec_lt}
use native.Mathlib.Omega.{arith}
use borrow.Author.Tests.{lt-ltb, le-ltb, ltb-true, eq-eqb, ne_eqb, not-true, not-false}
use lib.ListN.{length, get_or, get_or-eq_default}
use Rattle.std.specs.Prelude.{Some, None}
use Rattle.automata.specs.WellFormed.{Below}
use Rattle.base.specs.Least.{at}
use Rattle.plan.specs.declared.Plan.{Plan}
use Rattle.plan.specs.WellFormed.{WellFormed}
use Rattle.base.proofs.Tests.{and_intro, and_left}
use Rattle.checker.specs.Break.{first_break}
use Rattle.checker.specs.Drive.{before, allowed, on_table, prior_of, Stopped, Charted, unlinked}
use Rattle.checker.specs.Outcome.{held, break_of}
use Rattle.checker.specs.Passing.{closing}
use Rattle.checker.proofs.Drives.{stopped_same, break_in_stem, break_no_loop, break_in_loop, break_closing, break_none}

module _ (roads : List ℕ) (places u v : ℕ) where
  pub table_past : places ≤ v → on_table roads places u v ≡ false
  table_past h = rw (le-ltb v places h)

  pub table_shut : v < places → (get_or roads (u * 128 + v) 0 ≡ 1 → ⊥) → on_table roads places u v ≡ false
  table_shut h shut = rw (lt-ltb v places h) (ne_eqb (get_or roads (u * 128 + v) 0) 1 shut)

  pub table_leads : v < places → get_or roads (u * 128 + v) 0 ≡ 1 → on_table roads places u v ≡ true
  table_leads h leads = and_intro (lt-ltb v places h) (eq-eqb (get_or roads (u * 128 + v) 0) 1 leads)

module _ (roads : List ℕ) (places : ℕ) (few : places ≤ 128) (from : ℕ) (s : List ℕ) (i : ℕ)
    (d : Stopped (on_table roads places) from s i) (whole : length s ≤ i) where
  pub whole_below : Below 128 s
  whole_below k = by (dec_lt k (length s))
    where
      by : Dec (k < length s) → get_or s k 0 < 128
      by (yes h) = omega (arith, ltb-true (get_or s k 0) places (and_left _ _ (d.driven k (omega arith))))
      by (no h) = omega (arith, get_or-eq_default {A = ℕ} s 0 {n = k} (omega arith))

  pub prior_small : from ≤ 128 → (k : ℕ) → prior_of from s k ≤ 128
  prior_small h zero = h
  prior_small h (suc k) = rw (ne_eqb (suc k) 0 (λ e. omega arith)) (omega (arith, whole_below (suc k - 1)))

module _ {p : Plan} {roads : List ℕ} (chart : Charted p roads) where
  pub charted_stopped : {from : ℕ} {s : List ℕ} {i : ℕ} → Stopped (on_table roads p.places) from s i → Stopped (allowed p) from s i
  charted_stopped d = stopped_same chart.allows d

  pub charted_closing : (cycle : List ℕ) → Below 128 cycle → unlinked roads cycle ≡ not (closing p cycle)
  charted_closing cycle h = ap not (chart.linked (get_or cycle (length cycle - 1) 0) (get_or cycle 0 0) (h _) (h 0))

-- The first break as the answer: the run-in is driven by the table as far as i, then the loop as far as j.
module _ {p : Plan} {roads : List ℕ} (ok : WellFormed p) (chart : Charted p roads) (stem cycle : List ℕ) {i : ℕ}
    (d : Stopped (on_table roads p.places) before stem i) where
  answered : {n : ℕ} → first_break p stem cycle ≡ at n → (k : ℕ) → k ≡ held n → Some k ≡ break_of (first_break p stem cycle)
  answered e k h = ap Some h ∙ ap break_of (sym e)

  pub stops_stem : i < length stem → (k : ℕ) → k ≡ held i → Some k ≡ break_of (first_break p stem cycle)
  stops_stem less = answered (break_in_stem p ok stem cycle i (charted_stopped chart d) less)

  module _ (all : length stem ≤ i) where
    pub stops_empty : length cycle ≡ 0 → (k : ℕ) → k ≡ held (length stem) → Some k ≡ break_of (first_break p stem cycle)
    stops_empty none = answered (break_no_loop p ok stem cycle i (charted_stopped chart d) all none)

    module _ {from : ℕ} (entered : from ≡ prior_of before stem (length stem)) {j : ℕ}
        (e : Stopped (on_table roads p.places) from cycle j) where
      turn_stopped : Stopped (allowed p) (prior_of before stem (length stem)) cycle j
      turn_stopped = subst (λ u. Stopped (allowed p) u cycle j) entered (charted_stopped chart e)

      pub stops_loop : j < length cycle → (k : ℕ) → k ≡ held (length stem + j) → Some k ≡ break_of (first_break p stem cycle)
      stops_loop less = answered (break_in_loop p ok stem cycle i (charted_stopped chart d) all j turn_stopped less)

      module _ (filled : 0 < length cycle) (turned : length cycle ≤ j) where
        pub loop_below : Below 128 cycle
        loop_below = whole_below roads p.places ok.few from cycle j e turned

        module _ {shut : Bool} (told : shut ≡ unlinked roads cycle) where
          pub stops_open : shut ≡ true → (k : ℕ) → k ≡ held (length stem + length cycle) → Some k ≡ break_of (first_break p stem cycle)
          stops_open is =
              answered (break_closing p ok stem cycle i (charted_stopped chart d) all j turn_stopped turned filled
              (not-true _ (sym (told ∙ charted_closing chart cycle loop_below) ∙ is)))

          pub stops_nowhere : shut ≡ false → None ≡ break_of (first_break p stem cycle)
          stops_nowhere is =
              ap break_of (sym (break_none p ok stem cycle i (charted_stopped chart d) all j turn_stopped turned filled
              (not-false _ (sym (told ∙ charted_closing chart cycle loop_below) ∙ is))))
