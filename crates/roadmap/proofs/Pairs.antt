-- A closure that is called with each pair of places that is joined.
--   road_more  == with one road more
--   parked_more, parked_passed == with one place more that no road leaves; that a road leaves
use mathlib.Core.Path.{◌≡◌}
use mathlib.Core.Bool.{true, false}
use Prim.Native.Nat.{ℕ, ◌+◌}
use native.Mathlib.Numerals.{add-one}
use Rattle.std.proofs.Common.{append-nil}
use Rattle.std.specs.List.{FoldsTo}
use Rattle.std.proofs.lemmas.Fn.{FoldsTo-push}
use Rattle.plan.specs.Tour.{leaves}
use Rattle.plan.specs.WellFormed.{road}
use Rattle.plan.specs.declared.Plan.{Plan}
use Rattle.roadmap.specs.Joined.{road_pairs, joined_pairs}

module _ {F : Type 0} (R : F → ℕ × ℕ → F → Type 0) (f g : F) (p : Plan) where
  pub road_more : (i : ℕ) → FoldsTo R f (road_pairs p i) g → (a b : ℕ) (h : F) → a ≡ (road p i).from → b ≡ (road p i).to → R g (a, b) h → FoldsTo R f (road_pairs p (i + 1)) h
  unfolding road_pairs
  road_more i before a b h from to step = rw (add-one, ← from, ← to) (FoldsTo-push R f (road_pairs p i) g (a, b) h before step)

  module _ (n : ℕ) (before : FoldsTo R f (joined_pairs p n) g) where
    pub parked_more : (h : F) → leaves p n ≡ false → R g (n, n) h → FoldsTo R f (joined_pairs p (n + 1)) h
    unfolding joined_pairs
    parked_more h e step = rw (add-one, e) (FoldsTo-push R f (joined_pairs p n) g (n, n) h before step)

    pub parked_passed : leaves p n ≡ true → FoldsTo R f (joined_pairs p (n + 1)) g
    unfolding joined_pairs
    parked_passed e = rw (add-one, e, append-nil) before
