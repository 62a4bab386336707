-- Arrays that a block fills line by line. A column is an array whose entries are at most m and which is 0 from index i on; filling
-- it in order keeps it one, so a block of n lines leaves 0 from n on (`filled`).
use mathlib.Core.Path.{◌≡◌, refl, subst, ◌∙◌}
use mathlib.Core.List.{List, [], ◌∷◌}
use Prim.Native.Nat.{ℕ, zero, suc, ◌+◌, ◌-◌, ◌≤◌, ◌<◌}
use native.Mathlib.Omega.{arith}
use lib.ListN.{set, get_or, replicate}
use lib.Seq.{get_or-set_other}
use Rattle.text.specs.Line.{Line}
use Rattle.automata.specs.Automaton.{no_move}
use Rattle.automata.specs.WellFormed.{Below, ZeroFrom}
use Rattle.plan.specs.WellFormed.{no_road}
use Rattle.reader.specs.Blocks.{LabelBlock, RoadBlock, MoveBlock, repeat, Filling, label_step, label_block, road_step, road_block, move_step, move_block}
use Rattle.text.proofs.Lines.{one_most}
use Rattle.reader.proofs.Lines.{road_low, move_low}

-- what each line keeps of the block and of the count of lines read, n lines keep
module _ {B : Type 0} (f : Filling B → Filling B) (Q : ℕ → B → Type 0) (next : (x : Filling B) → (f x).next ≡ x.next + 1)
    (step : (x : Filling B) → Q x.next x.block → Q (f x).next (f x).block) where
  filled_from : (n : ℕ) (x : Filling B) → Q x.next x.block → Q (x.next + n) (repeat n f x).block
  unfolding repeat
  filled_from zero x q = let e : x.next ≡ x.next + 0 = omega arith in subst (λ (i : ℕ). Q i x.block) e q
  filled_from (suc n) x q =
      let e : (f x).next + n ≡ x.next + suc n = omega (arith, next x) in
      subst (λ (i : ℕ). Q i (repeat n f (f x)).block) e (filled_from n (f x) (step x q))

  pub filled : (n : ℕ) (b : B) → Q 0 b → Q n (repeat n f (record { next = 0; block = b })).block
  filled n b q =
      let e : 0 + n ≡ n = omega arith in
      subst (λ (i : ℕ). Q i (repeat n f (record { next = 0; block = b })).block) e (filled_from n (record { next = 0; block = b }) q)

pub record Column (m i : ℕ) (xs : List ℕ) : Type 0 where
  pub low : (k : ℕ) → get_or xs k 0 ≤ m
  pub rest : ZeroFrom i xs

-- what holds of the default z holds of an array of it, and is kept by putting an entry of which it holds
module _ {A : Type 0} (P : A → Type 0) (z : A) where
  pub all_same : P z → (n k : ℕ) → P (get_or (replicate n z) k z)
  all_same p zero k = p
  all_same p (suc n) zero = p
  all_same p (suc n) (suc k) = all_same p n k

  pub all_set : (xs : List A) (i : ℕ) (x : A) → ((k : ℕ) → P (get_or xs k z)) → P x → (k : ℕ) → P (get_or (set xs i x) k z)
  all_set [] i x h p k = h k
  all_set (y ∷ ys) zero x h p zero = p
  all_set (y ∷ ys) zero x h p (suc k) = h (suc k)
  all_set (y ∷ ys) (suc i) x h p zero = h zero
  all_set (y ∷ ys) (suc i) x h p (suc k) = all_set ys i x (λ j. h (suc j)) p k

pub zeros_rest : (n : ℕ) → ZeroFrom 0 (replicate n 0)
zeros_rest n k h = all_same (λ x. x ≡ 0) 0 refl n k

column_zeros : (m n : ℕ) → Column m 0 (replicate n 0)
column_zeros m n = record { low = all_same (λ x. x ≤ m) 0 (omega arith) n; rest = zeros_rest n }

-- an entry more leaves z behind it
pub unset : {A : Type 0} (z : A) (xs : List A) (i : ℕ) (x : A) → ((k : ℕ) → i ≤ k → get_or xs k z ≡ z) → (k : ℕ) → i + 1 ≤ k → get_or (set xs i x) k z ≡ z
unset z xs i x h k o =
    let d : k ≡ i → ⊥ = λ e. omega arith in
    let l : i ≤ k = omega arith in
    get_or-set_other xs i k x z d ∙ h k l

pub set_rest : (xs : List ℕ) (i x : ℕ) → ZeroFrom i xs → ZeroFrom (i + 1) (set xs i x)
set_rest xs i x h = unset 0 xs i x h

column_set : {m i : ℕ} {xs : List ℕ} (x : ℕ) → Column m i xs → x ≤ m → Column m (i + 1) (set xs i x)
column_set {m} {i} {xs} x c l = record { low = all_set (λ y. y ≤ m) 0 xs i x c.low l; rest = set_rest xs i x c.rest }

pub column_below : (bound i : ℕ) (xs : List ℕ) → 1 ≤ bound → Column (bound - 1) i xs → Below bound xs
column_below bound i xs o c k = let z = c.low k in omega arith

-- what is at most one below a bound is below it
pub below : (bound : ℕ) → 1 ≤ bound → (f : ℕ → ℕ) → ((k : ℕ) → f k ≤ bound - 1) → (k : ℕ) → f k < bound
below bound o f h k = let z = h k in omega arith

module _ (s : List ℕ) where
  pub labels_filled : (l : Line) (n bound : ℕ) → Column (bound - 1) n (label_block s l n bound).labels
  unfolding label_block
  labels_filled l n bound =
      filled (label_step s bound) (λ (i : ℕ) (b : LabelBlock). Column (bound - 1) i b.labels) (λ x. refl)
      (λ x q. column_set _ q (one_most s x.block.line _ 0 bound))
      n _ (column_zeros (bound - 1) 128)

  pub record RoadColumn (bound i : ℕ) (b : RoadBlock) : Type 0 where
    pub from : (k : ℕ) → (get_or b.roads k no_road).from ≤ bound - 1
    pub to : (k : ℕ) → (get_or b.roads k no_road).to ≤ bound - 1
    pub rest : (k : ℕ) → i ≤ k → get_or b.roads k no_road ≡ no_road

  pub roads_filled : (l : Line) (n bound : ℕ) → RoadColumn bound n (road_block s l n bound)
  unfolding road_block
  roads_filled l n bound =
      filled (road_step s bound) (RoadColumn bound) (λ x. refl)
      (λ x q. let t = road_low s x.block.line _ bound _ _ refl in record {
        from = all_set (λ y. y.from ≤ bound - 1) no_road x.block.roads x.next _ q.from t.0;
        to = all_set (λ y. y.to ≤ bound - 1) no_road x.block.roads x.next _ q.to t.1;
        rest = unset no_road x.block.roads x.next _ q.rest;
      })
      n _
      (record {
        from = all_same (λ y. y.from ≤ bound - 1) no_road (omega arith) 1024;
        to = all_same (λ y. y.to ≤ bound - 1) no_road (omega arith) 1024;
        rest = λ k h. all_same (λ y. y ≡ no_road) no_road refl 1024 k;
      })

  pub record MoveColumn (q labels i : ℕ) (b : MoveBlock) : Type 0 where
    pub from : (k : ℕ) → (get_or b.moves k no_move).from ≤ q - 1
    pub need : (k : ℕ) → (get_or b.moves k no_move).need ≤ labels - 1
    pub bar : (k : ℕ) → (get_or b.moves k no_move).bar ≤ labels - 1
    pub any : (k : ℕ) → (get_or b.moves k no_move).any ≤ labels - 1
    pub to : (k : ℕ) → (get_or b.moves k no_move).to ≤ q - 1
    pub rest : (k : ℕ) → i ≤ k → get_or b.moves k no_move ≡ no_move

  pub moves_filled : (l : Line) (n q labels : ℕ) → MoveColumn q labels n (move_block s l n q labels)
  unfolding move_block
  moves_filled l n q labels =
      filled (move_step s q labels) (MoveColumn q labels) (λ x. refl)
      (λ x c. let t = move_low s x.block.line _ q labels _ refl in record {
        from = all_set (λ y. y.from ≤ q - 1) no_move x.block.moves x.next _ c.from t.first_low;
        need = all_set (λ y. y.need ≤ labels - 1) no_move x.block.moves x.next _ c.need t.second_low;
        bar = all_set (λ y. y.bar ≤ labels - 1) no_move x.block.moves x.next _ c.bar t.third_low;
        any = all_set (λ y. y.any ≤ labels - 1) no_move x.block.moves x.next _ c.any t.fourth_low;
        to = all_set (λ y. y.to ≤ q - 1) no_move x.block.moves x.next _ c.to t.fifth_low;
        rest = unset no_move x.block.moves x.next _ c.rest;
      })
      n _
      (record {
        from = all_same (λ y. y.from ≤ q - 1) no_move (omega arith) 64;
        need = all_same (λ y. y.need ≤ labels - 1) no_move (omega arith) 64;
        bar = all_same (λ y. y.bar ≤ labels - 1) no_move (omega arith) 64;
        any = all_same (λ y. y.any ≤ labels - 1) no_move (omega arith) 64;
        to = all_same (λ y. y.to ≤ q - 1) no_move (omega arith) 64;
        rest = λ k h. all_same (λ y. y ≡ no_move) no_move refl 64 k;
      })
