-- A repeated move changes nothing (01, "The plan file"; 02, note 6), and neither does the order of moves: lists of the same entries pass the same
-- tests. So the steps are the same, with the trap and without it, and so is what is accepted.
--   Among xs n ys m    == each of the first n entries of xs is one of the first m of ys
--   Relisted xs n ys m == and the other way round
--   Repeated xs n ys m == ys is xs with one of its n entries once more, at any place
--   any_relisted       == some entry passes a test, in the one list as in the other
--   repeated_relisted  == a list with an entry repeated has the same entries
--   SameMoves a b      == a and b have the same states and list the same moves
--   RepeatedMove a b   == b is a with one of its moves once more
--   repeated_same      == then they list the same moves
--   Alike a b          == a and b have the same states, steps and blocked states
--   alike_trap, alike_hard, alike_soft == then their steps with the trap are the same, and they accept the same words
--   same_alike         == automata with the same moves are alike
--   repeated_step, repeated_trap, repeated_hard, repeated_soft
--                      == so a move that is listed once more changes no step, with the trap or without it, and no acceptance
use mathlib.Core.Path.{◌≡◌, refl, sym, ap, ◌∙◌}
use mathlib.Core.Bool.{Bool, true, not, ◌&&◌}
use Prim.Native.Nat.{ℕ, suc, ◌+◌, ◌-◌, ◌≤◌, ◌<◌}
use native.Mathlib.Decide.{dec_lt, ℕ_discrete}
use native.Mathlib.Omega.{arith}
use lib.Dec.{eqb}
use Rattle.base.specs.Below.{any_below}
use Rattle.automata.specs.Automaton.{move, opens, move_count, fits, leads, step, blocked, trap_step, final}
use Rattle.automata.specs.Acceptance.{Accepting, HardAccepts, SoftAccepts}
use Rattle.automata.specs.declared.Automaton.{Automaton}
use Rattle.automata.specs.declared.Move.{Move}
use Rattle.base.proofs.Tests.{bool_same, any_intro, any_elim}

module _ {A : Type 0} where
  pub record Among (xs : ℕ → A) (n : ℕ) (ys : ℕ → A) (m : ℕ) : Type 0 where
    pub found : (i : ℕ) → i < n → (j : ℕ) × (j < m) × (xs i ≡ ys j)

  pub record Relisted (xs : ℕ → A) (n : ℕ) (ys : ℕ → A) (m : ℕ) : Type 0 where
    pub there : Among xs n ys m
    pub back : Among ys m xs n

  -- entry `which` of xs stands at place `at` of ys, and what stood there and behind it one place further on
  pub record Repeated (xs : ℕ → A) (n : ℕ) (ys : ℕ → A) (m : ℕ) : Type 0 where
    pub longer : m ≡ n + 1
    pub at : ℕ
    pub inside : at ≤ n
    pub which : ℕ
    pub listed : which < n
    pub before : (i : ℕ) → i < at → ys i ≡ xs i
    pub again : ys at ≡ xs which
    pub after : (i : ℕ) → at ≤ i → i < n → ys (suc i) ≡ xs i

  pub relisted_refl : (xs : ℕ → A) (n : ℕ) → Relisted xs n xs n
  relisted_refl xs n = let same : Among xs n xs n = record { found = λ i l. (i, l, refl) } in record { there = same; back = same }

  pub relisted_sym : {xs ys : ℕ → A} {n m : ℕ} → Relisted xs n ys m → Relisted ys m xs n
  relisted_sym r = record { there = r.back; back = r.there }

  pub any_relisted : (p : A → Bool) (xs : ℕ → A) (n : ℕ) (ys : ℕ → A) (m : ℕ) → Relisted xs n ys m
      → any_below n (λ i. p (xs i)) ≡ any_below m (λ i. p (ys i))
  any_relisted p xs n ys m r = bool_same _ _ (to xs n ys m r.there) (to ys m xs n r.back)
    where
      to : (xs : ℕ → A) (n : ℕ) (ys : ℕ → A) (m : ℕ) → Among xs n ys m → any_below n (λ i. p (xs i)) ≡ true → any_below m (λ i. p (ys i)) ≡ true
      to xs n ys m among h =
          let e = any_elim (λ i. p (xs i)) n h in
          let f = among.found e.0 e.1 in
          any_intro (λ i. p (ys i)) m f.0 f.1 (ap p (sym f.2) ∙ e.2)

  pub repeated_relisted : {xs ys : ℕ → A} {n m : ℕ} → Repeated xs n ys m → Relisted xs n ys m
  repeated_relisted {xs} {ys} {n} {m} r = record { there = record { found = λ i l. there i l (dec_lt i r.at) }; back = record { found = λ i l. back i l (dec_lt i r.at) (ℕ_discrete i r.at) } }
    where
      there : (i : ℕ) → i < n → Dec (i < r.at) → (j : ℕ) × (j < m) × (xs i ≡ ys j)
      there i l (yes h) = (i, omega (arith, r.longer), sym (r.before i h))
      there i l (no h) = (suc i, omega (arith, r.longer), sym (r.after i (omega arith) l))

      back : (j : ℕ) → j < m → Dec (j < r.at) → Dec (j ≡ r.at) → (i : ℕ) × (i < n) × (ys j ≡ xs i)
      back j l (yes h) d = (j, omega (arith, r.inside), r.before j h)
      back j l (no h) (yes e) = (r.which, r.listed, ap ys e ∙ r.again)
      back j l (no h) (no e) =
          let s : suc (j - 1) ≡ j = omega arith in
          (j - 1, omega (arith, r.longer), ap ys (sym s) ∙ r.after (j - 1) (omega arith) (omega (arith, r.longer)))

pub record SameMoves (a b : Automaton) : Type 0 where
  pub states : a.states ≡ b.states
  pub first : a.first ≡ b.first
  pub accept : a.accept ≡ b.accept
  pub moves : Relisted (move a) (move_count a) (move b) (move_count b)

pub record RepeatedMove (a b : Automaton) : Type 0 where
  pub states : a.states ≡ b.states
  pub first : a.first ≡ b.first
  pub accept : a.accept ≡ b.accept
  pub moves : Repeated (move a) (move_count a) (move b) (move_count b)

pub repeated_same : {a b : Automaton} → RepeatedMove a b → SameMoves a b
repeated_same r = record { states = r.states; first = r.first; accept = r.accept; moves = repeated_relisted r.moves }

pub same_refl : (a : Automaton) → SameMoves a a
same_refl a = record { states = refl; first = refl; accept = refl; moves = relisted_refl (move a) (move_count a) }

pub same_sym : {a b : Automaton} → SameMoves a b → SameMoves b a
same_sym s = record { states = sym s.states; first = sym s.first; accept = sym s.accept; moves = relisted_sym s.moves }

pub record Alike (a b : Automaton) : Type 0 where
  pub states : a.states ≡ b.states
  pub first : a.first ≡ b.first
  pub accept : a.accept ≡ b.accept
  pub steps : (x q r : ℕ) → step a x q r ≡ step b x q r
  pub blocks : (x q : ℕ) → blocked a x q ≡ blocked b x q

module _ (a b : Automaton) (s : Alike a b) where
  pub alike_trap : (x q r : ℕ) → trap_step a x q r ≡ trap_step b x q r
  unfolding trap_step
  alike_trap x q r = rw (s.blocks x q, s.steps x q r, s.states)

  alike_final : (q : ℕ) → final a q ≡ final b q
  unfolding final
  alike_final q = rw (s.states, s.accept)

  pub alike_hard : (w : ℕ → ℕ) (r l : ℕ) → HardAccepts a w r l ≡ HardAccepts b w r l
  alike_hard w r l = λ i. Accepting (λ x q r. s.steps x q r i) (s.first i) (λ q. alike_final q i) w r l

  pub alike_soft : (w : ℕ → ℕ) (r l : ℕ) → SoftAccepts a w r l ≡ SoftAccepts b w r l
  alike_soft w r l = λ i. Accepting (λ x q r. alike_trap x q r i) (s.first i) (λ q. alike_final q i) w r l

module _ (a b : Automaton) (s : SameMoves a b) where
  same_step : (x q r : ℕ) → step a x q r ≡ step b x q r
  unfolding step leads fits
  same_step x q r = any_relisted (λ (m : Move). (eqb m.from q && opens x m) && eqb m.to r) (move a) (move_count a) (move b) (move_count b) s.moves

  same_blocked : (x q : ℕ) → blocked a x q ≡ blocked b x q
  unfolding blocked fits
  same_blocked x q = ap not (any_relisted (λ (m : Move). eqb m.from q && opens x m) (move a) (move_count a) (move b) (move_count b) s.moves)

  pub same_alike : Alike a b
  same_alike = record { states = s.states; first = s.first; accept = s.accept; steps = same_step; blocks = same_blocked }

module _ {a b : Automaton} (again : RepeatedMove a b) where
  repeated_alike : Alike a b
  repeated_alike = same_alike a b (repeated_same again)

  pub repeated_step : (x q r : ℕ) → step a x q r ≡ step b x q r
  repeated_step = repeated_alike.steps

  pub repeated_trap : (x q r : ℕ) → trap_step a x q r ≡ trap_step b x q r
  repeated_trap = alike_trap a b repeated_alike

  pub repeated_hard : (w : ℕ → ℕ) (r l : ℕ) → HardAccepts a w r l ≡ HardAccepts b w r l
  repeated_hard = alike_hard a b repeated_alike

  pub repeated_soft : (w : ℕ → ℕ) (r l : ℕ) → SoftAccepts a w r l ≡ SoftAccepts b w r l
  repeated_soft = alike_soft a b repeated_alike
