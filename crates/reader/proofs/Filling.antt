-- The loops that read a block, at once for every kind of line: what is left to read, from i lines on, is the whole.
--   repeat_keeps                    == what a step keeps, repeating it keeps
--   rest                            == a block of which i lines are read and the others are still to be read
--   rest_start, rest_step, rest_end == so it is at first, from line to line, and at the end
--   Read                            == so it is in a loop, which knows where the last line ends
--   read_start, read_step, read_end, read_kept
--                                   == at first, from line to line, at the end; and what is kept to the end, as a fault is
use mathlib.Core.Path.{◌≡◌, sym, ap, subst, ◌∙◌}
use Prim.Native.Nat.{ℕ, zero, suc, ◌+◌, ◌-◌, ◌≤◌, ◌<◌}
use native.Mathlib.Omega.{arith}
use Rattle.std.specs.Prelude.{Ok}
use Rattle.text.specs.Line.{Line}
use Rattle.text.specs.declared.line.Numbers.{Numbers}
use Rattle.text.specs.declared.line.Cursor.{Cursor}
use Rattle.reader.specs.Blocks.{repeat, Filling}

-- what f keeps, repeating f keeps
pub repeat_keeps : {S : Type 0} (P : S → Type 0) (f : S → S) → ((x : S) → P x → P (f x)) → (n : ℕ) (x : S) → P x → P (repeat n f x)
unfolding repeat
repeat_keeps P f h zero x p = p
repeat_keeps P f h (suc n) x p = repeat_keeps P f h n (f x) (h x p)

module _ {S : Type 0} (n i : ℕ) (f : S → S) (x : S) where
  repeat_more : i < n → repeat (n - i) f x ≡ repeat (n - (i + 1)) f (f x)
  unfolding repeat
  repeat_more h = let e : n - i ≡ suc (n - (i + 1)) = omega arith in rw e

  repeat_done : n ≤ i → repeat (n - i) f x ≡ x
  unfolding repeat
  repeat_done h = let e : n - i ≡ 0 = omega arith in rw e

module _ {B : Type 0} (n : ℕ) (f : Filling B → Filling B) where
  -- the block of n lines, of which i are in b and the others are still to be read
  abbrev pub rest : ℕ → B → B
  rest i b = (repeat (n - i) f (record { next = i; block = b })).block

  pub rest_start : (b : B) → (repeat n f (record { next = 0; block = b })).block ≡ rest 0 b
  rest_start b =
      let e : n ≡ n - 0 = omega arith in
      ap (λ (k : ℕ). (repeat k f (record { next = 0; block = b })).block) e

  module _ (whole : B) (i : ℕ) (b : B) (h : whole ≡ rest i b) where
    pub rest_step : i < n → (b' : B) → f (record { next = i; block = b }) ≡ record { next = i + 1; block = b' } → whole ≡ rest (i + 1) b'
    rest_step o b' p =
        h ∙ ap (λ (y : Filling B). y.block) (repeat_more n i f _ o ∙ ap (λ (y : Filling B). repeat (n - (i + 1)) f y) p)

    pub rest_end : n ≤ i → b ≡ whole
    rest_end o = sym (h ∙ ap (λ (y : Filling B). y.block) (repeat_done n i f _ o))

-- i lines have been read, the last of which ends at the cursor c; b makes a block of it, and `whole` is the block of all n lines
pub record Read {B : Type 0} (n : ℕ) (f : Filling B → Filling B) (whole : B) (b : Line → B) (c : Cursor) (i : ℕ) : Type 0 where
  pub numbers : Numbers
  pub same : whole ≡ rest n f i (b (Ok (numbers, c)))

module _ {B : Type 0} (n : ℕ) (f : Filling B → Filling B) (whole : B) where
  pub read_start : (b : Line → B) (xs : Numbers) (c : Cursor) → whole ≡ rest n f 0 (b (Ok (xs, c))) → Read n f whole b c 0
  read_start b xs c h = record { numbers = xs; same = h }

  module _ (b : Line → B) (c : Cursor) (i : ℕ) (r : Read n f whole b c i) where
    -- what the next line makes of it
    abbrev Makes : B → Type 0
    Makes y = f (record { next = i; block = b (Ok (r.numbers, c)) }) ≡ record { next = i + 1; block = y }

    pub read_step : i < n → (a : Line → B) (ys : Numbers) (d : Cursor) → Makes (a (Ok (ys, d))) → Read n f whole a d (i + 1)
    read_step o a ys d p = record { numbers = ys; same = rest_step n f whole i (b (Ok (r.numbers, c))) r.same o (a (Ok (ys, d))) p }

    pub read_end : n ≤ i → whole ≡ b (Ok (r.numbers, c))
    read_end o = sym (rest_end n f whole i (b (Ok (r.numbers, c))) r.same o)

    -- what the others keep is so of the whole
    pub read_kept : i < n → (y : B) → Makes y → (P : B → Type 0) → ((x : Filling B) → P x.block → P (f x).block) → P y → P whole
    read_kept o y p P h q =
        subst P (sym (rest_step n f whole i (b (Ok (r.numbers, c))) r.same o y p))
        (repeat_keeps (λ (x : Filling B). P x.block) f h (n - (i + 1)) (record { next = i + 1; block = y }) q)
