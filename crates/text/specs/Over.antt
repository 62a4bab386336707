-- Bytes put over others.
--   over before at text             == the bytes before, with the bytes text in place of as many from at on
--   Wrote before at text after next == after is before with text put over it from at on, and next is the place behind it
--   Left before at text now next rest
--                                   == the writing of text is under way: with rest put over now from next on it is done
use Rattle.std.specs.Prelude.{◌≡◌, List, ◌++◌, ℕ, ◌+◌, ◌≤◌, length, take, drop}

unfoldable pub over : List ℕ → ℕ → List ℕ → List ℕ
over before at text = take at before ++ (text ++ drop (at + length text) before)

pub record Wrote (before : List ℕ) (at : ℕ) (text after : List ℕ) (next : ℕ) : Type 0 where
  pub place : next ≡ at + length text
  pub bytes : after ≡ over before at text

pub record Left (before : List ℕ) (at : ℕ) (text now : List ℕ) (next : ℕ) (rest : List ℕ) : Type 0 where
  pub room : at + length text ≤ length before
  pub size : length now ≡ length before
  pub place : next + length rest ≡ at + length text
  pub bytes : over now next rest ≡ over before at text
