-- Frames of texts.
--   length_in head        == the length that the first six bytes of a frame say
--   Taken f before after == the buffer when frame f was taken: f's bytes are at its front, so many as f says; where there
--                           was no frame, the buffer is as before
--   TakenFrom n old new after
--                        == of the bytes that the input is known to have, a frame of n bytes took its head, and behind it no more
--                           than the head says: they are at the front of the buffer
use Rattle.std.specs.Prelude.{◌≡◌, List, ℕ, ◌+◌, ◌-◌, ◌*◌, ◌≤◌, ◌++◌, length, take, get_or, Option, None, Some}
use Rattle.std.specs.Io.KnownBytes.{Consumes}

-- a byte below '0' counts as 0
abbrev digit : List ℕ → ℕ → ℕ
digit head i = get_or head i 0 - 48

abbrev pub length_in : List ℕ → ℕ
length_in head = (digit head 0 * 100 + digit head 1 * 10 + digit head 2) * 1000 + (digit head 3 * 100 + digit head 4 * 10 + digit head 5)

abbrev pub Taken : Option ℕ → List ℕ → List ℕ → Type 0
Taken None before after = after ≡ before
Taken (Some n) before after = n ≤ length after

pub record TakenFrom (n : ℕ) (old new : Option (List ℕ)) (after : List ℕ) : Type 0 where
  pub head : List ℕ
  pub whole : length head ≡ 7
  pub long : n ≤ length_in head
  pub bytes : Consumes old new (head ++ take n after)
