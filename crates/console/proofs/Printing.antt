-- The text of an answer in its buffer.
--   printed_le == the text is no longer than the buffer
--   printed_sound == the answer that is printed is one of those that there are
--   never_5    == with buffers of 2,048 and 20,480 bytes the answer that is printed is never refusal 5
use mathlib.Core.Path.{◌≡◌, ap, ◌∙◌}
use mathlib.Core.List.{List}
use mathlib.Core.Logic.{◌≢◌}
use Prim.Native.Nat.{ℕ, ◌≤◌}
use native.Mathlib.Omega.{arith}
use lib.ListN.{length, take, drop, length-append}
use Rattle.answer.specs.Text.{text_of}
use Rattle.answer.specs.Sound.{Sound}
use Rattle.promise.proofs.Bounds.{never_short}
use Rattle.promise.proofs.Sounds.{told_sound}
use Rattle.console.specs.Printed.{Printed}

module _ (plan runin loop runin' loop' out out' : List ℕ) (n : ℕ) (P : Printed plan runin loop runin' loop' out out' n) where
  pub printed_le : n ≤ length out'
  printed_le =
      let a = P.answer in
      omega (arith, P.long, ap length P.text ∙ length-append (text_of a (take a.stem runin') (take a.cycle loop')) (drop n out))

  pub printed_sound : Sound P.answer (take P.answer.stem runin') (take P.answer.cycle loop')
  printed_sound = told_sound plan runin loop runin' loop' P.answer P.told

  pub never_5 : length runin ≡ 2048 → length loop ≡ 20480 → P.answer.number ≢ 5
  never_5 = never_short plan runin loop runin' loop' P.answer P.told
