-- The round trip (02, note 2): whatever the planner answers to a plan file, with any buffers, is read back from its text as it was.
--   CameBack a stem cycle text r l == reading the text in buffers of r and l bytes gives number, line, cost and kept of a, and these places
--   came_back == so it is of every answer that is told, with buffers that hold its lists
use mathlib.Core.Path.{◌≡◌}
use mathlib.Core.List.{List}
use Prim.Native.Nat.{ℕ, ◌≤◌}
use native.Mathlib.Omega.{arith}
use lib.ListN.{take}
use Rattle.std.specs.Prelude.{Ok}
use Rattle.answer.specs.Text.{text_of}
use Rattle.answer.specs.declared.Answer.{Answer}
use Rattle.promise.specs.Promise.{AnswerTo}
use Rattle.promise.proofs.Sounds.{told_sound}
use Rattle.readback.specs.Reading.{read_answer, runin_of, loop_of}
use Rattle.readback.proofs.ReadsBack.{sound_read, sound_runin, sound_loop}

pub record CameBack (a : Answer) (stem cycle text : List ℕ) (r l : ℕ) : Type 0 where
  pub record_read : read_answer text r l
      ≡ Ok (record { number = a.number; line = a.line; cost = a.cost; kept = a.kept; stem = a.stem; cycle = a.cycle })
  pub runin_read : runin_of text ≡ stem
  pub loop_read : loop_of text ≡ cycle

module _ (plan runin loop runin' loop' : List ℕ) (a : Answer) (t : AnswerTo plan runin loop runin' loop' a) where
  abbrev stem : List ℕ
  stem = take a.stem runin'

  abbrev cycle : List ℕ
  cycle = take a.cycle loop'

  pub came_back : (r l : ℕ) → a.stem ≤ r → a.cycle ≤ l → CameBack a stem cycle (text_of a stem cycle) r l
  came_back r l few low =
      let sound = told_sound plan runin loop runin' loop' a t in
      record {
        record_read = sound_read a stem cycle sound r l (omega (arith, sound.stem_length)) (omega (arith, sound.cycle_length));
        runin_read = sound_runin a stem cycle sound;
        loop_read = sound_loop a stem cycle sound;
      }
