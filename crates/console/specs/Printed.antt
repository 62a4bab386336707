-- The text that answers a plan file (01, "For the host and for the rig": program plantour).
--   Printed plan runin loop runin' loop' out out' n
--     == an answer to the plan file is told, as `plan_tour` tells it, and run-in and loop are written; over the first n bytes
--        of `out` stand its six lines, with the places that were written
use Rattle.std.specs.Prelude.{◌≡◌, List, ◌++◌, ℕ, length, take, drop}
use Rattle.answer.specs.Text.{text_of}
use Rattle.answer.specs.declared.Answer.{Answer}
use Rattle.promise.specs.Promise.{AnswerTo}

pub record Printed (plan runin loop runin' loop' out out' : List ℕ) (n : ℕ) : Type 0 where
  pub answer : Answer
  pub told : AnswerTo plan runin loop runin' loop' answer
  pub text : out' ≡ text_of answer (take answer.stem runin') (take answer.cycle loop') ++ drop n out
  pub long : n ≡ length (text_of answer (take answer.stem runin') (take answer.cycle loop'))
