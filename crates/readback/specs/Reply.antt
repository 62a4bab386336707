-- What is returned of a reply (02, note 2): its number and line, as of every result (`plan/specs/Returned`), and what was read.
--   no_record   == all zeros
--   record_of r == what was read; on a refusal all of it is 0
use Rattle.std.specs.Prelude.{Result, Ok, Err}
use Rattle.plan.specs.declared.Refusal.{Refusal}
use Rattle.readback.specs.declared.Record.{Record}

abbrev pub no_record : Record
no_record = record { number = 0; line = 0; cost = 0; kept = 0; stem = 0; cycle = 0 }

abbrev pub record_of : Result Record Refusal → Record
record_of (Ok x) = x
record_of (Err r) = no_record
