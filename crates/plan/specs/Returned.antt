-- What a host is told of a result, which is a value or a refusal.
--   number_of r == the number of the refusal, 0 where there is none
--   line_of r   == the line that is returned with it, from 1; 0 where there is none
--   index_of r  == the index that is returned with it; 0 where there is none
use Rattle.std.specs.Prelude.{ℕ, Result, Ok, Err}
use Rattle.plan.specs.Refusal as refusal
use Rattle.plan.specs.declared.Refusal.{Refusal}

abbrev pub number_of : {T : Type 0} → Result T Refusal → ℕ
number_of (Ok x) = 0
number_of (Err r) = refusal.number r

abbrev pub line_of : {T : Type 0} → Result T Refusal → ℕ
line_of (Ok x) = 0
line_of (Err r) = refusal.line_of r

abbrev pub index_of : {T : Type 0} → Result T Refusal → ℕ
index_of (Ok x) = 0
index_of (Err r) = refusal.index_of r
