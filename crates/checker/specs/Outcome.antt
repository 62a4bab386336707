-- What the code says of the first break.
--   held i     == an index as 64 bits hold it: one that they cannot hold is given as the greatest that they hold
--   break_of f == the first break, if there is one, as 64 bits hold it
use Rattle.std.specs.Prelude.{ℕ, min, Option, None, Some}
use Rattle.base.specs.Least.{Found, nowhere, at}

abbrev pub held : ℕ → ℕ
held i = min i 18446744073709551615

abbrev pub break_of : Found → Option ℕ
break_of nowhere = None
break_of (at i) = Some (held i)
