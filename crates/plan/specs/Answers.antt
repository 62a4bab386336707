-- Which answers program plantour gives, and what stands beside each (01, "Why a plan is turned away" and "For the host and for the rig"; 02,
-- notes 2 and 6).
--   kind_of n == what an answer of number n is: a tour (0), a refusal that carries the line of the plan that it is about (2, 3 and 10), one
--               that carries none (1, 4, 5 and 6), or none of plantour's
--   blank cost kept stem cycle == no cost, no rule kept, and no places: so beside every refusal
--   consistent k line cost kept stem cycle
--            == an answer of kind k may stand beside these: a tour beside line 0 and a loop that is not empty; a refusal beside blanks, and
--               beside a line if it carries one, else beside line 0. stem and cycle are the lengths of run-in and loop
use Rattle.std.specs.Prelude.{Bool, false, cond, ◌&&◌, ℕ, eqb, ltb}
use Rattle.plan.specs.declared.kind.Kind.{Kind}
use Rattle.plan.specs.declared.kind.Kind.TheVariants.{Tour, Plain, Lined, Never}

unfoldable pub kind_of : ℕ → Kind
kind_of n = cond (eqb n 0) Tour (cond (eqb n 2) Lined (cond (eqb n 3) Lined (cond (eqb n 10) Lined (cond (ltb n 7) Plain Never))))

abbrev pub blank : ℕ → ℕ → ℕ → ℕ → Bool
blank cost kept stem cycle = eqb cost 0 && eqb kept 0 && eqb stem 0 && eqb cycle 0

abbrev pub consistent : Kind → ℕ → ℕ → ℕ → ℕ → ℕ → Bool
consistent Tour line cost kept stem cycle = eqb line 0 && ltb 0 cycle
consistent Plain line cost kept stem cycle = eqb line 0 && blank cost kept stem cycle
consistent Lined line cost kept stem cycle = ltb 0 line && blank cost kept stem cycle
consistent Never line cost kept stem cycle = false
