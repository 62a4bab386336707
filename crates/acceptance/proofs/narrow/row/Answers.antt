-- `row` meets its contract: the part has the 256 sets of its place.
use mathlib.Core.Path.{ap}
use Prim.Native.Nat.{◌*◌}
use native.Mathlib.Omega.{arith}
use Rattle.acceptance.proofs.Courses.{row_whole}
use Rattle.acceptance.proofs.narrow.row.Goals as goal

pub returns : goal.returns
returns c = row_whole c.args.sets.now (ap (λ v. v * 256) c.from-at.ensures) (omega arith) c.requires c.told-sets
