-- `put_bytes` meets its contract: a part that is overwritten is bytes put over.
use mathlib.Core.Path.{refl}
use Rattle.text.proofs.Overs.{over_part}
use Rattle.text.proofs.write.put_bytes.Goals as goal

pub returns : goal.returns
returns c = let a = c.args in record { place = refl; bytes = over_part a.out.now a.at a.bytes.now _ c.copy_from_slice.ensures.after }
