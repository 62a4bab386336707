-- `put_list_line` meets its contract: a line is a text of three parts, key, numbers and end.
use mathlib.Core.List.{[], ◌∷◌}
use native.Mathlib.Omega.{arith}
use Rattle.text.specs.KeyLine.{joined, key_line}
use Rattle.text.proofs.Overs.{second_room, third_room, wrote_three}
use Rattle.text.proofs.KeyLines.{line_length}
use Rattle.text.proofs.write.put_list_line.Goals as goal

pub put_bytes-value-requires : goal.put_bytes-value-requires
put_bytes-value-requires c =
    let a = c.args in
    omega (arith, line_length a.key.now (joined a.numbers.now), c.requires)

pub put_joined-end-requires : goal.put_joined-end-requires
unfolding key_line
put_joined-end-requires c =
    let a = c.args in
    second_room a.key.now (joined a.numbers.now) (10 ∷ []) c.requires c.put_bytes-value.ensures

pub put_byte-requires : goal.put_byte-requires
unfolding key_line
put_byte-requires c =
    let a = c.args in
    omega (arith, third_room a.key.now (joined a.numbers.now) (10 ∷ []) c.requires c.put_bytes-value.ensures c.put_joined-end.ensures)

pub returns : goal.returns
unfolding key_line
returns c =
    let a = c.args in
    wrote_three a.key.now (joined a.numbers.now) (10 ∷ []) c.requires c.put_bytes-value.ensures c.put_joined-end.ensures c.put_byte.ensures
