-- `key_at` meets its contract: the text from `at` on begins with the key, or does not.
use Rattle.text.proofs.Scans.{tail, key_found, key_missing}
use Rattle.text.proofs.read.key_at.Goals as goal

pub returns-then-starts_with : goal.returns-then-starts_with
returns-then-starts_with c =
    let a = c.args in
    key_found a.s.now a.at a.key.now _ _ c.starts_with.ensures.value (tail a.s.now a.at _ c.min.ensures) c.if-starts_with.true

pub returns-else-starts_with : goal.returns-else-starts_with
returns-else-starts_with c =
    let a = c.args in
    key_missing a.s.now a.at a.key.now _ _ c.starts_with.ensures.value (tail a.s.now a.at _ c.min.ensures) c.if-starts_with.false
