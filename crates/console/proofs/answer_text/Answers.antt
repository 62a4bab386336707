-- `answer_text` meets its contract: the lengths that the answer tells lie within the buffers (`told_fits`), so its places are
-- prefixes of these, and their text has room. The plan file is the front of the same buffer, before the text goes over it.
use Rattle.std.proofs.Common.{arith, sym, length-take-le}
use Rattle.promise.proofs.Verdicts.{told_fits}
use Rattle.console.proofs.answer_text.Goals as goal

pub slice_bounds-write_text-end : goal.slice_bounds-write_text-end
slice_bounds-write_text-end c = let f = told_fits _ _ _ _ _ _ c.file_answer-a.ensures in omega (arith, f.0, f.1)

pub slice_bounds-write_text-end-2 : goal.slice_bounds-write_text-end-2
slice_bounds-write_text-end-2 c = let f = told_fits _ _ _ _ _ _ c.file_answer-a.ensures in sym (length-take-le _ _ (omega (arith, f.0, f.1)))

pub slice_bounds-write_text-end-3 : goal.slice_bounds-write_text-end-3
slice_bounds-write_text-end-3 c = let f = told_fits _ _ _ _ _ _ c.file_answer-a.ensures in omega (arith, f.0, f.1)

pub slice_bounds-write_text-end-4 : goal.slice_bounds-write_text-end-4
slice_bounds-write_text-end-4 c = let f = told_fits _ _ _ _ _ _ c.file_answer-a.ensures in sym (length-take-le _ _ (omega (arith, f.0, f.1)))
