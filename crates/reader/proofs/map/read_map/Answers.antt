-- `read_map` meets its contract: its lines in order make up the map.
use mathlib.Core.Path.{sym, ◌∙◌}
use Rattle.std.proofs.lemmas.Result.{err_from_is_err_and}
use Rattle.text.specs.Line.{pair}
use Rattle.text.proofs.Lines.{told_ok, told_err, one_ok, one_err}
use Rattle.reader.proofs.Sequences.{tour_fault, marks_fault, places_fault, labels_fault, start_fault, roads_fault, road_fault, map_made}
use Rattle.reader.proofs.map.read_map.Goals as goal

pub returns-in_err-cursor-clause-value : goal.returns-in_err-cursor-clause-value
returns-in_err-cursor-clause-value c =
    let p = err_from_is_err_and c.from_residual.result c.from_residual.ensures.1 in
    rw (p.1, p.2) (tour_fault _ _ (one_err _ _ _ _ _ _ (rw c.top.ensures at c.line_of_one.ensures) _ c.in_err-cursor.was))

pub returns-in_err-marks-clause-value : goal.returns-in_err-marks-clause-value
returns-in_err-marks-clause-value c =
    let p = err_from_is_err_and c.from_residual-in_err-marks.result c.from_residual-in_err-marks.ensures.1 in
    rw (p.1, p.2) (marks_fault _ _ _ (one_ok _ _ _ _ _ _ (rw c.top.ensures at c.line_of_one.ensures) _ _ c.in_ok-cursor.was) _
    (one_err _ _ _ _ _ _ c.line_of_one-2.ensures _ c.in_err-marks.was))

pub returns-in_err-places-clause-value : goal.returns-in_err-places-clause-value
returns-in_err-places-clause-value c =
    let p = err_from_is_err_and c.from_residual-in_err-places.result c.from_residual-in_err-places.ensures.1 in
    rw (p.1, p.2) (places_fault _ _ _ (one_ok _ _ _ _ _ _ (rw c.top.ensures at c.line_of_one.ensures) _ _ c.in_ok-cursor.was) _ _
    (one_ok _ _ _ _ _ _ c.line_of_one-2.ensures _ _ c.in_ok-marks.was) _
    (one_err _ _ _ _ _ _ c.line_of_one-3.ensures _ c.in_err-places.was))

pub returns-in_err-labels-clause-value : goal.returns-in_err-labels-clause-value
returns-in_err-labels-clause-value c =
    let p = err_from_is_err_and c.from_residual-in_err-labels.result c.from_residual-in_err-labels.ensures.1 in
    rw (p.1, p.2) (labels_fault _ _ _ (one_ok _ _ _ _ _ _ (rw c.top.ensures at c.line_of_one.ensures) _ _ c.in_ok-cursor.was) _ _
    (one_ok _ _ _ _ _ _ c.line_of_one-2.ensures _ _ c.in_ok-marks.was) _ _
    (one_ok _ _ _ _ _ _ c.line_of_one-3.ensures _ _ c.in_ok-places.was) _
    (told_err _ _ _ (sym (rw c.label_count.ensures.0 at (c.label_block.ensures (pair c.in_ok-places.places 0))) ∙ c.in_err-labels.was)))

pub returns-in_err-start-clause-value : goal.returns-in_err-start-clause-value
returns-in_err-start-clause-value c =
    let p = err_from_is_err_and c.from_residual-in_err-start.result c.from_residual-in_err-start.ensures.1 in
    rw (p.1, p.2) (start_fault _ _ _ (one_ok _ _ _ _ _ _ (rw c.top.ensures at c.line_of_one.ensures) _ _ c.in_ok-cursor.was) _ _
    (one_ok _ _ _ _ _ _ c.line_of_one-2.ensures _ _ c.in_ok-marks.was) _ _
    (one_ok _ _ _ _ _ _ c.line_of_one-3.ensures _ _ c.in_ok-places.was) _ _
    (told_ok _ _ _ _ (sym (rw c.label_count.ensures.0 at (c.label_block.ensures (pair c.in_ok-places.places 0))) ∙ c.in_ok-labels.was)) _
    (one_err _ _ _ _ _ _ c.line_of_one-4.ensures _ c.in_err-start.was))

pub returns-in_err-road_count-clause-value : goal.returns-in_err-road_count-clause-value
returns-in_err-road_count-clause-value c =
    let p = err_from_is_err_and c.from_residual-in_err-road_count.result c.from_residual-in_err-road_count.ensures.1 in
    rw (p.1, p.2) (roads_fault _ _ _ (one_ok _ _ _ _ _ _ (rw c.top.ensures at c.line_of_one.ensures) _ _ c.in_ok-cursor.was) _ _
    (one_ok _ _ _ _ _ _ c.line_of_one-2.ensures _ _ c.in_ok-marks.was) _ _
    (one_ok _ _ _ _ _ _ c.line_of_one-3.ensures _ _ c.in_ok-places.was) _ _
    (told_ok _ _ _ _ (sym (rw c.label_count.ensures.0 at (c.label_block.ensures (pair c.in_ok-places.places 0))) ∙ c.in_ok-labels.was)) _ _
    (one_ok _ _ _ _ _ _ c.line_of_one-4.ensures _ _ c.in_ok-start.was) _
    (one_err _ _ _ _ _ _ c.line_of_one-5.ensures _ c.in_err-road_count.was))

pub returns-in_err-roads-clause-value : goal.returns-in_err-roads-clause-value
returns-in_err-roads-clause-value c =
    let p = err_from_is_err_and c.from_residual-in_err-roads.result c.from_residual-in_err-roads.ensures.1 in
    rw (p.1, p.2) (road_fault _ _ _ (one_ok _ _ _ _ _ _ (rw c.top.ensures at c.line_of_one.ensures) _ _ c.in_ok-cursor.was) _ _
    (one_ok _ _ _ _ _ _ c.line_of_one-2.ensures _ _ c.in_ok-marks.was) _ _
    (one_ok _ _ _ _ _ _ c.line_of_one-3.ensures _ _ c.in_ok-places.was) _ _
    (told_ok _ _ _ _ (sym (rw c.label_count.ensures.0 at (c.label_block.ensures (pair c.in_ok-places.places 0))) ∙ c.in_ok-labels.was)) _ _
    (one_ok _ _ _ _ _ _ c.line_of_one-4.ensures _ _ c.in_ok-start.was) _ _
    (one_ok _ _ _ _ _ _ c.line_of_one-5.ensures _ _ c.in_ok-road_count.was) _
    (told_err _ _ _ (sym (c.road_block.ensures _) ∙ c.in_err-roads.was)))

pub returns-clause-value : goal.returns-clause-value
returns-clause-value c =
    map_made _ _ _ (one_ok _ _ _ _ _ _ (rw c.top.ensures at c.line_of_one.ensures) _ _ c.in_ok-cursor.was) _ _
    (one_ok _ _ _ _ _ _ c.line_of_one-2.ensures _ _ c.in_ok-marks.was) _ _
    (one_ok _ _ _ _ _ _ c.line_of_one-3.ensures _ _ c.in_ok-places.was) _ _
    (told_ok _ _ _ _ (sym (rw c.label_count.ensures.0 at (c.label_block.ensures (pair c.in_ok-places.places 0))) ∙ c.in_ok-labels.was)) _ _
    (one_ok _ _ _ _ _ _ c.line_of_one-4.ensures _ _ c.in_ok-start.was) _ _
    (one_ok _ _ _ _ _ _ c.line_of_one-5.ensures _ _ c.in_ok-road_count.was) _ _
    (told_ok _ _ _ _ (sym (c.road_block.ensures _) ∙ c.in_ok-roads.was))
