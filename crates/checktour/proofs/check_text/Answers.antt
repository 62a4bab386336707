-- `check_text` is safe: the places of a tour that was read are prefixes of its buffers (`tour_fits`).
use Rattle.std.proofs.Common.{arith, sym, length-take-le}
use Rattle.drawn.proofs.Drafting.{tour_fits}
use Rattle.checktour.proofs.check_text.Goals as goal

pub slice_bounds-check_tour-end : goal.slice_bounds-check_tour-end
slice_bounds-check_tour-end g c =
    let f = tour_fits _ _ _ c.in-Ok.x _ c.read_tour.ensures.value c.in-Ok.is in omega (arith, f.0, c.read_tour.auto.runin)

pub slice_bounds-check_tour-end-in-Ok : goal.slice_bounds-check_tour-end-in-Ok
slice_bounds-check_tour-end-in-Ok g c =
    let f = tour_fits _ _ _ c.in-Ok.x _ c.read_tour.ensures.value c.in-Ok.is in
    sym (length-take-le c.in-Ok.x.stem c.read_tour.new.runin (omega (arith, f.0, c.read_tour.auto.runin)))

pub slice_bounds-check_tour-end-in-Ok-2 : goal.slice_bounds-check_tour-end-in-Ok-2
slice_bounds-check_tour-end-in-Ok-2 g c =
    let f = tour_fits _ _ _ c.in-Ok.x _ c.read_tour.ensures.value c.in-Ok.is in omega (arith, f.1, c.read_tour.auto.cycle)

pub slice_bounds-check_tour-end-in-Ok-3 : goal.slice_bounds-check_tour-end-in-Ok-3
slice_bounds-check_tour-end-in-Ok-3 g c =
    let f = tour_fits _ _ _ c.in-Ok.x _ c.read_tour.ensures.value c.in-Ok.is in
    sym (length-take-le c.in-Ok.x.cycle c.read_tour.new.cycle (omega (arith, f.1, c.read_tour.auto.cycle)))
