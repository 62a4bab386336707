-- `road_block` meets its contract: the loop keeps which roads are read, where the last line ends, and that the pairs noted are theirs.
use mathlib.Core.Path.{◌≡◌, sym, ap, ◌∙◌}
use mathlib.Core.List.{List, ◌++◌}
use native.Mathlib.Omega.{arith}
use borrow.Author.Rules.{rules}
use Rattle.std.specs.Prelude.{Ok}
use lib.ListN.{take, drop, replicate, length-append, take-append-drop}
use Rattle.std.proofs.lemmas.List.{set-append_left}
use Rattle.std.proofs.lemmas.Result.{err_from_is_err_and}
use Rattle.plan.specs.declared.Road.{Road}
use Rattle.plan.specs.WellFormed.{no_road}
use Rattle.text.specs.Line.{top, good, numbers_of}
use Rattle.reader.specs.Pairs.{noted_of}
use Rattle.reader.specs.Line.{road_line}
use Rattle.reader.specs.Blocks.{road_of}
use Rattle.reader.proofs.Steps.{roads_begun, road_read, road_fault, roads_done}
use Rattle.reader.proofs.Noting.{noted_start, noted_after, road_by}
use Rattle.reader.proofs.block.road_block.Goals as goal

pub loop-road-init : goal.loop-road-init
loop-road-init c =
    let a = c.args in
    let zeros : List Road = replicate 1024 no_road in
    let whole : take a.n zeros ++ drop a.n zeros ≡ zeros = take-append-drop a.n zeros in
    record {
      size = search rules;
      last = search rules;
      pairs_room = search rules;
      noted = rw whole (noted_start top zeros);
      read = λ xs. rw whole (roads_begun a.s.now a.n a.bound xs a.from);
    }

pub returns-in_err-xs : goal.returns-in_err-xs
unfolding road_line
returns-in_err-xs c xs =
    let l = c.loop-road in
    let p = err_from_is_err_and c.from_residual.result c.from_residual.ensures.1 in
    rw (p.1, p.2)
    (road_fault _ _ _ _ _ _ _ _ (l.invariant.read xs) (omega (arith, c.loop-road-test.true, l.invariant.last)) _
    (sym (c.road_line.ensures.same ∙ road_by _ _ (Ok (xs, l.cursor)) _ _ _ c.requires.1 (λ g. l.invariant.noted)) ∙ c.in_err-xs.was))

pub loop-road-preserved : goal.loop-road-preserved
unfolding road_line
loop-road-preserved c =
    let l = c.loop-road in
    let zeros : List Road = replicate 1024 no_road in
    let behind = drop c.args.n zeros in
    let o = set-append_left l.road-items behind l.road-index (road_of c.in_ok-xs.xs) (omega (arith, c.loop-road-test.true, l.invariant.size, l.invariant.last)) in
    record {
      size = search (rules, l.invariant.size);
      last = l.invariant.last;
      pairs_room = search rules;
      noted =
          rw (← o)
          (noted_after _ _ _ (noted_of l.pairs) (Ok (c.in_ok-xs.xs, l.cursor)) _ (l.road-items ++ behind) _ _ _ _ c.requires.1 (λ g. l.invariant.noted) l.invariant.pairs_room
          (omega (arith, length-append l.road-items behind, c.loop-road-test.true, l.invariant.size, l.invariant.last)) c.road_line.ensures
          (sym (ap numbers_of c.in_ok-xs.was)) (ap good c.in_ok-xs.was));
      read = λ xs.
          rw (← o)
          (road_read _ _ _ _ _ _ (l.road-items ++ behind) _ (l.invariant.read xs) (omega (arith, c.loop-road-test.true, l.invariant.last)) _ _
          (sym (c.road_line.ensures.same ∙ road_by _ _ (Ok (xs, l.cursor)) _ _ _ c.requires.1 (λ g. l.invariant.noted)) ∙ c.in_ok-xs.was));
    }

pub returns : goal.returns
returns c xs =
    let l = c.loop-road in
    roads_done _ _ _ _ _ _ _ _ (l.invariant.read xs) (omega (arith, c.loop-road-test.false, l.invariant.last))
