-- `read_tour` meets its contract. Where there is no tour nothing is written; where there is one, its lists stand in the text and have
-- room, and each is written over the front of its buffer.
use mathlib.Core.Path.{◌≡◌, sym, ◌∙◌}
use borrow.Author.Rules.{rules}
use Rattle.std.specs.Prelude.{Ok, Err}
use Rattle.drawn.specs.declared.Lack.TheVariants.{Faulty}
use Rattle.drawn.proofs.Drafting.{drawn_missing, drawn_faulty, drawn_fitted, stem_stands, cycle_stands, runin_written, loop_written}
use Rattle.drawn.proofs.read_tour.Goals as goal

pub returns-in_default-clause-value : goal.returns-in_default-clause-value
returns-in_default-clause-value c = drawn_missing _ _ _ (sym c.line_with.ensures ∙ c.in_default.is)

pub returns-in_err-draft-clause-value : goal.returns-in_err-draft-clause-value
returns-in_err-draft-clause-value c =
    let told : c.from_residual.result ≡ Err (Faulty c.in_err-draft.field-0.0) = search rules in
    told ∙ drawn_faulty _ _ _ _ (sym c.line_with.ensures ∙ c.in-Some.is) _ (sym c.in_err-draft.was ∙ c.draft_at.ensures)

pub returns-in_err-tour-clause-value : goal.returns-in_err-tour-clause-value
returns-in_err-tour-clause-value c =
    let told : c.from_residual-in_err-tour.result ≡ Err c.in_err-tour.field-0.0 = search rules in
    told ∙ drawn_fitted _ _ _ _ (sym c.line_with.ensures ∙ c.in-Some.is) _ (sym c.in_ok-draft.was ∙ c.draft_at.ensures) _ (sym c.in_err-tour.was ∙ c.fitting.ensures)

pub put_list-requires-clause-stands : goal.put_list-requires-clause-stands
put_list-requires-clause-stands c =
    (stem_stands _ _ _ _ (sym c.line_with.ensures ∙ c.in-Some.is) _ (sym c.in_ok-draft.was ∙ c.draft_at.ensures) _ (sym c.in_ok-tour.was ∙ c.fitting.ensures)).0

pub put_list-requires-clause-count_in_bounds : goal.put_list-requires-clause-count_in_bounds
put_list-requires-clause-count_in_bounds c =
    (stem_stands _ _ _ _ (sym c.line_with.ensures ∙ c.in-Some.is) _ (sym c.in_ok-draft.was ∙ c.draft_at.ensures) _ (sym c.in_ok-tour.was ∙ c.fitting.ensures)).1

pub put_list-requires-2-clause-stands : goal.put_list-requires-2-clause-stands
put_list-requires-2-clause-stands c =
    (cycle_stands _ _ _ _ (sym c.line_with.ensures ∙ c.in-Some.is) _ (sym c.in_ok-draft.was ∙ c.draft_at.ensures) _ (sym c.in_ok-tour.was ∙ c.fitting.ensures)).0

pub put_list-requires-2-clause-count_in_bounds : goal.put_list-requires-2-clause-count_in_bounds
put_list-requires-2-clause-count_in_bounds c =
    (cycle_stands _ _ _ _ (sym c.line_with.ensures ∙ c.in-Some.is) _ (sym c.in_ok-draft.was ∙ c.draft_at.ensures) _ (sym c.in_ok-tour.was ∙ c.fitting.ensures)).1

pub returns : goal.returns
returns c =
    let begun = sym c.line_with.ensures ∙ c.in-Some.is in
    let fit = sym c.in_ok-tour.was ∙ c.fitting.ensures in
    record {
      value = drawn_fitted _ _ _ _ begun _ (sym c.in_ok-draft.was ∙ c.draft_at.ensures) _ fit;
      runin_after = runin_written _ _ _ _ begun _ (sym c.in_ok-draft.was ∙ c.draft_at.ensures) _ fit _ _ c.put_list.ensures;
      cycle_after = loop_written _ _ _ _ begun _ (sym c.in_ok-draft.was ∙ c.draft_at.ensures) _ fit _ _ c.put_list-2.ensures;
    }
