-- `read_answer` meets its contract. On a refusal nothing is written; where a record was read, its lists stand in the text and have
-- room, and each is written over the front of its buffer.
use mathlib.Core.Path.{◌≡◌, sym, ◌∙◌}
use borrow.Author.Rules.{rules}
use Rattle.std.specs.Prelude.{Err}
use Rattle.plan.specs.declared.Refusal.TheVariants.{Line}
use Rattle.readback.proofs.Judging.{replied_fault, replied, stem_stands, cycle_stands, runin_written, loop_written}
use Rattle.readback.proofs.read_answer.Goals as goal

pub returns-in_err-draft-clause-value : goal.returns-in_err-draft-clause-value
returns-in_err-draft-clause-value c =
    let told : c.from_residual.result ≡ Err (Line c.in_err-draft.field-0.0) = search rules in
    told ∙ replied_fault _ _ _ _ (sym c.in_err-draft.was ∙ c.read_lines.ensures)

pub returns-in_err-says-clause-value : goal.returns-in_err-says-clause-value
returns-in_err-says-clause-value c =
    let told : c.from_residual-in_err-says.result ≡ Err c.in_err-says.field-0.0 = search rules in
    told ∙ replied _ _ _ _ (sym c.in_ok-draft.was ∙ c.read_lines.ensures) _ (sym c.in_err-says.was ∙ c.judge.ensures)

pub put_list-requires : goal.put_list-requires
put_list-requires c =
    let h = stem_stands _ _ _ _ (sym c.in_ok-draft.was ∙ c.read_lines.ensures) _ (sym c.in_ok-says.was ∙ c.judge.ensures) in
    record { stands = h.0; count_in_bounds = h.1 }

pub put_list-requires-2 : goal.put_list-requires-2
put_list-requires-2 c =
    let h = cycle_stands _ _ _ _ (sym c.in_ok-draft.was ∙ c.read_lines.ensures) _ (sym c.in_ok-says.was ∙ c.judge.ensures) in
    record { stands = h.0; count_in_bounds = h.1 }

pub returns : goal.returns
returns c =
    let same = sym c.in_ok-draft.was ∙ c.read_lines.ensures in
    let fit = sym c.in_ok-says.was ∙ c.judge.ensures in
    record {
      value = replied _ _ _ _ same _ fit;
      runin_after = runin_written _ _ _ _ same _ fit _ _ c.put_list.ensures;
      cycle_after = loop_written _ _ _ _ same _ fit _ _ c.put_list-2.ensures;
    }
