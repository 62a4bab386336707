-- `read_lines` meets its contract: the blocks in order make up the plan.
use mathlib.Core.Path.{sym, ◌∙◌}
use Rattle.std.proofs.lemmas.Result.{err_from_is_err_and}
use Rattle.text.specs.Line.{pair}
use Rattle.text.proofs.Lines.{told_ok, told_err, one_ok, one_err}
use Rattle.reader.proofs.Sequences.{map_fault, hard_rule_fault, rules_fault, softs_fault, end_fault, lines_made}
use Rattle.reader.proofs.read_lines.Goals as goal

pub returns-in_err-map : goal.returns-in_err-map
returns-in_err-map c =
    let p = err_from_is_err_and c.from_residual.result c.from_residual.ensures.1 in
    rw (p.1, p.2) (map_fault _ _ (told_err _ _ _ (sym c.read_map.ensures.value ∙ c.in_err-map.was)))

pub returns-in_err-hard : goal.returns-in_err-hard
returns-in_err-hard c =
    let p = err_from_is_err_and c.from_residual-in_err-hard.result c.from_residual-in_err-hard.ensures.1 in
    let m = told_ok _ _ _ _ (sym c.read_map.ensures.value ∙ c.in_ok-map.was) in
    rw (p.1, p.2) (hard_rule_fault _ _ _ m _
    (told_err _ _ _ (sym (rw c.label_count-bound.ensures.0 at (c.hard_block.ensures m.numbers)) ∙ c.in_err-hard.was)))

pub returns-in_err-rules : goal.returns-in_err-rules
returns-in_err-rules c =
    let p = err_from_is_err_and c.from_residual-in_err-rules.result c.from_residual-in_err-rules.ensures.1 in
    let m = told_ok _ _ _ _ (sym c.read_map.ensures.value ∙ c.in_ok-map.was) in
    let h = told_ok _ _ _ _ (sym (rw c.label_count-bound.ensures.0 at (c.hard_block.ensures m.numbers)) ∙ c.in_ok-hard.was) in
    rw (p.1, p.2) (rules_fault _ _ _ m _ _ h _ (one_err _ _ _ _ _ _ c.line_of_one.ensures _ c.in_err-rules.was))

pub returns-in_err-soft : goal.returns-in_err-soft
returns-in_err-soft c =
    let p = err_from_is_err_and c.from_residual-in_err-soft.result c.from_residual-in_err-soft.ensures.1 in
    let m = told_ok _ _ _ _ (sym c.read_map.ensures.value ∙ c.in_ok-map.was) in
    let h = told_ok _ _ _ _ (sym (rw c.label_count-bound.ensures.0 at (c.hard_block.ensures m.numbers)) ∙ c.in_ok-hard.was) in
    let r = one_ok _ _ _ _ _ _ c.line_of_one.ensures _ _ c.in_ok-rules.was in
    rw (p.1, p.2) (softs_fault _ _ _ m _ _ h _ _ r _
    (told_err _ _ _ (sym (rw c.label_count-bound.ensures.0 at (c.soft_blocks.ensures (pair c.in_ok-rules.rules 0))) ∙ c.in_err-soft.was)))

pub returns-in_err-finish : goal.returns-in_err-finish
returns-in_err-finish c =
    let p = err_from_is_err_and c.from_residual-in_err-finish.result c.from_residual-in_err-finish.ensures.1 in
    let m = told_ok _ _ _ _ (sym c.read_map.ensures.value ∙ c.in_ok-map.was) in
    let h = told_ok _ _ _ _ (sym (rw c.label_count-bound.ensures.0 at (c.hard_block.ensures m.numbers)) ∙ c.in_ok-hard.was) in
    let r = one_ok _ _ _ _ _ _ c.line_of_one.ensures _ _ c.in_ok-rules.was in
    let x = told_ok _ _ _ _ (sym (rw c.label_count-bound.ensures.0 at (c.soft_blocks.ensures (pair c.in_ok-rules.rules 0))) ∙ c.in_ok-soft.was) in
    rw (p.1, p.2) (end_fault _ _ _ m _ _ h _ _ r _ _ _ x _ (sym c.finish.ensures ∙ c.in_err-finish.was))

pub returns : goal.returns
returns c =
    let m = told_ok _ _ _ _ (sym c.read_map.ensures.value ∙ c.in_ok-map.was) in
    let h = told_ok _ _ _ _ (sym (rw c.label_count-bound.ensures.0 at (c.hard_block.ensures m.numbers)) ∙ c.in_ok-hard.was) in
    let r = one_ok _ _ _ _ _ _ c.line_of_one.ensures _ _ c.in_ok-rules.was in
    let x = told_ok _ _ _ _ (sym (rw c.label_count-bound.ensures.0 at (c.soft_blocks.ensures (pair c.in_ok-rules.rules 0))) ∙ c.in_ok-soft.was) in
    lines_made _ _ _ m _ _ h _ _ r _ _ _ x (sym c.finish.ensures ∙ c.in_ok-finish.was)
