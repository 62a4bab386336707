-- `put_figures` meets its contract: each of the four calls writes the next line of what is left.
use mathlib.Core.List.{List, ◌++◌}
use Prim.Native.Nat.{ℕ, ◌+◌, ◌≤◌}
use native.Mathlib.Omega.{arith}
use lib.ListN.{length}
use Rattle.text.specs.Decimal.{decimal}
use Rattle.text.specs.Over.{Wrote, Left}
use Rattle.text.specs.KeyLine.{key_line}
use Rattle.answer.specs.Text.{answer_key, line_key, cost_key, kept_key, figures}
use Rattle.answer.specs.declared.Answer.{Answer}
use Rattle.text.proofs.Overs.{left_start, left_room, left_next, left_last}
use Rattle.answer.proofs.put_figures.Goals as goal

abbrev number : Answer → List ℕ
number a = key_line answer_key (decimal a.number)

abbrev line : Answer → List ℕ
line a = key_line line_key (decimal a.line)

abbrev cost : Answer → List ℕ
cost a = key_line cost_key (decimal a.cost)

abbrev kept : Answer → List ℕ
kept a = key_line kept_key (decimal a.kept)

module _ (a : Answer) (b : List ℕ) (room : length (figures a) ≤ length b) where
  from_number : Left b 0 (figures a) b 0 (number a ++ (line a ++ (cost a ++ kept a)))
  unfolding figures
  from_number = left_start b 0 (figures a) (omega arith)

  first_room : 0 + length (number a) ≤ length b
  first_room = left_room (number a) _ from_number

  module _ {b₁ : List ℕ} {n₁ : ℕ} (d₁ : Wrote b 0 (number a) b₁ n₁) where
    from_line : Left b 0 (figures a) b₁ n₁ (line a ++ (cost a ++ kept a))
    from_line = left_next (number a) _ from_number d₁

    second_room : n₁ + length (line a) ≤ length b₁
    second_room = left_room (line a) _ from_line

    module _ {b₂ : List ℕ} {n₂ : ℕ} (d₂ : Wrote b₁ n₁ (line a) b₂ n₂) where
      from_cost : Left b 0 (figures a) b₂ n₂ (cost a ++ kept a)
      from_cost = left_next (line a) _ from_line d₂

      third_room : n₂ + length (cost a) ≤ length b₂
      third_room = left_room (cost a) _ from_cost

      module _ {b₃ : List ℕ} {n₃ : ℕ} (d₃ : Wrote b₂ n₂ (cost a) b₃ n₃) where
        from_kept : Left b 0 (figures a) b₃ n₃ (kept a)
        from_kept = left_next (cost a) _ from_cost d₃

        fourth_room : n₃ + length (kept a) ≤ length b₃
        fourth_room = omega (arith, from_kept.place, from_kept.size, from_kept.room)

        all : {b₄ : List ℕ} {n₄ : ℕ} → Wrote b₃ n₃ (kept a) b₄ n₄ → Wrote b 0 (figures a) b₄ n₄
        all d₄ = left_last from_kept d₄

pub put_number_line-at-requires : goal.put_number_line-at-requires
put_number_line-at-requires c = first_room c.args.a c.args.out.now c.requires

pub put_number_line-at-requires-2 : goal.put_number_line-at-requires-2
put_number_line-at-requires-2 c =
    second_room c.args.a c.args.out.now c.requires c.put_number_line-at.ensures

pub put_number_line-at-requires-3 : goal.put_number_line-at-requires-3
put_number_line-at-requires-3 c =
    third_room c.args.a c.args.out.now c.requires c.put_number_line-at.ensures c.put_number_line-at-2.ensures

pub put_number_line-requires : goal.put_number_line-requires
put_number_line-requires c =
    fourth_room c.args.a c.args.out.now c.requires c.put_number_line-at.ensures c.put_number_line-at-2.ensures
    c.put_number_line-at-3.ensures

pub returns : goal.returns
returns c =
    all c.args.a c.args.out.now c.requires c.put_number_line-at.ensures c.put_number_line-at-2.ensures
    c.put_number_line-at-3.ensures
    c.put_number_line.ensures
