use Rattle.std.proofs.Common.{rules, FitsSigned, ◌≡◌, ℕ, ◌*◌, length-set, arith, ap, pos, subst, ◌∙◌, w8, inl, inr}
use Rattle.std.proofs.lemmas.Int.{to_z-of_z}
use Rattle.dg_abi.specs.Rows.{AnswersJudge}
use Rattle.dg_abi.proofs.Kept.{rows_more, row_before, judged_kept, judged_begun, SameBelow}
use Rattle.dg_abi.proofs.judging.judge_rows.Goals as goal

pub loop-row-preserved : goal.loop-row-preserved
loop-row-preserved c =
    let g = c.args.graph.now in
    let n = g.size in
    let at_row = c.loop-row.row * n in
    let size : c.size.result ≡ n = c.size.ensures.size in
    let start : c.loop-row.row * c.size.result ≡ at_row = ap (λ (m : ℕ). c.loop-row.row * m) size in
    let scripts : SameBelow (pos 0) at_row c.loop-row.scripts c.judge_row.new.scripts =
    λ k before. c.judge_row.ensures.scripts_elsewhere k (inl (omega (arith, start))) in
    let reduced : SameBelow (pos 0) at_row c.loop-row.reduced c.judge_row.new.reduced =
    λ k before. c.judge_row.ensures.reduced_elsewhere k (inl (omega (arith, start))) in
    let orders : SameBelow 0 at_row c.loop-row.orders c.judge_row.new.orders =
    λ k before. c.judge_row.ensures.orders_elsewhere k (inl (omega (arith, start))) in
    record {
      told = length-set _ _ _ ∙ c.loop-row.invariant.told;
      scripts = c.judge_row.ensures.scripts ∙ c.loop-row.invariant.scripts;
      reduced = c.judge_row.ensures.reduced ∙ c.loop-row.invariant.reduced;
      orders = c.judge_row.ensures.orders ∙ c.loop-row.invariant.orders;
      scripts_left = λ k from. c.judge_row.ensures.scripts_elsewhere k (inr (omega (arith, start)))
          ∙ c.loop-row.invariant.scripts_left k (omega arith);
      reduced_left = λ k from. c.judge_row.ensures.reduced_elsewhere k (inr (omega (arith, start)))
          ∙ c.loop-row.invariant.reduced_left k (omega arith);
      orders_left = λ k from. c.judge_row.ensures.orders_elsewhere k (inr (omega (arith, start)))
          ∙ c.loop-row.invariant.orders_left k (omega arith);
      answered = rows_more (λ r t. AnswersJudge g c.args.q c.args.amounts.now (r * n) t
          c.args.scripts.now c.judge_row.new.scripts c.args.reduced.now c.judge_row.new.reduced
          c.args.orders.now c.judge_row.new.orders)
          c.loop-row.told c.loop-row.row _ c.judge_row.result (omega (arith, c.loop-row-test.true, c.loop-row.invariant.told))
          (let fits : FitsSigned w8 c.judge_row.result = search rules in to_z-of_z w8 c.judge_row.result fits)
          (judged_begun g c.args.q c.args.amounts.now at_row _ _ c.loop-row.scripts _ _ c.loop-row.reduced _ _ c.loop-row.orders _
          c.loop-row.invariant.scripts_left c.loop-row.invariant.reduced_left c.loop-row.invariant.orders_left
          (subst (λ s. AnswersJudge g c.args.q c.args.amounts.now s c.judge_row.result
          c.loop-row.scripts c.judge_row.new.scripts c.loop-row.reduced c.judge_row.new.reduced
          c.loop-row.orders c.judge_row.new.orders) start c.judge_row.ensures.answered))
          (λ r below. judged_kept g c.args.q c.args.amounts.now (r * n) at_row _ _ c.loop-row.scripts _ _ c.loop-row.reduced _ _
          c.loop-row.orders _ (row_before r c.loop-row.row n below)
          c.judge_row.ensures.scripts c.judge_row.ensures.reduced c.judge_row.ensures.orders
          scripts reduced orders (c.loop-row.invariant.answered r below));
    }
