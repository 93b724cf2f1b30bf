use Rattle.std.proofs.Common.{rules, FitsSigned, ◌≡◌, ℕ, ◌*◌, length-set, arith, ap, subst, ◌∙◌, w8, inl, inr}
use Rattle.std.proofs.lemmas.Int.{to_z-of_z}
use Rattle.dg_abi.specs.Rows.{AnswersTest}
use Rattle.dg_abi.proofs.Kept.{rows_more, row_before, tested_kept, tested_begun}
use Rattle.dg_abi.proofs.ranking.rank_test_rows.Goals as goal

pub loop-row-preserved : goal.loop-row-preserved
loop-row-preserved c =
    let g = c.args.graph.now in
    let n = g.size in
    let at_row = c.loop-row.row * n in
    let size : c.size.result ≡ n = c.size.ensures.size in
    let start : c.loop-row.row * c.size.result ≡ at_row = ap (λ (m : ℕ). c.loop-row.row * m) size in
    record {
      told = length-set _ _ _ ∙ c.loop-row.invariant.told;
      losses = c.rank_test_row.ensures.losses ∙ c.loop-row.invariant.losses;
      losses_left = λ k from. c.rank_test_row.ensures.elsewhere k (inr (omega (arith, start)))
          ∙ c.loop-row.invariant.losses_left k (omega arith);
      answered = rows_more (λ r t. AnswersTest g c.args.amounts.now c.args.k (r * n) t
          c.args.losses.now c.rank_test_row.new.losses)
          c.loop-row.told c.loop-row.row _ c.rank_test_row.result
          (omega (arith, c.loop-row-test.true, c.loop-row.invariant.told))
          (let fits : FitsSigned w8 c.rank_test_row.result = search rules in to_z-of_z w8 c.rank_test_row.result fits)
          (tested_begun g c.args.amounts.now c.args.k at_row _ _ c.loop-row.losses _ c.loop-row.invariant.losses_left
          (subst (λ s. AnswersTest g c.args.amounts.now c.args.k s c.rank_test_row.result
          c.loop-row.losses c.rank_test_row.new.losses) start c.rank_test_row.ensures.answered))
          (λ r below. tested_kept g c.args.amounts.now c.args.k (r * n) at_row _ _ c.loop-row.losses _
          (row_before r c.loop-row.row n below) c.rank_test_row.ensures.losses
          (λ k before. c.rank_test_row.ensures.elsewhere k (inl (omega (arith, start)))) (c.loop-row.invariant.answered r below));
    }
