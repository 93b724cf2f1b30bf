use Rattle.std.proofs.Common.{rules, FitsSigned, ◌≡◌, ℕ, ◌*◌, length-set, arith, ap, subst, ◌∙◌, w8, inl, inr}
use Rattle.std.proofs.lemmas.Int.{to_z-of_z}
use Rattle.dg_abi.specs.Rows.{AnswersRank}
use Rattle.dg_abi.proofs.Kept.{rows_more, ranked_kept, ranked_begun}
use Rattle.dg_abi.proofs.ranking.rank_rows.Goals as goal

pub loop-row-preserved : goal.loop-row-preserved
loop-row-preserved c =
    let g = c.args.graph.now in
    let n = g.size in
    let size : c.size.result ≡ n = c.size.ensures.size in
    let start : c.loop-row.row * c.size.result ≡ c.loop-row.row * n = ap (λ (m : ℕ). c.loop-row.row * m) size in
    record {
      told = length-set _ _ _ ∙ c.loop-row.invariant.told;
      ranks = c.rank_row.ensures.ranks ∙ c.loop-row.invariant.ranks;
      duals = c.rank_row.ensures.duals ∙ c.loop-row.invariant.duals;
      ranks_left = λ k from. c.rank_row.ensures.ranks_elsewhere k (inr (omega arith))
          ∙ c.loop-row.invariant.ranks_left k (omega arith);
      duals_left = λ k from. c.rank_row.ensures.duals_elsewhere k (inr (omega arith))
          ∙ c.loop-row.invariant.duals_left k (omega arith);
      answered = rows_more (λ r t. AnswersRank g c.args.amounts.now (r * n) r t
          c.args.ranks.now c.rank_row.new.ranks c.args.duals.now c.rank_row.new.duals)
          c.loop-row.told c.loop-row.row _ c.rank_row.result (omega (arith, c.loop-row-test.true, c.loop-row.invariant.told))
          (let fits : FitsSigned w8 c.rank_row.result = search rules in to_z-of_z w8 c.rank_row.result fits)
          (ranked_begun g c.args.amounts.now (c.loop-row.row * n) c.loop-row.row _ _ c.loop-row.ranks _ _ c.loop-row.duals _
          c.loop-row.invariant.ranks_left c.loop-row.invariant.duals_left
          (subst (λ s. AnswersRank g c.args.amounts.now s c.loop-row.row c.rank_row.result
          c.loop-row.ranks c.rank_row.new.ranks c.loop-row.duals c.rank_row.new.duals) start c.rank_row.ensures.answered))
          (λ r below. ranked_kept g c.args.amounts.now (r * n) r c.loop-row.row _ _ c.loop-row.ranks _ _ c.loop-row.duals _ below
          c.rank_row.ensures.duals (λ k before. c.rank_row.ensures.ranks_elsewhere k (inl before))
          (λ k before. c.rank_row.ensures.duals_elsewhere k (inl before)) (c.loop-row.invariant.answered r below));
    }
