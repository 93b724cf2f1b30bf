use Rattle.std.proofs.Common.{List, ℤ, pos, ap, arith, refl, subst, ◌∙◌, inl, inr}
use Rattle.std.specs.List.{slice_index_or}
use Rattle.dg_chips.specs.Vector.{at}
use Rattle.dg_verdict.specs.RankTests.{IsRightRank}
use Rattle.dg_abi.proofs.ranking.tell_verdict.Goals as goal

pub returns-in-Below-clause-right : goal.returns-in-Below-clause-right
returns-in-Below-clause-right c =
    let (degree, size, first) =
    subst (IsRightRank c.args.graph.now (at c.args._divisor.now) c.args._k) c.in-Below.is c.requires.right in
    inr (inl (
      refl,
      record {
        loss = c.in-Below.loss;
        first = first;
        has_loss = λ v below here. c.put.ensures.holds (pos 0) v (omega (arith, c.size.ensures.size)) here
            ∙ ap (λ (xs : List ℤ). slice_index_or xs v (pos 0)) (c.to_i64s.ensures ∙ c.amounts.ensures.amounts);
      },
    ))
