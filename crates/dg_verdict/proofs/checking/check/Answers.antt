use Rattle.dg_verdict.proofs.Common.{◌≡◌, true, take, rules, arith, sym, ◌≤ℤ◌, w128, le_z, to_z, of_z, ints, pos, IsReduced, IsBurningOrder, IsEffectiveOff, FiresTo, burns_to_reduced, at, reduced_decides}
use Rattle.dg_verdict.proofs.Verdicts.{told_apart}
use Rattle.dg_verdict.proofs.checking.check.Goals as goal

pub returns : goal.returns
returns c =
    let leads : FiresTo c.args.graph.now (at c.args.verdict.now.script) (at c.args.divisor.now)
    (at c.args.verdict.now.reduced) = search rules in
    let solvent : IsEffectiveOff c.args.graph.now c.args.q (at c.args.verdict.now.reduced) = search rules in
    let burns : IsBurningOrder c.args.graph.now c.args.q (at c.args.verdict.now.reduced)
    (take c.args.graph.now.size c.args.verdict.now.order) =
    search rules in
    let reduced : IsReduced c.args.graph.now c.args.q (at c.args.verdict.now.reduced) =
    burns_to_reduced c.args.graph.now c.args.q (at c.args.verdict.now.reduced) _ c.size-size.ensures.graph.multigraph
    c.requires.vertex solvent burns in
    let (to, from) = reduced_decides c.args.graph.now c.args.q (at c.args.divisor.now) (at c.args.verdict.now.reduced)
    c.requires.vertex (at c.args.verdict.now.script, leads) reduced in
    told_apart _ _ _ _ (
      λ (told : le_z (pos 0) (to_z w128 (of_z w128 c.get-2.result)) ≡ true). from (omega (arith, ints)),
      λ winnable. let paid : pos 0 ≤ℤ at c.args.verdict.now.reduced c.args.q = to winnable in sym (omega (arith, ints)),
    )
    (λ winnable. record {
      script_size = omega arith;
      reduced_size = omega arith;
      at_q = omega (arith, ints);
      led = leads;
      reduced = reduced;
      order = burns;
      winnable = winnable;
    })
    (λ right. right.winnable)
