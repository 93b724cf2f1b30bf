use Rattle.dg_reduce.proofs.Common.{◌≡◌, arith, ints, none_reduced}
use Rattle.dg_reduce.proofs.guessing.fire_unburnt_roughly.Goals as goal

pub returns-then-counted-eq0 : goal.returns-then-counted-eq0
returns-then-counted-eq0 c =
    let none : c.burn_counted-counted.result.burnt.unburnt ≡ 0 = c.if-counted-eq0.true in
    let all : c.burn_counted-counted.result.burnt.burnt ≡ c.args.graph.now.size =
    c.burn_counted-counted.ensures.whole.0 none in
    record {
      reduced = none_reduced _ _ _ _ _ (λ v _ _. omega (arith, ints)) c.burn_counted-counted.ensures.order
          c.burn_counted-counted.ensures.left none;
      order = record {
        burns = rw all at c.burn_counted-counted.ensures.order;
        rest = λ i past few. c.burn_counted-counted.ensures.rest i (omega arith) few;
      };
    }
