use Rattle.dg_reduce.proofs.Common.{take, arith, unburnt_member, at}
use Rattle.dg_reduce.proofs.next_firing.unburnt.Goals as goal

pub returns : goal.returns
returns c =
    let burnt = c.burn-burnt in (
      burnt.ensures.unburnt.free,
      unburnt_member c.args.graph.now c.args.q (at c.args.chips.now)
          (take burnt.result.burnt burnt.result.order) burnt.result.unburnt
          c.requires.no_debt burnt.ensures.order burnt.ensures.unburnt burnt.ensures.reduced (omega arith),
    )
