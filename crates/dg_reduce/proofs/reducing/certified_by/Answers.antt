use Rattle.dg_reduce.proofs.Common.{arith, at}
use Rattle.dg_reduce.proofs.Outcome.{reduction_within}
use Rattle.dg_reduce.proofs.reducing.certified_by.Goals as goal

pub returns : goal.returns
returns c = record {
  reduction = reduction_within c.args.graph.now c.args.q
      (at c.args.chips.now) 2000000 451000000 _ c.size-size.ensures.graph
      c.requires.vertex c.requires.range (c.fired_by-divisor.ensures.size, c.requires.script) c.in-Some.ensures.0
      c.fired_by-divisor.ensures.amounts c.requires.start (omega arith);
  order = c.in-Some.ensures.1;
}
