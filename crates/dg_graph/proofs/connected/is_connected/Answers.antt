use Rattle.dg_graph.proofs.Common.{arith, rules}
use Rattle.dg_theory.specs.Multigraph.{entry}
use Rattle.dg_graph.proofs.Reached.{reached-first, reached-start, reached-more, reached-fewer, reached-tells}
use Rattle.dg_graph.proofs.connected.is_connected.Goals as goal

pub search-init : goal.search-init
search-init c = record {
  whole = search rules;
  start = search rules;
  joined = reached-first c.args.size (entry c.args.table.now) 15;
}

pub search-smaller : goal.search-smaller
search-smaller c = reached-fewer c.search.reached c.in-Some.v (omega (arith, c.in-Some.ensures.0)) c.in-Some.ensures.1

pub search-preserved : goal.search-preserved
search-preserved c = record {
  whole = search rules;
  start = reached-start c.search.reached c.in-Some.v c.in-Some.ensures.1 c.search.invariant.start;
  joined = reached-more c.args.size (entry c.args.table.now) c.search.reached c.in-Some.v c.requires.symmetric
      c.search.invariant.joined c.in-Some.ensures.0 c.in-Some.ensures.2;
}

pub returns : goal.returns
returns c =
    reached-tells c.args.size (entry c.args.table.now) c.search.reached c.all_reached.result c.requires.some
    c.requires.symmetric c.search.invariant.start c.search.invariant.joined c.in_default.ensures c.all_reached.ensures
