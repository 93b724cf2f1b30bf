use Rattle.dg_reduce.proofs.Common.{◌≡◌, ◌≤◌, arith, unsigned_abs, pos, ◌-ℤ◌, ints, valence, gain, indicator, edges_out, out-le-valence, valence-few}
use Rattle.dg_graph.specs.Sets.{in_set}
use Rattle.dg_reduce.proofs.FormSteps.{rest_gains, rest_edges_few, gain_small}
use Rattle.dg_reduce.proofs.effective_divisor.gained.Goals as goal

pub difference-requires-clause-more : goal.difference-requires-clause-more
difference-requires-clause-more c =
    let S = in_set c.args.rest.now.burnt.unburnt in
    omega (
      arith,
      valence-few c.args.graph.now c.args.v c.size-size.ensures.graph,
      rest_edges_few c.args.graph.now S c.args.v c.args.edges c.requires.edges,
    )

pub difference-requires-clause-less : goal.difference-requires-clause-less
difference-requires-clause-less c =
    let S = in_set c.args.rest.now.burnt.unburnt in
    omega (
      arith,
      c.requires.rest,
      valence-few c.args.graph.now c.args.v c.size-size.ensures.graph,
      out-le-valence c.args.graph.now S c.args.v,
    )

pub returns-clause-gain : goal.returns-clause-gain
returns-clause-gain c =
    let S = in_set c.args.rest.now.burnt.unburnt in
    let gains : gain c.args.graph.now (indicator S) c.args.v
    ≡ pos c.args.edges -ℤ pos (edges_out c.args.graph.now S c.args.v) =
    rest_gains c.args.graph.now S c.args.v c.args.edges c.requires.edges in
    omega (arith, ints, c.requires.rest)

pub returns-clause-few : goal.returns-clause-few
returns-clause-few c =
    let S = in_set c.args.rest.now.burnt.unburnt in
    let few : valence c.args.graph.now c.args.v ≤ 63 =
    valence-few c.args.graph.now c.args.v c.size-size.ensures.graph in
    let small : unsigned_abs (gain c.args.graph.now (indicator S) c.args.v) ≤ valence c.args.graph.now c.args.v =
    gain_small c.args.graph.now S c.args.v c.size-size.ensures.graph in
    rw (returns-clause-gain c) (omega arith)
